-- Loops over lines, at the end of the text.
use Rattle.std.proofs.Common.{◌≡◌, ℕ, List, [], ◌++◌, refl, sym, ◌∙◌, ap}
use Rattle.std.proofs.lemmas.List.{append-nil}
use Rattle.slot_text.specs.Lines.{lines_of}

pub none_left : (bytes : List ℕ) → bytes ≡ [] → lines_of bytes ≡ []
unfolding lines_of
none_left bytes none = rw none refl

-- what is to be shown of the lines that are left is nothing
pub all_shown : (show : List (List ℕ) → List ℕ) (out bytes whole : List ℕ) → show [] ≡ [] → bytes ≡ [] → out ++ show (lines_of bytes) ≡ whole → out ≡ whole
all_shown show out bytes whole nothing none all =
    let left : show (lines_of bytes) ≡ [] = ap show (none_left bytes none) ∙ nothing in
    sym (append-nil out) ∙ (rw left at all)
