-- Text has a character wherever it has a byte.
use Rattle.std.proofs.Common.{◌≡◌, ℕ, List, [], ◌∷◌, Some, refl, sym, ap, ◌∙◌, arith}
use Rattle.std.specs.Prelude.{slice_get, encode_utf8_all}
use Rattle.std.specs.Char.{encode_utf8}
use Rattle.std.specs.Str.{chars, IsUtf8}
use Rattle.std.proofs.lemmas.Str.{chars-encodes}
use Rattle.command_words.specs.Words.{Word}
use Rattle.command_words.proofs.Leaf.{Readable}

first_char : (c : ℕ) (v ds : List ℕ) → chars (c ∷ v) ≡ ds → encode_utf8_all (45 ∷ ds) ≡ 45 ∷ c ∷ v → (x : ℕ) × (slice_get (chars (c ∷ v)) 0 ≡ Some x)
unfolding encode_utf8
first_char c v [] e whole = absurd cc
first_char c v (x ∷ ds) e whole = (x, rw e refl)

hyphen_first : (c : ℕ) (v : List ℕ) → chars (45 ∷ c ∷ v) ≡ 45 ∷ chars (c ∷ v)
unfolding chars
hyphen_first c v = refl

pub readable : (w : Word) → IsUtf8 w → Readable w
readable [] u = tt
readable (b ∷ []) u = λ is some. absurd (omega arith)
readable (b ∷ c ∷ v) u = λ is some.
    let spelled : chars (b ∷ c ∷ v) ≡ u.0 = ap chars (sym u.1.1) ∙ chars-encodes u.0 u.1.0 in
    let hyphen : b ∷ c ∷ v ≡ 45 ∷ c ∷ v = ap (λ (x : ℕ). x ∷ c ∷ v) is in
    let are : u.0 ≡ 45 ∷ chars (c ∷ v) = sym spelled ∙ ap chars hyphen ∙ hyphen_first c v in
    first_char c v (chars (c ∷ v)) refl (ap encode_utf8_all (sym are) ∙ u.1.1 ∙ hyphen)
