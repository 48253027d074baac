-- A text has one first bad line at most, and a reader that refuses names it.
use Rattle.std.proofs.Common.{◌≡◌, ℕ, ◌-◌, ◌<◌, ◌≤◌, List, take, refl, sym, ap, ◌∙◌, Result, Ok, Err, arith, inl, inr}
use Rattle.std.specs.Prelude.{IfOk}
use Rattle.std.proofs.lemmas.List.{take-take}
use Rattle.std.proofs.lemmas.Bool.{cases_order}
use Rattle.slot_text.specs.Ended.{ended_lines}
use Rattle.slot_text.specs.Forms.{BeginsInForm, IsFirstBadLine}
use Rattle.cert_format.specs.declared.cert.StageCert.{StageCert}
use Rattle.cert_format.specs.declared.cert.Certificate.{Certificate}
use Rattle.cert_format.specs.declared.fault.CertFault.{CertFault}
use Rattle.cert_format.specs.declared.fault.CertFault.TheVariants.{BadLine, Memory}
use Rattle.cert_format.specs.Forms.{Gives}
use Rattle.cert_format.specs.Spelling.{spelling, IsCert, extra_spelling, IsExtra}
use Rattle.cert_format.specs.Forms.{IsCertText, IsExtraText, IfBadLine}

begins_with_fewer : (IsInForm : List ℕ → Type 0) (text : List ℕ) (k n : ℕ) → k ≤ n → BeginsInForm IsInForm text n → BeginsInForm IsInForm text k
begins_with_fewer IsInForm text k n le begins =
    let same : take k (ended_lines text) ≡ take k (ended_lines begins.whole) = sym (take-take k n (ended_lines text) le) ∙ ap (take k) begins.same ∙ take-take k n (ended_lines begins.whole) le in
    record { whole = begins.whole; in_form = begins.in_form; same = same }

not_before : (IsInForm : List ℕ → Type 0) (text : List ℕ) (a b : ℕ) → IsFirstBadLine IsInForm text a → IsFirstBadLine IsInForm text b → a < b → ⊥
not_before IsInForm text a b x y lt = x.bad (begins_with_fewer IsInForm text a (b - 1) (omega arith) y.before)

one_bad_line : (IsInForm : List ℕ → Type 0) (text : List ℕ) (a b : ℕ) → IsFirstBadLine IsInForm text a → IsFirstBadLine IsInForm text b → a ≡ b
one_bad_line IsInForm text a b x y =
    elim (cases_order a b) [
      | inl same ↦ same
      | inr (inl before) ↦ absurd (not_before IsInForm text a b x y before)
      | inr (inr after_it) ↦ absurd (not_before IsInForm text b a y x after_it)
    ]

-- what was read is in the form, and what was refused names its first bad line
names_it : {X : Type 0} (IsInForm : List ℕ → Type 0) (text : List ℕ) (line : ℕ) (r : Result X CertFault) → IfOk r (λ x. IsInForm text) → IfBadLine r (IsFirstBadLine IsInForm text) → IsFirstBadLine IsInForm text line → Gives (λ x. x) r (Err line)
names_it IsInForm text line (Ok x) read first is = absurd (is.bad (record { whole = text; in_form = read; same = refl }))
names_it IsInForm text line (Err Memory) read first is = tt
names_it {X} IsInForm text line (Err (BadLine n)) read first is = ap (λ (k : ℕ). Err k) (one_bad_line IsInForm text line n is first)

read_is_text : (bytes : List ℕ) (r : Result Certificate CertFault) → IfOk r (λ c. IsCert c × (bytes ≡ spelling c)) → IfOk r (λ c. IsCertText bytes)
read_is_text bytes (Ok c) found = (c, found.0, found.1)
read_is_text bytes (Err e) found = tt

pub bad_is_named : (bytes : List ℕ) (line : ℕ) (r : Result Certificate CertFault) → IfOk r (λ c. IsCert c × (bytes ≡ spelling c)) → IfBadLine r (IsFirstBadLine IsCertText bytes) → IsFirstBadLine IsCertText bytes line → Gives (λ x. x) r (Err line)
bad_is_named bytes line r found first is = names_it IsCertText bytes line r (read_is_text bytes r found) first is

read_is_extra : (bytes : List ℕ) (r : Result StageCert CertFault) → IfOk r (λ s. IsExtra s × (bytes ≡ extra_spelling s)) → IfOk r (λ s. IsExtraText bytes)
read_is_extra bytes (Ok s) found = (s, found.0, found.1)
read_is_extra bytes (Err e) found = tt

pub bad_extra_is_named : (bytes : List ℕ) (line : ℕ) (r : Result StageCert CertFault) → IfOk r (λ s. IsExtra s × (bytes ≡ extra_spelling s)) → IfBadLine r (IsFirstBadLine IsExtraText bytes) → IsFirstBadLine IsExtraText bytes line → Gives (λ x. x) r (Err line)
bad_extra_is_named bytes line r found first is = names_it IsExtraText bytes line r (read_is_extra bytes r found) first is
