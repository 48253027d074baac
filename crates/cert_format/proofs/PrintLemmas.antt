-- What was read can be printed again.
use Rattle.std.proofs.Common.{◌≡◌, ℕ, suc, ◌≤◌, Bool, true, false, eqb, List, [], ◌∷◌, length, Result, Ok, Err, ap, ◌∙◌, arith, inl, inr}
use Rattle.std.specs.Prelude.{IfOk}
use Rattle.std.specs.List.{AllByRecursion}
use Rattle.std.proofs.lemmas.Bool.{cases_Bool}
use Rattle.cert_format.specs.declared.cert.StageCert.{StageCert}
use Rattle.cert_format.specs.declared.cert.Certificate.{Certificate}
use Rattle.cert_format.specs.declared.cert.TheConstants.{LONGEST_CERT, MOST_LINES}
use Rattle.cert_format.specs.declared.fault.CertFault.{CertFault}
use Rattle.cert_format.specs.Lines.{Word}
use Rattle.cert_format.specs.Private.Cuts.{onto_lines, cert_lines_of}
use Rattle.cert_format.specs.Spelling.{is_tried, cert_lines, spelling, extra_lines, extra_spelling, ProofFits, StageFitsAs, StageFits, IsCert, IsExtra}
use Rattle.cert_format.specs.Printable.{IsPrintableProof, IsPrintableAs, IsPrintableStage, IsPrintable, IsPrintableExtra}
use Rattle.cert_format.proofs.TextLemmas.{lines_again, cert_is_lines}
use Rattle.cert_format.proofs.ExtraLemmas.{extra_is_lines}

all_weaker : {A : Type 0} (P Q : A → Type 0) → ((x : A) → P x → Q x) → (xs : List A) → AllByRecursion P xs → AllByRecursion Q xs
all_weaker P Q weaker [] all = tt
all_weaker P Q weaker (x ∷ xs) all = (weaker x all.0, all_weaker P Q weaker xs all.1)

proof_printable : (version : ℕ) (s : StageCert) → ProofFits version s → IsPrintableProof version s
proof_printable version s f = record { has_cost = f.has_cost; has_bound = f.has_bound; vector_count = f.vector_count; fixed_from = f.fixed_from; floor_count = f.floor_count }

stage_printable : (version : ℕ) (s : StageCert) (tried : Bool) → StageFitsAs version s tried → IsPrintableAs version s tried
stage_printable version s true f = proof_printable version s f
stage_printable version s false f = f

cert_printable : (c : Certificate) → IsCert c → length (cert_lines c) ≤ MOST_LINES → IsPrintable c
cert_printable c is few = record { version = is.version; count = is.count; stages = all_weaker (StageFits c.version) (IsPrintableStage c.version) (λ s f. stage_printable c.version s (is_tried s.mark) f) c.stages is.stages; few = few }

extra_printable : (s : StageCert) → IsExtra s → length (extra_lines s) ≤ MOST_LINES → IsPrintableExtra s
extra_printable s is few = record { tried = is.tried; fits = proof_printable 3 s is.fits; few = few }

-- ---- a text has no more lines than bytes

onto_at_most : (b : ℕ) (lines : List (List Word)) → length (onto_lines b lines) ≤ suc (length lines)
onto_at_most b [] = omega arith
onto_at_most b (ws ∷ lines) = omega arith

lines_at_most : (bytes : List ℕ) → length (cert_lines_of bytes) ≤ length bytes
unfolding cert_lines_of
lines_at_most [] = omega arith
lines_at_most (b ∷ bytes) =
    elim (cases_Bool (eqb b 10)) [
      | inl lf ↦ rw lf (omega (arith, lines_at_most bytes))
      | inr other ↦ rw other (omega (arith, lines_at_most bytes, onto_at_most b (cert_lines_of bytes)))
    ]

few_lines : (bytes : List ℕ) (lines : List (List Word)) → length bytes ≤ LONGEST_CERT → cert_lines_of bytes ≡ lines → length lines ≤ MOST_LINES
few_lines bytes lines few same = omega (arith, few, lines_at_most bytes, ap (λ (ls : List (List Word)). length ls) same)

pub is_printable : (bytes : List ℕ) (r : Result Certificate CertFault) → length bytes ≤ LONGEST_CERT → IfOk r (λ c. IsCert c × (bytes ≡ spelling c)) → IfOk r (λ c. IsPrintable c)
is_printable bytes (Ok c) few found = cert_printable c found.0 (few_lines bytes (cert_lines c) few (ap cert_lines_of found.1 ∙ lines_again (cert_lines c) (cert_is_lines c found.0)))
is_printable bytes (Err e) few found = tt

pub extra_is_printable : (bytes : List ℕ) (r : Result StageCert CertFault) → length bytes ≤ LONGEST_CERT → IfOk r (λ s. IsExtra s × (bytes ≡ extra_spelling s)) → IfOk r (λ s. IsPrintableExtra s)
extra_is_printable bytes (Ok s) few found = extra_printable s found.0 (few_lines bytes (extra_lines s) few (ap cert_lines_of found.1 ∙ lines_again (extra_lines s) (extra_is_lines s found.0)))
extra_is_printable bytes (Err e) few found = tt
