-- Which files several writes change.
use Rattle.std.proofs.Common.{◌≡◌, ℕ, true, List, [], ◌∷◌, take, Option, Some, None, refl, sym, subst, ◌∙◌, arith, inl, inr}
use Rattle.std.specs.List.{Contains}
use Rattle.std.specs.Str.{bytes_eq}
use Rattle.std.proofs.lemmas.Bool.{cases_Bool}
use Rattle.std.proofs.lemmas.Slice.Eq.{bytes_eq-Decides}
use Rattle.desk_outside.specs.Files.{Files, with_file, Writes, WritesPart, ChangesOnly}

pub file_other : (files : Files) (name bytes asked : List ℕ) → (name ≡ asked → ⊥) → with_file files name bytes asked ≡ files asked
file_other files name bytes asked other =
    elim (cases_Bool (bytes_eq name asked)) [
      | inl same ↦ absurd (other ((bytes_eq-Decides name asked).0 same))
      | inr differ ↦ rw differ refl
    ]

pub file_own : (files : Files) (name bytes : List ℕ) → with_file files name bytes name ≡ Some bytes
file_own files name bytes =
    elim (cases_Bool (bytes_eq name name)) [
      | inl same ↦ rw same refl
      | inr differ ↦ absurd (let own : bytes_eq name name ≡ true = (bytes_eq-Decides name name).1 refl in cc)
    ]

pub unchanged_only : (files after : Option Files) (names : List (List ℕ)) → after ≡ files → ChangesOnly files names after
unchanged_only None after names e = tt
unchanged_only (Some files) after names e = subst (λ (o : Option Files). ChangesOnly (Some files) names o) (sym e) (λ name lacks. refl)

written_only : (files : Files) (after : Option Files) (names : List (List ℕ)) (name bytes : List ℕ) → Contains names name → after ≡ Some (with_file files name bytes) → ChangesOnly (Some files) names after
written_only files after names name bytes among e =
    subst (λ (o : Option Files). ChangesOnly (Some files) names o) (sym e)
    (λ asked lacks. file_other files name bytes asked (λ same. lacks (subst (λ (w : List ℕ). Contains names w) same among)))

pub write_only : (files after : Option Files) (names : List (List ℕ)) (name bytes : List ℕ) → Contains names name → Writes files name bytes after → ChangesOnly files names after
write_only None after names name bytes among e = tt
write_only (Some files) after names name bytes among e = written_only files after names name bytes among e

pub part_only : (files after : Option Files) (names : List (List ℕ)) (name bytes : List ℕ) → Contains names name → WritesPart files name bytes after → ChangesOnly files names after
part_only None after names name bytes among part = tt
part_only (Some files) after names name bytes among (inl e) = unchanged_only (Some files) after names e
part_only (Some files) after names name bytes among (inr part) = written_only files after names name _ among part.1

pub then_only : (files between after : Option Files) (names : List (List ℕ)) → ChangesOnly files names between → ChangesOnly between names after → ChangesOnly files names after
then_only None between after names one two = tt
then_only (Some files) None after names one two = absurd one
then_only (Some files) (Some between) None names one two = absurd two
then_only (Some files) (Some between) (Some after) names one two = λ name lacks. two name lacks ∙ one name lacks
