-- What a write of a cabinet in memory leaves is what the trait says.
use Rattle.std.proofs.Common.{◌≡◌, ◌⊎◌, ℕ, Bool, true, false, not, List, [], ◌∷◌, length, take, Option, Some, None, option_map, is_some, refl, sym, ap, ◌∙◌, arith, inl, inr}
use mathlib.Core.Path.{fun_ext}
use Rattle.std.specs.Str.{bytes_eq}
use Rattle.std.proofs.lemmas.Bool.{cases_Bool, and_parts}
use Rattle.std.proofs.lemmas.List.{take_all}
use Rattle.std.proofs.lemmas.Slice.Eq.{bytes_eq-Decides}
use Rattle.desk_outside.specs.declared.failures.Failure.{Failure}
use Rattle.desk_outside.specs.Cause.{one_more, Rose}
use Rattle.desk_outside.specs.Files.{with_file, WritesPart}
use Rattle.desk_outside.specs.Failures.{taken_by}
use Rattle.desk_outside.specs.InMemory.{HeldFile, CabinetView, bytes_under, put_file, has_room, next_failure, with_call, takes_file, with_taken, after_write}

-- names that compare alike are one
same_name : (a b : List ℕ) → bytes_eq a b ≡ true → a ≡ b
same_name a b e = (bytes_eq-Decides a b).0 e

put_under : (files : List HeldFile) (name bytes asked : List ℕ) → bytes_under (put_file files name bytes) asked ≡ with_file (bytes_under files) name bytes asked
put_under [] name bytes asked = refl
put_under (file ∷ files) name bytes asked =
    elim (cases_Bool (bytes_eq file.name name)) [
      | inl here ↦
          let e : file.name ≡ name = same_name file.name name here in
          elim (cases_Bool (bytes_eq name asked)) [
            | inl same ↦ let there : bytes_eq file.name asked ≡ true = ap (λ (n : List ℕ). bytes_eq n asked) e ∙ same in rw (here, same, there) refl
            | inr other ↦ let there : bytes_eq file.name asked ≡ false = ap (λ (n : List ℕ). bytes_eq n asked) e ∙ other in rw (here, other, there) refl
          ]
      | inr there ↦
          let rest = put_under files name bytes asked in
          elim (cases_Bool (bytes_eq name asked)) [
            | inl same ↦
                let e : name ≡ asked = same_name name asked same in
                let skip : bytes_eq file.name asked ≡ false = ap (bytes_eq file.name) (sym e) ∙ there in
                rw (there, skip, rest, same) refl
            | inr other ↦ rw (there, rest, other) refl
          ]
    ]

-- putting a file into the list changes the bytes under its name and no other
pub put_file_is : (files : List HeldFile) (name bytes : List ℕ) → bytes_under (put_file files name bytes) ≡ with_file (bytes_under files) name bytes
put_file_is files name bytes = fun_ext (put_under files name bytes)

taken_whole : (failure : Option Failure) (bytes : List ℕ) → not (is_some failure) ≡ true → taken_by failure bytes ≡ Some bytes
taken_whole None bytes e = refl
taken_whole (Some failure) bytes e = absurd cc

front_of : (part : Option ℕ) (bytes left : List ℕ) → option_map (λ (n : ℕ). take n bytes) part ≡ Some left → (n : ℕ) × (left ≡ take n bytes)
front_of None bytes left e = absurd cc
front_of (Some n) bytes left e = (n, cc)

taken_front : (failure : Option Failure) (bytes left : List ℕ) → taken_by failure bytes ≡ Some left → (n : ℕ) × (left ≡ take n bytes)
taken_front None bytes left e = (length bytes, let same : bytes ≡ left = cc in sym same ∙ sym (take_all (length bytes) bytes (omega arith)))
taken_front (Some failure) bytes left e = front_of failure.part bytes left e

-- the files of a cabinet with what was taken
left_files : (c : CabinetView) (name : List ℕ) (left : Option (List ℕ)) → ((with_taken c name left).files ≡ c.files) ⊎ ((bytes : List ℕ) × (left ≡ Some bytes) × ((with_taken c name left).files ≡ put_file c.files name bytes))
left_files c name None = inl refl
left_files c name (Some bytes) =
    elim (cases_Bool (has_room c name bytes)) [
      | inl fits ↦ inr (bytes, refl, rw fits refl)
      | inr full ↦ inl (rw full refl)
    ]

left_faults : (c : CabinetView) (name : List ℕ) (left : Option (List ℕ)) → (with_taken c name left).faults ≡ c.faults
left_faults c name None = refl
left_faults c name (Some bytes) =
    elim (cases_Bool (has_room c name bytes)) [
      | inl fits ↦ rw fits refl
      | inr full ↦ rw full refl
    ]

pub write_ok : (c new : CabinetView) (name bytes : List ℕ) (ok : Bool) → ok ≡ true → ok ≡ takes_file c name bytes → new ≡ after_write c name bytes → bytes_under new.files ≡ with_file (bytes_under c.files) name bytes
write_ok c new name bytes ok true_is e after =
    let takes : takes_file c name bytes ≡ true = sym e ∙ true_is in
    let parts = and_parts (not (is_some (next_failure c))) (has_room c name bytes) takes in
    let whole : taken_by (next_failure c) bytes ≡ Some bytes = taken_whole (next_failure c) bytes parts.0 in
    let files : new.files ≡ put_file c.files name bytes = ap (λ (v : CabinetView). v.files) after ∙ rw (takes, whole, parts.1) refl in
    ap bytes_under files ∙ put_file_is c.files name bytes

pub write_part : (c new : CabinetView) (name bytes : List ℕ) (ok : Bool) → ok ≡ false → ok ≡ takes_file c name bytes → new ≡ after_write c name bytes → WritesPart (Some (bytes_under c.files)) name bytes (Some (bytes_under new.files))
write_part c new name bytes ok false_is e after =
    let takes : takes_file c name bytes ≡ false = sym e ∙ false_is in
    let left = taken_by (next_failure c) bytes in
    let files : new.files ≡ (with_taken (with_call c) name left).files = ap (λ (v : CabinetView). v.files) after ∙ rw takes refl in
    elim (left_files (with_call c) name left) [
      | inl same ↦ inl (ap (λ (f : List HeldFile). Some (bytes_under f)) (files ∙ same))
      | inr put ↦
          let front = taken_front (next_failure c) bytes put.0 put.1 in
          inr (front.0, ap (λ (f : List HeldFile). Some (bytes_under f)) (files ∙ put.2) ∙ ap Some (put_file_is c.files name put.0) ∙ ap (λ (b : List ℕ). Some (with_file (bytes_under c.files) name b)) front.1)
    ]

pub write_rose : (c new : CabinetView) (name bytes : List ℕ) (ok : Bool) → ok ≡ false → ok ≡ takes_file c name bytes → new ≡ after_write c name bytes → Rose c.faults new.faults
write_rose c new name bytes ok false_is e after =
    let takes : takes_file c name bytes ≡ false = sym e ∙ false_is in
    let faults : new.faults ≡ one_more (with_taken (with_call c) name (taken_by (next_failure c) bytes)).faults = ap (λ (v : CabinetView). v.faults) after ∙ rw takes refl in
    let same : new.faults ≡ one_more c.faults = faults ∙ ap one_more (left_faults (with_call c) name (taken_by (next_failure c) bytes)) in
    omega arith

pub write_kept : (c new : CabinetView) (name bytes : List ℕ) (ok : Bool) → ok ≡ true → ok ≡ takes_file c name bytes → new ≡ after_write c name bytes → new.faults ≡ c.faults
write_kept c new name bytes ok true_is e after =
    let takes : takes_file c name bytes ≡ true = sym e ∙ true_is in
    let faults : new.faults ≡ (with_taken (with_call c) name (taken_by (next_failure c) bytes)).faults = ap (λ (v : CabinetView). v.faults) after ∙ rw takes refl in
    faults ∙ left_faults (with_call c) name (taken_by (next_failure c) bytes)
