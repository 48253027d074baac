-- Lists of the turn of a ledger with a journal.
use Rattle.std.proofs.Common.{◌≡◌, ◌+◌, ℕ, suc, eqb, List, [], ◌∷◌, ◌++◌, length, refl, ap, inl, inr, None, Some, arith}
use Rattle.std.specs.Prelude.{Option}
use Rattle.std.proofs.lemmas.Bool.{cases_Bool}
use Rattle.turn_lock.specs.History.{own}
use Rattle.holding_book.specs.declared.answer.Entry.{Entry}
use Rattle.slot_ledger.specs.Starts.{entry_caller}
use Rattle.slot_ledger.specs.Beside.{IsUnbroken}
use Rattle.amend_journal.specs.Told.{told_list, read_told, told_caller, EndsBroken}
use Rattle.amend_journal.specs.declared.told.Told.{Told}
use Rattle.amend_journal.specs.declared.told.Told.TheVariants.{Done, Broke}
use Rattle.amend_journal.specs.declared.told.Failure.{Failure}

pub read_parts : (xs ys : List Told) → read_told (xs ++ ys) ≡ read_told xs ++ read_told ys
read_parts [] ys = refl
read_parts (Done e ∷ xs) ys = ap (λ (es : List Entry). e ∷ es) (read_parts xs ys)
read_parts (Broke c f ∷ xs) ys = read_parts xs ys

pub read_own : (caller : ℕ) (xs : List Told) → own entry_caller caller (read_told xs) ≡ read_told (own told_caller caller xs)
read_own caller [] = refl
read_own caller (Done e ∷ xs) =
    elim (cases_Bool (eqb e.caller caller)) [
      | inl t ↦ rw t (ap (λ (es : List Entry). e ∷ es) (read_own caller xs))
      | inr f ↦ rw f (read_own caller xs)
    ]
read_own caller (Broke c f ∷ xs) =
    elim (cases_Bool (eqb c caller)) [
      | inl t ↦ rw t (read_own caller xs)
      | inr g ↦ rw g (read_own caller xs)
    ]

pub read_list : (history : List Entry) (failure : Option Failure) → read_told (told_list history failure) ≡ history
read_list [] None = refl
read_list [] (Some failure) = refl
read_list (e ∷ history) failure = ap (λ (es : List Entry). e ∷ es) (read_list history failure)

pub length_whole : (history : List Entry) → length (told_list history None) ≡ length history
length_whole [] = refl
length_whole (e ∷ history) = ap suc (length_whole history)

pub length_failed : (history : List Entry) (failure : Failure) → length (told_list history (Some failure)) ≡ length history + 1
length_failed [] failure = refl
length_failed (e ∷ history) failure = omega (arith, length_failed history failure)

pub next_told : (history : List Entry) (e : Entry) → told_list (history ++ e ∷ []) None ≡ told_list history None ++ Done e ∷ []
next_told [] e = refl
next_told (x ∷ history) e = ap (λ (xs : List Told). Done x ∷ xs) (next_told history e)

-- a put that failed stands behind all entries
pub failed_told : (history : List Entry) (failure : Failure) → told_list history (Some failure) ≡ told_list history None ++ Broke failure.caller failure.faults ∷ []
failed_told [] failure = refl
failed_told (x ∷ history) failure = ap (λ (xs : List Told). Done x ∷ xs) (failed_told history failure)

pub no_failure : (history : List Entry) (before later : List Told) (caller faults : ℕ) → told_list history None ≡ before ++ Broke caller faults ∷ later → ⊥
no_failure [] [] later c f e = absurd (cc)
no_failure [] (x ∷ xs) later c f e = absurd (cc)
no_failure (h ∷ history) [] later c f e = absurd (cc)
no_failure (h ∷ history) (x ∷ xs) later c f e = no_failure history xs later c f cc

-- what the list says of a failure is of the one that there was
pub failure_is : (history : List Entry) (failure : Failure) (before later : List Told) (caller faults : ℕ) → told_list history (Some failure) ≡ before ++ Broke caller faults ∷ later → faults ≡ failure.faults
failure_is [] failure [] later c f e = cc
failure_is [] failure (x ∷ []) later c f e = absurd (cc)
failure_is [] failure (x ∷ y ∷ xs) later c f e = absurd (cc)
failure_is (h ∷ history) failure [] later c f e = absurd (cc)
failure_is (h ∷ history) failure (x ∷ xs) later c f e = failure_is history failure xs later c f cc

pub whole_unbroken : (history : List Entry) → IsUnbroken EndsBroken (told_list history None)
whole_unbroken history = record { never = λ faults ends. no_failure history ends.before [] ends.caller faults ends.is }

pub failed_broken : (history : List Entry) (failure : Failure) → EndsBroken (told_list history (Some failure)) failure.faults
failed_broken history failure = record { before = told_list history None; caller = failure.caller; is = failed_told history failure }

-- a list that is never broken has no failure
pub is_whole : (failure : Option Failure) → ((history : List Entry) → IsUnbroken EndsBroken (told_list history failure)) → failure ≡ None
is_whole None h = refl
is_whole (Some failure) h = absurd ((h []).never failure.faults (failed_broken [] failure))
