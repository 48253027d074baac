-- clap takes the uses of which each option stands at most once, and no others.
use Rattle.std.proofs.Common.{◌≡◌, Bool, true, false, List, [], ◌∷◌, Some, refl, sym, ap, ◌∙◌, inl, inr, codes}
use Rattle.std.specs.Prelude.{◌||◌}
use Rattle.std.specs.Str.{bytes_eq}
use Rattle.std.proofs.lemmas.Bool.{cases_Bool, both_ways}
use Rattle.std.proofs.lemmas.Slice.Eq.{bytes_eq-Decides}
use Rattle.clap.specs.Walk.{Row, Text, arg_by_id, has_row, with_values, without}
use Rattle.clap.specs.Kinds.{Kinds, or_else}
use Rattle.clap.specs.declared.parser.matches.ValueSource.{ValueSource}
use Rattle.clap.specs.declared.builder.value_parser.Reading.{Reading}
use Rattle.command_words.specs.Words.{Word}
use Rattle.command_words.specs.Uses.{Use, given, named, is_known, once_after}
use Rattle.command_words.proofs.Taken.{AreKnown}
use Rattle.command_words.proofs.KindLemmas.{or_parts}
use Rattle.command_words.proofs.Leaf.{names_rule, rules, HasOption}
use Rattle.command_words.proofs.Runs.{AreOptions, has_option, after_use, fault_of_use, all_fault}

-- ---- which rows there are

has_with : (m n : Text) (how : Reading) (s : ValueSource) (vs : List Text) (rows : List Row) → has_row m (with_values n how s vs rows) ≡ (bytes_eq n m || has_row m rows)
has_with m n how s vs [] = refl
has_with m n how s vs (r ∷ rows) =
    elim (cases_Bool (bytes_eq r.id n)) [
      | inl here ↦ rw (here, (bytes_eq-Decides r.id n).0 here) (twice (bytes_eq n m) (has_row m rows))
      | inr elsewhere ↦ rw (elsewhere, has_with m n how s vs rows) (turned (bytes_eq r.id m) (bytes_eq n m) (has_row m rows))
    ]
  where
    twice : (a b : Bool) → (a || b) ≡ (a || (a || b))
    twice true b = refl
    twice false b = refl

    turned : (a b c : Bool) → (a || (b || c)) ≡ (b || (a || c))
    turned true true c = refl
    turned true false c = refl
    turned false b c = refl

pub without_none : (n : Text) (rows : List Row) → has_row n rows ≡ false → without n rows ≡ rows
without_none n [] e = refl
without_none n (r ∷ rows) e =
    elim (cases_Bool (bytes_eq r.id n)) [
      | inl here ↦ let bad : true ≡ false = rw here at e in absurd cc
      | inr elsewhere ↦ rw elsewhere (ap (λ (rs : List Row). r ∷ rs) (without_none n rows (rw elsewhere at e)))
    ]

-- ---- one use

pub names_by_id : (known : List Text) → AreOptions known → arg_by_id (rules known) (codes "names") ≡ Some names_rule
names_by_id [] are = refl
names_by_id (o ∷ known) are = rw are.0 (names_by_id known are.1)

first_given : (known : List Text) (rows : List Row) (n v : Word) → HasOption known n → has_row n rows ≡ false → fault_of_use known rows (given n v) ≡ []
first_given known rows n v has new = rw (has.by_id, new) refl

given_twice : (known : List Text) (rows : List Row) (n v : Word) → HasOption known n → has_row n rows ≡ true → fault_of_use known rows (given n v) ≡ [] → ⊥
given_twice known rows n v has old e = let bad = rw (has.by_id, old) at e in absurd cc

name_is_free : (known : List Text) (rows : List Row) (w : Word) → AreOptions known → fault_of_use known rows (named w) ≡ []
name_is_free known rows w are = rw (names_by_id known are) refl

-- the options that were given have rows, and no others of the command
pub record Seen (known : List Text) (seen : List Word) (rows : List Row) : Type 0 where
  pub rows_are : (m : Word) → is_known known m ≡ true → has_row m rows ≡ is_known seen m

pub no_rows_yet : (known : List Text) → Seen known [] []
no_rows_yet known = record { rows_are = λ m k. refl }

is_not_names : (o m : Word) → bytes_eq o (codes "names") ≡ false → bytes_eq o m ≡ true → bytes_eq (codes "names") m ≡ false
is_not_names o m are same =
    elim (cases_Bool (bytes_eq (codes "names") m)) [
      | inr other ↦ other
      | inl names ↦
          let one : o ≡ m = (bytes_eq-Decides o m).0 same in
          let two : codes "names" ≡ m = (bytes_eq-Decides (codes "names") m).0 names in
          absurd (both_ways (bytes_eq o (codes "names")) are ((bytes_eq-Decides o (codes "names")).1 (one ∙ sym two)))
    ]

pub other_than_names : (known : List Text) (m : Word) → AreOptions known → is_known known m ≡ true → bytes_eq (codes "names") m ≡ false
other_than_names [] m are e = absurd cc
other_than_names (o ∷ known) m are e =
    elim (cases_Bool (bytes_eq o m)) [
      | inl same ↦ is_not_names o m are.0 same
      | inr other ↦ other_than_names known m are.1 (rw other at e)
    ]

pub given_seen : (known : List Text) (seen : List Word) (rows : List Row) (n v : Word) → HasOption known n → has_row n rows ≡ false → Seen known seen rows → Seen known (n ∷ seen) (after_use known rows (given n v))
given_seen known seen rows n v has new is = record {
  rows_are = λ m k. rw (has.by_id, without_none n rows new) (has_with m n _ _ _ rows ∙ ap (λ (b : Bool). bytes_eq n m || b) (is.rows_are m k));
}

pub named_seen : (known : List Text) (seen : List Word) (rows : List Row) (w : Word) → AreOptions known → Seen known seen rows → Seen known seen (after_use known rows (named w))
named_seen known seen rows w are is = record {
  rows_are = λ m k. rw (names_by_id known are) (has_with m (codes "names") _ _ _ rows ∙ ap (λ (b : Bool). b || has_row m rows) (other_than_names known m are k) ∙ is.rows_are m k);
}

-- ---- all uses

pub taken_once : (known : List Text) (us : List Use) (seen : List Word) (rows : List Row) → AreOptions known → AreKnown known us → Seen known seen rows → (once_after seen us ≡ true → all_fault known rows us ≡ []) × (all_fault known rows us ≡ [] → once_after seen us ≡ true)
unfolding all_fault
taken_once known [] seen rows are k is = (λ e. refl, λ e. refl)
taken_once known (named w ∷ us) seen rows are k is =
    let rest = taken_once known us seen (after_use known rows (named w)) are k (named_seen known seen rows w are is) in
    rw (name_is_free known rows w are) rest
taken_once known (given n v ∷ us) seen rows are k is =
    let has = has_option known n k.0 in
    let row = is.rows_are n k.0 in
    elim (cases_Bool (is_known seen n)) [
      | inl old ↦
          let there : has_row n rows ≡ true = row ∙ old in
          (λ e. let bad : false ≡ true = rw old at e in absurd cc, λ e. absurd (given_twice known rows n v has there (or_parts _ _ e).0))
      | inr new ↦
          let fresh : has_row n rows ≡ false = row ∙ new in
          let rest = taken_once known us (n ∷ seen) (after_use known rows (given n v)) are k.1 (given_seen known seen rows n v has fresh is) in
          let free = first_given known rows n v has fresh in
          (λ e. ap (λ (f : Kinds). or_else f (all_fault known (after_use known rows (given n v)) us)) free ∙ rest.0 (rw new at e), λ e. rw new (rest.1 (or_parts _ _ e).1))
    ]
