-- The matches of uses hold the names and what each option is given.
use Rattle.std.proofs.Common.{◌≡◌, Bool, true, false, cond, List, [], ◌∷◌, ◌++◌, Option, Some, None, refl, sym, ap, subst, ◌∙◌, append_assoc, inl, inr, codes}
use Rattle.std.specs.Prelude.{unwrap_or, option_map, option_and_then, slice_get, find}
use Rattle.std.specs.List.{AllByRecursion}
use Rattle.std.specs.Str.{bytes_eq}
use Rattle.std.proofs.lemmas.Bool.{cases_Bool, both_ways}
use Rattle.std.proofs.lemmas.List.{append-nil}
use Rattle.std.proofs.lemmas.Slice.Eq.{bytes_eq-Decides}
use Rattle.std.proofs.Math.Bool.{or-true}
use Rattle.clap.specs.Walk.{Row, Text, all_of, first_of, has_row, with_values, reading_by}
use Rattle.clap.specs.declared.parser.matches.ValueSource.{ValueSource}
use Rattle.clap.specs.declared.parser.matches.ValueSource.TheVariants.{CommandLine}
use Rattle.clap.specs.declared.builder.value_parser.Reading.{Reading}
use Rattle.command_words.specs.Words.{Word}
use Rattle.command_words.specs.Uses.{Use, given, named, is_known, once_after}
use Rattle.command_words.proofs.Taken.{AreKnown}
use Rattle.command_words.specs.Values.{names_in, value_given, values_given}
use Rattle.command_words.specs.App.{names_held, values_held}
use Rattle.command_words.proofs.Leaf.{option_rule, names_rule, HasOption}
use Rattle.command_words.proofs.Runs.{AreOptions, has_option, after_use, all_rows}
use Rattle.command_words.proofs.Once.{Seen, without_none, names_by_id, other_than_names, given_seen, named_seen, no_rows_yet}

-- ---- the values of an id

abbrev with_more : Bool → Option (List Text) → List Text → Option (List Text)
with_more same values more = cond same (Some (unwrap_or values [] ++ more)) values

not_both : (a b m : Text) → bytes_eq a b ≡ false → bytes_eq a m ≡ true → bytes_eq b m ≡ false
not_both a b m other is =
    elim (cases_Bool (bytes_eq b m)) [
      | inr not_so ↦ not_so
      | inl too ↦
          let one : a ≡ m = (bytes_eq-Decides a m).0 is in
          let two : b ≡ m = (bytes_eq-Decides b m).0 too in
          absurd (both_ways (bytes_eq a b) other ((bytes_eq-Decides a b).1 (one ∙ sym two)))
    ]

all_with : (m n : Text) (how : Reading) (s : ValueSource) (vs : List Text) (rows : List Row) → all_of m (with_values n how s vs rows) ≡ with_more (bytes_eq n m) (all_of m rows) vs
all_with m n how s vs [] =
    elim (cases_Bool (bytes_eq n m)) [ inl same ↦ rw same refl | inr other ↦ rw other refl ]
all_with m n how s vs (r ∷ rows) =
    elim (cases_Bool (bytes_eq r.id n)) [
      | inl here ↦ elim (cases_Bool (bytes_eq n m)) [
        | inl same ↦ let this : bytes_eq r.id m ≡ true = (bytes_eq-Decides r.id m).1 ((bytes_eq-Decides r.id n).0 here ∙ (bytes_eq-Decides n m).0 same) in rw (here, same, this) refl
        | inr other ↦ let this : bytes_eq r.id m ≡ false = rw ((bytes_eq-Decides r.id n).0 here) other in rw (here, other, this) refl
      ]
      | inr elsewhere ↦ elim (cases_Bool (bytes_eq r.id m)) [
        | inl this ↦ let other = not_both r.id n m elsewhere this in rw (elsewhere, this, other) refl
        | inr that ↦ rw (elsewhere, that) (all_with m n how s vs rows)
      ]
    ]

none_there : (m : Text) (rows : List Row) → has_row m rows ≡ false → all_of m rows ≡ None
none_there m [] e = refl
none_there m (r ∷ rows) e =
    elim (cases_Bool (bytes_eq r.id m)) [
      | inl here ↦ let bad : true ≡ false = rw here at e in absurd cc
      | inr elsewhere ↦ rw elsewhere (none_there m rows (rw elsewhere at e))
    ]

abbrev first_in : Option (List Text) → Option Text
first_in values = option_and_then (λ vs. slice_get vs 0) values

first_is : (m : Text) (rows : List Row) → first_of m rows ≡ first_in (all_of m rows)
first_is m rows = by_row (find (λ r. bytes_eq r.id m) rows)
  where
    by_row : (o : Option Row) → option_and_then (λ r. slice_get r.values 0) o ≡ first_in (option_map (λ r. r.values) o)
    by_row None = refl
    by_row (Some r) = refl

-- ---- one use

after_named : (known : List Text) (rows : List Row) (w : Word) (m : Text) → AreOptions known → all_of m (after_use known rows (named w)) ≡ with_more (bytes_eq (codes "names") m) (all_of m rows) (w ∷ [])
after_named known rows w m are = rw (names_by_id known are) (all_with m (codes "names") (reading_by names_rule) CommandLine (w ∷ []) rows)

after_given : (known : List Text) (rows : List Row) (n v : Word) (m : Text) → HasOption known n → has_row n rows ≡ false → all_of m (after_use known rows (given n v)) ≡ with_more (bytes_eq n m) (all_of m rows) (v ∷ [])
after_given known rows n v m has new = rw (has.by_id, without_none n rows new) (all_with m n (reading_by (option_rule n)) CommandLine (v ∷ []) rows)

turned : (a b : Text) → bytes_eq a b ≡ false → bytes_eq b a ≡ false
turned a b other =
    elim (cases_Bool (bytes_eq b a)) [
      | inr not_so ↦ not_so
      | inl too ↦ absurd (both_ways (bytes_eq a b) other ((bytes_eq-Decides a b).1 (sym ((bytes_eq-Decides b a).0 too))))
    ]

-- ---- all uses

-- uses of a command's options, each once and none that was seen before
record Fits (known : List Text) (seen : List Word) (rows : List Row) (us : List Use) : Type 0 where
  pub options : AreOptions known
  pub known_uses : AreKnown known us
  pub rows_seen : Seen known seen rows
  pub once : once_after seen us ≡ true

record FitsGiven (known : List Text) (seen : List Word) (rows : List Row) (n v : Word) (us : List Use) : Type 0 where
  pub has : HasOption known n
  pub new : has_row n rows ≡ false
  pub rest : Fits known (n ∷ seen) (after_use known rows (given n v)) us

fits_named : (known : List Text) (seen : List Word) (rows : List Row) (w : Word) (us : List Use) → Fits known seen rows (named w ∷ us) → Fits known seen (after_use known rows (named w)) us
fits_named known seen rows w us fits = record {
  options = fits.options;
  known_uses = fits.known_uses;
  rows_seen = named_seen known seen rows w fits.options fits.rows_seen;
  once = fits.once;
}

fits_given : (known : List Text) (seen : List Word) (rows : List Row) (n v : Word) (us : List Use) → Fits known seen rows (given n v ∷ us) → FitsGiven known seen rows n v us
fits_given known seen rows n v us fits =
    let has = has_option known n fits.known_uses.0 in
    let row = fits.rows_seen.rows_are n fits.known_uses.0 in
    elim (cases_Bool (is_known seen n)) [
      | inl old ↦ let bad : false ≡ true = rw old at fits.once in absurd cc
      | inr fresh ↦ record {
        has = has;
        new = row ∙ fresh;
        rest = record {
          options = fits.options;
          known_uses = fits.known_uses.1;
          rows_seen = given_seen known seen rows n v has (row ∙ fresh) fits.rows_seen;
          once = rw fresh at fits.once;
        };
      }
    ]

names_after : (known : List Text) (us : List Use) (seen : List Word) (rows : List Row) → Fits known seen rows us → names_held (all_rows known rows us) ≡ names_held rows ++ names_in us
unfolding all_rows
names_after known [] seen rows fits = sym (append-nil (names_held rows))
names_after known (named w ∷ us) seen rows fits =
    let rest = names_after known us seen (after_use known rows (named w)) (fits_named known seen rows w us fits) in
    rest ∙ ap (λ (o : Option (List Text)). unwrap_or o [] ++ names_in us) (after_named known rows w (codes "names") fits.options) ∙ append_assoc (names_held rows) (w ∷ []) (names_in us)
names_after known (given n v ∷ us) seen rows fits =
    let f = fits_given known seen rows n v us fits in
    let other : bytes_eq n (codes "names") ≡ false = turned (codes "names") n (other_than_names known n fits.options fits.known_uses.0) in
    let same : all_of (codes "names") (after_use known rows (given n v)) ≡ all_of (codes "names") rows = after_given known rows n v (codes "names") f.has f.new ∙ ap (λ b. with_more b (all_of (codes "names") rows) (v ∷ [])) other in
    names_after known us (n ∷ seen) (after_use known rows (given n v)) f.rest ∙ ap (λ (o : Option (List Text)). unwrap_or o [] ++ names_in us) same

abbrev or_value : Option Word → Option Word → Option Word
or_value None later = later
or_value (Some v) later = Some v

only_this : (o : Option Word) → o ≡ or_value o None
only_this None = refl
only_this (Some v) = refl

value_after : (known : List Text) (us : List Use) (seen : List Word) (rows : List Row) (o : Word) → Fits known seen rows us → is_known known o ≡ true → first_in (all_of o (all_rows known rows us)) ≡ or_value (first_in (all_of o rows)) (value_given o us)
unfolding all_rows
value_after known [] seen rows o fits is = only_this (first_in (all_of o rows))
value_after known (named w ∷ us) seen rows o fits is =
    let other = other_than_names known o fits.options is in
    let same : all_of o (after_use known rows (named w)) ≡ all_of o rows = after_named known rows w o fits.options ∙ ap (λ b. with_more b (all_of o rows) (w ∷ [])) other in
    value_after known us seen (after_use known rows (named w)) o (fits_named known seen rows w us fits) is ∙ ap (λ (x : Option (List Text)). or_value (first_in x) (value_given o us)) same
value_after known (given n v ∷ us) seen rows o fits is =
    let f = fits_given known seen rows n v us fits in
    let rest = value_after known us (n ∷ seen) (after_use known rows (given n v)) o f.rest is in
    let step = after_given known rows n v o f.has f.new in
    elim (cases_Bool (bytes_eq n o)) [
      | inl this ↦
          let absent : all_of o rows ≡ None = none_there o rows (subst (λ (x : Word). has_row x rows ≡ false) ((bytes_eq-Decides n o).0 this) f.new) in
          let here : all_of o (after_use known rows (given n v)) ≡ Some (v ∷ []) = step ∙ rw (this, absent) refl in
          rest ∙ rw (here, this, absent) refl
      | inr that ↦
          let same : all_of o (after_use known rows (given n v)) ≡ all_of o rows = step ∙ ap (λ b. with_more b (all_of o rows) (v ∷ [])) that in
          rest ∙ rw (same, that) refl
    ]

abbrev AllKnown : List Text → List Text → Type 0
AllKnown known options = AllByRecursion (λ o. is_known known o ≡ true) options

one_more : (x : Text) (known options : List Text) → AllKnown known options → AllKnown (x ∷ known) options
one_more x known [] all = tt
one_more x known (o ∷ options) all = (rw all.0 (or-true (bytes_eq x o)), one_more x known options all.1)

all_known : (known : List Text) → AllKnown known known
all_known [] = tt
all_known (x ∷ known) = (rw ((bytes_eq-Decides x x).1 refl) refl, one_more x known known (all_known known))

values_after : (known options : List Text) (us : List Use) → Fits known [] [] us → AllKnown known options → values_held options (all_rows known [] us) ≡ values_given options us
values_after known [] us fits all = refl
values_after known (o ∷ options) us fits all =
    let one : first_of o (all_rows known [] us) ≡ value_given o us = first_is o (all_rows known [] us) ∙ value_after known us [] [] o fits all.0 in
    rw (one, values_after known options us fits all.1) refl

-- the matches of uses say what the uses say
pub record SaysUses (known : List Text) (rows : List Row) (us : List Use) : Type 0 where
  pub names : names_held rows ≡ names_in us
  pub values : values_held known rows ≡ values_given known us

pub says_uses : (known : List Text) (us : List Use) → AreOptions known → AreKnown known us → once_after [] us ≡ true → SaysUses known (all_rows known [] us) us
says_uses known us are k once =
    let fits : Fits known [] [] us = record { options = are; known_uses = k; rows_seen = no_rows_yet known; once = once } in
    record { names = names_after known us [] [] fits; values = values_after known known us fits (all_known known) }
