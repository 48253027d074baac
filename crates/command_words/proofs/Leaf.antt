-- How clap walks over the words of a command with long options that take one value, and names.
use Rattle.std.proofs.Common.{◌≡◌, ℕ, ◌<◌, true, false, eqb, List, [], ◌∷◌, ◌++◌, length, map, Option, Some, None, refl, ap, arith, inl, inr, codes}
use Rattle.std.specs.Prelude.{slice_get, find, option_map}
use Rattle.std.specs.Str.{bytes_eq, chars}
use Rattle.std.proofs.lemmas.Bool.{cases_Bool, eqb-true, and_right}
use Rattle.std.proofs.lemmas.Slice.Eq.{bytes_eq-Decides}
use Rattle.clap.specs.Lexer.{long_of, short_of, name_and_value}
use Rattle.clap.specs.Walk.{is_pending, Rule, Row, Held, Walk, Waiting, Text, idle, option, positional, arg_by_id, arg_by_long, arg_by_index, arg_by_short, settled_rows, used, walked}
use Rattle.clap.specs.Simple.{Shape, new_shape}
use Rattle.clap.specs.declared.builder.range.ValueRange.{ValueRange}
use Rattle.clap.specs.declared.builder.value_parser.ValueParser.TheVariants as vp
use Rattle.clap.specs.Kinds.{or_else}
use Rattle.clap.specs.Faults.{turn_fault, flags_fault, settle_fault, use_fault}
use Rattle.command_words.specs.App.{option_arg, names_arg}
use Rattle.command_words.specs.Words.{Word}
use Rattle.command_words.proofs.KindLemmas.{or_nil}
use Rattle.command_words.specs.Uses.{plain, dashes, long, short, look, look_after, look_long, has_value, name_in, value_in}

bytes_same : (w : Word) → bytes_eq w w ≡ true
bytes_same w = (bytes_eq-Decides w w).1 refl

abbrev one_value : Option ValueRange
one_value = Some (record { start_inclusive = 1; end_inclusive = 1 })

-- the same as building leaves them
abbrev pub option_rule : Text → Rule
option_rule name = record (option_arg name) { range = one_value; parser = Some vp.String }

abbrev pub names_rule : Rule
names_rule = record names_arg { index = Some 1; range = one_value; parser = Some vp.String }

abbrev pub rules : List Text → List Rule
rules known = map option_rule known ++ names_rule ∷ []

-- ---- what a word looks like

pub record LooksPlain (w : Word) : Type 0 where
  pub no_dashes : bytes_eq w (45 ∷ 45 ∷ []) ≡ false
  pub no_long : long_of w ≡ None
  pub no_short : short_of w ≡ None

plain_after : (b c : ℕ) (w : Word) → eqb b 45 ≡ true → look_after (c ∷ w) ≡ plain → ⊥
plain_after b c w is e = elim (cases_Bool (eqb c 45)) [ inl dash ↦ long_ends w (rw dash at e) | inr other ↦ let bad : short ≡ plain = rw other at e in absurd cc ]
  where
    long_ends : (v : Word) → look_long v ≡ plain → ⊥
    long_ends [] h = absurd cc
    long_ends (d ∷ v) h = absurd cc

pub looks_plain : (w : Word) → look w ≡ plain → LooksPlain w
looks_plain [] e = record { no_dashes = refl; no_long = refl; no_short = refl }
looks_plain (b ∷ w) e =
    elim (cases_Bool (eqb b 45)) [
      | inl dash ↦ lone b w dash (rw dash at e)
      | inr other ↦ record { no_dashes = rw other refl; no_long = rw other refl; no_short = rw other refl }
    ]
  where
    lone : (x : ℕ) (v : Word) → eqb x 45 ≡ true → look_after v ≡ plain → LooksPlain (x ∷ v)
    lone x [] is h = record { no_dashes = rw is refl; no_long = rw is refl; no_short = rw is refl }
    lone x (c ∷ v) is h = absurd (plain_after x c v is h)

-- ---- the arguments by their names

pub names_by_index : (known : List Text) → arg_by_index (rules known) 1 ≡ Some names_rule
names_by_index [] = refl
names_by_index (o ∷ known) = names_by_index known

pub no_short_arg : (known : List Text) (x : ℕ) → arg_by_short (rules known) x ≡ None
no_short_arg [] x = refl
no_short_arg (o ∷ known) x = no_short_arg known x

abbrev pub found_option : List Text → Text → Option Text
found_option known name = find (λ o. bytes_eq o name) known

pub option_by_long : (known : List Text) (name : Text) → arg_by_long (rules known) name ≡ option_map option_rule (found_option known name)
option_by_long [] name = refl
option_by_long (o ∷ known) name =
    elim (cases_Bool (bytes_eq o name)) [
      | inl same ↦ rw same refl
      | inr other ↦ rw other (option_by_long known name)
    ]

-- ---- the walk, word by word

abbrev pub at : List Row → Option (Text × List Text) → Waiting → Walk
at rows pending waiting = record { held = record { rows = rows; pending = pending; skip = 0 }; waiting = waiting; position = 1; is_trailing = false; stopped = None }

-- no option awaits its value
abbrev pub IsFree : Waiting → Type 0
IsFree idle = Unit {0}
IsFree (option id) = ⊥
IsFree positional = Unit {0}

-- nothing is pending but one value
abbrev pub held : List Row → Option (Text × List Text) → Held
held rows p = record { rows = rows; pending = p; skip = 0 }

pub name_step : (known : List Text) (rows : List Row) (p : Option (Text × List Text)) (waiting : Waiting) (w : Word) → IsFree waiting → look w ≡ plain
    → walked (rules known) [] (at rows p waiting) w ≡ at (settled_rows (rules known) p rows) (Some (codes "names", w ∷ [])) positional
unfolding walked
name_step known rows p idle w free e =
    let f = looks_plain w e in
    rw (f.no_dashes, f.no_long, f.no_short, names_by_index known, and_right (is_pending names_rule p) false refl) refl
name_step known rows p (option id) w free e = absurd free
name_step known rows p positional w free e =
    let f = looks_plain w e in
    rw (f.no_dashes, f.no_long, f.no_short, names_by_index known, and_right (is_pending names_rule p) false refl) refl

abbrev pub leaf_shape : Text → List Text → Shape
leaf_shape name known = record (new_shape name) { rules = rules known; is_built = true; no_binary_name = true; disable_help_flag = true; disable_help_subcommand = true }

pub name_fault : (name : Text) (known : List Text) (rows : List Row) (p : Option (Text × List Text)) (waiting : Waiting) (w : Word) → IsFree waiting → look w ≡ plain
    → turn_fault (leaf_shape name known) [] (at rows p waiting) w ≡ settle_fault (rules known) false (held rows p)
name_fault name known rows p idle w free e =
    let f = looks_plain w e in
    rw (f.no_dashes, f.no_long, f.no_short, names_by_index known, and_right (is_pending names_rule p) false refl) refl
name_fault name known rows p (option id) w free e = absurd free
name_fault name known rows p positional w free e =
    let f = looks_plain w e in
    rw (f.no_dashes, f.no_long, f.no_short, names_by_index known, and_right (is_pending names_rule p) false refl) refl

-- ---- the value that an option awaits

-- the option is the first of its id
pub record HasOption (known : List Text) (name : Text) : Type 0 where
  pub by_long : arg_by_long (rules known) name ≡ Some (option_rule name)
  pub by_id : arg_by_id (rules known) name ≡ Some (option_rule name)

pub value_step : (known : List Text) (rows : List Row) (name : Text) (w : Word) → HasOption known name → look w ≡ plain
    → walked (rules known) [] (at rows (Some (name, [])) (option name)) w ≡ at rows (Some (name, w ∷ [])) idle
unfolding walked
value_step known rows name w has e =
    let f = looks_plain w e in
    rw (f.no_dashes, f.no_long, f.no_short, has.by_id, bytes_same name) refl

pub value_fault : (shape : Text) (known : List Text) (rows : List Row) (name : Text) (w : Word) → HasOption known name → look w ≡ plain
    → turn_fault (leaf_shape shape known) [] (at rows (Some (name, [])) (option name)) w ≡ []
value_fault shape known rows name w has e =
    let f = looks_plain w e in
    rw (f.no_dashes, f.no_long, f.no_short) refl

-- ---- long words

pub record LooksLong (w text : Word) : Type 0 where
  pub no_dashes : bytes_eq w (45 ∷ 45 ∷ []) ≡ false
  pub is_long : long_of w ≡ Some (name_and_value text)

looks_long_by : (b c : ℕ) (v text : Word) → eqb b 45 ≡ true → eqb c 45 ≡ true → look_long v ≡ long text → LooksLong (b ∷ c ∷ v) text
looks_long_by b c [] text p q e = absurd cc
looks_long_by b c (d ∷ v) text p q e =
    let same : d ∷ v ≡ text = long_is (d ∷ v) text e in
    record { no_dashes = rw (p, q) refl; is_long = rw (p, q) (ap (λ (t : Word). some_long t) same) }
  where
    some_long : Word → Option (Text × Option Text)
    some_long t = Some (name_and_value t)

    long_is : (x y : Word) → long x ≡ long y → x ≡ y
    long_is x y h = cc

pub looks_long : (w text : Word) → look w ≡ long text → LooksLong w text
looks_long [] text e = absurd cc
looks_long (b ∷ []) text e =
    elim (cases_Bool (eqb b 45)) [
      | inl dash ↦ let bad : plain ≡ long text = rw dash at e in absurd cc
      | inr other ↦ let bad : plain ≡ long text = rw other at e in absurd cc
    ]
looks_long (b ∷ c ∷ v) text e =
    elim (cases_Bool (eqb b 45)) [
      | inr other ↦ let bad : plain ≡ long text = rw other at e in absurd cc
      | inl dash ↦ elim (cases_Bool (eqb c 45)) [
        | inr other ↦ let bad : short ≡ long text = rw (dash, other) at e in absurd cc
        | inl second ↦ looks_long_by b c v text dash second (rw (dash, second) at e)
      ]
    ]

pub looks_dashes : (w : Word) → look w ≡ dashes → bytes_eq w (45 ∷ 45 ∷ []) ≡ true
looks_dashes [] e = absurd cc
looks_dashes (b ∷ []) e =
    elim (cases_Bool (eqb b 45)) [
      | inl dash ↦ let bad : plain ≡ dashes = rw dash at e in absurd cc
      | inr other ↦ let bad : plain ≡ dashes = rw other at e in absurd cc
    ]
looks_dashes (b ∷ c ∷ []) e =
    elim (cases_Bool (eqb b 45)) [
      | inr other ↦ let bad : plain ≡ dashes = rw other at e in absurd cc
      | inl dash ↦ elim (cases_Bool (eqb c 45)) [
        | inr other ↦ let bad : short ≡ dashes = rw (dash, other) at e in absurd cc
        | inl second ↦ rw (dash, second) refl
      ]
    ]
looks_dashes (b ∷ c ∷ d ∷ v) e =
    elim (cases_Bool (eqb b 45)) [
      | inr other ↦ let bad : plain ≡ dashes = rw other at e in absurd cc
      | inl dash ↦ elim (cases_Bool (eqb c 45)) [
        | inr other ↦ let bad : short ≡ dashes = rw (dash, other) at e in absurd cc
        | inl second ↦ let bad : long (d ∷ v) ≡ dashes = rw (dash, second) at e in absurd cc
      ]
    ]

-- `--name` of an option
pub long_step : (known : List Text) (rows : List Row) (p : Option (Text × List Text)) (waiting : Waiting) (w text : Word) → look w ≡ long text → HasOption known (name_in text) → has_value text ≡ false
    → walked (rules known) [] (at rows p waiting) w ≡ at (settled_rows (rules known) p rows) (Some (name_in text, [])) (option (name_in text))
unfolding walked
long_step known rows p idle w text e has none = let f = looks_long w text e in rw (f.no_dashes, f.is_long, has.by_long, none) refl
long_step known rows p (option id) w text e has none = let f = looks_long w text e in rw (f.no_dashes, f.is_long, has.by_long, none) refl
long_step known rows p positional w text e has none = let f = looks_long w text e in rw (f.no_dashes, f.is_long, has.by_long, none) refl

pub long_fault : (shape : Text) (known : List Text) (rows : List Row) (p : Option (Text × List Text)) (waiting : Waiting) (w text : Word) → look w ≡ long text → HasOption known (name_in text) → has_value text ≡ false
    → turn_fault (leaf_shape shape known) [] (at rows p waiting) w ≡ settle_fault (rules known) false (held rows p)
long_fault shape known rows p idle w text e has none = let f = looks_long w text e in rw (f.no_dashes, f.is_long, has.by_long, none) (or_nil _)
long_fault shape known rows p (option id) w text e has none = let f = looks_long w text e in rw (f.no_dashes, f.is_long, has.by_long, none) (or_nil _)
long_fault shape known rows p positional w text e has none = let f = looks_long w text e in rw (f.no_dashes, f.is_long, has.by_long, none) (or_nil _)

-- `--name=value` of an option
pub attached_step : (known : List Text) (rows : List Row) (p : Option (Text × List Text)) (waiting : Waiting) (w text : Word) → look w ≡ long text → HasOption known (name_in text) → has_value text ≡ true
    → walked (rules known) [] (at rows p waiting) w ≡ at (used (option_rule (name_in text)) (value_in text ∷ []) (settled_rows (rules known) p rows)) None idle
unfolding walked
attached_step known rows p idle w text e has some = let f = looks_long w text e in rw (f.no_dashes, f.is_long, has.by_long, some) refl
attached_step known rows p (option id) w text e has some = let f = looks_long w text e in rw (f.no_dashes, f.is_long, has.by_long, some) refl
attached_step known rows p positional w text e has some = let f = looks_long w text e in rw (f.no_dashes, f.is_long, has.by_long, some) refl

pub attached_fault : (shape : Text) (known : List Text) (rows : List Row) (p : Option (Text × List Text)) (waiting : Waiting) (w text : Word) → look w ≡ long text → HasOption known (name_in text) → has_value text ≡ true
    → turn_fault (leaf_shape shape known) [] (at rows p waiting) w ≡ or_else (settle_fault (rules known) false (held rows p)) (use_fault false (option_rule (name_in text)) (value_in text ∷ []) (settled_rows (rules known) p rows))
attached_fault shape known rows p idle w text e has some = let f = looks_long w text e in rw (f.no_dashes, f.is_long, has.by_long, some) (or_nil _)
attached_fault shape known rows p (option id) w text e has some = let f = looks_long w text e in rw (f.no_dashes, f.is_long, has.by_long, some) (or_nil _)
attached_fault shape known rows p positional w text e has some = let f = looks_long w text e in rw (f.no_dashes, f.is_long, has.by_long, some) (or_nil _)

-- another long word is refused
pub unknown_fault : (shape : Text) (known : List Text) (rows : List Row) (p : Option (Text × List Text)) (waiting : Waiting) (w text : Word) → look w ≡ long text → arg_by_long (rules known) (name_in text) ≡ None
    → turn_fault (leaf_shape shape known) [] (at rows p waiting) w ≡ [] → ⊥
unknown_fault shape known rows p idle w text e none h = let f = looks_long w text e in let bad = rw (f.no_dashes, f.is_long, none) at h in absurd cc
unknown_fault shape known rows p (option id) w text e none h = let f = looks_long w text e in let bad = rw (f.no_dashes, f.is_long, none) at h in absurd cc
unknown_fault shape known rows p positional w text e none h = let f = looks_long w text e in let bad = rw (f.no_dashes, f.is_long, none) at h in absurd cc

-- ---- `--`, and the names after it

abbrev pub trailing : List Row → Option (Text × List Text) → Waiting → Walk
trailing rows p waiting = record (at rows p waiting) { is_trailing = true }

pub dashes_step : (known : List Text) (rows : List Row) (p : Option (Text × List Text)) (waiting : Waiting) (w : Word) → look w ≡ dashes → walked (rules known) [] (at rows p waiting) w ≡ trailing rows p waiting
unfolding walked
dashes_step known rows p idle w e = rw (looks_dashes w e) refl
dashes_step known rows p (option id) w e = rw (looks_dashes w e) refl
dashes_step known rows p positional w e = rw (looks_dashes w e) refl

pub dashes_fault : (shape : Text) (known : List Text) (rows : List Row) (p : Option (Text × List Text)) (waiting : Waiting) (w : Word) → look w ≡ dashes → turn_fault (leaf_shape shape known) [] (at rows p waiting) w ≡ []
dashes_fault shape known rows p idle w e = rw (looks_dashes w e) refl
dashes_fault shape known rows p (option id) w e = rw (looks_dashes w e) refl
dashes_fault shape known rows p positional w e = rw (looks_dashes w e) refl

pub trailing_step : (known : List Text) (rows : List Row) (p : Option (Text × List Text)) (waiting : Waiting) (w : Word) → walked (rules known) [] (trailing rows p waiting) w ≡ trailing (settled_rows (rules known) p rows) (Some (codes "names", w ∷ [])) positional
unfolding walked
trailing_step known rows p waiting w = rw (names_by_index known, and_right (is_pending names_rule p) false refl) refl

pub trailing_fault : (shape : Text) (known : List Text) (rows : List Row) (p : Option (Text × List Text)) (waiting : Waiting) (w : Word) → turn_fault (leaf_shape shape known) [] (trailing rows p waiting) w ≡ settle_fault (rules known) false (held rows p)
trailing_fault shape known rows p waiting w = rw (names_by_index known, and_right (is_pending names_rule p) false refl) refl

-- ---- other words that begin with `-`

-- what follows the `-` begins with a character
abbrev pub Readable : Word → Type 0
Readable [] = Unit {0}
Readable (b ∷ w) = b ≡ 45 → 0 < length w → (x : ℕ) × (slice_get (chars w) 0 ≡ Some x)

pub record LooksShort (w : Word) : Type 0 where
  pub first : ℕ
  pub rest : Word
  pub no_dashes : bytes_eq w (45 ∷ 45 ∷ []) ≡ false
  pub no_long : long_of w ≡ None
  pub is_short : short_of w ≡ Some (first ∷ rest)
  pub char : ℕ
  pub reads : slice_get (chars (first ∷ rest)) 0 ≡ Some char

pub looks_short : (w : Word) → look w ≡ short → Readable w → LooksShort w
looks_short [] e reads = absurd cc
looks_short (b ∷ []) e reads =
    elim (cases_Bool (eqb b 45)) [
      | inl dash ↦ let bad : plain ≡ short = rw dash at e in absurd cc
      | inr other ↦ let bad : plain ≡ short = rw other at e in absurd cc
    ]
looks_short (b ∷ c ∷ v) e reads =
    elim (cases_Bool (eqb b 45)) [
      | inr other ↦ let bad : plain ≡ short = rw other at e in absurd cc
      | inl dash ↦ elim (cases_Bool (eqb c 45)) [
        | inl second ↦ absurd (not_long v (rw (dash, second) at e))
        | inr other ↦ let char = reads (eqb-true b 45 dash) (omega arith) in record { first = c; rest = v; no_dashes = rw (dash, other) refl; no_long = rw (dash, other) refl; is_short = rw (dash, other) refl; char = char.0; reads = char.1 }
      ]
    ]
  where
    not_long : (u : Word) → look_long u ≡ short → ⊥
    not_long [] h = absurd cc
    not_long (d ∷ u) h = absurd cc

pub short_fault_some : (shape : Text) (known : List Text) (rows : List Row) (p : Option (Text × List Text)) (waiting : Waiting) (w : Word) → look w ≡ short → Readable w → turn_fault (leaf_shape shape known) [] (at rows p waiting) w ≡ [] → ⊥
unfolding flags_fault
short_fault_some shape known rows p idle w e reads h = let f = looks_short w e reads in let bad = rw (f.no_dashes, f.no_long, f.is_short, f.reads, no_short_arg known f.char) at h in absurd cc
short_fault_some shape known rows p (option id) w e reads h = let f = looks_short w e reads in let bad = rw (f.no_dashes, f.no_long, f.is_short, f.reads, no_short_arg known f.char) at h in absurd cc
short_fault_some shape known rows p positional w e reads h = let f = looks_short w e reads in let bad = rw (f.no_dashes, f.no_long, f.is_short, f.reads, no_short_arg known f.char) at h in absurd cc
