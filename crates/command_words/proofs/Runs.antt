-- What clap makes of all the words of a command: its faults and its matches are those of the uses.
use Rattle.std.proofs.Common.{◌≡◌, Bool, true, false, cond, List, [], ◌∷◌, ◌++◌, map, Option, Some, None, refl, sym, ap, ◌∙◌, inl, inr, codes}
use Rattle.std.specs.Prelude.{option_map}
use Rattle.std.specs.List.{AllByRecursion}
use Rattle.std.specs.Option.{option_map_or}
use Rattle.std.specs.Str.{bytes_eq}
use Rattle.std.proofs.lemmas.Bool.{cases_Bool}
use Rattle.std.proofs.lemmas.Slice.Eq.{bytes_eq-Decides}
use Rattle.clap.specs.Walk.{Rule, Row, Walk, Waiting, Text, idle, option, positional, arg_by_id, arg_by_long, settled, settled_rows, used_by_id, used, walked}
use Rattle.clap.specs.Kinds.{Kinds, or_else}
use Rattle.clap.specs.Faults.{turn_fault, settle_fault, use_fault}
use Rattle.command_words.specs.Words.{Word}
use Rattle.command_words.specs.Uses.{Use, given, named, Look, plain, dashes, long, short, look, is_known, with_use, has_value, name_in, value_in, look_use, value_use, waiting_name, uses_of}
use Rattle.command_words.proofs.KindLemmas.{or_parts, or_nil, or_assoc}
use Rattle.command_words.proofs.Leaf.{option_rule, rules, found_option, option_by_long, at, IsFree, held, name_step, leaf_shape, name_fault, HasOption, value_step, value_fault, long_step, long_fault, attached_step, attached_fault, unknown_fault, trailing, dashes_step, dashes_fault, trailing_step, trailing_fault, Readable, short_fault_some}

-- ---- what a use leaves pending, and what settling it does

abbrev pub pending_of : Use → Text × List Text
pending_of (given name value) = (name, value ∷ [])
pending_of (named w) = (codes "names", w ∷ [])

abbrev pub pend : Option Use → Option (Text × List Text)
pend = option_map pending_of

abbrev pub before : Option Use → List Use
before None = []
before (Some u) = u ∷ []

abbrev pub after_use : List Text → List Row → Use → List Row
after_use known rows u = settled_rows (rules known) (Some (pending_of u)) rows

abbrev pub fault_of_use : List Text → List Row → Use → Kinds
fault_of_use known rows u = settle_fault (rules known) false (held rows (Some (pending_of u)))

-- the faults of uses one after the other, and the rows after them
unfoldable pub all_fault : List Text → List Row → List Use → Kinds
all_fault known rows [] = []
all_fault known rows (u ∷ us) = or_else (fault_of_use known rows u) (all_fault known (after_use known rows u) us)

unfoldable pub all_rows : List Text → List Row → List Use → List Row
all_rows known rows [] = rows
all_rows known rows (u ∷ us) = all_rows known (after_use known rows u) us

-- ---- the rest of a walk

unfoldable pub run_fault : Text → List Text → Walk → List Word → Kinds
run_fault shape known w [] = settle_fault (rules known) false w.held
run_fault shape known w (v ∷ ws) = or_else (turn_fault (leaf_shape shape known) [] w v) (run_fault shape known (walked (rules known) [] w v) ws)

unfoldable pub run_rows : List Text → Walk → List Word → List Row
run_rows known w [] = (settled (rules known) w.held).rows
run_rows known w (v ∷ ws) = run_rows known (walked (rules known) [] w v) ws

-- the walk has the faults and the rows of these uses after those before, or a fault where there are none
abbrev pub Meets : List Text → List Row → List Use → Option (List Use) → Kinds → List Row → Type 0
Meets known rows pre (Some us) fault end = (fault ≡ all_fault known rows (pre ++ us)) × (end ≡ all_rows known rows (pre ++ us))
Meets known rows pre None fault end = fault ≡ [] → ⊥

-- what is pending is settled first
settled_first : (known : List Text) (rows : List Row) (pu : Option Use) (pre : List Use) (o : Option (List Use)) (fault : Kinds) (end : List Row)
    → Meets known (settled_rows (rules known) (pend pu) rows) pre o fault end → Meets known rows (before pu ++ pre) o (or_else (settle_fault (rules known) false (held rows (pend pu))) fault) end
unfolding all_fault all_rows
settled_first known rows None pre (Some us) fault end m = m
settled_first known rows (Some u) pre (Some us) fault end m = (ap (or_else (fault_of_use known rows u)) m.0, m.1)
settled_first known rows pu pre None fault end m = λ e. m (or_parts (settle_fault (rules known) false (held rows (pend pu))) fault e).1

-- a use moves from what was read before to what is still read
moved : (known : List Text) (rows : List Row) (pu : Option Use) (u : Use) (o : Option (List Use)) (fault : Kinds) (end : List Row) → Meets known rows (before pu ++ u ∷ []) o fault end → Meets known rows (before pu) (with_use u o) fault end
moved known rows None u (Some us) fault end m = m
moved known rows (Some v) u (Some us) fault end m = m
moved known rows None u None fault end m = m
moved known rows (Some v) u None fault end m = m

-- ---- after `--`

trailing_meets : (shape : Text) (known : List Text) (ws : List Word) (rows : List Row) (pu : Option Use) (waiting : Waiting)
    → Meets known rows (before pu) (Some (map named ws)) (run_fault shape known (trailing rows (pend pu) waiting) ws) (run_rows known (trailing rows (pend pu) waiting) ws)
unfolding run_fault run_rows all_fault all_rows
trailing_meets shape known [] rows None waiting = (refl, refl)
trailing_meets shape known [] rows (Some u) waiting = (sym (or_nil (fault_of_use known rows u)), refl)
trailing_meets shape known (w ∷ ws) rows pu waiting =
    let next = settled_rows (rules known) (pend pu) rows in
    let rest = trailing_meets shape known ws next (Some (named w)) positional in
    let whole = settled_first known rows pu (named w ∷ []) (Some (map named ws)) _ _ rest in
    rw (trailing_step known rows (pend pu) waiting w, trailing_fault shape known rows (pend pu) waiting w) (moved known rows pu (named w) (Some (map named ws)) _ _ whole)

-- an option without its value is a fault, whatever follows
no_value_faults : (known : List Text) (rows : List Row) (name : Word) → HasOption known name → settle_fault (rules known) false (held rows (Some (name, []))) ≡ [] → ⊥
no_value_faults known rows name has e = let bad = rw has.by_id at e in absurd cc

trailing_faults : (shape : Text) (known : List Text) (ws : List Word) (rows : List Row) (p : Option (Text × List Text)) (waiting : Waiting) → (settle_fault (rules known) false (held rows p) ≡ [] → ⊥) → run_fault shape known (trailing rows p waiting) ws ≡ [] → ⊥
unfolding run_fault
trailing_faults shape known [] rows p waiting faults e = faults e
trailing_faults shape known (w ∷ ws) rows p waiting faults e =
    let parts = or_parts _ _ e in
    faults (sym (trailing_fault shape known rows p waiting w) ∙ parts.0)

-- ---- the options by their names

-- no option has the name of the names' own entry
abbrev pub AreOptions : List Text → Type 0
AreOptions known = AllByRecursion (λ o. bytes_eq o (codes "names") ≡ false) known

same_text : (o name : Word) → bytes_eq o name ≡ true → o ≡ name
same_text o name e = (bytes_eq-Decides o name).0 e

found_known : (known : List Text) (name : Word) → is_known known name ≡ true → found_option known name ≡ Some name
found_known [] name e = absurd cc
found_known (o ∷ known) name e =
    elim (cases_Bool (bytes_eq o name)) [
      | inl same ↦ rw same (ap (λ (x : Word). some_word x) (same_text o name same))
      | inr other ↦ rw other (found_known known name (rw other at e))
    ]
  where
    some_word : Word → Option Word
    some_word x = Some x

not_found : (known : List Text) (name : Word) → is_known known name ≡ false → found_option known name ≡ None
not_found [] name e = refl
not_found (o ∷ known) name e =
    elim (cases_Bool (bytes_eq o name)) [
      | inl same ↦ let bad : true ≡ false = rw same at e in absurd cc
      | inr other ↦ rw other (not_found known name (rw other at e))
    ]

by_id_known : (known : List Text) (name : Word) → is_known known name ≡ true → arg_by_id (rules known) name ≡ Some (option_rule name)
by_id_known [] name e = absurd cc
by_id_known (o ∷ known) name e =
    elim (cases_Bool (bytes_eq o name)) [
      | inl same ↦ rw same (ap (λ (x : Word). some_rule x) (same_text o name same))
      | inr other ↦ rw other (by_id_known known name (rw other at e))
    ]
  where
    some_rule : Word → Option Rule
    some_rule x = Some (option_rule x)

pub has_option : (known : List Text) (name : Word) → is_known known name ≡ true → HasOption known name
has_option known name e = record { by_long = option_by_long known name ∙ ap (option_map option_rule) (found_known known name e); by_id = by_id_known known name e }

pub unknown_option : (known : List Text) (name : Word) → is_known known name ≡ false → arg_by_long (rules known) name ≡ None
unknown_option known name e = option_by_long known name ∙ ap (option_map option_rule) (not_found known name e)

-- ---- before `--`

-- the walk may go on in two ways: no option awaits its value, or one does
pub record Meeting (shape : Text) (known : List Text) (ws : List Word) : Type 0 where
  pub free : (rows : List Row) (pu : Option Use) (waiting : Waiting) → IsFree waiting → Meets known rows (before pu) (uses_of known None ws) (run_fault shape known (at rows (pend pu) waiting) ws) (run_rows known (at rows (pend pu) waiting) ws)
  pub waits : (rows : List Row) (name : Word) → HasOption known name → Meets known rows [] (uses_of known (Some name) ws) (run_fault shape known (at rows (Some (name, [])) (option name)) ws) (run_rows known (at rows (Some (name, [])) (option name)) ws)

-- a use that is settled at once
used_then : (shape : Text) (known : List Text) (rows : List Row) (name value : Word) → HasOption known name → (o : Option (List Use)) (fault : Kinds) (end : List Row)
    → Meets known (used (option_rule name) (value ∷ []) rows) [] o fault end → Meets known rows (given name value ∷ []) o (or_else (use_fault false (option_rule name) (value ∷ []) rows) fault) end
unfolding all_fault all_rows
used_then shape known rows name value has (Some us) fault end m =
    let u : Use = given name value in
    let next = used (option_rule name) (value ∷ []) rows in
    let faults = use_fault false (option_rule name) (value ∷ []) rows in
    let after : after_use known rows u ≡ next = ap (λ (a : Option Rule). used_by_id a (value ∷ []) rows) has.by_id in
    let fault_is : fault_of_use known rows u ≡ faults = ap (λ (a : Option Rule). option_map_or (λ r. use_fault false r (value ∷ []) rows) a []) has.by_id in
    (ap (or_else faults) m.0 ∙ ap (λ (k : Kinds). or_else k (all_fault known next us)) (sym fault_is) ∙ ap (λ (r : List Row). or_else (fault_of_use known rows u) (all_fault known r us)) (sym after), m.1 ∙ ap (λ (r : List Row). all_rows known r us) (sym after))
used_then shape known rows name value has None fault end m = λ e. m (or_parts (use_fault false (option_rule name) (value ∷ []) rows) fault e).1

abbrev FreeStep : Text → List Text → Word → List Word → List Row → Option Use → Waiting → Look → Type 0
FreeStep shape known w ws rows pu waiting l = Meets known rows (before pu) (look_use known l w ws (uses_of known None ws) (uses_of known (Some (waiting_name l)) ws))
    (or_else (turn_fault (leaf_shape shape known) [] (at rows (pend pu) waiting) w) (run_fault shape known (walked (rules known) [] (at rows (pend pu) waiting) w) ws)) (run_rows known (walked (rules known) [] (at rows (pend pu) waiting) w) ws)

long_use_step : (shape : Text) (known : List Text) (w : Word) (ws : List Word) (rows : List Row) (pu : Option Use) (waiting : Waiting) (text : Word) → IsFree waiting → Meeting shape known ws → look w ≡ long text → (k v : Bool) → is_known known (name_in text) ≡ k → has_value text ≡ v
    → Meets known rows (before pu) (cond k (cond v (with_use (given (name_in text) (value_in text)) (uses_of known None ws)) (uses_of known (Some (name_in text)) ws)) None)
    (or_else (turn_fault (leaf_shape shape known) [] (at rows (pend pu) waiting) w) (run_fault shape known (walked (rules known) [] (at rows (pend pu) waiting) w) ws)) (run_rows known (walked (rules known) [] (at rows (pend pu) waiting) w) ws)
long_use_step shape known w ws rows pu waiting text free rest e false v is val = λ h. (unknown_fault shape known rows (pend pu) waiting w text e (unknown_option known (name_in text) is)) (or_parts _ _ h).0
long_use_step shape known w ws rows pu waiting text free rest e true false is val =
    let has = has_option known (name_in text) is in
    let next = settled_rows (rules known) (pend pu) rows in
    let m = rest.waits next (name_in text) has in
    let whole = settled_first known rows pu [] (uses_of known (Some (name_in text)) ws) _ _ m in
    rw (long_step known rows (pend pu) waiting w text e has val, long_fault shape known rows (pend pu) waiting w text e has val) (no_more known rows pu (uses_of known (Some (name_in text)) ws) _ _ whole)
  where
    no_more : (kn : List Text) (rs : List Row) (q : Option Use) (o : Option (List Use)) (fault : Kinds) (end : List Row) → Meets kn rs (before q ++ []) o fault end → Meets kn rs (before q) o fault end
    no_more kn rs None o fault end m = m
    no_more kn rs (Some u) o fault end m = m
long_use_step shape known w ws rows pu waiting text free rest e true true is val =
    let has = has_option known (name_in text) is in
    let next = settled_rows (rules known) (pend pu) rows in
    let u : Use = given (name_in text) (value_in text) in
    let m = rest.free (used (option_rule (name_in text)) (value_in text ∷ []) next) None idle tt in
    let with_this = used_then shape known next (name_in text) (value_in text) has (uses_of known None ws) _ _ m in
    let whole = settled_first known rows pu (u ∷ []) (uses_of known None ws) _ _ with_this in
    let fault = attached_fault shape known rows (pend pu) waiting w text e has val in
    rw (attached_step known rows (pend pu) waiting w text e has val, fault, or_assoc (settle_fault (rules known) false (held rows (pend pu))) (use_fault false (option_rule (name_in text)) (value_in text ∷ []) next) (run_fault shape known (at (used (option_rule (name_in text)) (value_in text ∷ []) next) None idle) ws))
    (moved known rows pu u (uses_of known None ws) _ _ whole)

free_step : (shape : Text) (known : List Text) (w : Word) (ws : List Word) (rows : List Row) (pu : Option Use) (waiting : Waiting) → IsFree waiting → Readable w → Meeting shape known ws → (l : Look) → look w ≡ l → FreeStep shape known w ws rows pu waiting l
free_step shape known w ws rows pu waiting free reads rest plain e =
    let next = settled_rows (rules known) (pend pu) rows in
    let m = rest.free next (Some (named w)) positional tt in
    let whole = settled_first known rows pu (named w ∷ []) (uses_of known None ws) _ _ m in
    rw (name_step known rows (pend pu) waiting w free e, name_fault shape known rows (pend pu) waiting w free e) (moved known rows pu (named w) (uses_of known None ws) _ _ whole)
free_step shape known w ws rows pu waiting free reads rest dashes e =
    rw (dashes_step known rows (pend pu) waiting w e, dashes_fault shape known rows (pend pu) waiting w e) (trailing_meets shape known ws rows pu waiting)
free_step shape known w ws rows pu waiting free reads rest (long text) e =
    long_use_step shape known w ws rows pu waiting text free rest e (is_known known (name_in text)) (has_value text) refl refl
free_step shape known w ws rows pu waiting free reads rest short e =
    λ h. short_fault_some shape known rows (pend pu) waiting w e reads (or_parts _ _ h).0

abbrev WaitStep : Text → List Text → Word → List Word → List Row → Word → Look → Type 0
WaitStep shape known w ws rows name l = Meets known rows [] (value_use name l w (uses_of known None ws))
    (or_else (turn_fault (leaf_shape shape known) [] (at rows (Some (name, [])) (option name)) w) (run_fault shape known (walked (rules known) [] (at rows (Some (name, [])) (option name)) w) ws)) (run_rows known (walked (rules known) [] (at rows (Some (name, [])) (option name)) w) ws)

wait_step : (shape : Text) (known : List Text) (w : Word) (ws : List Word) (rows : List Row) (name : Word) → HasOption known name → Readable w → Meeting shape known ws → (l : Look) → look w ≡ l → WaitStep shape known w ws rows name l
wait_step shape known w ws rows name has reads rest plain e =
    let m = rest.free rows (Some (given name w)) idle tt in
    rw (value_step known rows name w has e, value_fault shape known rows name w has e) (moved known rows None (given name w) (uses_of known None ws) _ _ m)
wait_step shape known w ws rows name has reads rest dashes e =
    rw (dashes_step known rows (Some (name, [])) (option name) w e, dashes_fault shape known rows (Some (name, [])) (option name) w e)
    (trailing_faults shape known ws rows (Some (name, [])) (option name) (no_value_faults known rows name has))
wait_step shape known w ws rows name has reads rest (long text) e =
    λ h. long_word_faults (is_known known (name_in text)) (has_value text) refl refl (or_parts _ _ h).0
  where
    long_word_faults : (k v : Bool) → is_known known (name_in text) ≡ k → has_value text ≡ v → turn_fault (leaf_shape shape known) [] (at rows (Some (name, [])) (option name)) w ≡ [] → ⊥
    long_word_faults false v is val h = unknown_fault shape known rows (Some (name, [])) (option name) w text e (unknown_option known (name_in text) is) h
    long_word_faults true false is val h = no_value_faults known rows name has (sym (long_fault shape known rows (Some (name, [])) (option name) w text e (has_option known (name_in text) is) val) ∙ h)
    long_word_faults true true is val h = no_value_faults known rows name has (or_parts _ _ (sym (attached_fault shape known rows (Some (name, [])) (option name) w text e (has_option known (name_in text) is) val) ∙ h)).0
wait_step shape known w ws rows name has reads rest short e =
    λ h. short_fault_some shape known rows (Some (name, [])) (option name) w e reads (or_parts _ _ h).0

pub meeting : (shape : Text) (known : List Text) (ws : List Word) → AllByRecursion Readable ws → Meeting shape known ws
unfolding uses_of run_fault run_rows all_fault all_rows
meeting shape known [] readable = record {
  free = λ rows pu waiting is. ended rows pu;
  waits = λ rows name has e. no_value_faults known rows name has e;
}
  where
    ended : (rows : List Row) (pu : Option Use) → (settle_fault (rules known) false (held rows (pend pu)) ≡ all_fault known rows (before pu ++ [])) × (settled_rows (rules known) (pend pu) rows ≡ all_rows known rows (before pu ++ []))
    ended rows None = (refl, refl)
    ended rows (Some u) = (sym (or_nil (fault_of_use known rows u)), refl)
meeting shape known (w ∷ ws) readable =
    let rest = meeting shape known ws readable.1 in
    record {
      free = λ rows pu waiting is. free_step shape known w ws rows pu waiting is readable.0 rest (look w) refl;
      waits = λ rows name has. wait_step shape known w ws rows name has readable.0 rest (look w) refl;
    }
