-- clap's faults and matches of whole command lines.
use Rattle.std.proofs.Common.{◌≡◌, true, false, not, List, [], ◌∷◌, ◌++◌, map, Option, Some, None, refl, sym, ap, subst, ◌∙◌, append_assoc, inl, inr, codes}
use Rattle.std.specs.Prelude.{find, fold, option_map, ◌&&◌, is_some}
use Rattle.std.specs.List.{list_any, AllByRecursion}
use Rattle.std.specs.Option.{option_map_or}
use Rattle.std.specs.Str.{IsUtf8, bytes_eq}
use Rattle.std.proofs.lemmas.Slice.Eq.{bytes_eq-Decides}
use Rattle.std.proofs.lemmas.List.{append-nil}
use Rattle.std.proofs.lemmas.Bool.{cases_Bool, and_right}
use Rattle.clap.specs.Walk.{answers_to, Rule, Row, Held, Walk, Text, Names, idle, settled, has_row, walked, walk, walk_from, nothing_held, finished, with_default, rows_after}
use Rattle.clap.specs.Simple.{rows_at, Shape, built, names_of, label_of, entered, subcommand_of}
use Rattle.clap.specs.Kinds.{Kinds, or_else}
use Rattle.clap.specs.Takes.{is_given}
use Rattle.clap.specs.Faults.{turn_fault, walk_fault, settle_fault, level_fault, default_fault, defaults_fault, check_fault, entered_fault, fault_of}
use Rattle.clap.proofs.FaultLemmas.{stopped_fault}
use Rattle.command_words.specs.Words.{Word}
use Rattle.command_words.specs.Uses.{Use, given, named, Look, plain, dashes, long, short, look, is_known, with_use, has_value, name_in, value_in, long_use, look_use, value_use, waiting_name, uses_of}
use Rattle.command_words.proofs.Taken.{AreKnown, AreTaken}
use Rattle.command_words.specs.Jobs.{Command, command_named, commands}
use Rattle.command_words.specs.App.{desk_top, desk_app}
use Rattle.command_words.proofs.KindLemmas.{or_nil, or_assoc}
use Rattle.command_words.proofs.Leaf.{option_rule, names_rule, rules, at, leaf_shape, Readable}
use Rattle.command_words.proofs.Texts.{readable}
use Rattle.command_words.proofs.Once.{no_rows_yet, taken_once}
use Rattle.command_words.proofs.Runs.{AreOptions, run_fault, run_rows, all_rows, Meets, meeting}

run_is : (shape : Text) (known : List Text) (w : Walk) (ws : List Word) → or_else (walk_fault (leaf_shape shape known) [] w ws) (settle_fault (rules known) false (fold (walked (rules known) []) w ws).held) ≡ run_fault shape known w ws
unfolding walk_fault run_fault
run_is shape known w [] = refl
run_is shape known w (v ∷ ws) =
    or_assoc (turn_fault (leaf_shape shape known) [] w v) (walk_fault (leaf_shape shape known) [] (walked (rules known) [] w v) ws) (settle_fault (rules known) false (fold (walked (rules known) []) w (v ∷ ws)).held)
    ∙ ap (or_else (turn_fault (leaf_shape shape known) [] w v)) (run_is shape known (walked (rules known) [] w v) ws)

rows_are : (known : List Text) (w : Walk) (ws : List Word) → (settled (rules known) (fold (walked (rules known) []) w ws).held).rows ≡ run_rows known w ws
unfolding run_rows
rows_are known w [] = refl
rows_are known w (v ∷ ws) = rows_are known (walked (rules known) [] w v) ws

-- ---- no argument has a default or is required

no_default : (rows : List Row) (a : Rule) → a.defaults ≡ [] → (default_fault rows a ≡ []) × (with_default rows a ≡ rows)
no_default rows a e = elim (cases_Bool (has_row a.id rows)) [ inl has ↦ rw has (refl, refl) | inr not_there ↦ rw (not_there, e) (refl, refl) ]

defaults_none : (rows : List Row) (known : List Text) → defaults_fault rows (rules known) ≡ []
unfolding defaults_fault
defaults_none rows [] = let d = no_default rows names_rule refl in rw d.0 refl
defaults_none rows (o ∷ known) = let d = no_default rows (option_rule o) refl in rw (d.0, d.1) (defaults_none rows known)

finished_rows : (rows : List Row) (known : List Text) → fold with_default rows (rules known) ≡ rows
finished_rows rows [] = (no_default rows names_rule refl).1
finished_rows rows (o ∷ known) = ap (λ (r : List Row). fold with_default r (rules known)) (no_default rows (option_rule o) refl).1 ∙ finished_rows rows known

none_required : (rows : List Row) (known : List Text) → list_any (λ a. a.required && not (is_given a.id rows)) (rules known) ≡ false
none_required rows [] = refl
none_required rows (o ∷ known) = none_required rows known

pub leaf_level : (shape : Text) (known : List Text) (ws : List Word) → level_fault (leaf_shape shape known) [] nothing_held ws false [] ≡ run_fault shape known (at [] None idle) ws
leaf_level shape known ws =
    let end = (walk (rules known) [] nothing_held ws).held in
    let check : check_fault (leaf_shape shape known) (finished (rules known) end) false ≡ [] = rw (none_required (finished (rules known) end) known) refl in
    let later : or_else (settle_fault (rules known) false end) (or_else (defaults_fault (settled (rules known) end).rows (rules known)) (check_fault (leaf_shape shape known) (finished (rules known) end) false)) ≡ settle_fault (rules known) false end =
    ap (λ (k : Kinds). or_else (settle_fault (rules known) false end) k) (ap (λ (d : Kinds). or_else d (check_fault (leaf_shape shape known) (finished (rules known) end) false)) (defaults_none (settled (rules known) end).rows known) ∙ check) ∙ or_nil (settle_fault (rules known) false end) in
    ap (or_else (walk_fault (leaf_shape shape known) [] (walk_from nothing_held) ws)) later ∙ run_is shape known (walk_from nothing_held) ws

pub leaf_rows : (known : List Text) (ws : List Word) → rows_after (rules known) [] ws ≡ run_rows known (at [] None idle) ws
leaf_rows known ws = finished_rows (settled (rules known) (walk (rules known) [] nothing_held ws).held).rows known ∙ rows_are known (walk_from nothing_held) ws

-- clap's faults of a command's words are those of the uses that they are, and its matches are theirs
pub leaf_meets : (shape : Text) (known : List Text) (ws : List Word) → AllByRecursion Readable ws → Meets known [] [] (uses_of known None ws) (level_fault (leaf_shape shape known) [] nothing_held ws false []) (rows_after (rules known) [] ws)
leaf_meets shape known ws readable = rw (leaf_level shape known ws, leaf_rows known ws) ((meeting shape known ws readable).free [] None idle tt)

-- ---- the command lines of a program with subcommands

-- once a subcommand was met, the other words are its
stays : (c : List Rule) (names : Names) (w : Walk) (n : Text) (pre ws : List Text) → w.stopped ≡ Some (n, pre) → (fold (walked c names) w ws).stopped ≡ Some (n, pre ++ ws)
unfolding walked
stays c names w n pre [] e = e ∙ ap (λ (t : List Text). some_stop n t) (sym (append-nil pre))
  where
    some_stop : Text → List Text → Option (Text × List Text)
    some_stop m t = Some (m, t)
stays c names w n pre (v ∷ ws) e =
    let step : (walked c names w v).stopped ≡ Some (n, pre ++ v ∷ []) = rw e refl in
    stays c names (walked c names w v) n (pre ++ v ∷ []) ws step ∙ ap (λ (t : List Text). some_stop n t) (append_assoc pre (v ∷ []) ws)
  where
    some_stop : Text → List Text → Option (Text × List Text)
    some_stop m t = Some (m, t)

abbrev pub built_shape : Command → Shape
built_shape c = leaf_shape c.word c.options

abbrev pub built_top : Shape
built_top = record desk_top { is_built = true }

abbrev pub desk_names : Names
desk_names = names_of (built desk_app)

abbrev pub plain_names : List Command → Names
plain_names cs = map (λ c. (c.word, [])) cs

name_met : (cs : List Command) (word : Text) (c : Command) → command_named cs word ≡ Some c → find (answers_to word) (plain_names cs) ≡ Some (word, [])
name_met [] word c e = absurd cc
name_met (x ∷ cs) word c e =
    elim (cases_Bool (bytes_eq x.word word)) [
      | inl same ↦ rw same (ap (λ (n : Text). some_name n) ((bytes_eq-Decides x.word word).0 same))
      | inr other ↦ rw other (name_met cs word c (rw other at e))
    ]
  where
    some_name : Text → Option (Text × List Text)
    some_name n = Some (n, [])

shape_met : (cs : List Command) (word : Text) (c : Command) → command_named cs word ≡ Some c → find (λ s. answers_to word (label_of s)) (map built_shape cs) ≡ Some (built_shape c)
shape_met [] word c e = absurd cc
shape_met (x ∷ cs) word c e =
    elim (cases_Bool (bytes_eq x.word word)) [
      | inl same ↦ let is : found x ≡ Some c = rw same at e in rw same (ap (option_map built_shape) is)
      | inr other ↦ rw other (shape_met cs word c (rw other at e))
    ]
  where
    found : Command → Option Command
    found y = Some y

stop_is : (word : Text) (ws : List Text) (c : Command) → command_named commands word ≡ Some c → (walk [] desk_names nothing_held (word ∷ ws)).stopped ≡ Some (word, ws)
unfolding walked
stop_is word ws c e =
    let met = name_met commands word c e in
    let first : (walked [] desk_names (walk_from nothing_held) word).stopped ≡ Some (word, []) = rw met refl in
    stays [] desk_names (walked [] desk_names (walk_from nothing_held) word) word [] ws first

stays_held : (c : List Rule) (names : Names) (w : Walk) (p : Text × List Text) (ws : List Text) → w.stopped ≡ Some p → (fold (walked c names) w ws).held ≡ w.held
unfolding walked
stays_held c names w p [] e = refl
stays_held c names w p (v ∷ ws) e =
    let step : (walked c names w v).stopped ≡ Some (p.0, p.1 ++ v ∷ []) = rw e refl in
    let same : (walked c names w v).held ≡ w.held = rw e refl in
    stays_held c names (walked c names w v) (p.0, p.1 ++ v ∷ []) ws step ∙ same

first_walk : (word : Text) (c : Command) → command_named commands word ≡ Some c → walked [] desk_names (walk_from nothing_held) word ≡ record (walk_from nothing_held) { stopped = Some (word, []) }
unfolding walked
first_walk word c e = let met = name_met commands word c e in rw met refl

first_fault : (word : Text) (c : Command) → command_named commands word ≡ Some c → turn_fault built_top desk_names (walk_from nothing_held) word ≡ []
first_fault word c e = let met = name_met commands word c e in rw (met, and_right (bytes_eq word (codes "help")) false refl) refl

top_walk : (word : Text) (ws : List Text) (c : Command) → command_named commands word ≡ Some c → walk_fault built_top desk_names (walk_from nothing_held) (word ∷ ws) ≡ []
unfolding walk_fault
top_walk word ws c e =
    ap (λ (k : Kinds). or_else k (walk_fault built_top desk_names (walked [] desk_names (walk_from nothing_held) word) ws)) (first_fault word c e)
    ∙ ap (λ (w : Walk). walk_fault built_top desk_names w ws) (first_walk word c e) ∙ stopped_fault built_top desk_names (walk_from nothing_held) (word, []) ws

top_held : (word : Text) (ws : List Text) (c : Command) → command_named commands word ≡ Some c → (walk [] desk_names nothing_held (word ∷ ws)).held ≡ nothing_held
top_held word ws c e =
    ap (λ (w : Walk). (fold (walked [] desk_names) w ws).held) (first_walk word c e) ∙ stays_held [] desk_names (record (walk_from nothing_held) { stopped = Some (word, []) }) (word, []) ws refl

-- what is checked after a walk that ended with these matches
abbrev after_walk : Held → Kinds
after_walk h = or_else (settle_fault [] false h) (or_else (defaults_fault (settled [] h).rows []) (check_fault built_top (finished [] h) true))

nothing_after : after_walk nothing_held ≡ []
unfolding defaults_fault
nothing_after = refl

top_level : (word : Text) (ws : List Text) (c : Command) (below : Kinds) → command_named commands word ≡ Some c → level_fault built_top desk_names nothing_held (word ∷ ws) true below ≡ below
top_level word ws c below e =
    let end = (walk [] desk_names nothing_held (word ∷ ws)).held in
    ap (λ (k : Kinds). or_else k (or_else below (after_walk end))) (top_walk word ws c e) ∙ ap (λ (h : Held). or_else below (after_walk h)) (top_held word ws c e) ∙ ap (or_else below) nothing_after ∙ or_nil below

abbrev level_at : Text → List Text → Option (Text × List Text) → Kinds
level_at word ws stop = level_fault built_top desk_names nothing_held (word ∷ ws) (is_some (entered (built desk_app) stop)) (entered_fault (built desk_app) stop)

level_with : (word : Text) (ws : List Text) (s : Option Shape) → Kinds
level_with word ws s = level_fault built_top desk_names nothing_held (word ∷ ws) (is_some (option_map (λ x. rows_at x ws) s)) (option_map_or (λ x. level_fault x [] nothing_held ws false []) s [])

-- a known command's faults are those of its own words
pub command_fault : (word : Text) (ws : List Text) (c : Command) → command_named commands word ≡ Some c → fault_of desk_app (word ∷ ws) ≡ level_fault (built_shape c) [] nothing_held ws false []
unfolding level_with
command_fault word ws c e =
    let at_stop : fault_of desk_app (word ∷ ws) ≡ level_at word ws (Some (word, ws)) = ap (level_at word ws) (stop_is word ws c e) in
    let at_shape : level_with word ws (find (λ s. answers_to word (label_of s)) (map built_shape commands)) ≡ level_with word ws (Some (built_shape c)) = ap (level_with word ws) (shape_met commands word c e) in
    at_stop ∙ at_shape ∙ top_level word ws c (level_fault (built_shape c) [] nothing_held ws false []) e

-- and its matches are its own
pub command_rows : (word : Text) (ws : List Text) (c : Command) → command_named commands word ≡ Some c → subcommand_of desk_app (word ∷ ws) ≡ Some (c.word, rows_after (rules c.options) [] ws)
command_rows word ws c e =
    let at_stop : subcommand_of desk_app (word ∷ ws) ≡ entered (built desk_app) (Some (word, ws)) = ap (entered (built desk_app)) (stop_is word ws c e) in
    let at_shape = ap (option_map (λ x. rows_at x ws)) (shape_met commands word c e) in
    at_stop ∙ at_shape

-- clap refuses exactly the words that are no uses, or uses that it doesn't take; else its matches are those of the uses
pub clap_meets : (word : Text) (ws : List Text) (c : Command) → command_named commands word ≡ Some c → AllByRecursion Readable ws
    → Meets c.options [] [] (uses_of c.options None ws) (fault_of desk_app (word ∷ ws)) (rows_after (rules c.options) [] ws)
clap_meets word ws c e readable = rw (command_fault word ws c e) (leaf_meets c.word c.options ws readable)

-- ---- what uses are read is the command's

use_known : (known : List Text) (u : Use) (o : Option (List Use)) (us : List Use) → ((vs : List Use) → o ≡ Some vs → AreKnown known vs) → AreKnown known (u ∷ []) → with_use u o ≡ Some us → AreKnown known us
use_known known u None us rest is e = absurd cc
use_known known (named w) (Some vs) us rest is e = let same : named w ∷ vs ≡ us = cc in subst (AreKnown known) same (rest vs refl)
use_known known (given n v) (Some vs) us rest is e = let same : given n v ∷ vs ≡ us = cc in subst (AreKnown known) same (is.0, rest vs refl)

names_known : (known : List Text) (ws : List Word) → AreKnown known (map named ws)
names_known known [] = tt
names_known known (w ∷ ws) = names_known known ws

long_known : (known : List Text) (text : Word) (rest waiting : Option (List Use)) (us : List Use) → ((vs : List Use) → rest ≡ Some vs → AreKnown known vs) → (is_known known (name_in text) ≡ true → (vs : List Use) → waiting ≡ Some vs → AreKnown known vs) → long_use known text rest waiting ≡ Some us → AreKnown known us
long_known known text rest waiting us r w e =
    elim (cases_Bool (is_known known (name_in text))) [
      | inr other ↦ let bad : ◌≡◌ {A = Option (List Use)} None (Some us) = rw other at e in absurd cc
      | inl is ↦ elim (cases_Bool (has_value text)) [
        | inl attached ↦ use_known known (given (name_in text) (value_in text)) rest us r (is, tt) (rw (is, attached) at e)
        | inr none ↦ w is us (rw (is, none) at e)
      ]
    ]

look_known : (known : List Text) (l : Look) (w : Word) (ws : List Word) (rest waiting : Option (List Use)) (us : List Use) → ((vs : List Use) → rest ≡ Some vs → AreKnown known vs) → (is_known known (waiting_name l) ≡ true → (vs : List Use) → waiting ≡ Some vs → AreKnown known vs) → look_use known l w ws rest waiting ≡ Some us → AreKnown known us
look_known known plain w ws rest waiting us r q e = use_known known (named w) rest us r tt e
look_known known dashes w ws rest waiting us r q e = let same : map named ws ≡ us = cc in subst (AreKnown known) same (names_known known ws)
look_known known (long text) w ws rest waiting us r q e = long_known known text rest waiting us r q e
look_known known short w ws rest waiting us r q e = absurd cc

value_known : (known : List Text) (name : Word) (l : Look) (w : Word) (rest : Option (List Use)) (us : List Use) → is_known known name ≡ true → ((vs : List Use) → rest ≡ Some vs → AreKnown known vs) → value_use name l w rest ≡ Some us → AreKnown known us
value_known known name plain w rest us is r e = use_known known (given name w) rest us r (is, tt) e
value_known known name dashes w rest us is r e = absurd cc
value_known known name (long text) w rest us is r e = absurd cc
value_known known name short w rest us is r e = absurd cc

abbrev IsKnownMode : List Text → Option Word → Type 0
IsKnownMode known None = Unit {0}
IsKnownMode known (Some name) = is_known known name ≡ true

pub uses_known : (known : List Text) (ws : List Word) (mode : Option Word) (us : List Use) → IsKnownMode known mode → uses_of known mode ws ≡ Some us → AreKnown known us
unfolding uses_of
uses_known known [] None us is e = let same : [] ≡ us = cc in subst (AreKnown known) same tt
uses_known known [] (Some name) us is e = absurd cc
uses_known known (w ∷ ws) None us is e = look_known known (look w) w ws (uses_of known None ws) (uses_of known (Some (waiting_name (look w))) ws) us (λ vs. uses_known known ws None vs tt) (λ k vs. uses_known known ws (Some (waiting_name (look w))) vs k) e
uses_known known (w ∷ ws) (Some name) us is e = value_known known name (look w) w (uses_of known None ws) us is (λ vs. uses_known known ws None vs tt) e

-- ---- clap takes exactly the words that are uses with each option at most once

-- no option of a command has the name of the names' own entry
pub options_are : (cs : List Command) (word : Text) (c : Command) → AllByRecursion (λ x. AreOptions x.options) cs → command_named cs word ≡ Some c → AreOptions c.options
options_are [] word c all e = absurd cc
options_are (x ∷ cs) word c all e =
    elim (cases_Bool (bytes_eq x.word word)) [
      | inl same ↦ let is : some_command x ≡ Some c = rw same at e in let one : x ≡ c = cc in subst (λ (y : Command). AreOptions y.options) one all.0
      | inr other ↦ options_are cs word c all.1 (rw other at e)
    ]
  where
    some_command : Command → Option Command
    some_command y = Some y

pub options_fit : AllByRecursion (λ x. AreOptions x.options) commands
options_fit = ((refl, (refl, tt)), (tt, (tt, ((refl, (refl, (refl, tt))), ((refl, (refl, (refl, tt))), (tt, ((refl, (refl, tt)), (tt, (tt, (tt, (tt, (tt, tt))))))))))))

pub clap_takes : (word : Text) (ws : List Text) (c : Command) (us : List Use) → command_named commands word ≡ Some c → AllByRecursion Readable ws → AreTaken c.options ws us → fault_of desk_app (word ∷ ws) ≡ []
clap_takes word ws c us e readable taken =
    let m = subst (λ (o : Option (List Use)). Meets c.options [] [] o (fault_of desk_app (word ∷ ws)) (rows_after (rules c.options) [] ws)) taken.uses (clap_meets word ws c e readable) in
    let t = taken_once c.options us [] [] (options_are commands word c options_fit e) (uses_known c.options ws None us tt taken.uses) (no_rows_yet c.options) in
    m.0 ∙ t.0 taken.once

-- and nothing else
taken_by : (word : Text) (ws : List Text) (c : Command) (o : Option (List Use)) → uses_of c.options None ws ≡ o → Meets c.options [] [] o (fault_of desk_app (word ∷ ws)) (rows_after (rules c.options) [] ws) → AreOptions c.options → fault_of desk_app (word ∷ ws) ≡ [] → (us : List Use) × AreTaken c.options ws us × (rows_after (rules c.options) [] ws ≡ all_rows c.options [] us)
taken_by word ws c (Some us) is m options none =
    let t = taken_once c.options us [] [] options (uses_known c.options ws None us tt is) (no_rows_yet c.options) in
    (us, record { uses = is; once = t.1 (sym m.0 ∙ none) }, m.1)
taken_by word ws c None is m options none = absurd (m none)

pub clap_takes_only : (word : Text) (ws : List Text) (c : Command) → command_named commands word ≡ Some c → AllByRecursion Readable ws → fault_of desk_app (word ∷ ws) ≡ [] → (us : List Use) × AreTaken c.options ws us × (rows_after (rules c.options) [] ws ≡ all_rows c.options [] us)
clap_takes_only word ws c e readable none = taken_by word ws c (uses_of c.options None ws) refl (clap_meets word ws c e readable) (options_are commands word c options_fit e) none

pub texts_readable : (ws : List Text) → AllByRecursion IsUtf8 ws → AllByRecursion Readable ws
texts_readable [] texts = tt
texts_readable (w ∷ ws) texts = (readable w texts.0, texts_readable ws texts.1)

-- as the contract says it
pub takes_these : (word : Text) (ws : List Text) (c : Command) (us : List Use) → command_named commands word ≡ Some c → AllByRecursion IsUtf8 ws → AreTaken c.options ws us → fault_of desk_app (word ∷ ws) ≡ []
takes_these word ws c us e texts taken = clap_takes word ws c us e (texts_readable ws texts) taken
