-- clap refuses words that begin with no command's name.
use Rattle.std.proofs.Common.{◌≡◌, Bool, true, List, [], ◌∷◌, Option, Some, None, refl, subst, inl, inr}
use Rattle.std.specs.Prelude.{find, is_some}
use Rattle.std.specs.Str.{bytes_eq}
use Rattle.std.proofs.lemmas.Bool.{cases_Bool}
use Rattle.std.proofs.lemmas.Slice.Eq.{bytes_eq-Decides}
use Rattle.clap.specs.Walk.{answers_to, Walk, Text, Names, walked, walk, walk_from, nothing_held, settled, finished}
use Rattle.clap.specs.Simple.{Shape, built, entered}
use Rattle.clap.specs.Kinds.{Kinds, or_else}
use Rattle.command_words.proofs.KindLemmas.{or_parts}
use Rattle.clap.specs.Faults.{turn_fault, walk_fault, flags_fault, settle_fault, defaults_fault, check_fault, level_fault, entered_fault, fault_of}
use Rattle.clap.specs.declared.error.kind.ErrorKind.{ErrorKind}
use Rattle.clap.specs.declared.error.kind.ErrorKind.TheVariants as kind
use Rattle.command_words.specs.Uses.{Look, plain, dashes, long, short, look}
use Rattle.command_words.specs.Jobs.{Command, command_named, commands}
use Rattle.command_words.specs.App.{desk_app}
use Rattle.command_words.proofs.Leaf.{Readable, looks_plain, looks_long, looks_short, looks_dashes}
use Rattle.command_words.proofs.Levels.{desk_names, plain_names, built_top}

some_kind : (k : ErrorKind) (ks : Kinds) → k ∷ ks ≡ [] → ⊥
some_kind k ks e = absurd cc

no_name : (cs : List Command) (word : Text) → command_named cs word ≡ None → find (answers_to word) (plain_names cs) ≡ None
no_name [] word e = refl
no_name (x ∷ cs) word e =
    elim (cases_Bool (bytes_eq x.word word)) [
      | inl same ↦ let bad : found x ≡ None = rw same at e in absurd cc
      | inr other ↦ rw other (no_name cs word (rw other at e))
    ]
  where
    found : Command → Option Command
    found y = Some y

-- the first word alone
abbrev start : Walk
start = walk_from nothing_held

abbrev IsRefused : Text → Type 0
IsRefused word = turn_fault built_top desk_names start word ≡ [] → ⊥

plain_refused : (word : Text) → find (answers_to word) desk_names ≡ None → look word ≡ plain → IsRefused word
plain_refused word none e h = let f = looks_plain word e in let bad = rw (none, f.no_dashes, f.no_long, f.no_short) at h in absurd cc

long_refused : (word text : Text) → find (answers_to word) desk_names ≡ None → look word ≡ long text → IsRefused word
long_refused word text none e h = let f = looks_long word text e in let bad = rw (none, f.no_dashes, f.is_long) at h in absurd cc

short_refused : (word : Text) → find (answers_to word) desk_names ≡ None → Readable word → look word ≡ short → IsRefused word
unfolding flags_fault
short_refused word none reads e h = let f = looks_short word e reads in let bad = rw (none, f.no_dashes, f.no_long, f.is_short, f.reads) at h in absurd cc

-- `--`, and what follows it
dashes_is : (word : Text) → look word ≡ dashes → word ≡ 45 ∷ 45 ∷ []
dashes_is word e = (bytes_eq-Decides word (45 ∷ 45 ∷ [])).0 (looks_dashes word e)

abbrev after_dashes : Walk
after_dashes = record start { is_trailing = true }

-- the first step's faults come first
first_turn : (w : Walk) (word : Text) (ws : List Text) → walk_fault built_top desk_names w (word ∷ ws) ≡ [] → turn_fault built_top desk_names w word ≡ []
unfolding walk_fault
first_turn w word ws h = (or_parts (turn_fault built_top desk_names w word) (walk_fault built_top desk_names (walked [] desk_names w word) ws) h).0

later_turns : (w : Walk) (word : Text) (ws : List Text) → walk_fault built_top desk_names w (word ∷ ws) ≡ [] → walk_fault built_top desk_names (walked [] desk_names w word) ws ≡ []
unfolding walk_fault
later_turns w word ws h = (or_parts (turn_fault built_top desk_names w word) (walk_fault built_top desk_names (walked [] desk_names w word) ws) h).1

level_walk : (s : Shape) (names : Names) (ws : List Text) (b : Bool) (below : Kinds) → level_fault s names nothing_held ws b below ≡ [] → walk_fault s names start ws ≡ []
level_walk s names ws b below h =
    let end = (walk s.rules names nothing_held ws).held in
    (or_parts (walk_fault s names start ws) (or_else below (or_else (settle_fault s.rules s.args_override_self end) (or_else (defaults_fault (settled s.rules end).rows s.rules) (check_fault s (finished s.rules end) b)))) h).0

top_walks : (ws : List Text) → fault_of desk_app ws ≡ [] → walk_fault built_top desk_names start ws ≡ []
top_walks ws h =
    let stop = (walk [] desk_names nothing_held ws).stopped in
    level_walk built_top desk_names ws (is_some (entered (built desk_app) stop)) (entered_fault (built desk_app) stop) h

next_refused : (word : Text) → turn_fault built_top desk_names after_dashes word ≡ [] → ⊥
next_refused word h = some_kind kind.UnknownArgument (kind.InvalidSubcommand ∷ []) h

dashes_walked : walked [] desk_names start (45 ∷ 45 ∷ []) ≡ after_dashes
unfolding walked
dashes_walked = refl

two_refused : (word : Text) (ws : List Text) → walk_fault built_top desk_names start ((45 ∷ 45 ∷ []) ∷ word ∷ ws) ≡ [] → ⊥
two_refused word ws h =
    let rest = later_turns start (45 ∷ 45 ∷ []) (word ∷ ws) h in
    let moved : walk_fault built_top desk_names after_dashes (word ∷ ws) ≡ [] = subst (λ (w : Walk). walk_fault built_top desk_names w (word ∷ ws) ≡ []) dashes_walked rest in
    next_refused word (first_turn after_dashes word ws moved)

pub none_refused : fault_of desk_app [] ≡ [] → ⊥
unfolding walk_fault defaults_fault
none_refused h = some_kind kind.MissingSubcommand [] h

alone_refused : fault_of desk_app ((45 ∷ 45 ∷ []) ∷ []) ≡ [] → ⊥
unfolding walk_fault walked defaults_fault
alone_refused h = some_kind kind.MissingSubcommand [] h

dashes_refused : (ws : List Text) → fault_of desk_app ((45 ∷ 45 ∷ []) ∷ ws) ≡ [] → ⊥
dashes_refused [] h = alone_refused h
dashes_refused (w ∷ ws) h = two_refused w ws (top_walks ((45 ∷ 45 ∷ []) ∷ w ∷ ws) h)

by_look : (word : Text) (ws : List Text) (l : Look) → find (answers_to word) desk_names ≡ None → Readable word → look word ≡ l → fault_of desk_app (word ∷ ws) ≡ [] → ⊥
by_look word ws plain none reads e h = plain_refused word none e (first_turn start word ws (top_walks (word ∷ ws) h))
by_look word ws dashes none reads e h = dashes_refused ws (subst (λ (w : Text). fault_of desk_app (w ∷ ws) ≡ []) (dashes_is word e) h)
by_look word ws (long text) none reads e h = long_refused word text none e (first_turn start word ws (top_walks (word ∷ ws) h))
by_look word ws short none reads e h = short_refused word none reads e (first_turn start word ws (top_walks (word ∷ ws) h))

pub unknown_refused : (word : Text) (ws : List Text) → Readable word → command_named commands word ≡ None → fault_of desk_app (word ∷ ws) ≡ [] → ⊥
unknown_refused word ws reads none h = by_look word ws (look word) (no_name commands word none) reads refl h
