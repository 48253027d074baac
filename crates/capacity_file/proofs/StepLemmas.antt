-- What the lines have stated, one line more.
use Rattle.std.proofs.Common.{◌≡◌, ◌≢◌, ℕ, suc, List, [], ◌∷◌, ◌++◌, drop, Option, Some, None, refl, sym, ◌∙◌, arith, inl, inr, append_assoc}
use Rattle.std.proofs.lemmas.Bool.{cases_lt}
use Rattle.std.proofs.lemmas.Option.{same_Some}
use Rattle.season_days.specs.declared.declaration.Rule.{Rule}
use Rattle.capacity_file.specs.Entries.{word_of, IsEmpty, States}
use Rattle.capacity_file.specs.Lines.{LineStates, IsBad, IsSpoiled, IsCleanBefore}
use Rattle.capacity_file.specs.Declares.{AreRules}
use Rattle.capacity_file.specs.Readings.{Unstated, Known, KnownFlex, Collected}
use Rattle.capacity_file.specs.declared.draft.FlexLine.{FlexLine}
use Rattle.capacity_file.specs.declared.draft.Singles.{Singles}
use Rattle.capacity_file.specs.declared.entry.Entry.{Entry}
use Rattle.capacity_file.specs.declared.entry.Entry.TheVariants.{Airport, Season, Step, Ground, Share, Refuse, Night, Cap}
use Rattle.capacity_file.specs.declared.entry.Word.{Word}
use Rattle.capacity_file.specs.declared.entry.Word.TheVariants.{Airport as airport_word, Season as season_word, Step as step_word, Flex as flex_word, Ground as ground_word, Share as share_word, Refuse as refuse_word, Night as night_word, Cap as cap_word}
use Rattle.capacity_file.proofs.SameLemmas.{empty_states_nothing}
use Rattle.capacity_file.proofs.LinesLemmas.{next_at, stated_words, bad_states_nothing}

-- ---- one line

-- the line of the next number
abbrev pub IsNext : List (List ℕ) → ℕ → List ℕ → Type 0
IsNext lines count line = drop count lines ≡ line ∷ drop (suc count) lines

pub stated_next : (lines : List (List ℕ)) (count : ℕ) (line : List ℕ) (entry : Entry) → IsNext lines count line → States line entry → LineStates lines (suc count) entry
stated_next lines count line entry next states = record { line = line; stands = next_at lines count line (drop (suc count) lines) next; states = states }

pub states_next : (lines : List (List ℕ)) (count : ℕ) (line : List ℕ) (entry : Entry) → IsNext lines count line → LineStates lines (suc count) entry → States line entry
states_next lines count line entry next says =
    let same : says.line ≡ line = same_Some says.line line (sym says.stands ∙ next_at lines count line (drop (suc count) lines) next) in
    rw same at says.states

-- ---- what is known after one more line

pub unstated_next : (lines : List (List ℕ)) (count : ℕ) (word : Word) → Unstated lines count word → ((entry : Entry) → LineStates lines (suc count) entry → word_of entry ≢ word) → Unstated lines (suc count) word
unstated_next lines count word before here = λ number entry le says.
    elim (cases_lt number (suc count)) [
      | inl lt ↦ before number entry (omega arith) says
      | inr ge ↦ let same : number ≡ suc count = omega arith in here entry (rw same at says)
    ]

pub known_next : {X : Type 0} (lines : List (List ℕ)) (count : ℕ) (word : Word) (make : X → Entry) (o : Option X) → Known lines count word make o → ((entry : Entry) → LineStates lines (suc count) entry → word_of entry ≢ word) → Known lines (suc count) word make o
known_next {X} lines count word make None before here = unstated_next lines count word before here
known_next {X} lines count word make (Some x) before here = (before.0, omega (arith, before.1), before.2)

pub flex_next : (lines : List (List ℕ)) (count : ℕ) (o : Option FlexLine) → KnownFlex lines count o → ((entry : Entry) → LineStates lines (suc count) entry → word_of entry ≢ flex_word) → KnownFlex lines (suc count) o
flex_next lines count None before here = unstated_next lines count flex_word before here
flex_next lines count (Some x) before here = (omega (arith, before.0), before.1)

pub clean_next : (lines : List (List ℕ)) (count : ℕ) → IsCleanBefore lines (suc count) → (IsSpoiled lines (suc count) → ⊥) → IsCleanBefore lines (suc (suc count))
clean_next lines count before here = λ earlier lt spoiled.
    elim (cases_lt earlier (suc count)) [
      | inl less ↦ before earlier less spoiled
      | inr ge ↦ let same : earlier ≡ suc count = omega arith in here (rw same at spoiled)
    ]

-- ---- capacity lines

-- a line that states no capacity line
pub caps_skip : (lines : List (List ℕ)) (count : ℕ) (line : List ℕ) (rules : List Rule) → IsNext lines count line → ((rule : Rule) → States line (Cap rule) → ⊥) → ((rest : List Rule) → AreRules (drop count lines) rest → AreRules lines (rules ++ rest))
    → (rest : List Rule) → AreRules (drop (suc count) lines) rest → AreRules lines (rules ++ rest)
caps_skip lines count line rules next none before rest are =
    let here : AreRules (line ∷ drop (suc count) lines) rest = inr (none, are) in
    before rest (rw next here)

caps_add : (lines : List (List ℕ)) (count : ℕ) (line : List ℕ) (rules : List Rule) (rule : Rule) → IsNext lines count line → States line (Cap rule) → ((rest : List Rule) → AreRules (drop count lines) rest → AreRules lines (rules ++ rest))
    → (rest : List Rule) → AreRules (drop (suc count) lines) rest → AreRules lines ((rules ++ rule ∷ []) ++ rest)
caps_add lines count line rules rule next states before rest are =
    let here : AreRules (line ∷ drop (suc count) lines) (rule ∷ rest) = inl (rule, rest, states, refl, are) in
    rw append_assoc (before (rule ∷ rest) (rw next here))

-- ---- a line without a word of its own: an empty one, or a capacity line

abbrev OnlyCaps : List (List ℕ) → ℕ → Type 0
OnlyCaps lines number = (entry : Entry) → LineStates lines number entry → word_of entry ≡ cap_word

others : (lines : List (List ℕ)) (number : ℕ) (word : Word) → OnlyCaps lines number → cap_word ≢ word → (entry : Entry) → LineStates lines number entry → word_of entry ≢ word
others lines number word only differs entry says e = differs (sym (only entry says) ∙ e)

after_caps : (lines : List (List ℕ)) (count : ℕ) (s : Singles) (old rules : List Rule) → Collected lines count s old → (IsBad lines (suc count) → ⊥) → OnlyCaps lines (suc count)
    → ((rest : List Rule) → AreRules (drop (suc count) lines) rest → AreRules lines (rules ++ rest)) → Collected lines (suc count) s rules
after_caps lines count s old rules k good only caps =
    record {
      clean = clean_next lines count k.clean (λ spoiled. elim (spoiled) [ inl bad ↦ good bad | inr again ↦ again.single (only again.entry again.states) ]);
      airport = known_next lines count airport_word (λ x. Airport x) s.airport k.airport (others lines (suc count) airport_word only (λ e. cc));
      season = known_next lines count season_word (λ x. Season x) s.season k.season (others lines (suc count) season_word only (λ e. cc));
      step = known_next lines count step_word (λ x. Step x) s.step k.step (others lines (suc count) step_word only (λ e. cc));
      flex = flex_next lines count s.flex k.flex (others lines (suc count) flex_word only (λ e. cc));
      ground_time = known_next lines count ground_word (λ x. Ground x) s.ground_time k.ground_time (others lines (suc count) ground_word only (λ e. cc));
      share = known_next lines count share_word (λ x. Share x) s.share k.share (others lines (suc count) share_word only (λ e. cc));
      refuse = known_next lines count refuse_word (λ x. Refuse x) s.refuse k.refuse (others lines (suc count) refuse_word only (λ e. cc));
      night = known_next lines count night_word (λ x. Night x) s.night k.night (others lines (suc count) night_word only (λ e. cc));
      caps = caps;
    }

pub after_empty : (lines : List (List ℕ)) (count : ℕ) (line : List ℕ) (s : Singles) (rules : List Rule) → IsNext lines count line → IsEmpty line → Collected lines count s rules → Collected lines (suc count) s rules
after_empty lines count line s rules next empty k =
    let none : (entry : Entry) → LineStates lines (suc count) entry → ⊥ = λ entry says. empty_states_nothing line entry empty (states_next lines count line entry next says) in
    after_caps lines count s rules rules k
    (λ bad. bad.full (let same : bad.line ≡ line = same_Some bad.line line (sym bad.stands ∙ next_at lines count line (drop (suc count) lines) next) in rw same empty))
    (λ entry says. absurd (none entry says))
    (caps_skip lines count line rules next (λ rule states. empty_states_nothing line (Cap rule) empty states) k.caps)

pub after_cap : (lines : List (List ℕ)) (count : ℕ) (line : List ℕ) (s : Singles) (rules : List Rule) (rule : Rule) → IsNext lines count line → States line (Cap rule) → Collected lines count s rules → Collected lines (suc count) s (rules ++ rule ∷ [])
after_cap lines count line s rules rule next states k =
    let says = stated_next lines count line (Cap rule) next states in
    after_caps lines count s rules (rules ++ rule ∷ []) k (λ bad. bad_states_nothing lines (suc count) (Cap rule) bad says)
    (λ entry other. stated_words lines (suc count) entry (Cap rule) other says)
    (caps_add lines count line rules rule next states k.caps)
