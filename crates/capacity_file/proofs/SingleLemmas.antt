-- A line with a word that may stand once, and the lines that are refused.
use Rattle.std.proofs.Common.{◌≡◌, ◌≢◌, ℕ, suc, ◌≤◌, true, List, ◌++◌, drop, Option, Some, None, refl, ◌∙◌, subst, arith, inl, inr}
use Rattle.std.specs.Prelude.{is_some}
use Rattle.season_days.specs.declared.declaration.Rule.{Rule}
use Rattle.capacity_file.specs.Entries.{word_of, IsEmpty, States}
use Rattle.capacity_file.specs.Lines.{LineStates, IsRepeat, IsSpoiled}
use Rattle.capacity_file.specs.Declares.{AreRules}
use Rattle.capacity_file.specs.Faults.{LinesHaveFault}
use Rattle.capacity_file.specs.Readings.{Unstated, Known, KnownFlex, Collected}
use Rattle.capacity_file.specs.Singles.{HasSingle, Sets, AddsEntry}
use Rattle.capacity_file.specs.declared.draft.FlexLine.{FlexLine}
use Rattle.capacity_file.specs.declared.draft.Singles.{Singles}
use Rattle.capacity_file.specs.declared.fault.CapFault.TheVariants.{BadLine, Twice}
use Rattle.capacity_file.specs.declared.entry.Entry.{Entry}
use Rattle.capacity_file.specs.declared.entry.Entry.TheVariants.{Airport, Season, Step, Flex, Ground, Share, Refuse, Night, Cap}
use Rattle.capacity_file.specs.declared.entry.Word.{Word}
use Rattle.capacity_file.specs.declared.entry.Word.TheVariants.{Airport as airport_word, Season as season_word, Step as step_word, Flex as flex_word, Ground as ground_word, Share as share_word, Refuse as refuse_word, Night as night_word, Cap as cap_word}
use Rattle.capacity_file.proofs.SameLemmas.{words_same}
use Rattle.capacity_file.proofs.LinesLemmas.{next_at, stated_words, bad_states_nothing}
use Rattle.capacity_file.proofs.StepLemmas.{IsNext, stated_next, known_next, flex_next, clean_next, caps_skip, after_cap}

-- what stays known of the other words
record Kept (lines : List (List ℕ)) (number : ℕ) (s : Singles) (entry : Entry) : Type 0 where
  pub airport : word_of entry ≢ airport_word → Known lines number airport_word (λ x. Airport x) s.airport
  pub season : word_of entry ≢ season_word → Known lines number season_word (λ x. Season x) s.season
  pub step : word_of entry ≢ step_word → Known lines number step_word (λ x. Step x) s.step
  pub flex : word_of entry ≢ flex_word → KnownFlex lines number s.flex
  pub ground_time : word_of entry ≢ ground_word → Known lines number ground_word (λ x. Ground x) s.ground_time
  pub share : word_of entry ≢ share_word → Known lines number share_word (λ x. Share x) s.share
  pub refuse : word_of entry ≢ refuse_word → Known lines number refuse_word (λ x. Refuse x) s.refuse
  pub night : word_of entry ≢ night_word → Known lines number night_word (λ x. Night x) s.night

differs : (lines : List (List ℕ)) (number : ℕ) (entry : Entry) (word : Word) → LineStates lines number entry → word_of entry ≢ word → (other : Entry) → LineStates lines number other → word_of other ≢ word
differs lines number entry word says ne other stated e = ne (stated_words lines number entry other says stated ∙ e)

kept : (lines : List (List ℕ)) (count : ℕ) (s : Singles) (rules : List Rule) (entry : Entry) → Collected lines count s rules → LineStates lines (suc count) entry → Kept lines (suc count) s entry
kept lines count s rules entry k says =
    record {
      airport = λ ne. known_next lines count airport_word (λ x. Airport x) s.airport k.airport (differs lines (suc count) entry airport_word says ne);
      season = λ ne. known_next lines count season_word (λ x. Season x) s.season k.season (differs lines (suc count) entry season_word says ne);
      step = λ ne. known_next lines count step_word (λ x. Step x) s.step k.step (differs lines (suc count) entry step_word says ne);
      flex = λ ne. flex_next lines count s.flex k.flex (differs lines (suc count) entry flex_word says ne);
      ground_time = λ ne. known_next lines count ground_word (λ x. Ground x) s.ground_time k.ground_time (differs lines (suc count) entry ground_word says ne);
      share = λ ne. known_next lines count share_word (λ x. Share x) s.share k.share (differs lines (suc count) entry share_word says ne);
      refuse = λ ne. known_next lines count refuse_word (λ x. Refuse x) s.refuse k.refuse (differs lines (suc count) entry refuse_word says ne);
      night = λ ne. known_next lines count night_word (λ x. Night x) s.night k.night (differs lines (suc count) entry night_word says ne);
    }

unstated_of : {X : Type 0} (lines : List (List ℕ)) (count : ℕ) (word : Word) (make : X → Entry) (o : Option X) → Known lines count word make o → (is_some o ≡ true → ⊥) → Unstated lines count word
unstated_of {X} lines count word make None known none = known
unstated_of {X} lines count word make (Some x) known none = absurd (none refl)

flex_unstated_of : (lines : List (List ℕ)) (count : ℕ) (o : Option FlexLine) → KnownFlex lines count o → (is_some o ≡ true → ⊥) → Unstated lines count flex_word
flex_unstated_of lines count None known none = known
flex_unstated_of lines count (Some x) known none = absurd (none refl)

-- no line has stated an entry with the word
unstated_word : (lines : List (List ℕ)) (count : ℕ) (s : Singles) (rules : List Rule) (entry : Entry) → Collected lines count s rules → word_of entry ≢ cap_word → (HasSingle s entry → ⊥) → Unstated lines count (word_of entry)
unstated_word lines count s rules (Airport x) k single none = unstated_of lines count airport_word (λ x. Airport x) s.airport k.airport none
unstated_word lines count s rules (Season x) k single none = unstated_of lines count season_word (λ x. Season x) s.season k.season none
unstated_word lines count s rules (Step x) k single none = unstated_of lines count step_word (λ x. Step x) s.step k.step none
unstated_word lines count s rules (Flex x) k single none = flex_unstated_of lines count s.flex k.flex none
unstated_word lines count s rules (Ground x) k single none = unstated_of lines count ground_word (λ x. Ground x) s.ground_time k.ground_time none
unstated_word lines count s rules (Share x) k single none = unstated_of lines count share_word (λ x. Share x) s.share k.share none
unstated_word lines count s rules (Refuse x) k single none = unstated_of lines count refuse_word (λ x. Refuse x) s.refuse k.refuse none
unstated_word lines count s rules (Night x) k single none = unstated_of lines count night_word (λ x. Night x) s.night k.night none
unstated_word lines count s rules (Cap x) k single none = absurd (single refl)

-- so its line spoils nothing
single_is_clean : (lines : List (List ℕ)) (count : ℕ) (s : Singles) (rules : List Rule) (entry : Entry) → Collected lines count s rules → LineStates lines (suc count) entry → word_of entry ≢ cap_word → (HasSingle s entry → ⊥)
    → IsSpoiled lines (suc count) → ⊥
single_is_clean lines count s rules entry k says single none spoiled =
    elim (spoiled) [
      | inl bad ↦ bad_states_nothing lines (suc count) entry bad says
      | inr again ↦
          let same : word_of again.other ≡ word_of entry = again.same ∙ stated_words lines (suc count) again.entry entry again.states says in
          unstated_word lines count s rules entry k single none again.earlier again.other (omega (arith, again.before)) again.stated same
    ]

-- and after it the word is known
after_single : (lines : List (List ℕ)) (count : ℕ) (s after : Singles) (rules : List Rule) (entry : Entry) → Collected lines count s rules → LineStates lines (suc count) entry → word_of entry ≢ cap_word → (HasSingle s entry → ⊥) → Sets (suc count) entry s after
    → ((rest : List Rule) → AreRules (drop (suc count) lines) rest → AreRules lines (rules ++ rest)) → Collected lines (suc count) after rules
after_single lines count s after rules (Airport x) k says single none sets caps =
    let kept_here = kept lines count s rules (Airport x) k says in
    rw sets (record {
      clean = clean_next lines count k.clean (single_is_clean lines count s rules (Airport x) k says single none);
      airport = (suc count, omega arith, says);
      season = kept_here.season (λ e. cc);
      step = kept_here.step (λ e. cc);
      flex = kept_here.flex (λ e. cc);
      ground_time = kept_here.ground_time (λ e. cc);
      share = kept_here.share (λ e. cc);
      refuse = kept_here.refuse (λ e. cc);
      night = kept_here.night (λ e. cc);
      caps = caps;
    })
after_single lines count s after rules (Season x) k says single none sets caps =
    let kept_here = kept lines count s rules (Season x) k says in
    rw sets (record {
      clean = clean_next lines count k.clean (single_is_clean lines count s rules (Season x) k says single none);
      airport = kept_here.airport (λ e. cc);
      season = (suc count, omega arith, says);
      step = kept_here.step (λ e. cc);
      flex = kept_here.flex (λ e. cc);
      ground_time = kept_here.ground_time (λ e. cc);
      share = kept_here.share (λ e. cc);
      refuse = kept_here.refuse (λ e. cc);
      night = kept_here.night (λ e. cc);
      caps = caps;
    })
after_single lines count s after rules (Step x) k says single none sets caps =
    let kept_here = kept lines count s rules (Step x) k says in
    rw sets (record {
      clean = clean_next lines count k.clean (single_is_clean lines count s rules (Step x) k says single none);
      airport = kept_here.airport (λ e. cc);
      season = kept_here.season (λ e. cc);
      step = (suc count, omega arith, says);
      flex = kept_here.flex (λ e. cc);
      ground_time = kept_here.ground_time (λ e. cc);
      share = kept_here.share (λ e. cc);
      refuse = kept_here.refuse (λ e. cc);
      night = kept_here.night (λ e. cc);
      caps = caps;
    })
after_single lines count s after rules (Flex x) k says single none sets caps =
    let kept_here = kept lines count s rules (Flex x) k says in
    rw sets (record {
      clean = clean_next lines count k.clean (single_is_clean lines count s rules (Flex x) k says single none);
      airport = kept_here.airport (λ e. cc);
      season = kept_here.season (λ e. cc);
      step = kept_here.step (λ e. cc);
      flex = (omega arith, says);
      ground_time = kept_here.ground_time (λ e. cc);
      share = kept_here.share (λ e. cc);
      refuse = kept_here.refuse (λ e. cc);
      night = kept_here.night (λ e. cc);
      caps = caps;
    })
after_single lines count s after rules (Ground x) k says single none sets caps =
    let kept_here = kept lines count s rules (Ground x) k says in
    rw sets (record {
      clean = clean_next lines count k.clean (single_is_clean lines count s rules (Ground x) k says single none);
      airport = kept_here.airport (λ e. cc);
      season = kept_here.season (λ e. cc);
      step = kept_here.step (λ e. cc);
      flex = kept_here.flex (λ e. cc);
      ground_time = (suc count, omega arith, says);
      share = kept_here.share (λ e. cc);
      refuse = kept_here.refuse (λ e. cc);
      night = kept_here.night (λ e. cc);
      caps = caps;
    })
after_single lines count s after rules (Share x) k says single none sets caps =
    let kept_here = kept lines count s rules (Share x) k says in
    rw sets (record {
      clean = clean_next lines count k.clean (single_is_clean lines count s rules (Share x) k says single none);
      airport = kept_here.airport (λ e. cc);
      season = kept_here.season (λ e. cc);
      step = kept_here.step (λ e. cc);
      flex = kept_here.flex (λ e. cc);
      ground_time = kept_here.ground_time (λ e. cc);
      share = (suc count, omega arith, says);
      refuse = kept_here.refuse (λ e. cc);
      night = kept_here.night (λ e. cc);
      caps = caps;
    })
after_single lines count s after rules (Refuse x) k says single none sets caps =
    let kept_here = kept lines count s rules (Refuse x) k says in
    rw sets (record {
      clean = clean_next lines count k.clean (single_is_clean lines count s rules (Refuse x) k says single none);
      airport = kept_here.airport (λ e. cc);
      season = kept_here.season (λ e. cc);
      step = kept_here.step (λ e. cc);
      flex = kept_here.flex (λ e. cc);
      ground_time = kept_here.ground_time (λ e. cc);
      share = kept_here.share (λ e. cc);
      refuse = (suc count, omega arith, says);
      night = kept_here.night (λ e. cc);
      caps = caps;
    })
after_single lines count s after rules (Night x) k says single none sets caps =
    let kept_here = kept lines count s rules (Night x) k says in
    rw sets (record {
      clean = clean_next lines count k.clean (single_is_clean lines count s rules (Night x) k says single none);
      airport = kept_here.airport (λ e. cc);
      season = kept_here.season (λ e. cc);
      step = kept_here.step (λ e. cc);
      flex = kept_here.flex (λ e. cc);
      ground_time = kept_here.ground_time (λ e. cc);
      share = kept_here.share (λ e. cc);
      refuse = kept_here.refuse (λ e. cc);
      night = (suc count, omega arith, says);
      caps = caps;
    })
after_single lines count s after rules (Cap x) k says single none sets caps = absurd (single refl)

-- ---- the line that states an entry

pub after_entry : (lines : List (List ℕ)) (count number : ℕ) (line : List ℕ) (s after : Singles) (rules more : List Rule) (entry : Entry) → number ≡ suc count → IsNext lines count line → States line entry → Collected lines count s rules
    → AddsEntry number entry s rules after more → Collected lines (suc count) after more
after_entry lines count number line s after rules more (Cap rule) n next states k adds = rw (adds.0, adds.1) (after_cap lines count line s rules rule next states k)
after_entry lines count number line s after rules more (Airport x) n next states k adds =
    rw adds.2 (after_single lines count s after rules (Airport x) k (stated_next lines count line (Airport x) next states) (λ e. cc) adds.0 (subst (λ (m : ℕ). Sets m (Airport x) s after) n adds.1)
    (caps_skip lines count line rules next (λ rule other. let same = words_same line (Airport x) (Cap rule) states other in cc) k.caps))
after_entry lines count number line s after rules more (Season x) n next states k adds =
    rw adds.2 (after_single lines count s after rules (Season x) k (stated_next lines count line (Season x) next states) (λ e. cc) adds.0 (subst (λ (m : ℕ). Sets m (Season x) s after) n adds.1)
    (caps_skip lines count line rules next (λ rule other. let same = words_same line (Season x) (Cap rule) states other in cc) k.caps))
after_entry lines count number line s after rules more (Step x) n next states k adds =
    rw adds.2 (after_single lines count s after rules (Step x) k (stated_next lines count line (Step x) next states) (λ e. cc) adds.0 (subst (λ (m : ℕ). Sets m (Step x) s after) n adds.1)
    (caps_skip lines count line rules next (λ rule other. let same = words_same line (Step x) (Cap rule) states other in cc) k.caps))
after_entry lines count number line s after rules more (Flex x) n next states k adds =
    rw adds.2 (after_single lines count s after rules (Flex x) k (stated_next lines count line (Flex x) next states) (λ e. cc) adds.0 (subst (λ (m : ℕ). Sets m (Flex x) s after) n adds.1)
    (caps_skip lines count line rules next (λ rule other. let same = words_same line (Flex x) (Cap rule) states other in cc) k.caps))
after_entry lines count number line s after rules more (Ground x) n next states k adds =
    rw adds.2 (after_single lines count s after rules (Ground x) k (stated_next lines count line (Ground x) next states) (λ e. cc) adds.0 (subst (λ (m : ℕ). Sets m (Ground x) s after) n adds.1)
    (caps_skip lines count line rules next (λ rule other. let same = words_same line (Ground x) (Cap rule) states other in cc) k.caps))
after_entry lines count number line s after rules more (Share x) n next states k adds =
    rw adds.2 (after_single lines count s after rules (Share x) k (stated_next lines count line (Share x) next states) (λ e. cc) adds.0 (subst (λ (m : ℕ). Sets m (Share x) s after) n adds.1)
    (caps_skip lines count line rules next (λ rule other. let same = words_same line (Share x) (Cap rule) states other in cc) k.caps))
after_entry lines count number line s after rules more (Refuse x) n next states k adds =
    rw adds.2 (after_single lines count s after rules (Refuse x) k (stated_next lines count line (Refuse x) next states) (λ e. cc) adds.0 (subst (λ (m : ℕ). Sets m (Refuse x) s after) n adds.1)
    (caps_skip lines count line rules next (λ rule other. let same = words_same line (Refuse x) (Cap rule) states other in cc) k.caps))
after_entry lines count number line s after rules more (Night x) n next states k adds =
    rw adds.2 (after_single lines count s after rules (Night x) k (stated_next lines count line (Night x) next states) (λ e. cc) adds.0 (subst (λ (m : ℕ). Sets m (Night x) s after) n adds.1)
    (caps_skip lines count line rules next (λ rule other. let same = words_same line (Night x) (Cap rule) states other in cc) k.caps))

-- ---- the line that is refused

pub bad_line : (lines : List (List ℕ)) (count number : ℕ) (line : List ℕ) (s : Singles) (rules : List Rule) → number ≡ suc count → IsNext lines count line → Collected lines count s rules → (IsEmpty line → ⊥) → ((entry : Entry) → States line entry → ⊥)
    → LinesHaveFault lines (BadLine number)
bad_line lines count number line s rules n next k full nothing =
    rw n (inl (k.clean, record { line = line; stands = next_at lines count line (drop (suc count) lines) next; full = full; nothing = nothing }))

known_some : {X : Type 0} (lines : List (List ℕ)) (count : ℕ) (word : Word) (make : X → Entry) (o : Option X) → Known lines count word make o → is_some o ≡ true → (x : X) × ((number : ℕ) × (number ≤ count) × LineStates lines number (make x))
known_some {X} lines count word make None known some = absurd (cc)
known_some {X} lines count word make (Some x) known some = (x, known)

flex_some : (lines : List (List ℕ)) (count : ℕ) (o : Option FlexLine) → KnownFlex lines count o → is_some o ≡ true → (x : ℕ) × ((number : ℕ) × (number ≤ count) × LineStates lines number (Flex x))
flex_some lines count None known some = absurd (cc)
flex_some lines count (Some x) known some = (x.minutes, (x.line, known.0, known.1))

repeats : (lines : List (List ℕ)) (count number : ℕ) (entry other : Entry) → number ≤ count → LineStates lines number other → LineStates lines (suc count) entry → word_of other ≡ word_of entry → word_of entry ≢ cap_word → IsRepeat lines (suc count)
repeats lines count number entry other le stated states same single =
    record { entry = entry; other = other; earlier = number; states = states; stated = stated; before = omega arith; same = same; single = single }

repeats_single : (lines : List (List ℕ)) (count : ℕ) (s : Singles) (rules : List Rule) (entry : Entry) → Collected lines count s rules → LineStates lines (suc count) entry → HasSingle s entry → IsRepeat lines (suc count)
repeats_single lines count s rules (Airport x) k says has =
    let known = known_some lines count airport_word (λ y. Airport y) s.airport k.airport has in
    repeats lines count known.1.0 (Airport x) (Airport known.0) known.1.1 known.1.2 says refl (λ e. cc)
repeats_single lines count s rules (Season x) k says has =
    let known = known_some lines count season_word (λ y. Season y) s.season k.season has in
    repeats lines count known.1.0 (Season x) (Season known.0) known.1.1 known.1.2 says refl (λ e. cc)
repeats_single lines count s rules (Step x) k says has =
    let known = known_some lines count step_word (λ y. Step y) s.step k.step has in
    repeats lines count known.1.0 (Step x) (Step known.0) known.1.1 known.1.2 says refl (λ e. cc)
repeats_single lines count s rules (Flex x) k says has =
    let known = flex_some lines count s.flex k.flex has in
    repeats lines count known.1.0 (Flex x) (Flex known.0) known.1.1 known.1.2 says refl (λ e. cc)
repeats_single lines count s rules (Ground x) k says has =
    let known = known_some lines count ground_word (λ y. Ground y) s.ground_time k.ground_time has in
    repeats lines count known.1.0 (Ground x) (Ground known.0) known.1.1 known.1.2 says refl (λ e. cc)
repeats_single lines count s rules (Share x) k says has =
    let known = known_some lines count share_word (λ y. Share y) s.share k.share has in
    repeats lines count known.1.0 (Share x) (Share known.0) known.1.1 known.1.2 says refl (λ e. cc)
repeats_single lines count s rules (Refuse x) k says has =
    let known = known_some lines count refuse_word (λ y. Refuse y) s.refuse k.refuse has in
    repeats lines count known.1.0 (Refuse x) (Refuse known.0) known.1.1 known.1.2 says refl (λ e. cc)
repeats_single lines count s rules (Night x) k says has =
    let known = known_some lines count night_word (λ y. Night y) s.night k.night has in
    repeats lines count known.1.0 (Night x) (Night known.0) known.1.1 known.1.2 says refl (λ e. cc)
repeats_single lines count s rules (Cap x) k says has = absurd (has)

pub twice_line : (lines : List (List ℕ)) (count number : ℕ) (line : List ℕ) (s : Singles) (rules : List Rule) (entry : Entry) → number ≡ suc count → IsNext lines count line → States line entry → Collected lines count s rules → HasSingle s entry
    → LinesHaveFault lines (Twice number)
twice_line lines count number line s rules entry n next states k has = rw n (k.clean, repeats_single lines count s rules entry k (stated_next lines count line entry next states) has)
