-- The declaration, or the fault, that follows from what all lines state.
use Rattle.std.proofs.Common.{◌≡◌, ◌⊎◌, ℕ, zero, suc, ◌%◌, ◌<◌, ◌≤◌, true, List, [], ◌∷◌, ◌++◌, length, drop, Option, Some, None, refl, ap, subst, arith, inl, inr}
use Rattle.std.specs.Prelude.{All, MatchOption, is_some, unwrap_or}
use Rattle.std.specs.Option.{ForSome}
use Rattle.season_days.specs.declared.declaration.Declaration.{Declaration}
use Rattle.season_days.specs.declared.declaration.Night.{Night}
use Rattle.season_days.specs.declared.declaration.Rule.{Rule}
use Rattle.capacity_file.specs.Values.{IsCapacityLine}
use Rattle.capacity_file.specs.Entries.{word_of}
use Rattle.capacity_file.specs.Lines.{LineStates, IsStated, HasWord, LacksWord, IsSpoiled, IsClean}
use Rattle.capacity_file.specs.Declares.{AreRules, Declares, IsWithinLimits, LinesDeclare}
use Rattle.capacity_file.specs.Faults.{PassesLimitOf, LinesHaveFault}
use Rattle.capacity_file.specs.Readings.{Unstated, Known, KnownFlex, Collected}
use Rattle.capacity_file.specs.Needed.{AreNeeded, IsFirstMissing}
use Rattle.capacity_file.specs.declared.draft.FlexLine.{FlexLine}
use Rattle.capacity_file.specs.declared.draft.Singles.{Singles}
use Rattle.capacity_file.specs.declared.finish.Needed.{Needed}
use Rattle.capacity_file.specs.declared.fault.CapWord.{CapWord}
use Rattle.capacity_file.specs.declared.fault.CapWord.TheVariants.{Airport as airport_name, Season as season_name, Step as step_name, Flex as flex_name, Ground as ground_name, Refuse as refuse_name}
use Rattle.capacity_file.specs.declared.fault.CapLimit.{CapLimit}
use Rattle.capacity_file.specs.declared.fault.CapFault.TheVariants.{BadLine, Missing, OverLimit}
use Rattle.capacity_file.specs.declared.entry.Entry.{Entry}
use Rattle.capacity_file.specs.declared.entry.Entry.TheVariants.{Airport, Season, Step, Flex, Ground, Share, Refuse, Night as night_entry}
use Rattle.capacity_file.specs.declared.entry.Word.{Word}
use Rattle.capacity_file.specs.declared.entry.Word.TheVariants.{Airport as airport_word, Season as season_word, Step as step_word, Flex as flex_word, Ground as ground_word, Share as share_word, Refuse as refuse_word, Night as night_word}
use Rattle.capacity_file.proofs.LinesLemmas.{at_most}
use Rattle.capacity_file.proofs.DeclareLemmas.{rules_allowed, step_positive}

-- ---- all lines

abbrev AllCollected : List (List ℕ) → Singles → List Rule → Type 0
AllCollected lines s rules = Collected lines (length lines) s rules

spoiled_at : (lines : List (List ℕ)) (number : ℕ) → IsSpoiled lines number → number ≤ length lines
spoiled_at lines number spoiled =
    elim (spoiled) [
      | inl bad ↦ at_most lines number bad.line bad.stands
      | inr again ↦ at_most lines number again.states.line again.states.stands
    ]

all_clean : (lines : List (List ℕ)) (s : Singles) (rules : List Rule) → AllCollected lines s rules → IsClean lines
all_clean lines s rules k = λ number spoiled. k.clean number (omega (arith, spoiled_at lines number spoiled)) spoiled

lacks : (lines : List (List ℕ)) (word : Word) → Unstated lines (length lines) word → LacksWord lines word
lacks lines word none = λ has. none has.1.0 has.0 (at_most lines has.1.0 has.1.1.line has.1.1.stands) has.1.1 has.2

drop_all : (lines : List (List ℕ)) → drop (length lines) lines ≡ []
drop_all [] = refl
drop_all (line ∷ lines) = drop_all lines

append_nothing : (rules : List Rule) → rules ++ [] ≡ rules
append_nothing [] = refl
append_nothing (rule ∷ rules) = ap (λ (l : List Rule). rule ∷ l) (append_nothing rules)

all_rules : (lines : List (List ℕ)) (s : Singles) (rules : List Rule) → AllCollected lines s rules → AreRules lines rules
all_rules lines s rules k =
    let none : AreRules [] [] = refl in
    let whole = k.caps [] (rw drop_all none) in
    subst (AreRules lines) (append_nothing rules) whole

-- ---- one word

stated : {X : Type 0} (lines : List (List ℕ)) (word : Word) (make : X → Entry) (o : Option X) (x : X) → o ≡ Some x → Known lines (length lines) word make o → IsStated lines (make x)
stated {X} lines word make o x e known =
    let here : Known lines (length lines) word make (Some x) = rw e at known in (here.0, here.2)

flex_stated : (lines : List (List ℕ)) (o : Option FlexLine) (x : FlexLine) → o ≡ Some x → KnownFlex lines (length lines) o → LineStates lines x.line (Flex x.minutes)
flex_stated lines o x e known = let here : KnownFlex lines (length lines) (Some x) = rw e at known in here.1

unstated : {X : Type 0} (lines : List (List ℕ)) (word : Word) (make : X → Entry) (o : Option X) → o ≡ None → Known lines (length lines) word make o → LacksWord lines word
unstated {X} lines word make o e known =
    let here : Known lines (length lines) word make None = rw e at known in lacks lines word here

flex_unstated : (lines : List (List ℕ)) (o : Option FlexLine) → o ≡ None → KnownFlex lines (length lines) o → LacksWord lines flex_word
flex_unstated lines o e known = let here : KnownFlex lines (length lines) None = rw e at known in lacks lines flex_word here

has_word : {X : Type 0} (lines : List (List ℕ)) (word : Word) (make : X → Entry) → ((x : X) → word_of (make x) ≡ word) → (o : Option X) → is_some o ≡ true → Known lines (length lines) word make o → HasWord lines word
has_word {X} lines word make named None some known = absurd (cc)
has_word {X} lines word make named (Some x) some known = (make x, (known.0, known.2), named x)

has_flex : (lines : List (List ℕ)) (o : Option FlexLine) → is_some o ≡ true → KnownFlex lines (length lines) o → HasWord lines flex_word
has_flex lines None some known = absurd (cc)
has_flex lines (Some x) some known = (Flex x.minutes, (x.line, known.1), refl)

-- ---- a word that is missing

abbrev AllHave : List (List ℕ) → List Word → Type 0
AllHave lines words = All (HasWord lines) words

no_words : (lines : List (List ℕ)) → AllHave lines []
no_words lines k d lt = absurd (omega arith)

more_words : (lines : List (List ℕ)) (word : Word) (words : List Word) → HasWord lines word → AllHave lines words → AllHave lines (word ∷ words)
more_words lines word words first rest zero d lt = first
more_words lines word words first rest (suc k) d lt = rest k d (omega arith)

pub missing : (lines : List (List ℕ)) (s : Singles) (rules : List Rule) (name : CapWord) → AllCollected lines s rules → IsFirstMissing s name → LinesHaveFault lines (Missing name)
missing lines s rules airport_name k none =
    (all_clean lines s rules k, record { before = no_words lines; lacks = unstated lines airport_word (λ x. Airport x) s.airport none k.airport })
missing lines s rules season_name k none =
    let airport = has_word lines airport_word (λ x. Airport x) (λ x. refl) s.airport none.0 k.airport in
    (all_clean lines s rules k, record { before = more_words lines airport_word [] airport (no_words lines); lacks = unstated lines season_word (λ x. Season x) s.season none.1 k.season })
missing lines s rules step_name k none =
    let airport = has_word lines airport_word (λ x. Airport x) (λ x. refl) s.airport none.0 k.airport in
    let season = has_word lines season_word (λ x. Season x) (λ x. refl) s.season none.1 k.season in (
      all_clean lines s rules k,
      record {
        before = more_words lines airport_word (season_word ∷ []) airport (more_words lines season_word [] season (no_words lines));
        lacks = unstated lines step_word (λ x. Step x) s.step none.2 k.step;
      },
    )
missing lines s rules flex_name k none =
    let airport = has_word lines airport_word (λ x. Airport x) (λ x. refl) s.airport none.0 k.airport in
    let season = has_word lines season_word (λ x. Season x) (λ x. refl) s.season none.1 k.season in
    let step = has_word lines step_word (λ x. Step x) (λ x. refl) s.step none.2 k.step in (
      all_clean lines s rules k,
      record {
        before = more_words lines airport_word (season_word ∷ step_word ∷ []) airport (more_words lines season_word (step_word ∷ []) season (more_words lines step_word [] step (no_words lines)));
        lacks = flex_unstated lines s.flex none.3 k.flex;
      },
    )
missing lines s rules ground_name k none =
    let airport = has_word lines airport_word (λ x. Airport x) (λ x. refl) s.airport none.0 k.airport in
    let season = has_word lines season_word (λ x. Season x) (λ x. refl) s.season none.1 k.season in
    let step = has_word lines step_word (λ x. Step x) (λ x. refl) s.step none.2 k.step in
    let flex = has_flex lines s.flex none.3 k.flex in (
      all_clean lines s rules k,
      record {
        before = more_words lines airport_word (season_word ∷ step_word ∷ flex_word ∷ []) airport
            (more_words lines season_word (step_word ∷ flex_word ∷ []) season (more_words lines step_word (flex_word ∷ []) step (more_words lines flex_word [] flex (no_words lines))));
        lacks = unstated lines ground_word (λ x. Ground x) s.ground_time none.4 k.ground_time;
      },
    )
missing lines s rules refuse_name k none =
    let airport = has_word lines airport_word (λ x. Airport x) (λ x. refl) s.airport none.0 k.airport in
    let season = has_word lines season_word (λ x. Season x) (λ x. refl) s.season none.1 k.season in
    let step = has_word lines step_word (λ x. Step x) (λ x. refl) s.step none.2 k.step in
    let flex = has_flex lines s.flex none.3 k.flex in
    let minutes = has_word lines ground_word (λ x. Ground x) (λ x. refl) s.ground_time none.4 k.ground_time in (
      all_clean lines s rules k,
      record {
        before = more_words lines airport_word (season_word ∷ step_word ∷ flex_word ∷ ground_word ∷ []) airport
            (more_words lines season_word (step_word ∷ flex_word ∷ ground_word ∷ []) season
            (more_words lines step_word (flex_word ∷ ground_word ∷ []) step (more_words lines flex_word (ground_word ∷ []) flex (more_words lines ground_word [] minutes (no_words lines)))));
        lacks = unstated lines refuse_word (λ x. Refuse x) s.refuse none.5 k.refuse;
      },
    )

-- ---- the declaration

-- the declaration that is made of the values
abbrev pub declared : Needed → Option Night → ℕ → List Rule → Declaration
declared n night share rules =
    record { airport = n.airport; season = n.season; step = n.step; flex = n.flex.minutes; ground = n.ground_time; share = share; refuse = n.refuse; night = night; rules = rules }

share_of : (lines : List (List ℕ)) (o : Option ℕ) → Known lines (length lines) share_word (λ x. Share x) o → (IsStated lines (Share (unwrap_or o 50))) ⊎ (LacksWord lines share_word × (unwrap_or o 50 ≡ 50))
share_of lines None known = inr (lacks lines share_word known, refl)
share_of lines (Some x) known = inl (known.0, known.2)

night_of : (lines : List (List ℕ)) (o : Option Night) → Known lines (length lines) night_word (λ x. night_entry x) o → MatchOption o (LacksWord lines night_word) (λ n. IsStated lines (night_entry n))
night_of lines None known = lacks lines night_word known
night_of lines (Some x) known = (known.0, known.2)

declares : (lines : List (List ℕ)) (s : Singles) (rules : List Rule) (n : Needed) → AllCollected lines s rules → AreNeeded s n → Declares lines (declared n s.night (unwrap_or s.share 50) rules)
declares lines s rules n k needed =
    record {
      airport = stated lines airport_word (λ x. Airport x) s.airport n.airport needed.airport k.airport;
      season = stated lines season_word (λ x. Season x) s.season n.season needed.season k.season;
      step = stated lines step_word (λ x. Step x) s.step n.step needed.step k.step;
      flex = (n.flex.line, flex_stated lines s.flex n.flex needed.flex k.flex);
      ground_time = stated lines ground_word (λ x. Ground x) s.ground_time n.ground_time needed.ground_time k.ground_time;
      share = share_of lines s.share k.share;
      refuse = stated lines refuse_word (λ x. Refuse x) s.refuse n.refuse needed.refuse k.refuse;
      night = night_of lines s.night k.night;
      rules = all_rules lines s rules k;
    }

pub uneven : (lines : List (List ℕ)) (s : Singles) (rules : List Rule) (n : Needed) → AllCollected lines s rules → AreNeeded s n → (n.flex.minutes % n.step ≡ 0 → ⊥) → LinesHaveFault lines (BadLine n.flex.line)
uneven lines s rules n k needed odd =
    inr (record {
      clean = all_clean lines s rules k;
      d = declared n s.night (unwrap_or s.share 50) rules;
      declares = declares lines s rules n k needed;
      line = flex_stated lines s.flex n.flex needed.flex k.flex;
      uneven = odd;
    })

pub over : (lines : List (List ℕ)) (s : Singles) (rules : List Rule) (n : Needed) (name : CapLimit) (number : ℕ) → AllCollected lines s rules → AreNeeded s n → n.flex.minutes % n.step ≡ 0
    → PassesLimitOf name number (declared n s.night (unwrap_or s.share 50) rules) → LinesHaveFault lines (OverLimit name number)
over lines s rules n name number k needed even passed =
    record {
      clean = all_clean lines s rules k;
      d = declared n s.night (unwrap_or s.share 50) rules;
      declares = declares lines s rules n k needed;
      even = even;
      over = passed;
    }

pub made : (lines : List (List ℕ)) (s : Singles) (rules : List Rule) (n : Needed) → AllCollected lines s rules → AreNeeded s n → n.flex.minutes % n.step ≡ 0
    → IsWithinLimits (declared n s.night (unwrap_or s.share 50) rules) → LinesDeclare lines (declared n s.night (unwrap_or s.share 50) rules)
made lines s rules n k needed even within = record { clean = all_clean lines s rules k; declares = declares lines s rules n k needed; even = even; limits = within }

-- ---- what the last step asks for

step_of : (lines : List (List ℕ)) (o : Option ℕ) → Known lines (length lines) step_word (λ x. Step x) o → ForSome o (λ n. 0 < n)
step_of lines o known = λ n e. let here = stated lines step_word (λ x. Step x) o n e known in step_positive n here.1.states.allowed

pub step_above_zero : (lines : List (List ℕ)) (s : Singles) (rules : List Rule) → AllCollected lines s rules → ForSome s.step (λ n. 0 < n)
step_above_zero lines s rules k = step_of lines s.step k.step

pub rules_are_allowed : (lines : List (List ℕ)) (s : Singles) (rules : List Rule) → AllCollected lines s rules → All IsCapacityLine rules
rules_are_allowed lines s rules k = rules_allowed lines rules (all_rules lines s rules k)
