-- A text has one fault at most, and none where it makes a declaration.
use Rattle.std.proofs.Common.{◌≡◌, ◌⊎◌, ℕ, ◌<◌, List, cond, eqb, refl, sym, ap, ◌∙◌, arith, inl, inr}
use Rattle.std.specs.Prelude.{All}
use Rattle.std.proofs.lemmas.Bool.{cases_lt}
use Rattle.season_days.specs.declared.declaration.Declaration.{Declaration}
use Rattle.capacity_file.specs.Lines.{HasWord, IsBad, IsRepeat, IsSpoiled, IsCleanBefore}
use Rattle.capacity_file.specs.Declares.{Declares, IsWholeSteps, IsWithinLimits, LinesDeclare}
use Rattle.capacity_file.specs.Faults.{needed_word, words_before, IsMissing, PassesLimitOf, IsBrokenStep, IsOverLimit, LinesHaveFault}
use Rattle.capacity_file.specs.declared.entry.Entry.TheVariants.{Airport as airport_entry, Season as season_entry, Step as step_entry, Flex as flex_entry, Ground as ground_entry, Refuse as refuse_entry}
use Rattle.capacity_file.specs.declared.entry.Word.TheVariants.{Airport as airport_word}
use Rattle.capacity_file.specs.declared.fault.CapWord.{CapWord}
use Rattle.capacity_file.specs.declared.fault.CapWord.TheVariants.{Airport, Season, Step, Flex, Ground, Refuse}
use Rattle.capacity_file.specs.declared.fault.CapLimit.{CapLimit}
use Rattle.capacity_file.specs.declared.fault.CapLimit.TheVariants.{Flex as flex_limit, Caps, Windows}
use Rattle.capacity_file.specs.declared.fault.CapFault.{CapFault}
use Rattle.capacity_file.specs.declared.fault.CapFault.TheVariants.{BadLine, Missing, Twice, OverLimit, Memory}
use Rattle.capacity_file.proofs.SameLemmas.{OneValue}
use Rattle.capacity_file.proofs.LinesLemmas.{bad_states_nothing, same_line}
use Rattle.capacity_file.proofs.DeclareLemmas.{declares_same}

-- ---- the lowest line that is bad or a repetition

first_same : (lines : List (List ℕ)) (m n : ℕ) → IsCleanBefore lines m → IsSpoiled lines m → IsCleanBefore lines n → IsSpoiled lines n → m ≡ n
first_same lines m n before_m x before_n y =
    elim (cases_lt m n) [
      | inl lt ↦ absurd (before_n m lt x)
      | inr ge ↦ elim (cases_lt n m) [
        | inl lt ↦ absurd (before_m n lt y)
        | inr le ↦ omega arith
      ]
    ]

bad_and_repeat : (lines : List (List ℕ)) (m n : ℕ) → m ≡ n → IsBad lines m → IsRepeat lines n → ⊥
bad_and_repeat lines m n same bad again = bad_states_nothing lines n again.entry (rw same at bad) again.states

-- ---- words that are missing

rank : CapWord → ℕ
rank Airport = 0
rank Season = 1
rank Step = 2
rank Flex = 3
rank Ground = 4
rank Refuse = 5

from_rank : ℕ → CapWord
from_rank n = cond (eqb n 0) Airport (cond (eqb n 1) Season (cond (eqb n 2) Step (cond (eqb n 3) Flex (cond (eqb n 4) Ground Refuse))))

rank_again : (name : CapWord) → from_rank (rank name) ≡ name
unfolding rank from_rank
rank_again Airport = refl
rank_again Season = refl
rank_again Step = refl
rank_again Flex = refl
rank_again Ground = refl
rank_again Refuse = refl

has_before : (lines : List (List ℕ)) (a b : CapWord) → rank b < rank a → All (HasWord lines) (words_before a) → HasWord lines (needed_word b)
unfolding rank
has_before lines Season Airport lt has = has 0 airport_word (omega arith)
has_before lines Step Airport lt has = has 0 airport_word (omega arith)
has_before lines Step Season lt has = has 1 airport_word (omega arith)
has_before lines Flex Airport lt has = has 0 airport_word (omega arith)
has_before lines Flex Season lt has = has 1 airport_word (omega arith)
has_before lines Flex Step lt has = has 2 airport_word (omega arith)
has_before lines Ground Airport lt has = has 0 airport_word (omega arith)
has_before lines Ground Season lt has = has 1 airport_word (omega arith)
has_before lines Ground Step lt has = has 2 airport_word (omega arith)
has_before lines Ground Flex lt has = has 3 airport_word (omega arith)
has_before lines Refuse Airport lt has = has 0 airport_word (omega arith)
has_before lines Refuse Season lt has = has 1 airport_word (omega arith)
has_before lines Refuse Step lt has = has 2 airport_word (omega arith)
has_before lines Refuse Flex lt has = has 3 airport_word (omega arith)
has_before lines Refuse Ground lt has = has 4 airport_word (omega arith)
has_before lines a b lt has = absurd (omega arith)

missing_same : (lines : List (List ℕ)) (a b : CapWord) → IsMissing lines a → IsMissing lines b → a ≡ b
missing_same lines a b x y =
    elim (cases_lt (rank a) (rank b)) [
      | inl lt ↦ absurd (x.lacks (has_before lines b a lt y.before))
      | inr ge ↦ elim (cases_lt (rank b) (rank a)) [
        | inl lt ↦ absurd (y.lacks (has_before lines a b lt x.before))
        | inr le ↦ let same : rank a ≡ rank b = omega arith in sym (rank_again a) ∙ ap from_rank same ∙ rank_again b
      ]
    ]

declares_all : (lines : List (List ℕ)) (d : Declaration) (name : CapWord) → Declares lines d → HasWord lines (needed_word name)
declares_all lines d Airport x = (airport_entry d.airport, x.airport, refl)
declares_all lines d Season x = (season_entry d.season, x.season, refl)
declares_all lines d Step x = (step_entry d.step, x.step, refl)
declares_all lines d Flex x = (flex_entry d.flex, x.flex, refl)
declares_all lines d Ground x = (ground_entry d.ground, x.ground_time, refl)
declares_all lines d Refuse x = (refuse_entry d.refuse, x.refuse, refl)

missing_declares : (lines : List (List ℕ)) (d : Declaration) (name : CapWord) → IsMissing lines name → Declares lines d → ⊥
missing_declares lines d name missing says = missing.lacks (declares_all lines d name says)

-- ---- the declaration as a whole

uneven_even : (one : OneValue) → (lines : List (List ℕ)) (number : ℕ) (d : Declaration) → IsBrokenStep lines number → Declares lines d → IsWholeSteps d → ⊥
uneven_even one lines number d x says even = x.uneven (rw (declares_same one lines x.d d x.clean x.declares says) even)

uneven_same : (lines : List (List ℕ)) (m n : ℕ) → IsBrokenStep lines m → IsBrokenStep lines n → m ≡ n
uneven_same lines m n x y = same_line lines m n (flex_entry x.d.flex) (flex_entry y.d.flex) x.clean x.line y.line refl (λ e. cc)

over_same : (d : Declaration) (a b : CapLimit) (m n : ℕ) → PassesLimitOf a m d → PassesLimitOf b n d → OverLimit a m ≡ OverLimit b n
over_same d flex_limit flex_limit m n x y = let same : m ≡ n = x.1 ∙ sym y.1 in ap (λ (k : ℕ). OverLimit flex_limit k) same
over_same d flex_limit Caps m n x y = absurd (omega (arith, x.0, y.0))
over_same d flex_limit Windows m n x y = absurd (omega (arith, x.0, y.0))
over_same d Caps flex_limit m n x y = absurd (omega (arith, x.0, y.0))
over_same d Caps Caps m n x y = let same : m ≡ n = x.2 ∙ sym y.2 in ap (λ (k : ℕ). OverLimit Caps k) same
over_same d Caps Windows m n x y = absurd (omega (arith, x.1, y.1))
over_same d Windows flex_limit m n x y = absurd (omega (arith, x.0, y.0))
over_same d Windows Caps m n x y = absurd (omega (arith, x.1, y.1))
over_same d Windows Windows m n x y = let same : m ≡ n = x.3 ∙ sym y.3 in ap (λ (k : ℕ). OverLimit Windows k) same

over_limits : (d : Declaration) (name : CapLimit) (number : ℕ) → PassesLimitOf name number d → IsWithinLimits d → ⊥
over_limits d flex_limit number x within = omega (arith, x.0, within.flex)
over_limits d Caps number x within = omega (arith, x.1, within.caps)
over_limits d Windows number x within = omega (arith, x.2, within.windows)

limit_same : (one : OneValue) → (lines : List (List ℕ)) (a b : CapLimit) (m n : ℕ) → IsOverLimit lines a m → IsOverLimit lines b n → OverLimit a m ≡ OverLimit b n
limit_same one lines a b m n x y = over_same y.d a b m n (rw (declares_same one lines x.d y.d x.clean x.declares y.declares) at x.over) y.over

-- ---- two faults are the same

bad_bad : (lines : List (List ℕ)) (m n : ℕ) → (IsCleanBefore lines m × IsBad lines m) ⊎ IsBrokenStep lines m → (IsCleanBefore lines n × IsBad lines n) ⊎ IsBrokenStep lines n → m ≡ n
bad_bad lines m n x y =
    elim (x) [
      | inl p ↦ elim (y) [ inl q ↦ first_same lines m n p.0 (inl p.1) q.0 (inl q.1) | inr q ↦ absurd (q.clean m (inl p.1)) ]
      | inr p ↦ elim (y) [ inl q ↦ absurd (p.clean n (inl q.1)) | inr q ↦ uneven_same lines m n p q ]
    ]

bad_missing : (lines : List (List ℕ)) (m : ℕ) (name : CapWord) → LinesHaveFault lines (BadLine m) → LinesHaveFault lines (Missing name) → ⊥
bad_missing lines m name x y = elim (x) [ inl p ↦ y.0 m (inl p.1) | inr p ↦ missing_declares lines p.d name y.1 p.declares ]

bad_twice : (lines : List (List ℕ)) (m n : ℕ) → LinesHaveFault lines (BadLine m) → LinesHaveFault lines (Twice n) → ⊥
bad_twice lines m n x y =
    elim (x) [
      | inl p ↦ bad_and_repeat lines m n (first_same lines m n p.0 (inl p.1) y.0 (inr y.1)) p.1 y.1
      | inr p ↦ p.clean n (inr y.1)
    ]

bad_over : (one : OneValue) → (lines : List (List ℕ)) (m : ℕ) (name : CapLimit) (number : ℕ) → LinesHaveFault lines (BadLine m) → LinesHaveFault lines (OverLimit name number) → ⊥
bad_over one lines m name number x y = elim (x) [ inl p ↦ y.clean m (inl p.1) | inr p ↦ uneven_even one lines m y.d p y.declares y.even ]

pub fault_same : (one : OneValue) → (lines : List (List ℕ)) (a b : CapFault) → LinesHaveFault lines a → LinesHaveFault lines b → a ≡ b
fault_same one lines (BadLine m) (BadLine n) x y = ap (λ (k : ℕ). BadLine k) (bad_bad lines m n x y)
fault_same one lines (BadLine m) (Missing name) x y = absurd (bad_missing lines m name x y)
fault_same one lines (BadLine m) (Twice n) x y = absurd (bad_twice lines m n x y)
fault_same one lines (BadLine m) (OverLimit name number) x y = absurd (bad_over one lines m name number x y)
fault_same one lines (Missing name) (BadLine n) x y = absurd (bad_missing lines n name y x)
fault_same one lines (Missing a) (Missing b) x y = ap (λ (w : CapWord). Missing w) (missing_same lines a b x.1 y.1)
fault_same one lines (Missing name) (Twice n) x y = absurd (x.0 n (inr y.1))
fault_same one lines (Missing name) (OverLimit limit number) x y = absurd (missing_declares lines y.d name x.1 y.declares)
fault_same one lines (Twice m) (BadLine n) x y = absurd (bad_twice lines n m y x)
fault_same one lines (Twice m) (Missing name) x y = absurd (y.0 m (inr x.1))
fault_same one lines (Twice m) (Twice n) x y = ap (λ (k : ℕ). Twice k) (first_same lines m n x.0 (inr x.1) y.0 (inr y.1))
fault_same one lines (Twice m) (OverLimit name number) x y = absurd (y.clean m (inr x.1))
fault_same one lines (OverLimit name number) (BadLine n) x y = absurd (bad_over one lines n name number y x)
fault_same one lines (OverLimit limit number) (Missing name) x y = absurd (missing_declares lines x.d name y.1 x.declares)
fault_same one lines (OverLimit name number) (Twice n) x y = absurd (x.clean n (inr y.1))
fault_same one lines (OverLimit a m) (OverLimit b n) x y = limit_same one lines a b m n x y
fault_same one lines Memory b x y = absurd (x)
fault_same one lines a Memory x y = absurd (y)

-- ---- and a text that makes a declaration has none

pub no_fault : (one : OneValue) → (lines : List (List ℕ)) (d : Declaration) (fault : CapFault) → LinesDeclare lines d → LinesHaveFault lines fault → ⊥
no_fault one lines d (BadLine m) x y = elim (y) [ inl p ↦ x.clean m (inl p.1) | inr p ↦ uneven_even one lines m d p x.declares x.even ]
no_fault one lines d (Missing name) x y = missing_declares lines d name y.1 x.declares
no_fault one lines d (Twice m) x y = x.clean m (inr y.1)
no_fault one lines d (OverLimit name number) x y = over_limits d name number (rw (declares_same one lines y.d d y.clean y.declares x.declares) at y.over) x.limits
no_fault one lines d Memory x y = y
