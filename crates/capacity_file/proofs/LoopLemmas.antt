-- The lines of a text, one after the other, and what the reader answers of them.
use Rattle.std.proofs.Common.{◌≡◌, ℕ, suc, ◌+◌, ◌≤◌, List, [], ◌∷◌, length, drop, sym, ap, ◌∙◌, subst, arith, inl, inr, add-one, length-drop}
use Rattle.std.specs.Prelude.{◌⊎◌, Result, Ok, Err, IfOk, IfErr, IsErrAnd, MatchResult}
use Rattle.slot_text.specs.Lines.{lines_of}
use Rattle.slot_text.specs.Reads.{GivesOr, AnswersBy}
use Rattle.season_days.specs.Capacity.{capacity_of, IsCapacity, IsDeclaration}
use Rattle.season_days.specs.declared.declaration.Declaration.{Declaration}
use Rattle.season_days.specs.declared.declaration.Rule.{Rule}
use Rattle.capacity_file.specs.Entries.{States}
use Rattle.capacity_file.specs.Declares.{LinesDeclare, HasAllowedValues}
use Rattle.capacity_file.specs.Faults.{LinesHaveFault}
use Rattle.capacity_file.specs.Readings.{Collected}
use Rattle.capacity_file.specs.Singles.{HasSingle, AddsEntry}
use Rattle.capacity_file.specs.declared.draft.Singles.{Singles}
use Rattle.capacity_file.specs.declared.entry.Entry.{Entry}
use Rattle.capacity_file.specs.declared.fault.CapFault.{CapFault}
use Rattle.capacity_file.specs.declared.fault.CapFault.TheVariants.{Twice, Memory}
use Rattle.capacity_file.proofs.LinesLemmas.{rest_at}
use Rattle.capacity_file.proofs.SingleLemmas.{after_entry, twice_line}
use Rattle.capacity_file.proofs.SameLemmas.{OneValue}
use Rattle.capacity_file.proofs.DeclareLemmas.{declares_same, values_allowed, is_capacity, is_declaration}
use Rattle.capacity_file.proofs.FaultLemmas.{fault_same, no_fault}

-- ---- one line

pub entry_outcome : {U : Type 0} (lines : List (List ℕ)) (count number : ℕ) (line : List ℕ) (s after : Singles) (rules more : List Rule) (entry : Entry) (r : Result U CapFault) → number ≡ suc count → drop count lines ≡ line ∷ drop (suc count) lines → States line entry
    → Collected lines count s rules → MatchResult r (λ _. AddsEntry number entry s rules after more) (λ e. (HasSingle s entry × (e ≡ Twice number)) ⊎ (e ≡ Memory)) → MatchResult r (λ _. Collected lines (suc count) after more) (λ e. LinesHaveFault lines e ⊎ (e ≡ Memory))
entry_outcome {U} lines count number line s after rules more entry (Ok u) n next states k out = after_entry lines count number line s after rules more entry n next states k out
entry_outcome {U} lines count number line s after rules more entry (Err e) n next states k out =
    elim (out) [
      | inl twice ↦ inl (rw twice.1 (twice_line lines count number line s rules entry n next states k twice.0))
      | inr memory ↦ inr memory
    ]

-- ---- the cursor

pub goes_on : (lines now : List (List ℕ)) (count : ℕ) (line : List ℕ) (rest : List (List ℕ)) → now ≡ drop count lines → now ≡ line ∷ rest → (rest ≡ drop (count + 1) lines) × (drop count lines ≡ line ∷ drop (suc count) lines) × (count + 1 ≤ length lines)
goes_on lines now count line rest at split =
    let here : drop count lines ≡ line ∷ rest = sym at ∙ split in
    let next : drop (suc count) lines ≡ rest = rest_at lines count line rest here in
    (rw add-one (sym next), rw next here, omega (arith, ap length here, length-drop count lines))

pub ends_at : (lines : List (List ℕ)) (bytes : List ℕ) (count : ℕ) → lines_of bytes ≡ drop count lines → bytes ≡ [] → count ≤ length lines → count ≡ length lines
unfolding lines_of
ends_at lines bytes count at e le =
    let none : lines_of bytes ≡ [] = ap lines_of e in
    omega (arith, ap length (sym at ∙ none), length-drop count lines)

-- ---- the answer

pub answer_found : (lines : List (List ℕ)) (r : Result Declaration CapFault) → AnswersBy Memory (LinesDeclare lines) (LinesHaveFault lines) r → IfOk r (λ d. LinesDeclare lines d)
answer_found lines (Ok d) a = a
answer_found lines (Err e) a = tt

pub answer_fault : (lines : List (List ℕ)) (r : Result Declaration CapFault) → AnswersBy Memory (LinesDeclare lines) (LinesHaveFault lines) r → IfErr r (λ e. LinesHaveFault lines e ⊎ (e ≡ Memory))
answer_fault lines (Ok d) a = tt
answer_fault lines (Err e) a = a

pub answer_only : (one : OneValue) → (lines : List (List ℕ)) (r : Result Declaration CapFault) → AnswersBy Memory (LinesDeclare lines) (LinesHaveFault lines) r → (d : Declaration) → LinesDeclare lines d → GivesOr Memory r (Ok d)
answer_only one lines (Ok found) a d is = let same : found ≡ d = declares_same one lines found d a.clean a.declares is.declares in inl (ap (λ (x : Declaration). let r : Result Declaration CapFault = Ok x in r) same)
answer_only one lines (Err e) a d is =
    elim (a) [
      | inl fault ↦ absurd (no_fault one lines d e is fault)
      | inr memory ↦ inr (ap (λ (x : CapFault). let r : Result Declaration CapFault = Err x in r) memory)
    ]

pub answer_exact : (one : OneValue) → (lines : List (List ℕ)) (r : Result Declaration CapFault) → AnswersBy Memory (LinesDeclare lines) (LinesHaveFault lines) r → (e : CapFault) → LinesHaveFault lines e → GivesOr Memory r (Err e)
answer_exact one lines (Ok found) a e has = absurd (no_fault one lines found e a has)
answer_exact one lines (Err f) a e has =
    elim (a) [
      | inl fault ↦ inl (ap (λ (x : CapFault). let r : Result Declaration CapFault = Err x in r) (fault_same one lines f e fault has))
      | inr memory ↦ inr (ap (λ (x : CapFault). let r : Result Declaration CapFault = Err x in r) memory)
    ]

pub answer_capacity : (lines : List (List ℕ)) (r : Result Declaration CapFault) → AnswersBy Memory (LinesDeclare lines) (LinesHaveFault lines) r → IfOk r (λ d. IsCapacity (capacity_of d))
answer_capacity lines (Ok d) a = is_capacity lines d a
answer_capacity lines (Err e) a = tt

pub answer_keeps : (lines : List (List ℕ)) (r : Result Declaration CapFault) → AnswersBy Memory (LinesDeclare lines) (LinesHaveFault lines) r → IfOk r (λ d. IsDeclaration d)
answer_keeps lines (Ok d) a = is_declaration lines d a
answer_keeps lines (Err e) a = tt

pub answer_allowed : (lines : List (List ℕ)) (r : Result Declaration CapFault) → AnswersBy Memory (LinesDeclare lines) (LinesHaveFault lines) r → IfOk r (λ d. HasAllowedValues d)
answer_allowed lines (Ok d) a = values_allowed lines d a
answer_allowed lines (Err e) a = tt

-- ---- an early end

pub err_outcome : {X : Type 0} (P : X → Type 0) (Q : CapFault → Type 0) (e : CapFault) (r : Result X CapFault) → IsErrAnd r (λ f. f ≡ e) → Q e → MatchResult r P Q
err_outcome {X} P Q e (Ok x) err q = absurd (err)
err_outcome {X} P Q e (Err f) err q = subst Q (sym err) q

pub answer_err : (lines : List (List ℕ)) (e : CapFault) (r : Result Declaration CapFault) → IsErrAnd r (λ f. f ≡ e) → LinesHaveFault lines e ⊎ (e ≡ Memory) → AnswersBy Memory (LinesDeclare lines) (LinesHaveFault lines) r
answer_err lines e (Ok d) err has = absurd (err)
answer_err lines e (Err f) err has = subst (λ (x : CapFault). LinesHaveFault lines x ⊎ (x ≡ Memory)) (sym err) has
