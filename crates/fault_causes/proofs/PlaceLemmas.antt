-- Where the lines of a run stand in the text, and the lines above them.
use Rattle.std.proofs.Common.{◌≡◌, ℕ, zero, suc, ◌+◌, ◌-◌, ◌<◌, Bool, true, false, List, [], ◌∷◌, ◌++◌, length, take, refl, sym, subst, ◌∙◌, arith, inl, inr}
use Rattle.std.specs.Prelude.{slice_get, if◌then◌else◌}
use Rattle.std.proofs.lemmas.Bool.{cases_Bool}
use Rattle.std.proofs.lemmas.List.{append_assoc, append-nil}
use Rattle.slot_text.specs.Fields.{is_blank_line}
use Rattle.scr_reader.specs.Messages.{Run, run_from, begins_in_run, onto_run, runs_of}
use Rattle.fault_causes.specs.Requests.{lines_since}

-- ---- lines that are counted from n on

-- line j of the run is line i, and no line before the run's first is above it
record Closes (n : ℕ) (lines : List (List ℕ)) (run : Run) (j : ℕ) : Type 0 where
  i : ℕ
  number : run.number + j ≡ n + i
  same : slice_get lines i ≡ slice_get run.lines j
  above : (before : List (List ℕ)) → lines_since before i lines ≡ take j run.lines

-- the same of a run whose first line is the first of all
record Opens (lines : List (List ℕ)) (run : Run) (j : ℕ) : Type 0 where
  same : slice_get lines j ≡ slice_get run.lines j
  above : (before : List (List ℕ)) → lines_since before j lines ≡ before ++ take j run.lines

abbrev Closed : ℕ → List (List ℕ) → Run → Type 0
Closed n lines run = (j : ℕ) → j < length run.lines → Closes n lines run j

abbrev Open : ℕ → List (List ℕ) → Run → Type 0
Open n lines run = (run.number ≡ n) × ((j : ℕ) → j < length run.lines → Opens lines run j)

abbrev AllClosed : ℕ → List (List ℕ) → List Run → Type 0
AllClosed n lines [] = Unit {0}
AllClosed n lines (run ∷ runs) = Closed n lines run × AllClosed n lines runs

abbrev First : Bool → ℕ → List (List ℕ) → Run → Type 0
First true n lines run = Open n lines run
First false n lines run = Closed n lines run

abbrev Parts : Bool → ℕ → List (List ℕ) → List Run → Type 0
Parts begins n lines [] = Unit {0}
Parts begins n lines (run ∷ runs) = First begins n lines run × AllClosed n lines runs

-- ---- a line more in front

module _ (n : ℕ) (line : List ℕ) (lines : List (List ℕ)) where
  closed_on : (run : Run) → Closed (n + 1) lines run → Closed n (line ∷ lines) run
  closed_on run h = λ j lt.
      let at = h j lt in
      record {
        i = suc at.i;
        number = omega (arith, at.number);
        same = at.same;
        above = λ before. at.above (if is_blank_line line then [] else before ++ line ∷ []);
      }

  all_on : (runs : List Run) → AllClosed (n + 1) lines runs → AllClosed n (line ∷ lines) runs
  all_on [] h = tt
  all_on (run ∷ runs) h = (closed_on run h.0, all_on runs h.1)

  below_blank : is_blank_line line ≡ true → (run : Run) → Open (n + 1) lines run → Closed n (line ∷ lines) run
  below_blank blank run h = λ j lt.
      let at = h.1 j lt in
      record { i = suc j; number = omega (arith, h.0); same = at.same; above = λ before. rw blank (at.above []) }

  onto_at : is_blank_line line ≡ false → (run : Run) → Open (n + 1) lines run → (j : ℕ) → j < length (line ∷ run.lines) → Opens (line ∷ lines) (run_from n (line ∷ run.lines)) j
  onto_at full run h zero lt = record { same = refl; above = λ before. sym (append-nil before) }
  onto_at full run h (suc j) lt =
      let at = h.1 j (omega (arith, lt)) in
      record { same = at.same; above = λ before. rw full (at.above (before ++ line ∷ []) ∙ append_assoc before (line ∷ []) (take j run.lines)) }

  alone_at : (j : ℕ) → j < 1 → Opens (line ∷ lines) (run_from n (line ∷ [])) j
  alone_at zero lt = record { same = refl; above = λ before. sym (append-nil before) }
  alone_at (suc j) lt = absurd (omega (arith, lt))

  skipped : is_blank_line line ≡ true → (begins : Bool) (runs : List Run) → Parts begins (n + 1) lines runs → Parts false n (line ∷ lines) runs
  skipped blank begins [] h = tt
  skipped blank true (run ∷ runs) h = (below_blank blank run h.0, all_on runs h.1)
  skipped blank false (run ∷ runs) h = (closed_on run h.0, all_on runs h.1)

  put_on : is_blank_line line ≡ false → (runs : List Run) → Parts true (n + 1) lines runs → Parts true n (line ∷ lines) (onto_run n line runs)
  put_on full [] h = ((refl, λ j lt. alone_at j lt), tt)
  put_on full (run ∷ runs) h = ((refl, λ j lt. onto_at full run h.0 j lt), all_on runs h.1)

  put_alone : (runs : List Run) → Parts false (n + 1) lines runs → Parts true n (line ∷ lines) (run_from n (line ∷ []) ∷ runs)
  put_alone [] h = ((refl, λ j lt. alone_at j lt), tt)
  put_alone (run ∷ runs) h = ((refl, λ j lt. alone_at j lt), (closed_on run h.0, all_on runs h.1))

parts : (n : ℕ) (lines : List (List ℕ)) → Parts (begins_in_run lines) n lines (runs_of n lines)
unfolding runs_of
parts n [] = tt
parts n (line ∷ lines) =
    let rest = parts (n + 1) lines in
    elim (cases_Bool (is_blank_line line)) [
      | inl blank ↦ rw blank (skipped n line lines blank (begins_in_run lines) (runs_of (n + 1) lines) rest)
      | inr full ↦
          elim (cases_Bool (begins_in_run lines)) [
            | inl on ↦ rw (full, on) (put_on n line lines full (runs_of (n + 1) lines) (subst (λ (b : Bool). Parts b (n + 1) lines (runs_of (n + 1) lines)) on rest))
            | inr ends ↦ rw (full, ends) (put_alone n line lines (runs_of (n + 1) lines) (subst (λ (b : Bool). Parts b (n + 1) lines (runs_of (n + 1) lines)) ends rest))
          ]
    ]

-- ---- the lines of a text

-- line j of the run, and the run's lines before it
pub record Stands (lines : List (List ℕ)) (run : Run) (j : ℕ) : Type 0 where
  pub same : slice_get lines (run.number + j - 1) ≡ slice_get run.lines j
  pub above : lines_since [] (run.number + j - 1) lines ≡ take j run.lines

abbrev pub AllStand : List (List ℕ) → List Run → Type 0
AllStand lines [] = Unit {0}
AllStand lines (run ∷ runs) = ((j : ℕ) → j < length run.lines → Stands lines run j) × AllStand lines runs

at_line : (lines : List (List ℕ)) (run : Run) (j i : ℕ) → run.number + j ≡ 1 + i → slice_get lines i ≡ slice_get run.lines j → lines_since [] i lines ≡ take j run.lines → Stands lines run j
at_line lines run j i number same above =
    let e : i ≡ run.number + j - 1 = omega (arith, number) in
    record {
      same = subst (λ (k : ℕ). slice_get lines k ≡ slice_get run.lines j) e same;
      above = subst (λ (k : ℕ). lines_since [] k lines ≡ take j run.lines) e above;
    }

closed_stands : (lines : List (List ℕ)) (runs : List Run) → AllClosed 1 lines runs → AllStand lines runs
closed_stands lines [] h = tt
closed_stands lines (run ∷ runs) h = (λ j lt. let at = h.0 j lt in at_line lines run j at.i at.number at.same (at.above []), closed_stands lines runs h.1)

parts_stand : (lines : List (List ℕ)) (begins : Bool) (runs : List Run) → Parts begins 1 lines runs → AllStand lines runs
parts_stand lines begins [] h = tt
parts_stand lines true (run ∷ runs) h = (λ j lt. let at = h.0.1 j lt in at_line lines run j j (omega (arith, h.0.0)) at.same (at.above []), closed_stands lines runs h.1)
parts_stand lines false (run ∷ runs) h = closed_stands lines (run ∷ runs) h

pub all_stand : (lines : List (List ℕ)) → AllStand lines (runs_of 1 lines)
all_stand lines = parts_stand lines (begins_in_run lines) (runs_of 1 lines) (parts 1 lines)
