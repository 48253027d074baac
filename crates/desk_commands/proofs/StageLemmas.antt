-- The status that the stages of a certificate give.
use Rattle.std.proofs.Common.{◌≡◌, ℕ, suc, ◌+◌, ◌<◌, ◌≤◌, ◌^◌, Bool, true, false, List, [], ◌∷◌, ◌++◌, ◌||◌, length, drop, get_or, refl, sym, ap, ◌∙◌, append_assoc, subst, codes, arith}
use Rattle.std.specs.List.{AllByRecursion}
use Rattle.std.proofs.lemmas.List.{drop_more, length-append}
use Rattle.std.specs.Prelude.{All, Contains, if◌then◌else◌}
use Rattle.std.proofs.lemmas.List.Elements.{All-nil, All-cons, All-head, All-tail, All-weaker}
use Rattle.cert_format.specs.declared.cert.Mark.{Mark}
use Rattle.cert_format.specs.declared.cert.Mark.TheVariants.{Optimal, Infeasible, Unsettled, NotTried}
use Rattle.choice_problem.specs.declared.nodes.Node.{Node}
use Rattle.cert_format.specs.declared.cert.StageCert.{StageCert}
use Rattle.cert_format.specs.declared.cert.Certificate.{Certificate}
use Rattle.cert_format.specs.Spelling.{numbered, stage_lines, proof_lines, is_tried}
use Rattle.cert_format.specs.Printable.{IsPrintable, IsPrintableStage, IsPrintableAs, proof_line_count}
use Rattle.desk_commands.specs.StageLines.{mark_line, mark_lines, is_infeasible, is_open, some_mark, marks_status}
use Rattle.desk_commands.specs.Jobs.{searched_statuses, IsSettledStatus}

status_among : (a b : Bool) → Contains searched_statuses (if a then 8 else (if b then 9 else 0))
status_among true b = (1, omega arith, refl)
status_among false true = (2, omega arith, refl)
status_among false false = (0, omega arith, refl)

pub marks_among : (certs : List StageCert) → Contains searched_statuses (marks_status certs)
marks_among certs = status_among (some_mark is_infeasible certs) (some_mark is_open certs)

-- ---- no stage is OPEN

not_open : (mark : Mark) → (mark ≡ Unsettled → ⊥) → is_open mark ≡ false
not_open Optimal never = refl
not_open Infeasible never = refl
not_open Unsettled never = absurd (never refl)
not_open NotTried never = refl

both_false : (a b : Bool) → a ≡ false → b ≡ false → (a || b) ≡ false
both_false true b one two = absurd (cc)
both_false false b one two = two

abbrev IsNotOpen : StageCert → Type 0
IsNotOpen c = c.mark ≡ Unsettled → ⊥

none_open : (certs : List StageCert) → All IsNotOpen certs → some_mark is_open certs ≡ false
none_open [] never = refl
none_open (c ∷ certs) never = both_false (is_open c.mark) (some_mark is_open certs) (not_open c.mark (All-head IsNotOpen c certs never)) (none_open certs (All-tail IsNotOpen c certs never))

settled_among : (a b : Bool) → b ≡ false → IsSettledStatus (if a then 8 else (if b then 9 else 0))
settled_among true b none = (1, omega arith, refl)
settled_among false true none = absurd (cc)
settled_among false false none = (0, omega arith, refl)

pub settled_marks : (certs : List StageCert) → All (λ (c : StageCert). c.mark ≡ Unsettled → ⊥) certs → IsSettledStatus (marks_status certs)
settled_marks certs never = settled_among (some_mark is_infeasible certs) (some_mark is_open certs) (none_open certs never)

-- ---- lines

-- one more line is put
pub line_added : (before after : List ℕ) (n : ℕ) (certs : List StageCert) (i : ℕ) (d : StageCert) (all : List ℕ) → i < length certs → before ++ mark_lines n (drop i certs) ≡ all → after ≡ before ++ mark_line n (get_or certs i d) →
    after ++ mark_lines (suc n) (drop (i + 1) certs) ≡ all
line_added before after n certs i d all lt so is =
    ap (λ (t : List ℕ). t ++ mark_lines (suc n) (drop (i + 1) certs)) is
    ∙ (append_assoc before (mark_line n (get_or certs i d)) (mark_lines (suc n) (drop (i + 1) certs))
    ∙ (ap (λ (l : List StageCert). before ++ mark_lines n l) (sym (drop_more certs i d lt)) ∙ so))

-- ---- nodes

-- so few that they can be counted
abbrev pub HasFewNodes : StageCert → Type 0
HasFewNodes c = length c.tree < 2 ^ 32

module _ (counts : (c : StageCert) → length (proof_lines c) ≡ proof_line_count c) where
  tree_lines_as : (version : ℕ) (c : StageCert) (b : Bool) → IsPrintableAs version c b → length c.tree ≤ length (if b then proof_lines c else [])
  tree_lines_as version c true is = omega (arith, counts c)
  tree_lines_as version c false is = subst (λ (t : List Node). length t ≤ 0) (sym is.tree) (omega arith)

  below : (version most n : ℕ) (certs : List StageCert) → AllByRecursion (IsPrintableStage version) certs → length (numbered stage_lines n certs) ≤ most → All (λ (c : StageCert). length c.tree ≤ most) certs
  below version most n [] all le = All-nil (λ (c : StageCert). length c.tree ≤ most)
  below version most n (c ∷ certs) all le =
      let sum = length-append (stage_lines n c) (numbered stage_lines (suc n) certs) in
      All-cons (λ (d : StageCert). length d.tree ≤ most) c certs
      (omega (arith, le, sum, tree_lines_as version c (is_tried c.mark) all.0))
      (below version most (suc n) certs all.1 (omega (arith, le, sum)))

  pub few_nodes : (c : Certificate) → IsPrintable c → All HasFewNodes c.stages
  few_nodes c is =
      let sum = length-append (numbered stage_lines 1 c.stages) ((codes "END" ∷ []) ∷ []) in
      All-weaker (λ (s : StageCert). length s.tree ≤ 4294967295) HasFewNodes (λ s h. omega (arith, h)) c.stages
      (below c.version 4294967295 1 c.stages is.stages (omega (arith, sum, is.few)))
