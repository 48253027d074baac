use Rattle.std.proofs.Common.{◌≡◌, ℕ, ◌-◌, arith, Bool, true, false, not, List, ◌++◌, sym, ap, ap₂, ◌∙◌, slice_set}
use Rattle.std.specs.Prelude.{◌&&◌}
use Rattle.choice_problem.specs.Problems.{alt_count}
use Rattle.cost_fixing.specs.Fixings.{is_out, uses_last, parted}
use Rattle.cost_fixing.proofs.ListLemmas.{before, behind}
use Rattle.cost_fixing.proofs.StepLemmas.{but-back, passing-push, passing-same}
use Rattle.cost_fixing.proofs.numbers.unit_numbers.Goals as goal
use Rattle.cost_fixing.proofs.numbers.unit_numbers.Goals.{then-not-is_out+then-uses_last+in_ok-push, then-not-is_out+else-uses_last+in_ok-push-2, else-not-is_out}

pub loop-alt-preserved : goal.loop-alt-preserved
loop-alt-preserved c =
    let p = c.args.problem.now in
    let prices = c.args.table.now.prices in
    let alt = c.loop-alt.alt in
    let first = c.loop-alt.numbers.items in
    let others = c.loop-alt.last.items in
    let kept : ℕ → Bool = λ a. not (is_out p prices c.args.totals.now.scale c.args.cost c.args.unit a) in
    let last : ℕ → Bool = λ a. uses_last p c.args.unit a in
    let same : c.is_out.result ≡ is_out p prices c.args.totals.now.scale c.args.cost c.args.unit alt =
    c.is_out.ensures.value ∙ ap (λ (s : ℕ). is_out p prices s c.args.cost c.args.unit alt) c.loop-alt.invariant.scale in
    record {
      totals = c.is_out.ensures.totals;
      whole = c.is_out.ensures.whole;
      scale = c.is_out.ensures.scale ∙ c.loop-alt.invariant.scale;
      numbers = elim c.if-not-is_out.branch [
        | then-not-is_out+then-uses_last+in_ok-push w ↦
            let no : before kept last alt ≡ false = ap₂ (λ (b d : Bool). b && not d) (ap not (sym same ∙ w.if-not-is_out.true)) (sym w.uses_last.ensures ∙ w.if-uses_last.true) in
            rw w.numbers-is (passing-same (before kept last) alt first c.loop-alt.invariant.numbers no)
        | then-not-is_out+else-uses_last+in_ok-push-2 w ↦
            let yes : before kept last alt ≡ true = ap₂ (λ (b d : Bool). b && not d) (ap not (sym same ∙ w.if-not-is_out.true)) (sym w.uses_last.ensures ∙ w.if-uses_last.false) in
            rw (w.numbers-is, w.in_ok-push-2.ensures.items) (passing-push (before kept last) alt first c.loop-alt.invariant.numbers yes)
        | else-not-is_out w ↦
            let no : before kept last alt ≡ false = ap (λ (b : Bool). b && not (last alt)) (ap not (sym same ∙ w.if-not-is_out.false)) in
            rw w.numbers-is (passing-same (before kept last) alt first c.loop-alt.invariant.numbers no)
      ];
      last = elim c.if-not-is_out.branch [
        | then-not-is_out+then-uses_last+in_ok-push w ↦
            let yes : behind kept last alt ≡ true = ap₂ (λ (b d : Bool). b && d) (ap not (sym same ∙ w.if-not-is_out.true)) (sym w.uses_last.ensures ∙ w.if-uses_last.true) in
            rw (w.last-is, w.in_ok-push.ensures.items) (passing-push (behind kept last) alt others c.loop-alt.invariant.last yes)
        | then-not-is_out+else-uses_last+in_ok-push-2 w ↦
            let no : behind kept last alt ≡ false = ap₂ (λ (b d : Bool). b && d) (ap not (sym same ∙ w.if-not-is_out.true)) (sym w.uses_last.ensures ∙ w.if-uses_last.false) in
            rw w.last-is (passing-same (behind kept last) alt others c.loop-alt.invariant.last no)
        | else-not-is_out w ↦
            let no : behind kept last alt ≡ false = ap (λ (b : Bool). b && last alt) (ap not (sym same ∙ w.if-not-is_out.false)) in
            rw w.last-is (passing-same (behind kept last) alt others c.loop-alt.invariant.last no)
      ];
    }

pub returns-clause-whole : goal.returns-clause-whole
returns-clause-whole c =
    let ranges = c.loop-alt.totals.ranges in
    but-back c.args.problem.now c.args.unit ranges c.set.new.self.ranges c.requires.unit c.loop-alt.invariant.whole
    (c.set.ensures.ranges ∙ ap (λ (n : ℕ). slice_set ranges c.args.unit (0, n - 1)) c.alts.ensures.count)

pub returns-clause-value : goal.returns-clause-value
returns-clause-value c =
    let p = c.args.problem.now in
    let unit = c.args.unit in
    let kept : ℕ → Bool = λ a. not (is_out p c.args.table.now.prices c.args.totals.now.scale c.args.cost unit a) in
    let last : ℕ → Bool = λ a. uses_last p unit a in
    let all : c.loop-alt.alt ≡ alt_count p unit = omega (arith, c.loop-alt-test.false, c.loop-alt.auto.alt-end, c.alts-alt-end.ensures.count) in
    c.in_ok-extend_from_slice.ensures.items
    ∙ ap₂ (λ (xs ys : List ℕ). xs ++ ys) c.loop-alt.invariant.numbers (c.deref.ensures.value ∙ c.loop-alt.invariant.last)
    ∙ ap (λ (n : ℕ). parted kept last n) all
