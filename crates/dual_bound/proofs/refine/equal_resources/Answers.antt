use Rattle.std.proofs.Common.{◌≡◌, ℕ, ◌+◌, ◌∙◌, ◌++◌, length, take, drop, replicate, inl, inr, ap, subst, arith}
use Rattle.std.proofs.lemmas.List.{get_or-replicate, length-replicate}
use Rattle.std.proofs.lemmas.Bool.{cases_lt}
use Rattle.std.proofs.lemmas.Result.{IfOk-weaker}
use Rattle.choice_problem.specs.Strips.{part_uses}
use Rattle.choice_problem.specs.Problems.{unit_count, resource_count, chooser_at, part_at, limit_of}
use Rattle.dual_bound.specs.declared.refine.Split.{Split}
use Rattle.dual_bound.specs.Classes.{IsUnitByClass, part_order, split_at}
use Rattle.dual_bound.proofs.HoldLemmas.{written-over}
use Rattle.dual_bound.proofs.RefineLemmas.{IsByClass-first}
use Rattle.dual_bound.proofs.refine.equal_resources.Goals as goal

pub loop-unit-init : goal.loop-unit-init
loop-unit-init c =
    let n = resource_count c.args.problem.now in
    let splits = c.in_ok-splits.splits.items in
    let none : Split = record { part = 0; class = 0 } in
    let all : splits ≡ replicate n none = rw c.resources-resources.ensures.count at (c.in_ok-splits.ensures.items_if_clones_equal (λ y e. e)) in
    let size : length splits ≡ n = rw all (length-replicate n none) in
    record {
      split = record {
        count = c.in_ok-classes.ensures.count;
        there = λ r l. omega (arith, size, c.in_ok-classes.ensures.there r l);
        past = λ k l.
            let at : split_at splits k ≡ none = rw all (get_or-replicate n k none none (omega (arith, l, size))) in
            omega (arith, ap (λ (s : Split). s.part) at);
      };
      enough = omega (arith, size);
      limits = c.in_ok-classes.ensures.limits;
      units = λ v l. absurd (omega arith);
    }

pub numbered-requires-clause-few : goal.numbered-requires-clause-few
numbered-requires-clause-few c =
    let p = c.args.problem.now in
    let split = c.split_by_unit.new.classes in
    let was = c.loop-unit.classes in
    let size : length split ≡ resource_count p = c.in_ok-split_by_unit.ensures.classes.count in
    let whole : take was.len (split ++ drop (length split) was.items) ≡ split = written-over was.len split was.items (omega arith) in
    rw (whole, size) (omega (arith, c.resources-resources.ensures.count, c.resources-resources.ensures.few))

pub numbered-requires-clause-enough : goal.numbered-requires-clause-enough
numbered-requires-clause-enough c =
    let p = c.args.problem.now in
    let split = c.split_by_unit.new.classes in
    let was = c.loop-unit.classes in
    let size : length split ≡ resource_count p = c.in_ok-split_by_unit.ensures.classes.count in
    let whole : take was.len (split ++ drop (length split) was.items) ≡ split = written-over was.len split was.items (omega arith) in
    rw (whole, size) (omega (arith, c.loop-unit.invariant.enough, c.in_ok-split_by_unit.ensures.more))

pub loop-unit-preserved : goal.loop-unit-preserved
loop-unit-preserved c =
    let p = c.args.problem.now in
    let unit = c.loop-unit.unit in
    let split = c.split_by_unit.new.classes in
    let was = c.loop-unit.classes in
    let size : length split ≡ resource_count p = c.in_ok-split_by_unit.ensures.classes.count in
    let whole : take was.len (split ++ drop (length split) was.items) ≡ split = written-over was.len split was.items (omega arith) in
    let kept = rw (whole, size) at c.in_ok-classes-2.ensures.kept in
    let before = rw c.deref_mut.ensures.value at c.in_ok-split_by_unit.ensures.kept in
    record {
      split = (rw (whole, size) at c.in_ok-classes-2.ensures.classes) (part_order (unit + 1) 0) c.in_ok-split_by_unit.ensures.classes;
      enough = rw (whole, size) at c.in_ok-classes-2.ensures.enough;
      limits = kept (λ r. limit_of p r) (before (λ r. limit_of p r) c.loop-unit.invariant.limits);
      units = λ v l. elim (cases_lt v unit) [
        | inl below ↦ λ k b. let f : ℕ → ℕ = λ r. part_uses (part_at (chooser_at p v) k) r in kept f (before f (c.loop-unit.invariant.units v below k b))
        | inr last ↦
            let e : unit ≡ v = omega arith in
            subst (λ u. IsUnitByClass p u c.in_ok-classes-2.classes.items) e
            (λ k b. kept (λ r. part_uses (part_at (chooser_at p unit) k) r) (c.in_ok-split_by_unit.ensures.unit k b))
      ];
    }

pub returns : goal.returns
returns c =
    let p = c.args.problem.now in
    let n = resource_count p in
    let classes = c.loop-unit.classes.items in
    let count : length classes ≡ n = c.loop-unit.invariant.split.count in
    let all : c.loop-unit.unit ≡ unit_count p = omega (arith, c.loop-unit-test.false, c.loop-unit.auto.unit-end, c.units-unit-end.ensures.count) in
    IfOk-weaker c.firsts_in.result _ _ (λ firsts a.
    let h = rw c.deref.ensures.value at a in
    record {
      count = h.count ∙ count;
      low = λ r l. h.low r (rw count l);
      one = λ r l. h.one r (rw count l);
      limits = λ r l. IsByClass-first classes firsts.items n (λ q. limit_of p q) count h c.loop-unit.invariant.limits r l;
      uses = λ u k r lu lk l. IsByClass-first classes firsts.items n (λ q. part_uses (part_at (chooser_at p u) k) q) count h
          (c.loop-unit.invariant.units u (rw all lu) k lk) r l;
    }) c.firsts_in.ensures
