use Rattle.std.proofs.Common.{◌≡◌, ◌<◌, ◌∷◌, List, [], length, arith, inl, inr}
use Rattle.std.proofs.lemmas.Bool.{cases_lt}
use Rattle.std.proofs.lemmas.List.{get_or_read}
use Rattle.choice_problem.specs.declared.vectors.Price.{Price}
use Rattle.price_table.specs.Tables.{vectors_of}
use Rattle.price_table.specs.Totals.{totals_at}
use Rattle.branch_tree.proofs.VisitLemmas.{first-leaf, none-open, kept-closes}
use Rattle.branch_tree.proofs.closings.kept_leaf.Goals as goal

pub returns-then-closes-clause-some : goal.returns-then-closes-clause-some
returns-then-closes-clause-some c =
    let p = c.args.problem.now in
    let root = c.args.root.now.prices in
    let further = vectors_of c.args.further.now in
    let totals = c.args.totals.now in
    let place = c.loop-place.place in
    let t = c.index-totals-place.result in
    let within : place < length totals = omega arith in
    let at : t ≡ totals_at totals place = get_or_read totals place t within c.index-totals-place.is (record { ranges = []; scale = 0; least = []; limits = 0 }) in
    let exact = kept-closes p (root ∷ further) c.args.ranges.now totals c.args.seen place t c.closes.result c.requires.kept within at c.closes.ensures in
    rw c.leaf.ensures
    (first-leaf p root further c.args.ranges.now c.args.seen c.requires.needs place (omega (arith, within, c.requires.kept.count)) c.loop-place.invariant (exact.0 c.if-closes.true))

pub loop-place-preserved : goal.loop-place-preserved
loop-place-preserved c = λ k l.
    let p = c.args.problem.now in
    let vectors : List (List Price) = c.args.root.now.prices ∷ vectors_of c.args.further.now in
    let totals = c.args.totals.now in
    let place = c.loop-place.place in
    let t = c.index-totals-place.result in
    let within : place < length totals = omega arith in
    let at : t ≡ totals_at totals place = get_or_read totals place t within c.index-totals-place.is (record { ranges = []; scale = 0; least = []; limits = 0 }) in
    let exact = kept-closes p vectors c.args.ranges.now totals c.args.seen place t c.closes.result c.requires.kept within at c.closes.ensures in
    elim (cases_lt k place) [
      | inl below ↦ c.loop-place.invariant k below
      | inr last ↦
          let e : k ≡ place = omega arith in
          rw e (λ h. let yes = exact.1 h in cc yes)
    ]

pub returns-clause-none : goal.returns-clause-none
returns-clause-none c =
    none-open c.args.problem.now c.args.root.now.prices (vectors_of c.args.further.now) c.args.ranges.now c.args.seen c.requires.needs
    (λ k l. c.loop-place.invariant k (omega (arith, l, c.requires.kept.count, c.loop-place-test.false)))
