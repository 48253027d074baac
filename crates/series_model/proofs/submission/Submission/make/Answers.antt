use Rattle.std.proofs.Common.{◌≡◌, length, sym, subst, arith, None}
use Rattle.std.specs.Prelude.{All}
use Rattle.series_model.specs.Units.{units_of, UnitFits}
use Rattle.series_model.specs.Submissions.{MakesUnits, first_fault}
use Rattle.series_model.proofs.UnitLemmas.{make_units}
use Rattle.series_model.proofs.FitLemmas.{units_fit}
use Rattle.series_model.proofs.submission.Submission.make.Goals as goal

pub invariant_of-result : goal.invariant_of-result
invariant_of-result c =
    let none : first_fault c.args.declaration c.args.messages ≡ None = cc (c.first_fault.ensures, c.items.ensures, c.in_default.is) in
    let units : c.in_ok-units.units.items ≡ units_of c.args.messages = cc (c.in_ok-units.ensures, c.items-3.ensures) in
    let count : length c.in_ok-units.units.items ≡ c.count_units-count.result = cc (units, c.count_units-count.ensures, c.items-2.ensures) in
    let fits = units_fit c.args.declaration c.args.messages none c.requires.fits c.requires.pairs in
    record {
      keeps = c.requires.keeps;
      declared = c.in_ok-windows.ensures.value;
      units = units;
      one_each = make_units c.args.declaration c.args.messages none;
      few = omega (arith, count, c.if-count-gt-MOST_UNITS.false);
      fits = subst (All (UnitFits c.args.declaration.season)) (sym units) fits;
    }

pub count_units-count-requires-clause-each : goal.count_units-count-requires-clause-each
count_units-count-requires-clause-each c =
    let none : first_fault c.args.declaration c.args.messages ≡ None = cc (c.first_fault.ensures, c.items.ensures, c.in_default.is) in
    subst (All MakesUnits) (sym c.items-2.ensures) (make_units c.args.declaration c.args.messages none)
