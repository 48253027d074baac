use Rattle.std.proofs.Common.{arith}
use Rattle.std.proofs.lemmas.List.{length_push}
use Rattle.std.proofs.lemmas.List.Sums.{sum_by_push}
use Rattle.std.proofs.lemmas.List.Elements.{All-push}
use Rattle.choice_problem.specs.declared.strips.Strip.{Strip}
use Rattle.choice_problem.specs.Strips.{strip_uses}
use Rattle.capacity_windows.specs.Bands.{IsWide}
use Rattle.capacity_windows.proofs.BandLemmas.{band_empty, weekdays_none}
use Rattle.capacity_windows.proofs.windows.Windows.add_band.Goals as goal
use Rattle.capacity_windows.proofs.windows.Windows.add_band.Goals.{in-Some-weekday_strip+in_ok-push-2, in_default-weekday_strip}

pub returns-then-band-clause-uses : goal.returns-then-band-clause-uses
returns-then-band-clause-uses c = λ r. let none = band_empty c.args.self.now.season c.args.stop.now.period c.args.stop.now.later c.args.band.now r (omega arith) in omega (arith, none)

pub loop-weekday-init : goal.loop-weekday-init
loop-weekday-init c = record {
  uses = λ r. let none = weekdays_none c.args.self.now.season c.args.stop.now.period c.args.stop.now.later c.args.band.now r in omega (arith, none);
  wide = c.requires.wide;
  few = omega arith;
}

pub loop-weekday-preserved : goal.loop-weekday-preserved
loop-weekday-preserved c =
    let old = c.loop-weekday.strips.items in
    elim c.match-weekday_strip.branch [
      | in-Some-weekday_strip+in_ok-push-2 w ↦
          let strip = w.in-Some-weekday_strip.strip in
          rw (w.strips-is, w.in_ok-push-2.ensures.items) (record {
            uses = λ r. omega (arith, sum_by_push (λ (s : Strip). strip_uses s r) old strip, c.loop-weekday.invariant.uses r, w.in-Some-weekday_strip.ensures.uses r);
            wide = All-push IsWide old strip c.loop-weekday.invariant.wide w.in-Some-weekday_strip.ensures.wide;
            few = omega (arith, length_push old strip, c.loop-weekday.invariant.few);
          })
      | in_default-weekday_strip w ↦ rw w.strips-is (record {
        uses = λ r. omega (arith, c.loop-weekday.invariant.uses r, w.in_default-weekday_strip.ensures.uses r);
        wide = c.loop-weekday.invariant.wide;
        few = omega (arith, c.loop-weekday.invariant.few);
      })
    ]
