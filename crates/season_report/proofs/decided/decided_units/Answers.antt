use Rattle.std.proofs.Common.{◌∙◌, rules}
use Rattle.season_report.specs.Decisions.{decided_units}
use Rattle.season_report.proofs.StateLemmas.{decided_next, decided_end}
use Rattle.season_report.proofs.decided.decided_units.Goals as goal

pub loop-i-preserved : goal.loop-i-preserved
loop-i-preserved c =
    decided_next c.args.cert.now c.args.befores.now c.args.afters.now c.loop-i.i c.loop-i.units.items c.push.new.self.items _ _ _ (search rules) c.requires c.decided_of.ensures c.in_ok-push.ensures.items
    ∙ c.loop-i.invariant

pub returns : goal.returns
returns c =
    decided_end c.args.cert.now c.args.befores.now c.args.afters.now c.loop-i.i c.loop-i.units.items (decided_units c.args.cert.now c.args.befores.now c.args.afters.now) (search rules) c.loop-i.invariant
