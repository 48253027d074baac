use Rattle.std.proofs.Common.{◌≡◌, Bool, true, false, not, refl}
use Rattle.holding_book.proofs.SearchLemmas.{counted, full-alone}
use Rattle.holding_book.proofs.loads.Loads.is_full.Goals as goal

is_false : (b : Bool) → not b ≡ true → b ≡ false
is_false true e = absurd (cc e)
is_false false e = refl

pub returns : goal.returns
returns c full =
    let one = c.args.one.now in
    let count = counted c.self.inside.declaration c.self.inside.windows c.self.inside.left c.args.self.now c.self.view_is c.self.invariant in
    full-alone c.movement_loads.ensures c.args.self.now count c.args.line.now one one c.requires (is_false one.fits full)
