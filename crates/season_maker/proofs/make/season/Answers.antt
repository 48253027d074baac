use Rattle.std.proofs.Common.{◌≡◌, Some, arith, refl}
use Rattle.season_maker.specs.Generated.{summer_2025}
use Rattle.season_maker.proofs.make.season.Goals as goal

pub unwrap-requires : goal.unwrap-requires
unwrap-requires c =
    let e : c.read.result ≡ Some summer_2025 = c.read.ensures.only summer_2025 (omega arith) refl in
    rw e refl
