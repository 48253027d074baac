use Rattle.std.proofs.Common.{◌≡◌, ◌↔◌, Some, None, refl, subst}
use Rattle.std.specs.Prelude.{Option, IfSome, IsTrue, is_some}
use Rattle.std.proofs.lemmas.Option.{none-some}
use Rattle.slot_text.specs.Stations.{IsStation}
use Rattle.slot_text.specs.declared.station.Station.{Station}
use Rattle.scr_reader.proofs.fits.station_fits.Goals as goal

read_where_it_fits : (r : Option Station) (station : Station) → IfSome r (λ s. IsStation s.0 × (s.0 ≡ station.0)) → ((s : Station) → IsStation s.0 → s.0 ≡ station.0 → r ≡ Some s) → IsTrue (is_some r) ↔ IsStation station.0
read_where_it_fits None station found only = ((λ t. cc), λ fits. absurd (none-some _ (only station fits refl)))
read_where_it_fits (Some s) station found only = ((λ t. subst IsStation found.1 found.0), λ fits. refl)

pub returns : goal.returns
returns c = rw c.is_some.ensures (read_where_it_fits c.read.result c.args.station c.read.ensures.found c.read.ensures.only)
