use Rattle.std.proofs.Common.{◌≡◌, Option, Some, sym, ap, ◌∙◌, subst, arith}
use Rattle.std.specs.Prelude.{option_map}
use Rattle.desk_disk.specs.Disks.{DiskView}
use Rattle.desk_commands.specs.Opened.{DiskStops, open_stop}
use Rattle.slot_program.proofs.ResumeLemmas.{open_stops}
use Rattle.slot_program.proofs.resume.opened.Goals as goal

pub returns-in-Ok-clause-opened : goal.returns-in-Ok-clause-opened
returns-in-Ok-clause-opened g c = (
  g.K.Disk.view c.in-Some.held,
  ap (option_map g.K.Disk.view) (sym c.take.ensures.value ∙ c.in-Some.is),
  record {
    later = c.in-Ok.ensures.later;
    faults = c.in-Ok.ensures.kept;
    fit = c.in-Ok.ensures.fit;
    season_is = c.in-Ok.ensures.journal.0;
    count = c.in-Ok.ensures.journal.1;
    few = omega (arith, c.count-count.ensures.few, c.count-count.ensures.count, c.in-Ok.ensures.journal.1);
    told = c.in-Ok.ensures.told_found;
    found = c.in-Ok.ensures.found;
    durable = c.in-Ok.ensures.durable;
    images = λ s file reads. rw c.in-Ok.is at (c.open.ensures.unharmed s file reads);
  },
)

pub returns-in-Err-clause-stop : goal.returns-in-Err-clause-stop
returns-in-Err-clause-stop g c =
    let before : option_map g.K.Disk.view c.args.disk.now ≡ Some (g.K.Disk.view c.in-Some.held) = ap (option_map g.K.Disk.view) (sym c.take.ensures.value ∙ c.in-Some.is) in
    rw c.stop_of.ensures
    (subst (λ (o : Option DiskView). DiskStops c.args.season.now o (Some (g.K.Disk.view c.in-Err.held)) (open_stop c.in-Err.fault)) (sym before)
    (open_stops c.args.season.now c.in-Err.fault (g.K.Disk.view c.in-Some.held) (g.K.Disk.view c.in-Err.held) (record {
      later = c.in-Err.ensures.later;
      told = c.in-Err.ensures.told_refused;
      why = c.in-Err.ensures.refused;
      images = λ s file reads. rw c.in-Err.is at (c.open.ensures.unharmed s file reads);
      cause = c.in-Err.ensures.cause;
    })))
