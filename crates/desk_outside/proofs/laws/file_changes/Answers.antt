use Rattle.desk_outside.proofs.FilesLemmas.{file_own, file_other, unchanged_only, write_only, part_only, then_only}
use Rattle.desk_outside.proofs.laws.file_changes.Goals as goal

pub returns : goal.returns
returns c = record {
  own = file_own;
  other = file_other;
  unchanged = unchanged_only;
  whole = write_only;
  part = part_only;
  chained = then_only;
}
