-- The passage that a call of a disk notes.
use Rattle.desk_disk.specs.Stops.{DiskPassage, measured, read_at, wrote_at, write_failed_at, cut_to}
use Rattle.desk_disk.specs.Stops.{cut_failed, synced, sync_failed}
use Rattle.desk_disk.specs.declared.disk_log.DiskNote.{DiskNote}
use Rattle.desk_disk.specs.declared.disk_log.DiskNote.TheVariants as noted

abbrev pub disk_passage_of : DiskNote → DiskPassage
disk_passage_of (noted.Measured n) = measured n
disk_passage_of (noted.Read at bytes) = read_at at bytes.now
disk_passage_of (noted.Wrote at bytes) = wrote_at at bytes.now
disk_passage_of (noted.WriteFailed at bytes) = write_failed_at at bytes.now
disk_passage_of (noted.Cut n) = cut_to n
disk_passage_of (noted.CutFailed n) = cut_failed n
disk_passage_of noted.Synced = synced
disk_passage_of noted.SyncFailed = sync_failed
