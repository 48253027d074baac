-- And threads may share it.
use denote.Param.Send.{IsSync, part_keyless}
use Rattle.desk_disk.specs.contracts.disk_log.DiskLog.{the_row}
use Rattle.desk_disk.proofs.disk_log.DiskLog.TheSendSync.Send.{send}

pub sync : IsSync the_row
sync = record { shared = λ d b o κ q. part_keyless the_row send q d b o }
