-- The status of a call, by how it ended.
use Rattle.journal_core.specs.declared.rows.Ended.{Ended}
use Rattle.journal_core.specs.declared.rows.Ended.TheVariants as ends
use Rattle.radix_top.specs.declared.status.Refusal.{Refusal}
use Rattle.radix_top.specs.declared.status.Refusal.TheVariants as refusals
use Rattle.radix_top.specs.declared.status.Status.{Status}
use Rattle.radix_top.specs.declared.status.Status.TheVariants as statuses

-- of a call that is refused
abbrev pub refused_status : Refusal → Status
refused_status (refusals.Usage place) = statuses.Usage place
refused_status (refusals.ReadFault place) = statuses.ReadFault place
refused_status (refusals.TooLong place) = statuses.TooLong place
refused_status (refusals.BadImage fault) = statuses.BadImage fault
refused_status (refusals.BadSchedule place) = statuses.BadSchedule place
refused_status (refusals.BadAsm line kind) = statuses.BadAsm line kind
refused_status (refusals.BadPlace range other) = statuses.BadPlace range other
refused_status (refusals.BadDevice number reason) = statuses.BadDevice number reason
refused_status refusals.Memory = statuses.Memory

-- of a call whose run had this end and was printed
abbrev pub ended_status : Ended → Status
ended_status ends.AllRun = statuses.Done ends.AllRun
ended_status ends.ScheduleEnd = statuses.Done ends.ScheduleEnd
ended_status (ends.Stopped name value) = statuses.Stopped name value
ended_status (ends.JournalFull kind count) = statuses.JournalFull kind count
