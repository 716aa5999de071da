-- How a run ended, as text.
use Rattle.std.specs.Prelude.{ℕ, List, ◌++◌, codes}
use Rattle.std.specs.Fmt.{decimal}
use Rattle.line_text.specs.Text.{hex}
use Rattle.journal_core.specs.declared.rows.Ended.{Ended}
use Rattle.journal_core.specs.declared.rows.Ended.TheVariants.{AllRun, ScheduleEnd, JournalFull, Stopped}
use Rattle.journal_core.specs.declared.rows.RowKind.{RowKind}
use Rattle.journal_core.specs.declared.rows.RowKind.TheVariants.{Reads, Fills, Writes, Dones, Devices, Steps}
use Rattle.journal_core.specs.declared.rows.StopName.{StopName}
use Rattle.journal_core.specs.declared.rows.StopName.TheVariants.{NoStorage, Unsupported, InvalidForm, DeviceAccess, ProfileBits, UnknownSpr, BadInvalidation, HashedPartition, GuestZero, DeviceStop}

-- the name of a list of rows
abbrev pub kind_name : RowKind → List ℕ
kind_name Reads = codes "reads"
kind_name Fills = codes "fills"
kind_name Writes = codes "writes"
kind_name Dones = codes "dones"
kind_name Devices = codes "devices"
kind_name Steps = codes "steps"

-- the name of a stop
abbrev pub stop_name : StopName → List ℕ
stop_name NoStorage = codes "NoStorage"
stop_name Unsupported = codes "Unsupported"
stop_name InvalidForm = codes "InvalidForm"
stop_name DeviceAccess = codes "DeviceAccess"
stop_name ProfileBits = codes "ProfileBits"
stop_name UnknownSpr = codes "UnknownSpr"
stop_name BadInvalidation = codes "BadInvalidation"
stop_name HashedPartition = codes "HashedPartition"
stop_name GuestZero = codes "GuestZero"
stop_name DeviceStop = codes "DeviceStop"

-- a list that is full, with the number of its rows
abbrev pub full_text : RowKind → ℕ → List ℕ
full_text kind count = codes "full " ++ kind_name kind ++ codes " " ++ decimal count

-- a stop with its value
abbrev pub stopped_text : StopName → ℕ → List ℕ
stopped_text name value = codes "stopped " ++ stop_name name ++ codes " " ++ hex 16 value

-- how a run ended
abbrev pub end_text : Ended → List ℕ
end_text AllRun = codes "all"
end_text ScheduleEnd = codes "schedule"
end_text (JournalFull kind count) = full_text kind count
end_text (Stopped name value) = stopped_text name value
