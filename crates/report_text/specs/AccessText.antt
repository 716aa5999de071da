-- Write rows and device rows, as text.
use Rattle.std.specs.Prelude.{ℕ, Bool, true, false, List, [], ◌∷◌, codes, map}
use Rattle.std.specs.Fmt.{decimal}
use Rattle.line_text.specs.Text.{hex}
use Rattle.journal_core.specs.declared.rows.Signal.{Signal}
use Rattle.journal_core.specs.declared.rows.Signal.TheVariants.{Quiet, Byte, Stop, Eject}
use Rattle.journal_core.specs.declared.rows.WriteRow.{WriteRow}
use Rattle.journal_core.specs.declared.rows.DeviceRow.{DeviceRow}
use Rattle.report_text.specs.Words.{line_of}

-- the words of a write row: its step, its thread, the place, how many bytes, and the values before and after
abbrev pub write_words : WriteRow → List (List ℕ)
write_words row =
    codes "w" ∷ decimal row.step ∷ decimal row.thread ∷ hex 16 row.at ∷ decimal row.size ∷ hex 16 row.old ∷ hex 16 row.new ∷ []

-- the lines of the write rows of a run
abbrev pub write_lines : List WriteRow → List (List ℕ)
write_lines rows = map (λ row. line_of (write_words row)) rows

-- the name of an access, which is a store or a load
abbrev pub access_name : Bool → List ℕ
access_name true = codes "store"
access_name false = codes "load"

-- what a device wants
abbrev pub signal_words : Signal → List (List ℕ)
signal_words Quiet = codes "quiet" ∷ []
signal_words (Byte byte) = codes "byte" ∷ hex 2 byte ∷ []
signal_words Stop = codes "stop" ∷ []
signal_words (Eject slot) = codes "eject" ∷ decimal slot ∷ []

-- the words of a device row: its step, the slot, the place in the device's window, how many bytes, the access with its value,
-- and what the device wants
abbrev pub device_words : DeviceRow → List (List ℕ)
device_words row =
    codes "d" ∷ decimal row.step ∷ decimal row.slot ∷ hex 8 row.offset ∷ decimal row.size ∷ access_name row.store ∷ hex 16 row.value ∷ signal_words row.signal

-- the lines of the device rows of a run
abbrev pub device_lines : List DeviceRow → List (List ℕ)
device_lines rows = map (λ row. line_of (device_words row)) rows
