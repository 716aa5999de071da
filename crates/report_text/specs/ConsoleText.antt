-- What the devices of a run show, as text.
use Rattle.std.specs.Prelude.{ℕ, ◌==◌, ◌&&◌, nat_le, if◌then◌else◌, List, [], ◌∷◌, ◌++◌, codes, length, map, filter, flat_map}
use Rattle.std.specs.Fmt.{decimal}
use Rattle.std.specs.List.{range_with_len}
use Rattle.line_text.specs.Text.{hex, end_of_line, text_of}
use Rattle.journal_core.specs.declared.rows.Signal.{Signal}
use Rattle.journal_core.specs.declared.rows.Signal.TheVariants.{Quiet, Byte, Stop, Eject}
use Rattle.journal_core.specs.declared.rows.DeviceRow.{DeviceRow}

-- the byte that a signal shows, if any
abbrev pub signal_bytes : Signal → List ℕ
signal_bytes (Byte byte) = byte ∷ []
signal_bytes Quiet = []
signal_bytes Stop = []
signal_bytes (Eject slot) = []

-- the bytes that the device of a slot shows, in the order of the device rows
abbrev pub console_bytes : ℕ → List DeviceRow → List ℕ
console_bytes slot devices = flat_map (λ row. signal_bytes row.signal) (filter (λ row. row.slot == slot) devices)

-- A byte as it is shown: from 0x20 to 0x7e as itself, but a backslash as two of them; a newline as a backslash and an n; and
-- any other as a backslash, an x and two digits.
abbrev pub escape : ℕ → List ℕ
escape byte =
    if byte == 92 then 92 ∷ 92 ∷ []
    else if byte == 10 then 92 ∷ codes "n"
    else if nat_le 0x20 byte && nat_le byte 0x7e then byte ∷ []
    else (92 ∷ codes "x") ++ hex 2 byte

-- bytes as they are shown
abbrev pub escaped : List ℕ → List ℕ
escaped bytes = flat_map escape bytes

-- the front of a line that shows so many bytes of a slot
abbrev pub console_head : ℕ → ℕ → List ℕ
console_head slot count = codes "console " ++ decimal slot ++ codes " " ++ decimal count ++ codes " "

-- the parts of a line that shows these bytes of a slot
abbrev pub console_parts : ℕ → List ℕ → List (List ℕ)
console_parts slot bytes = console_head slot (length bytes) ∷ escaped bytes ∷ end_of_line ∷ []

-- the line that shows the bytes of a slot; none where there is no byte
abbrev pub console_line : ℕ → List ℕ → List ℕ
console_line slot [] = []
console_line slot (byte ∷ bytes) = text_of (console_parts slot (byte ∷ bytes))

-- the lines of all slots that show a byte, by their numbers
unfoldable pub console_lines : List DeviceRow → List (List ℕ)
console_lines devices = map (λ slot. console_line slot (console_bytes slot devices)) (range_with_len 0 256)
