use Rattle.std.specs.Prelude.{ℕ, ◌≡◌, ◌%◌, ◌*◌, ◌^◌, Bool, true, false, List}
use Rattle.journal_core.specs.declared.rows.DeviceRow.{DeviceRow}
use Rattle.journal_core.specs.declared.rows.Signal.{Signal}
use Rattle.journal_core.specs.declared.rows.Signal.TheVariants.{Quiet}

-- an access of a device: a load by its offset and size, or a store by its offset, size and value
pub data Access : Type 0 where
  Load : ℕ → ℕ → Access
  Store : ℕ → ℕ → ℕ → Access

-- what a device replies: the value to a load, the signal to a store, and the list that it then means
pub record Reply : Type 0 where
  pub value : ℕ
  pub signal : Signal
  pub list : List ℕ

-- the access of a row
abbrev pub access_by : Bool → DeviceRow → Access
access_by true row = Store row.offset row.size row.value
access_by false row = Load row.offset row.size

abbrev pub access_of : DeviceRow → Access
access_of row = access_by row.store row

-- the row says what the device replied: a store has its signal; a load has its value modulo 2^(8·size), and is quiet
abbrev pub GivesBy : Bool → Reply → DeviceRow → Type 0
GivesBy true reply row = row.signal ≡ reply.signal
GivesBy false reply row = (row.value ≡ reply.value % 2 ^ (8 * row.size)) × (row.signal ≡ Quiet)

abbrev pub Gives : Reply → DeviceRow → Type 0
Gives reply row = GivesBy row.store reply row

-- the row of a load, and of a store, whose value is taken modulo 2^(8·size)
abbrev pub load_row : ℕ → ℕ → ℕ → ℕ → ℕ → DeviceRow
load_row step slot offset size value = record { step = step; slot = slot; offset = offset; size = size; store = false; value = value; signal = Quiet }

abbrev pub store_row : ℕ → ℕ → ℕ → ℕ → ℕ → Signal → DeviceRow
store_row step slot offset size value signal = record { step = step; slot = slot; offset = offset; size = size; store = true; value = value % 2 ^ (8 * size); signal = signal }
