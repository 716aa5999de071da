-- What a console shows in a run.
use Rattle.std.specs.Prelude.{ℕ, ◌≡◌, ◌%◌, ◌==◌, ◌&&◌, Bool, List, map, filter}
use Rattle.journal_core.specs.declared.rows.DeviceRow.{DeviceRow}
use Rattle.ppc_bus.specs.Devices.{Access, Reply}
use Rattle.ppc_bus.specs.SlotRows.{rows_of, AnswersOf}
use Rattle.bench_devices.specs.Benches.{console_answers}
use Rattle.report_text.specs.ConsoleText.{console_bytes}

-- a store at offset 0
abbrev pub is_store_at_0 : DeviceRow → Bool
is_store_at_0 row = row.store && (row.offset == 0)

-- the low bytes of the stores at offset 0 of a slot, in order
abbrev pub stored_bytes : ℕ → List DeviceRow → List ℕ
stored_bytes slot rows = map (λ row. row.value % 256) (filter is_store_at_0 (rows_of slot rows))

-- a function is that of a console
abbrev pub IsConsole : (List ℕ → Access → Reply) → Type 0
IsConsole function = (list : List ℕ) (access : Access) → function list access ≡ console_answers list access

-- where the rows of a slot are what a console replies, from whatever list, the line of the slot shows the low bytes of the
-- stores at its offset 0, in order, and nothing else
abbrev pub ConsolesShowStores : Type 0
ConsolesShowStores =
    (function : List ℕ → Access → Reply) (list : List ℕ) (slot : ℕ) (rows : List DeviceRow) →
    IsConsole function → AnswersOf function list (rows_of slot rows) →
    console_bytes slot rows ≡ stored_bytes slot rows
