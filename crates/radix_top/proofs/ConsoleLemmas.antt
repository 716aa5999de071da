-- What a console shows, row by row.
use Rattle.std.proofs.Common.{◌≡◌, ℕ, ◌+◌, ◌%◌, ◌^◌, List, [], ◌∷◌, ◌++◌, Bool, true, false, cond, map, refl, ap, ◌∙◌}
use Rattle.std.specs.Prelude.{◌==◌, ◌&&◌, filter, flat_map, if◌then◌else◌}
use Rattle.journal_core.specs.declared.rows.DeviceRow.{DeviceRow}
use Rattle.journal_core.specs.declared.rows.Signal.TheVariants.{Byte}
use Rattle.ppc_bus.specs.Devices.{Access, Reply, Store, access_by, GivesBy, access_of}
use Rattle.ppc_bus.specs.SlotRows.{rows_of, AnswersOf}
use Rattle.bench_devices.specs.Benches.{console_list, first_or, given}
use Rattle.report_text.specs.ConsoleText.{signal_bytes}
use Rattle.radix_top.specs.Showing.{is_store_at_0, IsConsole, ConsolesShowStores}

-- what a console shows of a store
bytes_at : (list : List ℕ) (value : ℕ) (at_0 : Bool)
    → signal_bytes (if at_0 then record { value = 0; signal = Byte (value % 256); list = console_list ((first_or 0 list + 1) % 2 ^ 64) } else given 0 list).signal ≡ cond at_0 (value % 256 ∷ []) []
bytes_at list value true = refl
bytes_at list value false = refl

-- what a row shows
bytes_of : (function : List ℕ → Access → Reply) (list : List ℕ) (row : DeviceRow) → IsConsole function → (store : Bool) → GivesBy store (function list (access_by store row)) row
    → signal_bytes row.signal ≡ cond (store && (row.offset == 0)) (row.value % 256 ∷ []) []
bytes_of function list row is true gives =
    ap signal_bytes (gives ∙ ap (λ (r : Reply). r.signal) (is list (Store row.offset row.size row.value))) ∙ bytes_at list row.value (row.offset == 0)
bytes_of function list row is false gives = ap signal_bytes gives.1

-- a row that passes the test gives its byte
map_first : (row : DeviceRow) (rows : List DeviceRow) (shown : Bool)
    → map (λ (r : DeviceRow). r.value % 256) (cond shown (row ∷ rows) rows) ≡ cond shown (row.value % 256 ∷ []) [] ++ map (λ (r : DeviceRow). r.value % 256) rows
map_first row rows true = refl
map_first row rows false = refl

rows_show : (function : List ℕ → Access → Reply) (list : List ℕ) (rows : List DeviceRow) → IsConsole function → AnswersOf function list rows
    → flat_map (λ (row : DeviceRow). signal_bytes row.signal) rows ≡ map (λ (row : DeviceRow). row.value % 256) (filter is_store_at_0 rows)
unfolding AnswersOf
rows_show function list [] is answers = refl
rows_show function list (row ∷ rows) is answers =
    rw (bytes_of function list row is row.store answers.0, rows_show function (function list (access_of row)).list rows is answers.1, map_first row (filter is_store_at_0 rows) (is_store_at_0 row)) refl

pub consoles_show_stores : ConsolesShowStores
consoles_show_stores function list slot rows is answers = rows_show function list (rows_of slot rows) is answers
