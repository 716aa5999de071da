-- Laws of RAM and its write rows.
use Rattle.std.specs.Prelude.{◌≡◌, ℕ, ◌+◌, ◌^◌, ◌<◌, ◌≤◌, List, [], ◌∷◌, ◌++◌, length}
use Rattle.journal_core.specs.declared.rows.WriteRow.{WriteRow}
use Rattle.journal_core.specs.Past.{write_row, written, word_in, past, IsWrite, Fits}
use Rattle.journal_core.specs.Steps.{InOrder}

-- the row of a number that fits so many bytes, within storage, has the right bytes
abbrev pub AStoreIsAWrite : Type 0
AStoreIsAWrite = (ram : List ℕ) (moment thread at size value : ℕ) → 1 ≤ size → size ≤ 8 → at + size ≤ length ram → value < 256 ^ size → IsWrite ram (write_row moment thread ram at size value)

-- with one more row that has the right bytes, the rows lead from the same first bytes to those after it
abbrev pub AWriteKeepsFitting : Type 0
AWriteKeepsFitting = (first : List ℕ) (rows : List WriteRow) (ram : List ℕ) (row : WriteRow) → Fits first rows ram → IsWrite ram row → Fits first (rows ++ row ∷ []) (written ram row)

-- where the rows are of the steps below n, a doubleword of storage as it stands is that of before step n
abbrev pub AWordIsPast : Type 0
AWordIsPast = (first : List ℕ) (rows : List WriteRow) (ram : List ℕ) (n at : ℕ) → Fits first rows ram → InOrder (λ (w : WriteRow). w.step) 0 n rows → word_in ram at ≡ past first rows n at
