-- Read rows and fill rows, as text.
use Rattle.std.specs.Prelude.{ℕ, List, [], ◌∷◌, codes, map}
use Rattle.std.specs.Fmt.{decimal}
use Rattle.line_text.specs.Text.{hex}
use Rattle.journal_core.specs.declared.rows.Role.{Role}
use Rattle.journal_core.specs.declared.rows.Role.TheVariants.{Pate, Prte, ProcessDir, ProcessLeaf, PartDir, PartLeaf}
use Rattle.journal_core.specs.declared.rows.KeyKind.{KeyKind}
use Rattle.journal_core.specs.declared.rows.KeyKind.TheVariants as kinds
use Rattle.journal_core.specs.declared.rows.ReadRow.{ReadRow}
use Rattle.journal_core.specs.declared.rows.FillRow.{FillRow}
use Rattle.journal_core.specs.Standing.{fill_reads}
use Rattle.report_text.specs.Words.{line_of, numbered}

-- what a doubleword was read as: an entry of the partition table or of a process table, or a directory or a leaf of a
-- process's tree, or of a guest's, which is a partition's
abbrev pub role_name : Role → List ℕ
role_name Pate = codes "pate"
role_name Prte = codes "prte"
role_name ProcessDir = codes "pdir"
role_name ProcessLeaf = codes "pleaf"
role_name PartDir = codes "gdir"
role_name PartLeaf = codes "gleaf"

-- the words of a read: its number, what was read, the partition, the process, the address that was walked, the level, how
-- many bits are left, the place of the doubleword, its value, and the step that read it
abbrev pub read_words : ℕ → ReadRow → List (List ℕ)
read_words number row =
    codes "r" ∷ decimal number ∷ role_name row.role ∷ decimal row.lpid ∷ decimal row.pid ∷ hex 16 row.sought ∷ decimal row.level ∷ decimal row.left ∷ hex 16 row.at ∷ hex 16 row.value ∷ decimal row.moment ∷ []

-- the line of a read row with its number
abbrev pub read_line : ℕ → ReadRow → List ℕ
read_line number row = line_of (read_words number row)

-- the lines of the read rows of a run
abbrev pub read_lines : List ReadRow → List (List ℕ)
read_lines rows = numbered read_line 0 rows

-- what a kept entry answers: a translation, a page of a guest, or a directory of a process or of a guest
abbrev pub entry_name : KeyKind → List ℕ
entry_name kinds.Translation = codes "trans"
entry_name kinds.GuestPage = codes "gpage"
entry_name kinds.ProcessDir = codes "pdir"
entry_name kinds.PartDir = codes "gdir"

-- the words of a fill: its number, its thread, what the entry answers, the partition, the process, how many bits are no
-- part of the page, the page, the level, the step that made it, how many reads led to it, and the numbers of these reads
abbrev pub fill_words : ℕ → FillRow → List (List ℕ)
fill_words number row =
    codes "f" ∷ decimal number ∷ decimal row.thread ∷ entry_name row.key.kind ∷ decimal row.key.lpid ∷ decimal row.key.pid ∷ decimal row.key.left ∷ hex 16 row.key.page ∷ decimal row.level ∷ decimal row.moment ∷ decimal row.count ∷ map decimal (fill_reads row)

-- the line of a fill row with its number
abbrev pub fill_line : ℕ → FillRow → List ℕ
fill_line number row = line_of (fill_words number row)

-- the lines of the fill rows of a run
abbrev pub fill_lines : List FillRow → List (List ℕ)
fill_lines rows = numbered fill_line 0 rows
