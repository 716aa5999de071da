-- What a journal and given answers make known to a walk.
use Rattle.std.specs.Prelude.{ℕ, Option}
use Rattle.journal_core.specs.declared.rows.KeyKind.{KeyKind}
use Rattle.journal_core.specs.Rows.{Rows}
use Rattle.journal_core.specs.Resumed.{KeptAnswers}

abbrev pub known_of : Rows → (KeyKind → ℕ → ℕ → ℕ → Option ℕ) → (ℕ → ℕ → Option ℕ) → KeptAnswers
known_of rows directory page = record { reads = rows.reads; fills = rows.fills; directory = directory; page = page }
