-- Laws of the last four fills of a set.
use Rattle.std.specs.Prelude.{◌≡◌, ℕ, List, Some}
use Rattle.std.specs.List.{AllByRecursion}
use Rattle.journal_core.specs.declared.rows.Key.{Key}
use Rattle.journal_core.specs.declared.rows.ReadRow.{ReadRow}
use Rattle.journal_core.specs.declared.rows.FillRow.{FillRow}
use Rattle.journal_core.specs.Turns.{Turn}
use Rattle.journal_core.specs.Covers.{IsCurrent}
use Rattle.journal_core.specs.Standing.{AreRows, IsStanding, fill_reads}
use Rattle.journal_core.specs.LastFour.{fill_at, newest_of_key}

-- a fill that stands is the newest of its key among the last four of its kind and set
abbrev pub WhatStandsIsNewest : Type 0
WhatStandsIsNewest = (v : Turn) (c i : ℕ) (f : FillRow) → IsStanding v c i f → newest_of_key v c f.key ≡ Some (fill_at i f)

-- the newest of a key among the last four of its kind and set stands, if its numbers name readings that are all current
abbrev pub TheNewestStands : Type 0
TheNewestStands = (v : Turn) (c : ℕ) (key : Key) (i : ℕ) (f : FillRow) (rs : List ReadRow) → newest_of_key v c key ≡ Some (fill_at i f) →
    AreRows v.rows.reads (fill_reads f) rs → AllByRecursion (IsCurrent v.rows.dones v.thread v.step) rs → IsStanding v c i f × (f.key ≡ key)
