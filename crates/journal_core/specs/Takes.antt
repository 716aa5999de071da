-- What a walk takes in place of reading.
use Rattle.std.specs.Prelude.{◌≡◌, ℕ, List, [], ◌∷◌, Some, slice_get}
use Rattle.journal_core.specs.declared.rows.ReadRow.{ReadRow}
use Rattle.journal_core.specs.declared.walks.PartStage.TheVariants.{Entry}
use Rattle.journal_core.specs.declared.walks.Stage.{Stage}
use Rattle.journal_core.specs.declared.walks.Stage.TheVariants.{SecondWord, PartEntry, PartTable, ProcessEntry, ProcessTable, Over}
use Rattle.journal_core.specs.PartitionWalk.{part_start}
use Rattle.journal_core.specs.Walk.{Task, next}
use Rattle.journal_core.specs.Following.{IsRead}

-- a walk that takes the readings of these numbers from one stage on stands at another
abbrev pub Replays : List ReadRow → Task → Stage → List ℕ → Stage → Type 0
Replays reads k s [] last = last ≡ s
Replays reads k s (i ∷ is) last = (r : ReadRow) × (slice_get reads i ≡ Some r) × IsRead k s r × Replays reads k (next k s r.value) is last

-- where a partition's entry is read next, the walk of the partition's tree has just begun
abbrev pub IsBegun : Task → Stage → Type 0
IsBegun k (SecondWord at) = Unit {0}
IsBegun k (PartEntry goal gra at) = part_start k.ask.ptcr k.lpid ≡ Entry at
IsBegun k (PartTable goal gra n) = Unit {0}
IsBegun k (ProcessEntry at) = Unit {0}
IsBegun k (ProcessTable n at) = Unit {0}
IsBegun k (Over out) = Unit {0}
