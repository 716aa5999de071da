-- What is walked for an ask, and which word a walk reads where it stands.
use Rattle.std.specs.Prelude.{ℕ, Option, Some, None}
use Rattle.journal_core.specs.declared.asks.Ask.{Ask}
use Rattle.journal_core.specs.declared.asks.Place.{Place}
use Rattle.journal_core.specs.declared.asks.Place.TheVariants.{Real, GuestReal, Space, Segment}
use Rattle.journal_core.specs.declared.walks.Stage.{Stage}
use Rattle.journal_core.specs.declared.walks.Stage.TheVariants.{SecondWord, PartEntry, PartTable, ProcessEntry, ProcessTable, Over}
use Rattle.journal_core.specs.Asks.{bits}
use Rattle.journal_core.specs.PartitionWalk.{entry_at}
use Rattle.journal_core.specs.Rights.{first_denial}
use Rattle.journal_core.specs.Walk.{Task}
use Rattle.table_formats.specs.declared.quadrants.Space.{Space as QuadrantSpace}
use Rattle.nested_walk.specs.declared.targets.Target.{Target}

-- what is walked for a target, under the rights of its ask
abbrev pub task_for : Target → Task
task_for x = record { deny = first_denial x.ask; ask = x.ask; lpid = x.lpid; pid = x.pid; address = x.address }

abbrev pub target : Ask → ℕ → ℕ → ℕ → Target
target ask lpid pid address = record { ask = ask; lpid = lpid; pid = pid; address = address }

-- what is walked for an ask at a place
abbrev pub target_at : Ask → Place → Target
target_at ask (Real a) = target ask 0 0 a
target_at ask (GuestReal lpid a) = target ask lpid 0 a
target_at ask (Space lpid pid a) = target ask lpid pid a
target_at ask Segment = target ask 0 0 0

-- the place in a space that a quadrant gives, or in no segment
abbrev pub place_in : Ask → Option QuadrantSpace → Place
place_in ask (Some s) = Space s.lpid s.pid (bits ask.ea 2 63)
place_in ask None = Segment

-- the place of the word that is read next, where the walk is not over
abbrev pub nest_word : Stage → Option ℕ
nest_word (SecondWord at) = Some at
nest_word (PartEntry goal gra at) = Some at
nest_word (PartTable goal gra n) = Some (entry_at gra n)
nest_word (ProcessEntry at) = Some at
nest_word (ProcessTable n at) = Some at
nest_word (Over out) = None
