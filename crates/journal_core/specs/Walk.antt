-- The walk of an ask: where it stands, and where it stands after a value. In a guest each table of a process stands at a
-- guest real address, which is walked in the partition's tree first (Power ISA, Book III, nested radix tree translation).
use Rattle.std.specs.Prelude.{ℕ, ◌+◌, ◌-◌, ◌*◌, ◌^◌, List, [], ◌∷◌, Option, Some, None, Bool, ◌==◌, nat_lt, nat_le, if◌then◌else◌}
use Rattle.journal_core.specs.declared.rows.ReadRow.{ReadRow}
use Rattle.journal_core.specs.declared.rows.StopName.TheVariants.{NoStorage}
use Rattle.journal_core.specs.declared.asks.AccessKind.{AccessKind}
use Rattle.journal_core.specs.declared.asks.AccessKind.TheVariants.{Load}
use Rattle.journal_core.specs.declared.asks.Scope.TheVariants.{Process, Partition}
use Rattle.journal_core.specs.declared.asks.Rights.{Rights}
use Rattle.journal_core.specs.declared.asks.Denial.{Denial}
use Rattle.journal_core.specs.declared.asks.Ask.{Ask}
use Rattle.journal_core.specs.declared.asks.Place.{Place}
use Rattle.journal_core.specs.declared.asks.Place.TheVariants.{Real, GuestReal, Space, Segment}
use Rattle.journal_core.specs.declared.walks.FaultKind.TheVariants.{Missing, Unsupported}
use Rattle.journal_core.specs.declared.walks.PartResult.TheVariants.{Leaf}
use Rattle.journal_core.specs.declared.walks.PartResult.TheVariants.{Fault as PartFault, Stop as PartStop}
use Rattle.journal_core.specs.declared.walks.Node.{Node}
use Rattle.journal_core.specs.declared.walks.PartStage.{PartStage}
use Rattle.journal_core.specs.declared.walks.PartStage.TheVariants.{Entry, Tree, Ended}
use Rattle.journal_core.specs.declared.walks.Goal.{Goal}
use Rattle.journal_core.specs.declared.walks.Goal.TheVariants.{ForEntry, ForTable, ForResult, ForGuest}
use Rattle.journal_core.specs.declared.walks.NestResult.TheVariants.{Page, Fault, Stop}
use Rattle.journal_core.specs.declared.walks.Stage.{Stage}
use Rattle.journal_core.specs.declared.walks.Stage.TheVariants.{SecondWord, PartEntry, PartTable, ProcessEntry, ProcessTable, Over}
use Rattle.journal_core.specs.Asks.{bits}
use Rattle.journal_core.specs.Faults.{fault_bit, kind_bits, denial_bits, process_fault, partition_fault, segment_fault}
use Rattle.journal_core.specs.Places.{place_of}
use Rattle.journal_core.specs.PartitionWalk.{at_node, has_entry, entry_place, part_start, root_bits, node_of, after_entry, after_tree, real_in, entry_at}

-- what is walked: for an ask, an address of a process of a partition, or with process 0 a guest real address; and which
-- rights refuse what
pub record Task : Type 0 where
  pub deny : Rights → AccessKind → Option Denial
  pub ask : Ask
  pub lpid : ℕ
  pub pid : ℕ
  pub address : ℕ

abbrev pub partition_rights : ℕ → ℕ → Bool → Bool → Rights
partition_rights att eaa r c = record { scope = Partition; eaa = eaa; att = att; r = r; c = c }

abbrev pub process_rights : ℕ → ℕ → Bool → Bool → Rights
process_rights att eaa r c = record { scope = Process; eaa = eaa; att = att; r = r; c = c }

-- a table is loaded from; a result is used as the ask says
abbrev pub access_for : Ask → Goal → AccessKind
access_for ask ForEntry = Load
access_for ask (ForTable n) = Load
access_for ask ForResult = ask.access
access_for ask ForGuest = ask.access

-- bit 46: the address was one of a table's entry
abbrev pub table_bits : Goal → ℕ
table_bits ForEntry = fault_bit 46
table_bits (ForTable n) = fault_bit 46
table_bits ForResult = 0
table_bits ForGuest = 0

-- the partition's page was found, and is permitted
abbrev pub arrived : Goal → ℕ → Stage
arrived ForEntry at = ProcessEntry at
arrived (ForTable n) at = ProcessTable n at
arrived ForResult at = Over (Page at)
arrived ForGuest at = Over (Page at)

-- the partition's page was found; its rights decide
abbrev pub granted : Ask → Goal → ℕ → ℕ → Option Denial → Stage
granted ask goal gra at None = arrived goal at
granted ask goal gra at (Some denial) = Over (Fault (partition_fault ask (denial_bits denial + table_bits goal) gra))

-- the walk of a partition's tree stands here: where it is over, the walk that wanted it goes on or ends
unfoldable pub inside : Task → Goal → ℕ → PartStage → Stage
inside k goal gra (Entry at) = PartEntry goal gra at
inside k goal gra (Tree n) = PartTable goal gra n
inside k goal gra (Ended (Leaf page low att eaa r c)) = granted k.ask goal gra (real_in page low gra) (k.deny (partition_rights att eaa r c) (access_for k.ask goal))
inside k goal gra (Ended (PartFault kind)) = Over (Fault (partition_fault k.ask (kind_bits kind + table_bits goal) gra))
inside k goal gra (Ended (PartStop name value)) = Over (Stop name value)

-- the walk of a partition's tree begins
abbrev pub enter : Task → Goal → ℕ → Stage
enter k goal gra = inside k goal gra (part_start k.ask.ptcr k.lpid)

-- an entry of a process's tree is read next: it stands at a guest real address, and for partition 0 at a real one
abbrev pub at_table : Task → Node → Stage
at_table k n = if k.lpid == 0 then ProcessTable n (entry_at k.address n) else enter k (ForTable n) (entry_at k.address n)

-- the process's page was found, and is permitted
abbrev pub at_result : Task → ℕ → Stage
at_result k gra = if k.lpid == 0 then Over (Page gra) else enter k ForResult gra

-- the process's page was found; its rights decide
abbrev pub process_granted : Task → ℕ → Option Denial → Stage
process_granted k gra None = at_result k gra
process_granted k gra (Some denial) = Over (Fault (process_fault k.ask (denial_bits denial)))

-- the walk of a process's tree stands here
unfoldable pub in_process : Task → PartStage → Stage
in_process k (Tree n) = at_table k n
in_process k (Ended (Leaf page low att eaa r c)) = process_granted k (real_in page low k.address) (k.deny (process_rights att eaa r c) k.ask.access)
in_process k (Ended (PartFault kind)) = Over (Fault (process_fault k.ask (kind_bits kind)))
-- these two never come: the walk of a process's tree begins in it, and has no stop
in_process k (Ended (PartStop name value)) = Over (Stop name value)
in_process k (Entry at) = Over (Stop NoStorage at)

-- after the second doubleword of a partition's entry, which has the place and the size of the process table
unfoldable pub after_second : Task → ℕ → Stage
after_second k v =
    if nat_lt (16 * k.pid) (2 ^ (12 + bits v 59 63)) then enter k ForEntry (bits v 4 51 * 2 ^ 12 + 16 * k.pid)
    else Over (Fault (process_fault k.ask (kind_bits Missing)))

-- after a process's entry
unfoldable pub after_process_entry : Task → ℕ → Stage
after_process_entry k v =
    if nat_lt 52 (root_bits v) then Over (Fault (process_fault k.ask (kind_bits Unsupported)))
    else if nat_le (2 ^ root_bits v) k.address then Over (Fault (segment_fault k.ask))
    else in_process k (at_node (node_of v (root_bits v) 1))

-- where a walk stands after a value
abbrev pub next : Task → Stage → ℕ → Stage
next k (SecondWord at) v = after_second k v
next k (PartEntry goal gra at) v = inside k goal gra (after_entry k.lpid gra v)
next k (PartTable goal gra n) v = inside k goal gra (after_tree (n.left - n.size) n.level v)
next k (ProcessEntry at) v = after_process_entry k v
next k (ProcessTable n at) v = in_process k (after_tree (n.left - n.size) n.level v)
next k (Over out) v = Over out

-- where a walk stands after these readings
abbrev pub stage_after : Task → Stage → List ReadRow → Stage
stage_after k s [] = s
stage_after k s (r ∷ rs) = stage_after k (next k s r.value) rs

-- where the walk of a process's address begins: at the second doubleword of the partition's entry, if there is one
unfoldable pub process_start : Task → Stage
process_start k = if has_entry k.ask.ptcr k.lpid then SecondWord (entry_place k.ask.ptcr k.lpid + 8) else Over (Fault (partition_fault k.ask (kind_bits Missing) 0))

-- where the walk of an ask at a place begins
abbrev pub start_at : Task → Place → Stage
start_at k (Real a) = Over (Page a)
start_at k (GuestReal lpid a) = enter k ForGuest a
start_at k (Space lpid pid a) = process_start k
start_at k Segment = Over (Fault (segment_fault k.ask))

-- no right refuses anything; for the question whether readings lead to a page at all
abbrev pub never_denied : Rights → AccessKind → Option Denial
never_denied x a = None

-- what is walked for an ask at a place
abbrev pub task_at : (Rights → AccessKind → Option Denial) → Ask → Place → Task
task_at deny ask (Real a) = record { deny = deny; ask = ask; lpid = 0; pid = 0; address = a }
task_at deny ask (GuestReal lpid a) = record { deny = deny; ask = ask; lpid = lpid; pid = 0; address = a }
task_at deny ask (Space lpid pid a) = record { deny = deny; ask = ask; lpid = lpid; pid = pid; address = a }
task_at deny ask Segment = record { deny = deny; ask = ask; lpid = 0; pid = 0; address = 0 }

-- what is walked for an ask, under given rights
abbrev pub task_of : (Rights → AccessKind → Option Denial) → Ask → Task
task_of deny ask = task_at deny ask (place_of ask)

-- where the walk of an ask begins
abbrev pub start_of : (Rights → AccessKind → Option Denial) → Ask → Stage
start_of deny ask = start_at (task_of deny ask) (place_of ask)
