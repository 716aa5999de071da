-- Where asks point, and asks in no segment, by computation; each line says which definitions it exercises.
use Rattle.std.proofs.Common.{◌≡◌, refl}
use Rattle.walk_laws.proofs.ExampleWalks.{Leads, leads_by}
use Rattle.walk_laws.proofs.ExampleTables.{tables, ask_of, guest_ask}
use Rattle.journal_core.specs.PartitionWalk.{part_start, after_entry, after_tree, at_node}
use Rattle.journal_core.specs.Rights.{first_denial}
use Rattle.journal_core.specs.Places.{place_of}
use Rattle.journal_core.specs.Walk.{inside, in_process, after_second, after_process_entry, process_start}
use Rattle.journal_core.specs.declared.asks.AccessKind.TheVariants.{Load, Store, Fetch}
use Rattle.journal_core.specs.declared.asks.Place.TheVariants.{Real, GuestReal, Space, Segment}
use Rattle.journal_core.specs.declared.causes.Cause.TheVariants.{DataSegment, InstSegment}
use Rattle.journal_core.specs.declared.walks.NestResult.TheVariants.{Fault}

-- quadrant 1 of a guest is no segment (guest_quadrant)
load_segment : Leads tables (ask_of 0x4000_0000_0000_0000 Load) (Fault (DataSegment 0x4000_0000_0000_0000))
unfolding place_of part_start process_start after_second after_process_entry inside in_process after_entry after_tree at_node first_denial
load_segment = leads_by tables (ask_of 0x4000_0000_0000_0000 Load) (Fault (DataSegment 0x4000_0000_0000_0000)) refl

-- the same for a fetch (segment_fault)
fetch_segment : Leads tables (ask_of 0x4000_0000_0000_0000 Fetch) (Fault InstSegment)
unfolding place_of part_start process_start after_second after_process_entry inside in_process after_entry after_tree at_node first_denial
fetch_segment = leads_by tables (ask_of 0x4000_0000_0000_0000 Fetch) (Fault InstSegment) refl

-- an address beyond the tree's 31 bits is in no segment (after_process_entry)
load_beyond : Leads tables (ask_of 0x8000_0000 Load) (Fault (DataSegment 0x8000_0000))
unfolding place_of part_start process_start after_second after_process_entry inside in_process after_entry after_tree at_node first_denial
load_beyond = leads_by tables (ask_of 0x8000_0000 Load) (Fault (DataSegment 0x8000_0000)) refl

-- the same for a store
store_beyond : Leads tables (ask_of 0x8000_0000 Store) (Fault (DataSegment 0x8000_0000))
unfolding place_of part_start process_start after_second after_process_entry inside in_process after_entry after_tree at_node first_denial
store_beyond = leads_by tables (ask_of 0x8000_0000 Store) (Fault (DataSegment 0x8000_0000)) refl

-- the same for a fetch
fetch_beyond : Leads tables (ask_of 0x8000_0000 Fetch) (Fault InstSegment)
unfolding place_of part_start process_start after_second after_process_entry inside in_process after_entry after_tree at_node first_denial
fetch_beyond = leads_by tables (ask_of 0x8000_0000 Fetch) (Fault InstSegment) refl

-- a guest's quadrant 0 is of its process
guest_process : place_of (ask_of 0x1_0014 Load) ≡ Space 1 1 0x1_0014
unfolding place_of
guest_process = refl

-- a guest's quadrant 3 is of process 0; the two highest bits are no part of the address
guest_kernel : place_of (ask_of 0xc000_0000_0001_0014 Load) ≡ Space 1 0 0x1_0014
unfolding place_of
guest_kernel = refl

-- a guest's quadrant 2 is no segment
guest_middle : place_of (ask_of 0x8000_0000_0000_0000 Load) ≡ Segment
unfolding place_of
guest_middle = refl

-- without relocation a guest's address is a guest real one, without its four highest bits
guest_real : place_of (guest_ask 0xf000_0000_0001_0014 Load) ≡ GuestReal 1 0x1_0014
unfolding place_of
guest_real = refl

-- in hypervisor state quadrant 0 is of partition 0 and the process
hypervisor_0 : place_of (record (ask_of 0x1_0014 Load) { msr = 0x9000_0000_0000_1033 }) ≡ Space 0 1 0x1_0014
unfolding place_of
hypervisor_0 = refl

-- quadrant 1 is of the partition and the process
hypervisor_1 : place_of (record (ask_of 0x4000_0000_0001_0014 Load) { msr = 0x9000_0000_0000_1033 }) ≡ Space 1 1 0x1_0014
unfolding place_of
hypervisor_1 = refl

-- quadrant 2 is of the partition and process 0
hypervisor_2 : place_of (record (ask_of 0x8000_0000_0001_0014 Load) { msr = 0x9000_0000_0000_1033 }) ≡ Space 1 0 0x1_0014
unfolding place_of
hypervisor_2 = refl

-- quadrant 3 is of partition 0 and process 0
hypervisor_3 : place_of (record (ask_of 0xc000_0000_0001_0014 Load) { msr = 0x9000_0000_0000_1033 }) ≡ Space 0 0 0x1_0014
unfolding place_of
hypervisor_3 = refl

-- in problem state quadrant 1 is no segment
hypervisor_problem : place_of (record (ask_of 0x4000_0000_0000_0000 Load) { msr = 0x9000_0000_0000_5033 }) ≡ Segment
unfolding place_of
hypervisor_problem = refl

-- with partition 0 quadrant 2 is no segment
hypervisor_no_guest : place_of (record (ask_of 0x8000_0000_0000_0000 Load) { msr = 0x9000_0000_0000_1033; lpid = 0 }) ≡ Segment
unfolding place_of
hypervisor_no_guest = refl

-- without relocation a hypervisor's address is real, without its four highest bits
hypervisor_real : place_of (record (ask_of 0xf000_0000_0001_0014 Load) { msr = 0x9000_0000_0000_1003 }) ≡ Real 0x1_0014
unfolding place_of
hypervisor_real = refl

-- bit 58 relocates fetches and bit 59 data: here fetches alone are relocated
fetch_side : place_of (record (ask_of 0x1_0014 Fetch) { msr = 0x8000_0000_0000_0020 }) ≡ Space 1 1 0x1_0014
unfolding place_of
fetch_side = refl

-- here a load is not
data_side : place_of (record (ask_of 0x1_0014 Load) { msr = 0x8000_0000_0000_0020 }) ≡ GuestReal 1 0x1_0014
unfolding place_of
data_side = refl
