-- Whose addresses the four quadrants of effective addresses are, by bits 0:1 (Power ISA, Book III, 5.7).
use Rattle.std.specs.Prelude.{ℕ, ◌==◌, ◌||◌, Bool, if◌then◌else◌, Option, Some, None}
use Rattle.ppc_bits.specs.Bits.{field_of, is_set}
use Rattle.ppc_bits.specs.MachineStateBits as at
use Rattle.table_formats.specs.declared.quadrants.Space.{Space}

abbrev pub space : ℕ → ℕ → Option Space
space lpid pid = Some (record { lpid = lpid; pid = pid })

-- hypervisor state: quadrants 0 and 3 are of partition 0, 1 and 2 of the thread's, of which problem state has none, nor has partition 0
abbrev pub hypervisor_space : Bool → ℕ → ℕ → ℕ → Option Space
hypervisor_space problem lpid pid q =
    if q == 0 then space 0 pid
    else if q == 3 then space 0 0
    else if problem || (lpid == 0) then None
    else if q == 1 then space lpid pid
    else space lpid 0

-- a guest's state: quadrant 0 is of its process, 3 of its kernel, 1 and 2 are no segment
abbrev pub guest_space : ℕ → ℕ → ℕ → Option Space
guest_space lpid pid q =
    if q == 0 then space lpid pid
    else if q == 3 then space lpid 0
    else None

-- the space of an effective address, under the machine state, LPIDR and PIDR; or no segment
unfoldable pub space_of : ℕ → ℕ → ℕ → ℕ → Option Space
space_of ea msr lpid pid =
    if is_set 64 msr at.hv then hypervisor_space (is_set 64 msr at.pr) lpid pid (field_of 64 ea 0 1) else guest_space lpid pid (field_of 64 ea 0 1)
