-- What an ask raises that gets no page (Power ISA, Book III, storage interrupts).
use Rattle.std.specs.Prelude.{ℕ, ◌+◌, ◌-◌, ◌*◌, ◌/◌, ◌^◌, if◌then◌else◌}
use Rattle.journal_core.specs.declared.asks.AccessKind.{AccessKind}
use Rattle.journal_core.specs.declared.asks.AccessKind.TheVariants.{Fetch, Load, Store}
use Rattle.journal_core.specs.declared.asks.Ask.{Ask}
use Rattle.journal_core.specs.declared.asks.Denial.{Denial}
use Rattle.journal_core.specs.declared.asks.Denial.TheVariants.{Privilege, Read, Write, Execute, Guarded, Referenced, Changed}
use Rattle.journal_core.specs.declared.causes.Cause.{Cause}
use Rattle.journal_core.specs.declared.causes.Cause.TheVariants.{DataStorage, DataSegment, InstStorage, InstSegment, HypDataStorage, HypInstStorage}
use Rattle.journal_core.specs.declared.walks.FaultKind.{FaultKind}
use Rattle.journal_core.specs.declared.walks.FaultKind.TheVariants.{Missing, Unsupported}
use Rattle.journal_core.specs.Asks.{is_fetch}

-- a doubleword whose bit i is 1, and no other; the status registers of 32 bits are numbered from 32
abbrev pub fault_bit : ℕ → ℕ
fault_bit i = 2 ^ (63 - i)

-- bit 33: no entry; bit 44: a form of tree that this machine does not have
abbrev pub kind_bits : FaultKind → ℕ
kind_bits Missing = fault_bit 33
kind_bits Unsupported = fault_bit 44

-- bit 35: not to be fetched; bit 36: not permitted; bit 45: not marked
abbrev pub denial_bits : Denial → ℕ
denial_bits Execute = fault_bit 35
denial_bits Guarded = fault_bit 35
denial_bits Privilege = fault_bit 36
denial_bits Read = fault_bit 36
denial_bits Write = fault_bit 36
denial_bits Referenced = fault_bit 45
denial_bits Changed = fault_bit 45

-- bit 38: the instruction stores
abbrev pub store_bits : AccessKind → ℕ
store_bits Fetch = 0
store_bits Load = 0
store_bits Store = fault_bit 38

-- the process's tables give no page
abbrev pub process_fault : Ask → ℕ → Cause
process_fault ask why = if is_fetch ask.access then InstStorage why else DataStorage ask.ea (why + store_bits ask.access)

-- the partition's tables give no page for a guest real address, of which the register keeps all but the 12 lowest bits
abbrev pub partition_fault : Ask → ℕ → ℕ → Cause
partition_fault ask why gra =
    if is_fetch ask.access then HypInstStorage why (gra / 2 ^ 12 * 2 ^ 12) else HypDataStorage ask.ea (why + store_bits ask.access) (gra / 2 ^ 12 * 2 ^ 12)

-- the address is in no segment
abbrev pub segment_fault : Ask → Cause
segment_fault ask = if is_fetch ask.access then InstSegment else DataSegment ask.ea
