-- The causes that forms raise: program interrupts, with the bit of SRR1 that says which (Power ISA, Book III, 6.5.9), and the
-- hypervisor's emulation assistance (6.5.18).
use Rattle.std.specs.Prelude.{ℕ, ◌-◌, ◌^◌}
use Rattle.journal_core.specs.declared.causes.Cause.{Cause}
use Rattle.journal_core.specs.declared.causes.Cause.TheVariants.{Program, HypAssist}

-- bit 45: the instruction is privileged
abbrev pub privileged_bit : ℕ
privileged_bit = 2 ^ (63 - 45)

-- bit 46: the condition of a trap holds
abbrev pub trap_bit : ℕ
trap_bit = 2 ^ (63 - 46)

-- a privileged instruction in problem state
abbrev pub privileged : Cause
privileged = Program privileged_bit

-- a trap
abbrev pub trap : Cause
trap = Program trap_bit

-- the instruction of this word is left to the hypervisor
abbrev pub assist : ℕ → Cause
assist word = HypAssist word
