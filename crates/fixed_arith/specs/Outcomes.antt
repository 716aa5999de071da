-- What an instruction leaves of what its operation computes (Power ISA, Book I, 3.2.2 and 3.3.9).
use Rattle.std.specs.Prelude.{ℕ, Bool, true, false, ◌||◌, if◌then◌else◌, Option, Some, None}
use Rattle.ppc_ops.specs.declared.results.Xer.{Xer}
use Rattle.ppc_ops.specs.declared.results.ArithOut.{ArithOut}
use Rattle.ppc_ops.specs.Results.{record_of}
use Rattle.fixed_arith.specs.declared.outcomes.Carries.{Carries}
use Rattle.fixed_arith.specs.declared.outcomes.Computation.{Computation}

-- a value alone: no carries to record, and no overflow
abbrev pub plain : ℕ → Computation
plain value = record { value = value; carries = None; overflow = false; overflow32 = false }

-- CA and CA32 change where the operation records carries
abbrev pub carried : Option Carries → Xer → Xer
carried None xer = xer
carried (Some carries) xer = record xer { ca = carries.carry; ca32 = carries.carry32 }

-- OV and OV32 change where the instruction asks for them; SO is set with OV, and is never cleared
abbrev pub overflowed : Bool → Computation → Xer → Xer
overflowed false computed xer = xer
overflowed true computed xer = record xer {
  so = xer.so || computed.overflow;
  ov = computed.overflow;
  ov32 = computed.overflow32;
}

-- the exception register after an instruction; `oe` asks for the overflow bits
abbrev pub xer_after : Bool → Computation → Xer → Xer
xer_after oe computed xer = overflowed oe computed (carried computed.carries xer)

-- the value, the exception register, and CR0 of both where `rc` asks for it
abbrev pub outcome : Bool → Bool → Xer → Computation → ArithOut
outcome oe rc xer computed = record {
  value = computed.value;
  xer = xer_after oe computed xer;
  cr0 = if rc then Some (record_of computed.value (xer_after oe computed xer).so) else None;
}
