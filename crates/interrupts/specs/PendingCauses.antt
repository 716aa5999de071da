-- The interrupt that a thread is to take before its next instruction (Power ISA, Book III, 6.7).
use Rattle.std.specs.Prelude.{Option, None}
use Rattle.journal_core.specs.declared.causes.Cause.{Cause}
use Rattle.thread_regs.specs.declared.registers.Thread.{Thread}

-- none: the causes of both decrementers are to come
abbrev pub pending_cause : Thread → Option Cause
pending_cause t = None
