-- What an interrupt of a walk leaves in SRR1 or HSRR1: bits that a return does not read (Power ISA, Book III, 6.5).
use Rattle.std.specs.Prelude.{◌≡◌, ℕ, true, List, Option, Ok}
use Rattle.ppc_spr.specs.Profile.{is_in_profile}
use Rattle.journal_core.specs.declared.rows.ReadRow.{ReadRow}
use Rattle.journal_core.specs.declared.asks.AccessKind.{AccessKind}
use Rattle.journal_core.specs.declared.asks.Ask.{Ask}
use Rattle.journal_core.specs.declared.asks.Denial.{Denial}
use Rattle.journal_core.specs.declared.asks.Rights.{Rights}
use Rattle.journal_core.specs.declared.causes.Cause.{Cause}
use Rattle.journal_core.specs.declared.walks.NestResult.TheVariants.{Fault}
use Rattle.journal_core.specs.Following.{Walk}
use Rattle.thread_regs.specs.declared.registers.Thread.{Thread}
use Rattle.interrupts.specs.Delivery.{delivered}
use Rattle.interrupts.specs.Laws.{IsConfined, IsStatus, returned}
use Rattle.interrupts.specs.Table.{interrupt_of}

-- the bits that an interrupt of a walk sets in the saved machine state are among 33 to 36 and 42 to 47, whatever the rights
-- refuse
abbrev pub WalksSetStatusBits : Type 0
WalksSetStatusBits = (deny : Rights → AccessKind → Option Denial) (word : ℕ → Option ℕ) (ask : Ask) (rs : List ReadRow) (cause : Cause) → Walk deny word ask rs (Fault cause) → IsStatus (interrupt_of cause).bits

-- so a return directly after the interrupt gives back the machine state in which it came
abbrev pub AReturnAfterAWalkRestoresTheState : Thread → Type 0
AReturnAfterAWalkRestoresTheState t = (deny : Rights → AccessKind → Option Denial) (word : ℕ → Option ℕ) (ask : Ask) (rs : List ReadRow) (cause : Cause) → Walk deny word ask rs (Fault cause) →
    is_in_profile t.msr.0 ≡ true → IsConfined t.msr → returned (interrupt_of cause).saved_in (delivered cause t) ≡ Ok t.msr
