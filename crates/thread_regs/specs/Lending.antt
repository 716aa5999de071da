-- What a thread lent for a change leaves in the list of threads.
use Rattle.std.specs.Prelude.{ℕ, List, slice_set}
use Rattle.std.specs.Borrow.{Lends, MutBor, Fml}
use Rattle.thread_regs.specs.declared.registers.Thread.{Thread}
use Rattle.thread_regs.specs.contracts.threads.Threads.{the_row}
use Rattle.thread_regs.specs.contracts.registers.Thread.{the_row as thread_row}

-- the threads end with this one set to the last value behind r
abbrev pub LendsThread : MutBor (List Thread) → ℕ → MutBor Thread → Fml
LendsThread s i r = Lends the_row thread_row s r (slice_set s.now i)
