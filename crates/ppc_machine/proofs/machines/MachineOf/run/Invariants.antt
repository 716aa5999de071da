use Rattle.std.proofs.Common.{◌≡◌, ◌-◌, length}
use Rattle.journal_core.specs.Ends.{Grows}
use Rattle.ppc_bus.specs.Answers.{DeviceAnswers}
use Rattle.ppc_machine.specs.Inside.{held_of}
use Rattle.ppc_machine.specs.MachineView.{start_of, IsKept}
use Rattle.ppc_machine.specs.Machines.{Asks}
use Rattle.ppc_machine.proofs.RunLemmas.{Goes}
use Rattle.ppc_machine.proofs.machines.MachineOf.run.Given as goal

abbrev pub invariant-loop-thread : goal.invariant-loop-thread
invariant-loop-thread g l = record {
  kept : IsKept {D = g.row.D.Denot} (held_of l.self-inside);
  goes : Goes l.n l.fn.self.journal.reserved (length l.fn.self.journal.rows.steps) l.schedule l.self-inside.parts.journal.rows;
  grows : Grows l.fn.self.journal l.self-inside.parts.journal;
  count : length l.self-inside.parts.threads ≡ length l.fn.self.threads;
  entry : l.self-inside.entry ≡ l.fn.self.entry;
  plugged : (held_of {D = g.row.D.Denot} l.self-inside).plugged ≡ l.fn.self.plugged;
  begin : start_of {D = g.row.D.Denot} (held_of l.self-inside) ≡ start_of l.fn.self;
  asks : Asks {D = g.row.D.Denot} (DeviceAnswers g.D.Device.list g.D.Device.answers) l.fn.self (held_of l.self-inside);
}

abbrev pub decreases-loop-thread : goal.decreases-loop-thread
decreases-loop-thread g l = l.n - length l.self-inside.parts.journal.rows.steps
