use Rattle.std.proofs.Common.{◌≤◌, length}
use Rattle.ppc_machine.specs.Inside.{held_of}
use Rattle.ppc_machine.proofs.ViewLemmas.{sound_now}
use Rattle.ppc_machine.proofs.machines.MachineOf.threads.Goals as goal

pub returns-clause-sound : goal.returns-clause-sound
returns-clause-sound g c =
    let held = held_of {D = g.row.D.Denot} c.self.inside in
    let some : 1 ≤ length held.threads = rw (← c.count.ensures.count) c.count.ensures.some in
    let most : length held.threads ≤ 4 = rw (← c.count.ensures.count) c.count.ensures.most in
    rw (← c.self.view_is) (sound_now held c.self.invariant some most)
