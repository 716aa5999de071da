use Rattle.std.proofs.Common.{arith, get_or, refl}
use Rattle.std.proofs.lemmas.Grind.{common_steps}
use Rattle.outer_io.specs.MemorySink.{added_at}
use Rattle.outer_io.specs.declared.planned.PlannedFault.{PlannedFault}
use Rattle.outer_io.proofs.Shelves.{last_some-take}
use Rattle.outer_io.proofs.planned.planned_for.Goals as goal
use Rattle.outer_io.proofs.planned.planned_for.Goals.{then-fault-call, else-fault-call}

pub loop-fault-preserved : goal.loop-fault-preserved
loop-fault-preserved c =
    let other : PlannedFault = record { call = 0; added = 0 } in
    let step = last_some-take (added_at c.args.call) c.args.planned.now c.loop-fault.fault-index (get_or c.args.planned.now c.loop-fault.fault-index other) other c.loop-fault-test.true refl in
    elim c.if-fault-call.branch [ then-fault-call w ↦ grind (arith, common_steps, step) | else-fault-call w ↦ grind (arith, common_steps, step, c.loop-fault.invariant) ]
