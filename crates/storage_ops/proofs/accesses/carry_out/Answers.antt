use Rattle.std.proofs.Common.{refl}
use Rattle.storage_ops.specs.Effects as effects
use Rattle.storage_ops.proofs.MovesLemmas.{carries_plain}
use Rattle.storage_ops.proofs.accesses.carry_out.Goals as goal

pub returns-in-Moves : goal.returns-in-Moves
returns-in-Moves g c = λ founds. rw c.in-Moves.is c.move_bytes.ensures

pub returns-in-Clears : goal.returns-in-Clears
returns-in-Clears g c = λ founds. rw c.in-Clears.is c.clear_block.ensures

pub returns-in-Touches : goal.returns-in-Touches
returns-in-Touches g c = λ founds. rw c.in-Touches.is
    (carries_plain g.B.Port.related g.B.Port.windows c.args.number (λ answer. effects.registers c.args.thread.now) c.args.thread.now c.args.thread.now c.args.store.now.ram c.args.bus.now c.args.journal.now refl refl refl)

pub returns-in-Nothing : goal.returns-in-Nothing
returns-in-Nothing g c = λ founds. rw c.in-Nothing.is
    (carries_plain g.B.Port.related g.B.Port.windows c.args.number (λ answer. effects.registers c.args.thread.now) c.args.thread.now c.args.thread.now c.args.store.now.ram c.args.bus.now c.args.journal.now refl refl refl)
