use Rattle.interrupts.proofs.DeliveryLemmas.{leaves_the_rest}
use Rattle.interrupts.proofs.laws.an_interrupt_leaves_the_rest.Goals as goal

pub returns : goal.returns
returns c = leaves_the_rest c.args.cause c.args.thread
