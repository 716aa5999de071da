use Rattle.interrupts.proofs.DeliveryLemmas.{handler_is_aligned, handler_is_low}
use Rattle.interrupts.proofs.laws.handlers_begin_at_instructions.Goals as goal

pub returns-clause-aligned : goal.returns-clause-aligned
returns-clause-aligned c = handler_is_aligned c.args.cause

pub returns-clause-low : goal.returns-clause-low
returns-clause-low c = handler_is_low c.args.cause
