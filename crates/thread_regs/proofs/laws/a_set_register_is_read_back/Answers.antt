use Rattle.thread_regs.proofs.RegisterLaws.{set_then_read}
use Rattle.thread_regs.proofs.laws.a_set_register_is_read_back.Goals as goal

pub returns : goal.returns
returns c = set_then_read
