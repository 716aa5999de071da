use Rattle.thread_regs.proofs.SoundLemmas.{AreWithinWidths-reset}
use Rattle.report_text.proofs.tests.each_end_has_its_name.Goals as goal

pub loop-end-init : goal.loop-end-init
loop-end-init g c = rw c.reset-threads.ensures.reset (AreWithinWidths-reset 1 0)
