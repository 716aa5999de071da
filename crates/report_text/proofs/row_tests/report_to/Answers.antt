use Rattle.thread_regs.proofs.SoundLemmas.{AreWithinWidths-reset}
use Rattle.report_text.proofs.row_tests.report_to.Goals as goal

pub print_report-requires : goal.print_report-requires
print_report-requires g c = rw c.reset-threads.ensures.reset (AreWithinWidths-reset 1 65536)
