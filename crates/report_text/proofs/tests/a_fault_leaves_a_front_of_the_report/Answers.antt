use Rattle.thread_regs.proofs.SoundLemmas.{AreWithinWidths-reset}
use Rattle.report_text.proofs.tests.a_fault_leaves_a_front_of_the_report.Goals as goal

pub print_report-requires : goal.print_report-requires
print_report-requires g c = rw c.reset-threads.ensures.reset (AreWithinWidths-reset 1 0)
