use Rattle.thread_regs.proofs.SoundLemmas.{AreWithinWidths-reset}
use Rattle.report_text.proofs.tests.each_piece_is_one_whole_line.Goals as goal

pub print_report-requires : goal.print_report-requires
print_report-requires g c = rw c.reset-threads.ensures.reset (AreWithinWidths-reset 4 65536)
