use Rattle.thread_regs.specs.Soundness.{AreWithinWidths}
use Rattle.report_text.proofs.tests.each_end_has_its_name.Given as goal

abbrev pub invariant-loop-end : goal.invariant-loop-end
invariant-loop-end g l = AreWithinWidths l.threads
