use Rattle.std.proofs.Common.{◌<◌, length, arith, rules}
use Rattle.thread_regs.specs.Soundness.{AreWithinWidths}
use Rattle.thread_regs.proofs.SoundLemmas.{AreWithinWidths-reset, AreWithinWidths-set}
use Rattle.report_text.proofs.tests.a_report_after_three_steps.Goals as goal

pub print_report-requires : goal.print_report-requires
print_report-requires g c =
    let threads = c.reset-threads.result in
    let inside : 0 < length threads = omega (arith, c.reset-threads.ensures.count) in
    let old : AreWithinWidths threads = rw c.reset-threads.ensures.reset (AreWithinWidths-reset 1 65536) in
    AreWithinWidths-set threads 0 _ inside old (search rules)
