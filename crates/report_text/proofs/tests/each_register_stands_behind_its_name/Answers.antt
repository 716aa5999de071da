use Rattle.std.proofs.Common.{◌<◌, length, arith}
use Rattle.thread_regs.specs.Soundness.{AreWithinWidths}
use Rattle.thread_regs.proofs.SoundLemmas.{AreWithinWidths-reset, AreWithinWidths-set}
use Rattle.report_text.proofs.tests.each_register_stands_behind_its_name.Goals as goal

pub print_report-requires : goal.print_report-requires
print_report-requires g c =
    let threads = c.reset-threads.result in
    let inside : 1 < length threads = omega (arith, c.reset-threads.ensures.count) in
    let old : AreWithinWidths threads = rw c.reset-threads.ensures.reset (AreWithinWidths-reset 2 65536) in
    AreWithinWidths-set threads 1 c.set_each_control_register.new.thread inside old c.set_each_control_register.ensures
