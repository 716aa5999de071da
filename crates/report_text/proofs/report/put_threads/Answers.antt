use Rattle.std.proofs.Common.{◌≤◌, length, arith}
use Rattle.std.proofs.lemmas.Result.{err_from_is_err_and}
use Rattle.line_text.proofs.Parts.{no_parts, puts_part, stops_at_part, all_parts}
use Rattle.report_text.specs.ThreadText.{thread_texts}
use Rattle.report_text.proofs.ThreadTexts.{length-thread_texts, text_of_thread}
use Rattle.report_text.proofs.report.put_threads.Goals as goal

pub loop-number-init : goal.loop-number-init
loop-number-init g c = no_parts _ _

pub loop-number-preserved : goal.loop-number-preserved
loop-number-preserved g c =
    puts_part (thread_texts 0 c.args.threads.now) c.loop-number.number _ _ _ _ _ _ _ (text_of_thread c.args.threads.now c.loop-number.number _ c.loop-number-test.true) c.loop-number.invariant c.in_ok-print_lines.ensures

pub returns-in_err-print_lines : goal.returns-in_err-print_lines
returns-in_err-print_lines g c =
    let p = err_from_is_err_and c.from_residual.result c.from_residual.ensures.1 in
    rw p.1 (stops_at_part (thread_texts 0 c.args.threads.now) c.loop-number.number _ _ _ _ _ _ _ (text_of_thread c.args.threads.now c.loop-number.number _ c.loop-number-test.true) c.loop-number.invariant c.in_err-print_lines.ensures)

pub returns : goal.returns
returns g c =
    let all : length (thread_texts 0 c.args.threads.now) ≤ c.loop-number.number = omega (arith, length-thread_texts 0 c.args.threads.now) in
    rw (← all_parts (thread_texts 0 c.args.threads.now) c.loop-number.number all) c.loop-number.invariant
