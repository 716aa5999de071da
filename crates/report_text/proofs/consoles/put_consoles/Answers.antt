use Rattle.std.proofs.Common.{◌<◌, ◌≤◌, length, arith}
use Rattle.std.proofs.lemmas.Result.{err_from_is_err_and}
use Rattle.line_text.proofs.Parts.{no_parts, puts_part, stops_at_part, all_parts}
use Rattle.report_text.specs.ConsoleText.{console_lines}
use Rattle.report_text.proofs.ConsoleLemmas.{get-console_lines, length-console_lines}
use Rattle.report_text.proofs.consoles.put_consoles.Goals as goal

pub loop-slot-init : goal.loop-slot-init
loop-slot-init g c = no_parts _ _

pub loop-slot-preserved : goal.loop-slot-preserved
loop-slot-preserved g c =
    let devices = c.args.journal.now.rows.devices in
    let inside : c.loop-slot.slot < 256 = omega arith in
    puts_part (console_lines devices) c.loop-slot.slot _ _ _ _ _ _ _ (get-console_lines devices c.loop-slot.slot inside) c.loop-slot.invariant c.in_ok-put_console.ensures

pub returns-in_err-put_console : goal.returns-in_err-put_console
returns-in_err-put_console g c =
    let p = err_from_is_err_and c.from_residual.result c.from_residual.ensures.1 in
    let devices = c.args.journal.now.rows.devices in
    let inside : c.loop-slot.slot < 256 = omega arith in
    rw p.1 (stops_at_part (console_lines devices) c.loop-slot.slot _ _ _ _ _ _ _ (get-console_lines devices c.loop-slot.slot inside) c.loop-slot.invariant c.in_err-put_console.ensures)

pub returns : goal.returns
returns g c =
    let devices = c.args.journal.now.rows.devices in
    let all : length (console_lines devices) ≤ c.loop-slot.slot = omega (arith, length-console_lines devices) in
    rw (← all_parts (console_lines devices) c.loop-slot.slot all) c.loop-slot.invariant
