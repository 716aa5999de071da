use Rattle.std.proofs.Common.{◌<◌, refl, lit≤, length, arith}
use Rattle.std.proofs.lemmas.Result.{err_from_is_err_and}
use Rattle.line_text.proofs.Parts.{no_parts, puts_part, stops_at_part, puts_last}
use Rattle.report_text.specs.ConsoleText.{console_bytes, console_parts}
use Rattle.report_text.proofs.ConsoleLemmas.{console_line_some}
use Rattle.report_text.proofs.consoles.put_console.Goals as goal

pub returns-in_err-put : goal.returns-in_err-put
returns-in_err-put g c =
    let p = err_from_is_err_and c.from_residual.result c.from_residual.ensures.1 in
    let bytes = console_bytes c.args.slot c.args.journal.now.rows.devices in
    let some : 0 < length bytes = omega (arith, c.requires, c.if-count-eq0.false) in
    rw (p.1, console_line_some c.args.slot bytes some)
    (stops_at_part (console_parts c.args.slot bytes) 0 _ _ _ _ _ _ _ refl (no_parts _ _) (rw (c.as_slice.ensures, c.console_head.ensures, c.requires) at c.in_err-put.ensures))

pub returns-in_err-put_bytes : goal.returns-in_err-put_bytes
returns-in_err-put_bytes g c =
    let p = err_from_is_err_and c.from_residual-in_err-put_bytes.result c.from_residual-in_err-put_bytes.ensures.1 in
    let bytes = console_bytes c.args.slot c.args.journal.now.rows.devices in
    let some : 0 < length bytes = omega (arith, c.requires, c.if-count-eq0.false) in
    let head = puts_part (console_parts c.args.slot bytes) 0 _ _ _ _ _ _ _ refl (no_parts _ _) (rw (c.as_slice.ensures, c.console_head.ensures, c.requires) at c.in_ok-put.ensures) in
    rw (p.1, console_line_some c.args.slot bytes some)
    (stops_at_part (console_parts c.args.slot bytes) 1 _ _ _ _ _ _ _ refl head c.in_err-put_bytes.ensures)

pub returns : goal.returns
returns g c =
    let bytes = console_bytes c.args.slot c.args.journal.now.rows.devices in
    let some : 0 < length bytes = omega (arith, c.requires, c.if-count-eq0.false) in
    let head = puts_part (console_parts c.args.slot bytes) 0 _ _ _ _ _ _ _ refl (no_parts _ _) (rw (c.as_slice.ensures, c.console_head.ensures, c.requires) at c.in_ok-put.ensures) in
    let text = puts_part (console_parts c.args.slot bytes) 1 _ _ _ _ _ _ _ refl head c.in_ok-put_bytes.ensures in
    rw (console_line_some c.args.slot bytes some)
    (puts_last (console_parts c.args.slot bytes) 2 _ _ _ _ _ _ _ c.put-2.result refl (lit≤ tt) text c.put-2.ensures)
