use Rattle.std.proofs.Common.{lit≤, refl}
use Rattle.std.proofs.lemmas.Result.{err_from_is_err_and}
use Rattle.line_text.proofs.Parts.{no_parts, puts_part, stops_at_part, puts_last}
use Rattle.report_text.specs.Report.{report, sections}
use Rattle.report_text.proofs.report.print_report.Goals as goal

pub returns-in_err-print_lines : goal.returns-in_err-print_lines
unfolding report
returns-in_err-print_lines g c =
    let p = err_from_is_err_and c.from_residual.result c.from_residual.ensures.1 in
    let parts = c.args.parts.now in
    let all = sections parts.end parts.threads.now parts.journal.now.rows (record { trace = c.args.trace; walks = c.args.walks }) in
    rw p.1 (stops_at_part all 0 _ _ _ _ _ _ _ refl (no_parts _ _)
    (rw (c.counts.ensures.steps, c.time_base.ensures, c.as_slice-threads.ensures) at c.in_err-print_lines.ensures))

pub returns-in_err-put_threads : goal.returns-in_err-put_threads
unfolding report
returns-in_err-put_threads g c =
    let p = err_from_is_err_and c.from_residual-in_err-put_threads.result c.from_residual-in_err-put_threads.ensures.1 in
    let parts = c.args.parts.now in
    let all = sections parts.end parts.threads.now parts.journal.now.rows (record { trace = c.args.trace; walks = c.args.walks }) in
    let head = puts_part all 0 _ _ _ _ _ _ _ refl (no_parts _ _) (rw (c.counts.ensures.steps, c.time_base.ensures, c.as_slice-threads.ensures) at c.in_ok-print_lines.ensures) in
    rw p.1 (stops_at_part all 1 _ _ _ _ _ _ _ refl head (rw c.as_slice-threads.ensures at c.in_err-put_threads.ensures))

pub returns-in_err-put_consoles : goal.returns-in_err-put_consoles
unfolding report
returns-in_err-put_consoles g c =
    let p = err_from_is_err_and c.from_residual-in_err-put_consoles.result c.from_residual-in_err-put_consoles.ensures.1 in
    let parts = c.args.parts.now in
    let all = sections parts.end parts.threads.now parts.journal.now.rows (record { trace = c.args.trace; walks = c.args.walks }) in
    let head = puts_part all 0 _ _ _ _ _ _ _ refl (no_parts _ _) (rw (c.counts.ensures.steps, c.time_base.ensures, c.as_slice-threads.ensures) at c.in_ok-print_lines.ensures) in
    let threads = puts_part all 1 _ _ _ _ _ _ _ refl head (rw c.as_slice-threads.ensures at c.in_ok-put_threads.ensures) in
    rw p.1 (stops_at_part all 2 _ _ _ _ _ _ _ refl threads c.in_err-put_consoles.ensures)

pub returns-in_err-put_lines_if : goal.returns-in_err-put_lines_if
unfolding report
returns-in_err-put_lines_if g c =
    let p = err_from_is_err_and c.from_residual-in_err-put_lines_if.result c.from_residual-in_err-put_lines_if.ensures.1 in
    let parts = c.args.parts.now in
    let all = sections parts.end parts.threads.now parts.journal.now.rows (record { trace = c.args.trace; walks = c.args.walks }) in
    let head = puts_part all 0 _ _ _ _ _ _ _ refl (no_parts _ _) (rw (c.counts.ensures.steps, c.time_base.ensures, c.as_slice-threads.ensures) at c.in_ok-print_lines.ensures) in
    let threads = puts_part all 1 _ _ _ _ _ _ _ refl head (rw c.as_slice-threads.ensures at c.in_ok-put_threads.ensures) in
    let consoles = puts_part all 2 _ _ _ _ _ _ _ refl threads c.in_ok-put_consoles.ensures in
    rw p.1 (stops_at_part all 3 _ _ _ _ _ _ _ refl consoles c.in_err-put_lines_if.ensures)

pub returns-in_err-put_lines_if-2 : goal.returns-in_err-put_lines_if-2
unfolding report
returns-in_err-put_lines_if-2 g c =
    let p = err_from_is_err_and c.from_residual-in_err-put_lines_if-2.result c.from_residual-in_err-put_lines_if-2.ensures.1 in
    let parts = c.args.parts.now in
    let all = sections parts.end parts.threads.now parts.journal.now.rows (record { trace = c.args.trace; walks = c.args.walks }) in
    let head = puts_part all 0 _ _ _ _ _ _ _ refl (no_parts _ _) (rw (c.counts.ensures.steps, c.time_base.ensures, c.as_slice-threads.ensures) at c.in_ok-print_lines.ensures) in
    let threads = puts_part all 1 _ _ _ _ _ _ _ refl head (rw c.as_slice-threads.ensures at c.in_ok-put_threads.ensures) in
    let consoles = puts_part all 2 _ _ _ _ _ _ _ refl threads c.in_ok-put_consoles.ensures in
    let steps = puts_part all 3 _ _ _ _ _ _ _ refl consoles c.in_ok-put_lines_if.ensures in
    rw p.1 (stops_at_part all 4 _ _ _ _ _ _ _ refl steps c.in_err-put_lines_if-2.ensures)

pub returns-in_err-put_lines_if-3 : goal.returns-in_err-put_lines_if-3
unfolding report
returns-in_err-put_lines_if-3 g c =
    let p = err_from_is_err_and c.from_residual-in_err-put_lines_if-3.result c.from_residual-in_err-put_lines_if-3.ensures.1 in
    let parts = c.args.parts.now in
    let all = sections parts.end parts.threads.now parts.journal.now.rows (record { trace = c.args.trace; walks = c.args.walks }) in
    let head = puts_part all 0 _ _ _ _ _ _ _ refl (no_parts _ _) (rw (c.counts.ensures.steps, c.time_base.ensures, c.as_slice-threads.ensures) at c.in_ok-print_lines.ensures) in
    let threads = puts_part all 1 _ _ _ _ _ _ _ refl head (rw c.as_slice-threads.ensures at c.in_ok-put_threads.ensures) in
    let consoles = puts_part all 2 _ _ _ _ _ _ _ refl threads c.in_ok-put_consoles.ensures in
    let steps = puts_part all 3 _ _ _ _ _ _ _ refl consoles c.in_ok-put_lines_if.ensures in
    let writes = puts_part all 4 _ _ _ _ _ _ _ refl steps c.in_ok-put_lines_if-2.ensures in
    rw p.1 (stops_at_part all 5 _ _ _ _ _ _ _ refl writes c.in_err-put_lines_if-3.ensures)

pub returns-in_err-put_lines_if-4 : goal.returns-in_err-put_lines_if-4
unfolding report
returns-in_err-put_lines_if-4 g c =
    let p = err_from_is_err_and c.from_residual-in_err-put_lines_if-4.result c.from_residual-in_err-put_lines_if-4.ensures.1 in
    let parts = c.args.parts.now in
    let all = sections parts.end parts.threads.now parts.journal.now.rows (record { trace = c.args.trace; walks = c.args.walks }) in
    let head = puts_part all 0 _ _ _ _ _ _ _ refl (no_parts _ _) (rw (c.counts.ensures.steps, c.time_base.ensures, c.as_slice-threads.ensures) at c.in_ok-print_lines.ensures) in
    let threads = puts_part all 1 _ _ _ _ _ _ _ refl head (rw c.as_slice-threads.ensures at c.in_ok-put_threads.ensures) in
    let consoles = puts_part all 2 _ _ _ _ _ _ _ refl threads c.in_ok-put_consoles.ensures in
    let steps = puts_part all 3 _ _ _ _ _ _ _ refl consoles c.in_ok-put_lines_if.ensures in
    let writes = puts_part all 4 _ _ _ _ _ _ _ refl steps c.in_ok-put_lines_if-2.ensures in
    let devices = puts_part all 5 _ _ _ _ _ _ _ refl writes c.in_ok-put_lines_if-3.ensures in
    rw p.1 (stops_at_part all 6 _ _ _ _ _ _ _ refl devices c.in_err-put_lines_if-4.ensures)

pub returns-in_err-put_lines_if-5 : goal.returns-in_err-put_lines_if-5
unfolding report
returns-in_err-put_lines_if-5 g c =
    let p = err_from_is_err_and c.from_residual-in_err-put_lines_if-5.result c.from_residual-in_err-put_lines_if-5.ensures.1 in
    let parts = c.args.parts.now in
    let all = sections parts.end parts.threads.now parts.journal.now.rows (record { trace = c.args.trace; walks = c.args.walks }) in
    let head = puts_part all 0 _ _ _ _ _ _ _ refl (no_parts _ _) (rw (c.counts.ensures.steps, c.time_base.ensures, c.as_slice-threads.ensures) at c.in_ok-print_lines.ensures) in
    let threads = puts_part all 1 _ _ _ _ _ _ _ refl head (rw c.as_slice-threads.ensures at c.in_ok-put_threads.ensures) in
    let consoles = puts_part all 2 _ _ _ _ _ _ _ refl threads c.in_ok-put_consoles.ensures in
    let steps = puts_part all 3 _ _ _ _ _ _ _ refl consoles c.in_ok-put_lines_if.ensures in
    let writes = puts_part all 4 _ _ _ _ _ _ _ refl steps c.in_ok-put_lines_if-2.ensures in
    let devices = puts_part all 5 _ _ _ _ _ _ _ refl writes c.in_ok-put_lines_if-3.ensures in
    let reads = puts_part all 6 _ _ _ _ _ _ _ refl devices c.in_ok-put_lines_if-4.ensures in
    rw p.1 (stops_at_part all 7 _ _ _ _ _ _ _ refl reads c.in_err-put_lines_if-5.ensures)

pub returns : goal.returns
unfolding report
returns g c =
    let parts = c.args.parts.now in
    let all = sections parts.end parts.threads.now parts.journal.now.rows (record { trace = c.args.trace; walks = c.args.walks }) in
    let head = puts_part all 0 _ _ _ _ _ _ _ refl (no_parts _ _) (rw (c.counts.ensures.steps, c.time_base.ensures, c.as_slice-threads.ensures) at c.in_ok-print_lines.ensures) in
    let threads = puts_part all 1 _ _ _ _ _ _ _ refl head (rw c.as_slice-threads.ensures at c.in_ok-put_threads.ensures) in
    let consoles = puts_part all 2 _ _ _ _ _ _ _ refl threads c.in_ok-put_consoles.ensures in
    let steps = puts_part all 3 _ _ _ _ _ _ _ refl consoles c.in_ok-put_lines_if.ensures in
    let writes = puts_part all 4 _ _ _ _ _ _ _ refl steps c.in_ok-put_lines_if-2.ensures in
    let devices = puts_part all 5 _ _ _ _ _ _ _ refl writes c.in_ok-put_lines_if-3.ensures in
    let reads = puts_part all 6 _ _ _ _ _ _ _ refl devices c.in_ok-put_lines_if-4.ensures in
    let fills = puts_part all 7 _ _ _ _ _ _ _ refl reads c.in_ok-put_lines_if-5.ensures in
    puts_last all 8 _ _ _ _ _ _ _ c.put.result refl (lit≤ tt) fills c.put.ensures
