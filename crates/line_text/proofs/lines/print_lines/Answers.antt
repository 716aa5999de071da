use Rattle.std.proofs.lemmas.Result.{err_from_is_err_and}
use Rattle.line_text.proofs.Parts.{no_parts, puts_part, stops_at_part}
use Rattle.line_text.proofs.lines.print_lines.Goals as goal

pub loop-k-init : goal.loop-k-init
loop-k-init g c = no_parts _ _

pub loop-k-preserved : goal.loop-k-preserved
loop-k-preserved g c =
    puts_part (g.L.Lines.lines c.args.lines.now) c.loop-k.k c.line.new.line _ _ _ _ _ _ c.line.ensures c.loop-k.invariant (rw c.as_slice.ensures at c.in_ok-put.ensures)

pub returns-in_err-put : goal.returns-in_err-put
returns-in_err-put g c =
    let p = err_from_is_err_and c.from_residual.result c.from_residual.ensures.1 in
    rw p.1 (stops_at_part (g.L.Lines.lines c.args.lines.now) c.loop-k.k c.line.new.line _ _ _ _ _ _ c.line.ensures c.loop-k.invariant (rw c.as_slice.ensures at c.in_err-put.ensures))
