use Rattle.std.proofs.lemmas.Result.{err_from_is_err_and}
use Rattle.report_text.proofs.ConsoleLemmas.{shown_cut}
use Rattle.report_text.proofs.consoles.put_bytes.Goals as goal

pub returns-in_err-put : goal.returns-in_err-put
returns-in_err-put g c =
    let p = err_from_is_err_and c.from_residual.result c.from_residual.ensures.1 in
    rw p.1 (shown_cut c.args.slot c.args.journal.now.rows.devices c.loop-from.from _ c.piece.result _ _ _ _ _ _
    c.piece.ensures (c.loop-from.invariant.0, c.loop-from.invariant.1) (rw c.as_slice.ensures at c.in_err-put.ensures))
