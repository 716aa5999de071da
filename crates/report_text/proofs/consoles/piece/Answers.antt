use Rattle.std.proofs.Common.{ℕ, List, ◌++◌, [], ◌∷◌, ◌∙◌, ap, sym, arith, length, take, append_assoc}
use Rattle.report_text.specs.ConsoleText.{console_bytes, escaped}
use Rattle.report_text.proofs.ConsoleLemmas.{escaped_next, row_there}
use Rattle.report_text.proofs.consoles.piece.Goals as goal
use Rattle.report_text.proofs.consoles.piece.Goals.{in-Some, in_default}

pub loop-k-preserved : goal.loop-k-preserved
loop-k-preserved c =
    let rows = c.args.journal.now.rows.devices in
    elim c.match-device.branch [
      | in-Some w ↦
          let shown = escaped (console_bytes c.args.slot (w.in-Some.row.now ∷ [])) in
          let next = escaped_next c.args.slot rows c.loop-k.k w.in-Some.row.now (sym w.in-Some.ensures) in (
            rw (w.line-is, w.push_shown.ensures.text, next) (sym (append_assoc (escaped (console_bytes c.args.slot (take c.args.from rows))) c.loop-k.line shown) ∙ ap (λ (t : List ℕ). t ++ shown) c.loop-k.invariant.0),
            omega (arith, ap length w.line-is, w.push_shown.ensures.len, c.loop-k.invariant.1),
          )
      | in_default w ↦ absurd (row_there rows c.loop-k.k (omega (arith, c.loop-k-test.true, c.requires.rows)) (sym w.in_default.ensures))
    ]
