use Rattle.std.proofs.Common.{◌∷◌, [], sym, arith, take, length-append, length-take}
use Rattle.std.proofs.lemmas.List.{get_or-replicate}
use Rattle.report_text.specs.ConsoleText.{console_bytes}
use Rattle.report_text.proofs.ConsoleLemmas.{console_bytes_next, length-console_bytes, row_there}
use Rattle.report_text.proofs.consoles.count_bytes.Goals as goal
use Rattle.report_text.proofs.consoles.count_bytes.Goals.{in-Some, in_default}

pub loop-k-init : goal.loop-k-init
loop-k-init c slot lt = get_or-replicate 256 slot 0 0 lt

pub count_row-requires : goal.count_row-requires
count_row-requires c slot lt =
    let rows = c.args.journal.now.rows.devices in
    omega (arith, c.loop-k.invariant slot lt, length-console_bytes slot (take c.loop-k.k rows), length-take c.loop-k.k rows, c.loop-k-test.true)

pub loop-k-preserved : goal.loop-k-preserved
loop-k-preserved c slot lt =
    let rows = c.args.journal.now.rows.devices in
    elim c.match-device.branch [
      | in-Some w ↦
          let next = console_bytes_next slot rows c.loop-k.k w.in-Some.row.now (sym w.in-Some.ensures) in
          rw (w.counts-is, next) (omega (arith, w.count_row.ensures slot lt, c.loop-k.invariant slot lt, length-append (console_bytes slot (take c.loop-k.k rows)) (console_bytes slot (w.in-Some.row.now ∷ []))))
      | in_default w ↦ absurd (row_there rows c.loop-k.k (omega (arith, c.loop-k-test.true, c.counts-k-end.ensures.devices)) (sym w.in_default.ensures))
    ]
