use Rattle.std.proofs.Common.{◌≡◌, ◌+◌, ◌∷◌, length, arith, add-one, sym, ◌∙◌}
use Rattle.std.proofs.lemmas.List.{take_all, drop_all}
use Rattle.asm_places.specs.Lines.{lines_of}
use Rattle.asm_places.proofs.Split.{line_before, only_line}
use Rattle.asm_places.proofs.lines.line_length.Goals as goal

pub returns-then-byte-eq10-clause-line : goal.returns-then-byte-eq10-clause-line
returns-then-byte-eq10-clause-line c =
    rw (add-one) (line_before c.args.rest.now c.loop-i.i (omega arith) c.loop-i.invariant c.if-byte-eq10.true)

pub returns-clause-line : goal.returns-clause-line
returns-clause-line c =
    let bs = c.args.rest.now in
    let e : c.loop-i.i ≡ length bs = omega arith in
    only_line bs (omega arith) (rw e at c.loop-i.invariant)
    ∙ (λ i. sym (take_all (length bs) bs (omega arith)) i ∷ lines_of (sym (drop_all (length bs + 1) bs (omega arith)) i))
