use Rattle.std.proofs.Common.{sym, ap, ◌∙◌}
use Rattle.asm_statements.specs.declared.piece.Sign.TheVariants as signs
use Rattle.asm_statements.specs.Pieces.{pieces_of, before}
use Rattle.asm_statements.specs.Cursors.{until}
use Rattle.asm_statements.proofs.Ends.{before-until}
use Rattle.asm_statements.proofs.pieces.Pieces.before_comma.Goals as goal

pub returns : goal.returns
returns c =
    let own = c.self.inside in
    sym (before-until signs.Comma own.ends_at_comma (until own.ends_at_open signs.Open (pieces_of own.rest.now)))
    ∙ ap (before signs.Comma) c.self.view_is
