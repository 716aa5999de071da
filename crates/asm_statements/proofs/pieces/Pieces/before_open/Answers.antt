use Rattle.std.proofs.Common.{ap, ◌∙◌}
use Rattle.asm_statements.specs.declared.piece.Sign.TheVariants as signs
use Rattle.asm_statements.specs.Pieces.{pieces_of, before}
use Rattle.asm_statements.proofs.Ends.{until-before}
use Rattle.asm_statements.proofs.pieces.Pieces.before_open.Goals as goal

pub returns : goal.returns
returns c =
    let own = c.self.inside in
    until-before signs.Comma signs.Open own.ends_at_comma own.ends_at_open (pieces_of own.rest.now)
    ∙ ap (before signs.Open) c.self.view_is
