use Rattle.std.proofs.Common.{◌≤◌, length, subst}
use Rattle.asm_statements.proofs.Counts.{left-length}
use Rattle.asm_statements.proofs.pieces.Pieces.byte_count.Goals as goal

pub returns-clause-pieces : goal.returns-clause-pieces
returns-clause-pieces c = subst (λ ps. length ps ≤ length c.self.inside.rest.now) c.self.view_is (left-length c.self.inside.ends_at_comma c.self.inside.ends_at_open c.self.inside.rest.now)
