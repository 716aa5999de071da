use Rattle.std.proofs.Common.{◌≡◌, length}
use Rattle.asm_statements.specs.Pieces.{behind}
use Rattle.asm_statements.proofs.pieces.Pieces.skip_past.Given as goal

abbrev pub invariant-loop-piece : goal.invariant-loop-piece
invariant-loop-piece l = behind l.sign l.self ≡ behind l.sign l.initial.self

abbrev pub decreases-loop-piece : goal.decreases-loop-piece
decreases-loop-piece l = length l.self
