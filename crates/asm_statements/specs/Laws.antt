-- Laws of lines.
use Rattle.std.specs.Prelude.{◌≡◌, ◌≤◌, ℕ, List, length, Some}
use Rattle.asm_statements.specs.declared.piece.Piece.{Piece}
use Rattle.asm_statements.specs.declared.statement.Statement.TheVariants as statements
use Rattle.asm_statements.specs.declared.line.Line.{Line}
use Rattle.asm_statements.specs.Pieces.{line_pieces}
use Rattle.asm_statements.specs.Statements.{line_of}

-- A text has no more bytes than its line.
abbrev pub TextsAreShort : Type 0
TextsAreShort =
    (bytes text : List ℕ) (pieces : List Piece) (line : Line) → line_pieces bytes ≡ Some pieces → line_of pieces ≡ Some line →
    line.statement ≡ Some (statements.Ascii text) → length text ≤ length bytes
