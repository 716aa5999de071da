-- What the assembler makes of one line of text.
use Rattle.std.specs.Prelude.{ℕ, List, Option, Some, None, option_and_then, if◌then◌else◌}
use Rattle.asm_statements.specs.declared.statement.Statement.{Statement}
use Rattle.asm_statements.specs.declared.line.Line.{Line}
use Rattle.asm_statements.specs.Pieces.{line_pieces}
use Rattle.asm_statements.specs.Statements.{line_of}
use Rattle.asm_places.specs.Names.{Definition}
use Rattle.asm_places.specs.declared.places.Places.{Places}
use Rattle.asm_contents.specs.declared.content.Content.{Content}
use Rattle.asm_contents.specs.Contents.{statement_content, is_known}

-- a statement that stands behind no label
abbrev pub behind_no_label : Option (List ℕ) → Option Statement → Option Statement
behind_no_label (Some label) statement = None
behind_no_label None statement = statement

abbrev pub unlabelled : Line → Option Statement
unlabelled line = behind_no_label line.label line.statement

-- the statement that a line of text is
abbrev pub statement_of_text : List ℕ → Option Statement
statement_of_text text = option_and_then unlabelled (option_and_then line_of (line_pieces text))

-- what a statement puts into memory at these places, where all its names are among these
abbrev pub known_content : List Definition → Places → Statement → Option Content
known_content names places statement = if is_known names places statement then statement_content names places statement else None

-- What a line of text puts into memory at these places, in a source with these names. Nothing where it is not one statement of the
-- language, where it has a label, where it names something else, and where a number in it is out of its range.
abbrev pub text_content : List Definition → Places → List ℕ → Option Content
text_content names places text = option_and_then (known_content names places) (statement_of_text text)
