-- Statements and lines.
use Rattle.std.specs.Prelude.{ℕ, List, [], ◌∷◌, codes, Option, Some, None, option_map, option_and_then, if◌then◌else◌}
use Rattle.std.specs.Str.{bytes_eq}
use Rattle.operand_texts.specs.Operands.{operand_texts}
use Rattle.asm_statements.specs.declared.piece.Sign.TheVariants as signs
use Rattle.asm_statements.specs.declared.piece.Piece.{Piece}
use Rattle.asm_statements.specs.declared.piece.Piece.TheVariants as pieces
use Rattle.operand_texts.specs.declared.mnemonic.Mnemonic.{Mnemonic}
use Rattle.asm_statements.specs.declared.statement.Directive.{Directive}
use Rattle.asm_statements.specs.declared.statement.Directive.TheVariants as directives
use Rattle.asm_statements.specs.declared.statement.Width.TheVariants as widths
use Rattle.asm_statements.specs.declared.statement.Statement.{Statement}
use Rattle.asm_statements.specs.declared.statement.Statement.TheVariants as statements
use Rattle.asm_statements.specs.declared.line.Line.{Line}
use Rattle.asm_statements.specs.Expressions.{is_plain, terms_of}
use Rattle.asm_statements.specs.Mnemonics.{mnemonic_of}
use Rattle.asm_statements.specs.Operands.{operands_of}

-- the directive that a word names
abbrev pub directive_of : List ℕ → Option Directive
directive_of word =
    if bytes_eq word (codes ".seg") then Some directives.Seg
    else if bytes_eq word (codes ".entry") then Some directives.Entry
    else if bytes_eq word (codes ".equ") then Some directives.Equ
    else if bytes_eq word (codes ".word") then Some directives.Word
    else if bytes_eq word (codes ".dword") then Some directives.Dword
    else if bytes_eq word (codes ".bedword") then Some directives.Bedword
    else if bytes_eq word (codes ".ascii") then Some directives.Ascii
    else if bytes_eq word (codes ".space") then Some directives.Space
    else if bytes_eq word (codes ".align") then Some directives.Align
    else None

-- the name that the pieces are
abbrev pub name_in : List Piece → Option (List ℕ)
name_in (pieces.Word word ∷ []) = if is_plain word then Some word else None
name_in ps = None

-- the text that the pieces are
abbrev pub text_in : List Piece → Option (List ℕ)
text_in (pieces.Text text ∷ []) = Some text
text_in ps = None

-- a name, a comma and an expression
abbrev pub definition_in : List Piece → Option Statement
definition_in (pieces.Word word ∷ pieces.Sign signs.Comma ∷ ps) = if is_plain word then option_map (statements.Equ word) (terms_of ps) else None
definition_in ps = None

-- the directive with what stands behind its word
abbrev pub directive_in : Directive → List Piece → Option Statement
directive_in directives.Seg ps = option_map statements.Seg (terms_of ps)
directive_in directives.Entry ps = option_map statements.Entry (name_in ps)
directive_in directives.Equ ps = definition_in ps
directive_in directives.Word ps = option_map (statements.Data widths.Word) (terms_of ps)
directive_in directives.Dword ps = option_map (statements.Data widths.Doubleword) (terms_of ps)
directive_in directives.Bedword ps = option_map (statements.Data widths.BigEndianDoubleword) (terms_of ps)
directive_in directives.Ascii ps = option_map statements.Ascii (text_in ps)
directive_in directives.Space ps = option_map statements.Space (terms_of ps)
directive_in directives.Align ps = option_map statements.Align (terms_of ps)

-- the instruction with its operands
abbrev pub instruction_in : List Piece → Mnemonic → Option Statement
instruction_in ps m = option_map (statements.Instruction m) (operands_of (operand_texts m.op) ps)

abbrev pub statement_by : Option Directive → List ℕ → List Piece → Option Statement
statement_by (Some directive) word ps = directive_in directive ps
statement_by None word ps = option_and_then (instruction_in ps) (mnemonic_of word)

-- the statement that the pieces are
abbrev pub statement_of : List Piece → Option Statement
statement_of (pieces.Word word ∷ ps) = statement_by (directive_of word) word ps
statement_of ps = None

abbrev pub line_with : Option (List ℕ) → Option Statement → Line
line_with label statement = record { label = label; statement = statement }

abbrev pub with_statement : Option (List ℕ) → Statement → Line
with_statement label statement = line_with label (Some statement)

-- what stands behind a label, or where it may stand
abbrev pub behind_label : Option (List ℕ) → List Piece → Option Line
behind_label label [] = Some (line_with label None)
behind_label label (p ∷ ps) = option_map (with_statement label) (statement_of (p ∷ ps))

-- the label and the statement of a line, each of which may be missing
abbrev pub line_of : List Piece → Option Line
line_of (pieces.Word word ∷ pieces.Sign signs.Colon ∷ ps) = if is_plain word then behind_label (Some word) ps else None
line_of ps = behind_label None ps
