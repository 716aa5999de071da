-- Texts are parts of their line.
use Rattle.std.proofs.Common.{◌≡◌, ℕ, ◌-◌, ◌≤◌, Bool, true, false, cond, List, [], ◌∷◌, length, take, drop, Some, None, Ok, Err, Option, subst, arith}
use Rattle.std.proofs.lemmas.List.{length-take, length-drop}
use Rattle.std.proofs.lemmas.Option.{none-some, same_Some}
use Rattle.std.specs.Prelude.{Result, option_map, option_and_then}
use Rattle.asm_lex.specs.declared.token.Token.{Token}
use Rattle.asm_lex.specs.declared.token.TokenKind.{TokenKind}
use Rattle.asm_lex.specs.declared.token.TokenKind.TheVariants as tokens
use Rattle.asm_lex.specs.declared.fault.LexFault.{LexFault}
use Rattle.asm_lex.specs.Tokens.{tokens_of}
use Rattle.operand_texts.specs.Operands.{operand_texts}
use Rattle.asm_statements.specs.declared.piece.Sign.TheVariants as signs
use Rattle.asm_statements.specs.declared.piece.Piece.{Piece}
use Rattle.asm_statements.specs.declared.piece.Piece.TheVariants as kinds
use Rattle.operand_texts.specs.declared.mnemonic.Mnemonic.{Mnemonic}
use Rattle.asm_statements.specs.declared.statement.Directive.{Directive}
use Rattle.asm_statements.specs.declared.statement.Directive.TheVariants as directives
use Rattle.asm_statements.specs.declared.statement.Statement.{Statement}
use Rattle.asm_statements.specs.declared.statement.Statement.TheVariants as statements
use Rattle.asm_statements.specs.declared.statement.Width.TheVariants as widths
use Rattle.asm_statements.specs.declared.line.Line.{Line}
use Rattle.asm_statements.specs.Expressions.{is_plain, terms_of}
use Rattle.asm_statements.specs.Pieces.{without_quotes, piece_as, bytes_of, and_pieces, pieces_in, pieces_for, pieces_of, has_tokens, line_pieces}
use Rattle.asm_statements.specs.Operands.{operands_of}
use Rattle.asm_statements.specs.Mnemonics.{mnemonic_of}
use Rattle.asm_statements.specs.Statements.{directive_of, name_in, text_in, definition_in, directive_in, instruction_in, statement_by, statement_of, with_statement, behind_label, line_of}

-- a text has at most so many bytes
abbrev IsShort : ℕ → Piece → Type 0
IsShort n (kinds.Text text) = length text ≤ n
IsShort n (kinds.Number m) = Unit {0}
IsShort n (kinds.Word w) = Unit {0}
IsShort n (kinds.Sign s) = Unit {0}

abbrev AreShort : ℕ → List Piece → Type 0
AreShort n [] = Unit {0}
AreShort n (p ∷ ps) = IsShort n p × AreShort n ps

abbrev HasShort : ℕ → Option Statement → Type 0
HasShort n (Some (statements.Ascii text)) = length text ≤ n
HasShort n o = Unit {0}

take-length : (n : ℕ) (xs : List ℕ) → length (take n xs) ≤ length xs
take-length n xs = rw (length-take n xs) (omega arith)

drop-length : (n : ℕ) (xs : List ℕ) → length (drop n xs) ≤ length xs
drop-length n xs = rw (length-drop n xs) (omega arith)

inside-length : (text : List ℕ) → length (without_quotes text) ≤ length text
inside-length text =
    let a : length (take (length text - 2) (drop 1 text)) ≤ length (drop 1 text) = take-length (length text - 2) (drop 1 text) in
    let b : length (drop 1 text) ≤ length text = drop-length 1 text in
    omega arith

token-length : (source : List ℕ) (t : Token) → length (bytes_of source t) ≤ length source
token-length source t =
    let a : length (take (t.to - t.from) (drop t.from source)) ≤ length (drop t.from source) = take-length (t.to - t.from) (drop t.from source) in
    let b : length (drop t.from source) ≤ length source = drop-length t.from source in
    omega arith

abbrev IsShortOption : ℕ → Option Piece → Type 0
IsShortOption n (Some p) = IsShort n p
IsShortOption n None = Unit {0}

piece-short : (n : ℕ) (kind : TokenKind) (bytes : List ℕ) → length bytes ≤ n → IsShortOption n (piece_as kind bytes)
piece-short n (tokens.Number m) bytes e = tt
piece-short n tokens.Word bytes e = tt
piece-short n tokens.Text bytes e = let a : length (without_quotes bytes) ≤ length bytes = inside-length bytes in omega arith
piece-short n tokens.Sign [] e = tt
piece-short n tokens.Sign (b ∷ bs) e = tt
piece-short n tokens.Newline bytes e = tt

and-short : (n : ℕ) (o : Option Piece) (ps : List Piece) → IsShortOption n o → AreShort n ps → AreShort n (and_pieces o ps)
and-short n (Some p) ps a b = (a, b)
and-short n None ps a b = tt

in-short : (source : List ℕ) (ts : List Token) → AreShort (length source) (pieces_in source ts)
in-short source [] = tt
in-short source (t ∷ ts) =
    and-short (length source) (piece_as t.kind (bytes_of source t)) (pieces_in source ts)
    (piece-short (length source) t.kind (bytes_of source t) (token-length source t)) (in-short source ts)

for-short : (source : List ℕ) (r : Result (List Token) LexFault) → AreShort (length source) (pieces_for source r)
for-short source (Ok ts) = in-short source ts
for-short source (Err f) = tt

-- what a statement that may be there has as its text
abbrev OfLine : ℕ → Option Line → Type 0
OfLine n (Some line) = HasShort n line.statement
OfLine n None = Unit {0}

map-other : {A : Type 0} (n : ℕ) (make : A → Statement) (o : Option A) → ((a : A) → HasShort n (Some (make a))) → HasShort n (option_map make o)
map-other n make (Some a) e = e a
map-other n make None e = tt

text-short : (n : ℕ) (ps : List Piece) → AreShort n ps → HasShort n (option_map statements.Ascii (text_in ps))
text-short n [] e = tt
text-short n (kinds.Text text ∷ []) e = e.0
text-short n (kinds.Text text ∷ p ∷ ps) e = tt
text-short n (kinds.Number m ∷ ps) e = tt
text-short n (kinds.Word w ∷ ps) e = tt
text-short n (kinds.Sign s ∷ ps) e = tt

definition-short : (n : ℕ) (ps : List Piece) → HasShort n (definition_in ps)
definition-short n (kinds.Word word ∷ kinds.Sign signs.Comma ∷ ps) = cases (is_plain word)
  where
    cases : (plain : Bool) → HasShort n (cond plain (option_map (statements.Equ word) (terms_of ps)) None)
    cases true = map-other n (λ a. statements.Equ word a) (terms_of ps) (λ a. tt)
    cases false = tt
definition-short n ps = tt

directive-short : (n : ℕ) (d : Directive) (ps : List Piece) → AreShort n ps → HasShort n (directive_in d ps)
directive-short n directives.Seg ps e = map-other n statements.Seg (terms_of ps) (λ a. tt)
directive-short n directives.Entry ps e = map-other n statements.Entry (name_in ps) (λ a. tt)
directive-short n directives.Equ ps e = definition-short n ps
directive-short n directives.Word ps e = map-other n (λ a. statements.Data widths.Word a) (terms_of ps) (λ a. tt)
directive-short n directives.Dword ps e = map-other n (λ a. statements.Data widths.Doubleword a) (terms_of ps) (λ a. tt)
directive-short n directives.Bedword ps e = map-other n (λ a. statements.Data widths.BigEndianDoubleword a) (terms_of ps) (λ a. tt)
directive-short n directives.Ascii ps e = text-short n ps e
directive-short n directives.Space ps e = map-other n statements.Space (terms_of ps) (λ a. tt)
directive-short n directives.Align ps e = map-other n statements.Align (terms_of ps) (λ a. tt)

instruction-short : (n : ℕ) (ps : List Piece) (o : Option Mnemonic) → HasShort n (option_and_then (instruction_in ps) o)
instruction-short n ps (Some m) = map-other n (λ os. statements.Instruction m os) (operands_of (operand_texts m.op) ps) (λ a. tt)
instruction-short n ps None = tt

by-short : (n : ℕ) (d : Option Directive) (word : List ℕ) (ps : List Piece) → AreShort n ps → HasShort n (statement_by d word ps)
by-short n (Some d) word ps e = directive-short n d ps e
by-short n None word ps e = instruction-short n ps (mnemonic_of word)

statement-short : (n : ℕ) (ps : List Piece) → AreShort n ps → HasShort n (statement_of ps)
statement-short n [] e = tt
statement-short n (kinds.Word word ∷ ps) e = by-short n (directive_of word) word ps e.1
statement-short n (kinds.Text text ∷ ps) e = tt
statement-short n (kinds.Number m ∷ ps) e = tt
statement-short n (kinds.Sign s ∷ ps) e = tt

with-short : (n : ℕ) (label : Option (List ℕ)) (o : Option Statement) → HasShort n o → OfLine n (option_map (with_statement label) o)
with-short n label (Some s) e = e
with-short n label None e = tt

behind-short : (n : ℕ) (label : Option (List ℕ)) (ps : List Piece) → AreShort n ps → OfLine n (behind_label label ps)
behind-short n label [] e = tt
behind-short n label (p ∷ ps) e = with-short n label (statement_of (p ∷ ps)) (statement-short n (p ∷ ps) e)

labelled-short : (n : ℕ) (word : List ℕ) (ps : List Piece) (plain : Bool) → AreShort n ps → OfLine n (cond plain (behind_label (Some word) ps) None)
labelled-short n word ps true e = behind-short n (Some word) ps e
labelled-short n word ps false e = tt

line-short : (n : ℕ) (ps : List Piece) → AreShort n ps → OfLine n (line_of ps)
line-short n [] e = behind-short n None [] e
line-short n (kinds.Word word ∷ []) e = behind-short n None (kinds.Word word ∷ []) e
line-short n (kinds.Word word ∷ kinds.Sign signs.Colon ∷ ps) e = labelled-short n word ps (is_plain word) e.1.1
line-short n (p ∷ ps) e = behind-short n None (p ∷ ps) e

of-statement : (n : ℕ) (text : List ℕ) (line : Line) → line.statement ≡ Some (statements.Ascii text) → HasShort n line.statement → length text ≤ n
of-statement n text line is e = subst (HasShort n) is e

found : (bytes : List ℕ) (pieces : List Piece) (good : Bool) → cond good (Some (pieces_of bytes)) None ≡ Some pieces → AreShort (length bytes) pieces
found bytes pieces true e = subst (AreShort (length bytes)) (same_Some (pieces_of bytes) pieces e) (for-short bytes (tokens_of bytes))
found bytes pieces false e = absurd (none-some pieces e)

pub texts-short : (bytes text : List ℕ) (pieces : List Piece) (line : Line) → line_pieces bytes ≡ Some pieces → line_of pieces ≡ Some line → line.statement ≡ Some (statements.Ascii text) → length text ≤ length bytes
texts-short bytes text pieces line has is says =
    of-statement (length bytes) text line says
    (subst (OfLine (length bytes)) is (line-short (length bytes) pieces (found bytes pieces (has_tokens bytes) has)))
