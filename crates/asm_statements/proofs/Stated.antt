-- The statement that a word begins which names no directive.
use Rattle.std.proofs.Common.{◌≡◌, ℕ, List, ◌∷◌, Option, None, ap, sym, ◌∙◌}
use Rattle.std.specs.Prelude.{option_and_then}
use Rattle.asm_statements.specs.declared.piece.Piece.{Piece}
use Rattle.asm_statements.specs.declared.piece.Piece.TheVariants as pieces
use Rattle.operand_texts.specs.declared.mnemonic.Mnemonic.{Mnemonic}
use Rattle.asm_statements.specs.Mnemonics.{mnemonic_of}
use Rattle.asm_statements.specs.Statements.{directive_of, instruction_in, statement_by, statement_of}

pub stated : (ps after : List Piece) (p : Piece) (word first second : List ℕ) (m : Option Mnemonic) → ps ≡ p ∷ after → p ≡ pieces.Word word
    → first ≡ word → None ≡ directive_of first → second ≡ word → m ≡ mnemonic_of second
    → statement_of ps ≡ option_and_then (instruction_in after) m
stated ps after p word first second m taken is a none b named =
    ap statement_of (taken ∙ ap (λ q. q ∷ after) is)
    ∙ ap (λ d. statement_by d word after) (ap directive_of (sym a) ∙ sym none)
    ∙ ap (option_and_then (instruction_in after)) (ap mnemonic_of (sym b) ∙ sym named)
