use Rattle.std.proofs.Common.{◌≡◌, true, List, ℕ, ◌∷◌, Option, Ok, subst, sym, ◌∙◌}
use Rattle.std.proofs.lemmas.List.{take_rest}
use Rattle.asm_lex.specs.declared.token.Token.{Token}
use Rattle.asm_lex.specs.Tokens.{ReadsOne}
use Rattle.asm_statements.specs.Pieces.{pieces_of, has_tokens}
use Rattle.asm_statements.proofs.Fronts.{begins}
use Rattle.asm_statements.proofs.pieces.front.Goals as goal

pub returns-in-Some : goal.returns-in-Some
returns-in-Some c =
    let rest = c.args.rest.now in
    let token = c.in-Ok-Some.token in
    let P : Option Token → Type 0 = λ o. ReadsOne c.new.result c.next.new.self (Ok o) in
    let read = subst P c.in-Ok-Some.field-0-is c.in-Ok-Some.ensures in
    let Q : List ℕ → Type 0 = λ after. (pieces_of rest ≡ c.in-Some.piece ∷ pieces_of after) × (has_tokens after ≡ true) in
    subst Q (sym (c.of-in-Some.ensures ∙ take_rest rest token.to))
    (begins rest c.new.result c.next.new.self token c.in-Some.piece c.requires c.new.ensures read (sym c.of.ensures ∙ c.in-Some.is))
