use Rattle.std.proofs.Common.{Option, Ok, subst}
use Rattle.asm_lex.specs.declared.token.Token.{Token}
use Rattle.asm_lex.specs.Tokens.{ReadsOne}
use Rattle.asm_lex.proofs.Gathered.{gathered-push}
use Rattle.asm_lex.proofs.reading.tokens.Goals as goal

pub loop-token-preserved : goal.loop-token-preserved
loop-token-preserved c =
    let P : Option Token → Type 0 = λ o. ReadsOne c.loop-token.lexer c.next.new.self (Ok o) in
    let read = subst P c.in-Ok-Some.field-0-is c.in-Ok-Some.ensures in
    rw c.in_ok-push-in-Ok-Some.ensures.items
    (gathered-push c.args.bytes.now c.loop-token.lexer c.next.new.self c.loop-token.items.items c.in-Ok-Some.token c.loop-token.invariant read)
