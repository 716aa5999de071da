use Rattle.std.proofs.Common.{◌+◌, ◌<◌, length, sym, ◌∙◌, subst, arith, Some, None, Ok, Err}
use Rattle.asm_lex.specs.Tokens.{Cursor, ReadsOne}
use Rattle.asm_lex.proofs.Gaps.{after_gap, reads_none, reads_token, to_within, reads_fault}
use Rattle.asm_lex.proofs.lexer.Lexer.next.Goals as goal

pub returns-then-from-self : goal.returns-then-from-self
returns-then-from-self c =
    let all = c.self.inside.bytes.now in
    let place = c.self.inside.place in
    let gap = after_gap all place c.gap_length.result c.self.invariant.within c.gap_length.ensures.gap c.gap_length.ensures.no_blank c.gap_length.ensures.no_hash in
    let cursor : Cursor = record { bytes = all; place = place } in
    let P : Cursor → Type 0 = λ s. ReadsOne s s (Ok None) in
    subst P c.self.view_is (reads_none cursor (place + c.gap_length.result) gap c.if-from-self.true)

pub invariant_of-self : goal.invariant_of-self
invariant_of-self c =
    let all = c.self.inside.bytes.now in
    let place = c.self.inside.place in
    let gap = after_gap all place c.gap_length.result c.self.invariant.within c.gap_length.ensures.gap c.gap_length.ensures.no_blank c.gap_length.ensures.no_hash in
    let cursor : Cursor = record { bytes = all; place = place } in
    let before : place + c.gap_length.result < length all = omega arith in
    record { within = to_within cursor (place + c.gap_length.result) c.in-Ok.token gap before (sym c.token_at.ensures ∙ c.in-Ok.is) }

pub returns-in-Ok : goal.returns-in-Ok
returns-in-Ok c =
    let all = c.self.inside.bytes.now in
    let place = c.self.inside.place in
    let gap = after_gap all place c.gap_length.result c.self.invariant.within c.gap_length.ensures.gap c.gap_length.ensures.no_blank c.gap_length.ensures.no_hash in
    let cursor : Cursor = record { bytes = all; place = place } in
    let before : place + c.gap_length.result < length all = omega arith in
    let P : Cursor → Type 0 = λ s. ReadsOne s (record { bytes = s.bytes; place = c.in-Ok.token.to }) (Ok (Some c.in-Ok.token)) in
    let read = reads_token cursor (place + c.gap_length.result) c.in-Ok.token gap before (sym c.token_at.ensures ∙ c.in-Ok.is) in
    let Q : Cursor → Type 0 = λ s. ReadsOne s (record { bytes = all; place = c.in-Ok.token.to }) (Ok (Some c.in-Ok.token)) in
    subst Q c.self.view_is read

pub returns-in-Err : goal.returns-in-Err
returns-in-Err c =
    let all = c.self.inside.bytes.now in
    let place = c.self.inside.place in
    let gap = after_gap all place c.gap_length.result c.self.invariant.within c.gap_length.ensures.gap c.gap_length.ensures.no_blank c.gap_length.ensures.no_hash in
    let cursor : Cursor = record { bytes = all; place = place } in
    let before : place + c.gap_length.result < length all = omega arith in
    let P : Cursor → Type 0 = λ s. ReadsOne s s (Err c.in-Err.fault) in
    subst P c.self.view_is (reads_fault cursor (place + c.gap_length.result) c.in-Err.fault gap before (sym c.token_at.ensures ∙ c.in-Err.is))
