use Rattle.std.proofs.Common.{◌≡◌, ◌/◌, ◌^◌, ◌%◌, arith, ◌∙◌, ap, false}
use Rattle.word_decoder.specs.Opcodes.{plain, extended_4, extended_17, extended_19, extended_30, extended_31, extended_58, extended_62}
use Rattle.word_decoder.proofs.Branches.{case_4, case_17, case_19, case_30, case_31, case_58, case_62}
use Rattle.word_decoder.proofs.Plain.{case_plain, not_special, is_special}
use Rattle.word_decoder.proofs.opcodes.op_of.Goals as goal

pub returns-in-4 : goal.returns-in-4
returns-in-4 c = c.extended_4.ensures ∙ ap extended_4 c.field.ensures ∙ case_4 c.args.word (omega arith) (omega arith)

pub returns-in-17 : goal.returns-in-17
returns-in-17 c = c.extended_17.ensures ∙ ap extended_17 c.field-in-17.ensures ∙ case_17 c.args.word (omega arith) (omega arith)

pub returns-in-19 : goal.returns-in-19
returns-in-19 c = c.extended_19.ensures ∙ ap extended_19 c.field-in-19.ensures ∙ case_19 c.args.word (omega arith) (omega arith)

pub returns-in-30 : goal.returns-in-30
returns-in-30 c = c.extended_30.ensures ∙ ap extended_30 c.field-in-30.ensures ∙ case_30 c.args.word (omega arith) (omega arith)

pub returns-in-31 : goal.returns-in-31
returns-in-31 c = c.extended_31.ensures ∙ ap (λ x. extended_31 x c.field-in-31-2.result) c.field-in-31.ensures ∙ ap (extended_31 (c.args.word / 2 ^ 20 % 2 ^ 1)) c.field-in-31-2.ensures ∙ case_31 c.args.word (omega arith) (omega arith)

pub returns-in-58 : goal.returns-in-58
returns-in-58 c = c.extended_58.ensures ∙ ap extended_58 c.field-in-58.ensures ∙ case_58 c.args.word (omega arith) (omega arith)

pub returns-in-62 : goal.returns-in-62
returns-in-62 c = c.extended_62.ensures ∙ ap extended_62 c.field-in-62.ensures ∙ case_62 c.args.word (omega arith) (omega arith)

pub returns-in_default : goal.returns-in_default
returns-in_default c =
    let top : c.field-primary.result ≡ c.args.word / 2 ^ 26 = omega arith in
    let none : is_special (c.args.word / 2 ^ 26) ≡ false = not_special (c.args.word / 2 ^ 26) (omega arith) (omega arith) (omega arith) (omega arith) (omega arith) (omega arith) (omega arith) in
    c.plain.ensures ∙ ap plain top ∙ case_plain c.args.word (omega arith) none
