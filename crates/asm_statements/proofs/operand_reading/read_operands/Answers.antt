use Rattle.std.proofs.Common.{◌+◌, ◌-◌, ◌<◌, List, length, drop, Some, sym, ap, ◌∙◌, arith}
use Rattle.std.proofs.lemmas.List.{length_push, length-take}
use Rattle.operand_texts.specs.declared.kinds.OperandText.{OperandText}
use Rattle.operand_texts.specs.declared.kinds.OperandText.TheVariants as texts
use Rattle.operand_texts.specs.declared.fields.Field.TheVariants as fields
use Rattle.asm_statements.specs.declared.piece.Sign.TheVariants as signs
use Rattle.asm_statements.specs.declared.operand.Operand.{Operand}
use Rattle.asm_statements.specs.Pieces.{before}
use Rattle.asm_statements.specs.Operands.{operands_of}
use Rattle.asm_statements.proofs.Joined.{together, kind_read, read_one}
use Rattle.asm_statements.proofs.operand_reading.read_operands.Goals as goal

pub loop-kind-preserved : goal.loop-kind-preserved
loop-kind-preserved c =
    let kinds = c.args.kinds.now in
    let i = c.loop-kind.kind-index in
    let d : OperandText = texts.Register fields.Rt in
    let old = c.loop-kind.pieces in
    let new = c.skip_past.new.self in
    let o = c.in_ok-read_operand.field-0 in
    let lt : i + 1 < length kinds = omega (arith, length-take (length kinds - 1) kinds) in
    let read = kind_read kinds i d (before signs.Comma old) c.before_comma.result c.read_operand.result (Some o) (omega arith) c.read_operand.ensures c.before_comma.ensures c.in_ok-read_operand.was in (
      c.loop-kind.invariant.0
          ∙ read_one kinds i d old new c.loop-kind.found o lt read c.if-not-skip_past.ensures
          ∙ ap (λ (found : List Operand). together found (operands_of (drop (i + 1) kinds) new)) (sym c.push.ensures),
      ap length c.push.ensures ∙ length_push c.loop-kind.found o ∙ ap (λ n. n + 1) c.loop-kind.invariant.1,
    )
