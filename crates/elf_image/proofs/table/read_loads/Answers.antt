use Rattle.std.proofs.Common.{◌+◌, ◌*◌, ap, arith, length-set, ◌∙◌}
use Rattle.std.proofs.lemmas.List.{take_rest}
use Rattle.elf_image.specs.Grammar.{load_of}
use Rattle.elf_image.proofs.TableLemmas.{loads-more}
use Rattle.elf_image.proofs.table.read_loads.Goals as goal

pub loop-number-preserved : goal.loop-number-preserved
loop-number-preserved c = record {
  long = length-set _ _ _ ∙ c.loop-number.invariant.long;
  same =
      loads-more c.args.bytes.now c.args.table c.loop-number.number c.loop-number.loads c.read_load.result (omega arith)
      (c.read_load.ensures ∙ ap load_of (take_rest c.args.bytes.now (c.args.table + 56 * c.loop-number.number))) c.loop-number.invariant.same;
}
