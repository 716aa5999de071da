use Rattle.std.proofs.Common.{◌∙◌, refl, arith}
use Rattle.real_store.proofs.NumberLemmas.{placed_first, placed_all}
use Rattle.real_store.proofs.numbers.place_number.Goals as goal

pub returns-in-1 : goal.returns-in-1
returns-in-1 c = c.place_bytes.ensures ∙ placed_first c.args.ram.now c.args.at 1 c.args.size c.args.value c.to_le_bytes-bytes.result c.to_le_bytes-bytes.ensures c.in-1.is (omega arith)

pub returns-in-2 : goal.returns-in-2
returns-in-2 c = c.place_bytes-in-2.ensures ∙ placed_first c.args.ram.now c.args.at 2 c.args.size c.args.value c.to_le_bytes-bytes.result c.to_le_bytes-bytes.ensures c.in-2.is (omega arith)

pub returns-in-4 : goal.returns-in-4
returns-in-4 c = c.place_bytes-in-4.ensures ∙ placed_first c.args.ram.now c.args.at 4 c.args.size c.args.value c.to_le_bytes-bytes.result c.to_le_bytes-bytes.ensures c.in-4.is (omega arith)

pub returns-in-8 : goal.returns-in-8
returns-in-8 c = c.place_bytes-in-8.ensures ∙ placed_all c.args.ram.now c.args.at c.args.size c.args.value c.to_le_bytes-bytes.result c.to_le_bytes-bytes.ensures c.in-8.is

pub returns-in_default : goal.returns-in_default
returns-in_default c = c.place_bytes-in_default.ensures ∙ placed_first c.args.ram.now c.args.at c.args.size c.args.size c.args.value c.to_le_bytes-bytes.result c.to_le_bytes-bytes.ensures refl c.requires.size
