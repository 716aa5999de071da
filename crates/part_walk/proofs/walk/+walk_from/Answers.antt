use Rattle.std.proofs.Common.{sym}
use Rattle.journal_core.specs.Past.{word_in}
use Rattle.part_walk.proofs.PartTakes.{adds_more}
use Rattle.part_walk.proofs.walk.+walk_from.Goals as goal

pub returns-in-Some-table_word-clause-walk : goal.returns-in-Some-table_word-clause-walk
returns-in-Some-table_word-clause-walk g t c =
    adds_more (word_in (g.R.TableReader.ram c.args.reader.now)) c.args.moment c.args.lpid c.args.gra c.args.stage c.step-next.result c.in-Some-table_word.value c.in-Some.at c.args.trail.now c.step-next.new.trail c.walk_from.new.trail c.walk_from.result
    (sym c.in-Some.ensures.value) (sym c.in-Some-table_word.ensures) c.step-next.ensures.stage c.step-next.ensures.items c.walk_from.ensures.walk
