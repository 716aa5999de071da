use Rattle.std.proofs.Common.{sym, arith}
use Rattle.part_walk.proofs.GivenWalks.{zero_word}
use Rattle.part_walk.proofs.kept_tests.ZerosTableReader.table_word.Goals as goal

pub returns-then-self-at-ge8 : goal.returns-then-self-at-ge8
returns-then-self-at-ge8 c = sym (zero_word c.args.self.now.size c.args.at (omega (arith, c.if-at-self.true, c.if-self-at-ge8.true)))
