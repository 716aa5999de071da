use Rattle.radix_top.proofs.CutWords.{run_named}
use Rattle.radix_top.proofs.command.read_command.Goals as goal

pub returns-in-run-clause-named : goal.returns-in-run-clause-named
returns-in-run-clause-named c = run_named c.args.words.now c.name-item.result c.read_run.result c.in-len1-up.len_at_least c.name-item.is c.read_run.ensures
