use Rattle.part_walk.proofs.GivenWalks.{gives_kept}
use Rattle.part_walk.proofs.kept_tests.walked.Goals as goal

pub walk_partition-out-requires-clause-fits : goal.walk_partition-out-requires-clause-fits
walk_partition-out-requires-clause-fits c = gives_kept c.args.fill c.args.journal.now c.args.thread c.requires
