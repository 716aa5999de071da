use Rattle.radix.proofs.Gathered.{Gathered}
use Rattle.radix.proofs.real_files.gather.Given as goal

abbrev pub invariant-loop : goal.invariant-loop
invariant-loop g l =
    Gathered (g.R.Read.remaining l.initial.reader) (g.R.Read.remaining l.reader) l.initial.into.items l.into.items l.initial.room l.room
