use Rattle.std.proofs.Common.{◌-◌, length}
use Rattle.part_walk.proofs.trail.+uses_kept.Given as goal

abbrev pub decreases-uses_kept : goal.decreases-uses_kept
decreases-uses_kept l = length l.items.now - l.from
