use Rattle.branch_unit.proofs.Merging.{merge_is}
use Rattle.branch_unit.proofs.masks.merge.Goals as goal

pub returns : goal.returns
returns c = merge_is c.args.mask c.args.new c.args.old c.ranges.mask.fits c.ranges.new.fits c.ranges.old.fits
