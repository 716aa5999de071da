use Rattle.std.proofs.Common.{rules}
use Rattle.ppc_spr.proofs.FixedBits.{masked_test}
use Rattle.ppc_spr.proofs.Profile.{lpcr_mask}
use Rattle.ppc_spr.proofs.lpcr.is_in_profile.Goals as goal

pub returns : goal.returns
returns c = masked_test lpcr_mask c.args.value (search rules)
