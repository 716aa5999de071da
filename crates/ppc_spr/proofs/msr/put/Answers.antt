use Rattle.std.proofs.Common.{rules, ◌∙◌, ap, bit_and, bit_or, ◌-◌}
use Rattle.ppc_spr.proofs.Puts.{put_is}
use Rattle.ppc_spr.proofs.msr.put.Goals as goal

pub returns : goal.returns
returns c =
    ap (bit_or (bit_or (bit_and c.args.old c.args.kept) (bit_and c.args.new (18446744073709551615 - c.args.kept)))) c.forced.ensures
    ∙ put_is c.args.old c.args.kept c.args.new (search rules) (search rules) (search rules)
