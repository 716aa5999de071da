use Rattle.std.proofs.Common.{◌∙◌, sym}
use Rattle.ppc_asm.proofs.Sizes.{room-for}
use Rattle.ppc_asm.proofs.second.add_line.Goals as goal

pub add-requires : goal.add-requires
add-requires c =
    room-for c.args.whole.now c.args.at.now c.args.statement.now c.in-Ok.content c.args.filling.now.last
    (sym c.content_of.ensures ∙ c.in-Ok.is) c.requires.ends c.requires.below
