use Rattle.std.proofs.Common.{arith}
use Rattle.gen_image.proofs.DrawLemmas.{drawn-pushed, all-drawn}
use Rattle.gen_image.proofs.draws.all_draws.Goals as goal

pub loop-preserved : goal.loop-preserved
loop-preserved c =
    drawn-pushed c.args.size c.args.seed c.loop.x c.next-x.result c.drawn.result c.loop.counter c.loop.draws.items c.push.new.self.items (omega (arith, c.from-count.ensures)) c.next-x.ensures c.drawn.ensures
    c.in_ok-push.ensures.items c.loop.invariant

pub returns : goal.returns
returns c = all-drawn c.args.size c.args.seed c.loop.x c.loop.counter c.loop.draws.items (omega (arith, c.from-count.ensures)) c.loop.invariant
