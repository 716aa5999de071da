use Rattle.radix.proofs.Written.{writes_on, writes_again}
use Rattle.radix.proofs.real_sink.write_whole.Goals as goal
use Rattle.radix.proofs.real_sink.write_whole.Goals.{in-Ok, in-Err+else-ne}

pub loop-preserved : goal.loop-preserved
loop-preserved g c =
    let before = c.loop.invariant in
    elim c.match-write.branch [
      | in-Ok w ↦ writes_on _ _ _ _ _ _ _ before.0 w.in-Ok.ensures.bound w.done-is before.1 w.in-Ok.ensures.bytes
      | in-Err+else-ne w ↦ writes_again _ _ _ _ _ _ before.0 w.done-is before.1 w.in-Err.ensures.bytes
    ]
