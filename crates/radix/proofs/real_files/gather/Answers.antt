use Rattle.std.proofs.Common.{rules, ap, ◌∙◌}
use Rattle.radix.proofs.Gathered.{gathers_on, gathers_again}
use Rattle.radix.proofs.real_files.gather.Goals as goal
use Rattle.radix.proofs.real_files.gather.Goals.{in-Ok+else-room-count+in_ok-extend_from_slice-in-Ok, in-Err+else-ne}

pub loop-preserved : goal.loop-preserved
loop-preserved g c =
    elim c.match-read.branch [
      | in-Ok+else-room-count+in_ok-extend_from_slice-in-Ok w ↦
          gathers_on _ _ _ _ _ _ c.read.new.buf _ _ _ _ c.loop.invariant w.if-room-count.false (search rules)
          (ap (λ v. v.items) w.into-is ∙ w.in_ok-extend_from_slice-in-Ok.ensures.items) w.room-is w.in-Ok.ensures.bytes.0
      | in-Err+else-ne w ↦ gathers_again _ _ _ _ _ _ _ _ _ c.loop.invariant (ap (λ v. v.items) w.into-is) w.room-is w.in-Err.ensures.bytes
    ]
