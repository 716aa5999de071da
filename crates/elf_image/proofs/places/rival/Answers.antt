use Rattle.std.proofs.Common.{◌∙◌, sym}
use Rattle.elf_image.specs.Ranges.{meets, ranges_of}
use Rattle.elf_image.proofs.PlaceLemmas.{find-first, find-next}
use Rattle.elf_image.proofs.places.rival.Goals as goal

pub returns-then-meets : goal.returns-then-meets
returns-then-meets c =
    let stays = sym c.leaves.ensures ∙ c.if-leaves.false in
    rw stays (sym (find-first (λ b. meets b c.args.range) (ranges_of c.args.segments.now c.args.guests.now) c.args.number c.loop-i.i c.range_at-earlier.result c.loop-i-test.true c.range_at-earlier.ensures c.loop-i.invariant (sym c.meets.ensures ∙ c.if-meets.true)))

pub loop-i-preserved : goal.loop-i-preserved
loop-i-preserved c =
    find-next (λ b. meets b c.args.range) (ranges_of c.args.segments.now c.args.guests.now) c.loop-i.i c.range_at-earlier.result c.range_at-earlier.ensures c.loop-i.invariant (sym c.meets.ensures ∙ c.if-meets.false)
