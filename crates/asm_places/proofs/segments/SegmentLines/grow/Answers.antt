use Rattle.std.proofs.Common.{◌-◌, ◌^◌, arith, ap, ◌∙◌, subst, sym}
use Rattle.asm_places.specs.Keeping.{HaveAtMost}
use Rattle.asm_places.specs.Places.{grown}
use Rattle.asm_places.proofs.Grown.{grown_at, most_at}
use Rattle.asm_places.proofs.segments.SegmentLines.grow.Goals as goal

pub overflow_add-index_mut : goal.overflow_add-index_mut
overflow_add-index_mut c =
    let few = subst (HaveAtMost (2 ^ 64 - 1 - c.args.count)) (sym c.self.view_is) c.requires in
    let most = most_at (2 ^ 64 - 1 - c.args.count) c.self.inside.items.items (c.len-len.result - 1) c.index_mut.result.now few (omega arith) c.index_mut.ensures.value in
    omega arith

pub returns-then-len-gt0 : goal.returns-then-len-gt0
returns-then-len-gt0 c =
    grown_at c.args.count c.self.inside.items.items (c.len-len.result - 1) c.index_mut.result.now (omega arith) c.index_mut.ensures.value
    ∙ ap (grown c.args.count) c.self.view_is
