use Rattle.std.proofs.Common.{◌≡◌, ◌-◌, length, Some, ap, ◌∙◌, sym, refl}
use Rattle.asm_places.specs.Places.{address_of}
use Rattle.asm_places.proofs.Grown.{address_at}
use Rattle.asm_places.proofs.segments.SegmentLines.address.Goals as goal

pub returns-in-Some : goal.returns-in-Some
returns-in-Some c =
    let all : c.as_slice.result.now ≡ c.args.self.now = c.as_slice.ensures.value ∙ c.self.view_is in
    ap Some c.end.ensures
    ∙ sym (address_at c.as_slice.result.now (length c.as_slice.result.now - 1) c.in-Some.segment.now refl (sym c.in-Some.ensures.value))
    ∙ ap address_of all
