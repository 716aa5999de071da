use Rattle.std.proofs.Common.{◌≤◌, length, refl, sym, arith, length-append}
use Rattle.std.proofs.lemmas.List.{length-map}
use Rattle.elf_image.specs.Ranges.{ranges_of}
use Rattle.elf_image.proofs.PlaceLemmas.{bad_pair-next, bad_pair-first, bad_pair-none, bad_place-told}
use Rattle.elf_image.proofs.places.bad_place.Goals as goal

pub returns-in-Some : goal.returns-in-Some
returns-in-Some c =
    let first = bad_pair-first _ (ranges_of c.as_slice-segments.result.now c.as_slice-guests.result.now) c.loop-number.number c.range_at-range.result c.in-Some.other _ c.range_at-range.ensures (sym c.in-Some.ensures) c.loop-number.invariant in
    rw (c.span.ensures, c.span-in-Some.ensures) (sym (bad_place-told c.args.image.now c.args.guests.now c.as_slice-guests.result.now c.args.ram_mib c.as_slice-segments.result.now _ _ c.as_slice-segments.ensures c.as_slice-guests.ensures (rw c.from.ensures refl) first))

pub loop-number-preserved : goal.loop-number-preserved
loop-number-preserved c =
    bad_pair-next _ (ranges_of c.as_slice-segments.result.now c.as_slice-guests.result.now) c.loop-number.number c.range_at-range.result _ c.range_at-range.ensures (sym c.in-None.ensures) c.loop-number.invariant

pub returns : goal.returns
returns c =
    let segments = c.as_slice-segments.result.now in
    let guests = c.as_slice-guests.result.now in
    let rs = ranges_of segments guests in
    let all : length rs ≤ c.loop-number.number = simp (length-append, length-map) (omega arith) in
    sym (bad_place-told c.args.image.now c.args.guests.now c.as_slice-guests.result.now c.args.ram_mib c.as_slice-segments.result.now _ _ c.as_slice-segments.ensures c.as_slice-guests.ensures (rw c.from.ensures refl) (bad_pair-none _ rs c.loop-number.number _ all c.loop-number.invariant))
