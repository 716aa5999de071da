use Rattle.std.proofs.Common.{◌≡◌, ◌+◌, ◌<◌, ◌≤◌, length, get_or, refl, sym, ap, ◌∙◌, arith}
use Rattle.journal_core.specs.Bytes.{placed}
use Rattle.elf_image.specs.Laws.{LieInRam}
use Rattle.elf_image.proofs.RamLemmas.{lie_in_ram, segment_fits}
use Rattle.elf_image.proofs.StartLemmas.{loaded_more, all_loaded, length-placed_within}
use Rattle.ppc_machine.proofs.OpenLemmas.{from_ok}
use Rattle.ppc_machine.proofs.opening.load_image.Goals as goal

pub loop-segment-init : goal.loop-segment-init
loop-segment-init c = record { ram = refl; size = c.requires.size }

pub loop-segment-preserved : goal.loop-segment-preserved
loop-segment-preserved c =
    let all = c.as_slice-segment-items.result.now in
    let i = c.loop-segment.segment-index in
    let s = c.segment-item.result in
    let lie : LieInRam c.args.image.now c.args.guests.now c.args.ram_mib = lie_in_ram c.args.image.now c.args.guests.now c.args.ram_mib c.requires.place in
    let below : i < length c.args.image.now.segments = rw c.as_slice-segment-items.ensures at c.loop-segment-test.true in
    let at : s ≡ get_or c.args.image.now.segments i s = rw c.as_slice-segment-items.ensures at c.segment-item.is in
    let within : 0 < length s.bytes → s.at + length s.bytes ≤ length c.loop-segment.store.ram =
    λ some. let fits = segment_fits c.args.image.now c.args.guests.now c.args.ram_mib i s lie below at some in omega (arith, fits, c.loop-segment.invariant.size) in
    let within' : 0 < length c.as_slice.result.now → s.at + length c.as_slice.result.now ≤ length c.loop-segment.store.ram = rw c.as_slice.ensures within in
    let is : c.place.new.self.ram ≡ placed c.loop-segment.store.ram s.at c.as_slice.result.now =
    from_ok c.place.result _ (λ failed. let why = c.place.ensures.refused.0 failed in let fits = within' why.0 in omega (arith, why.1, fits)) c.place.ensures.ok in
    record {
      ram = rw (is, c.as_slice.ensures, c.loop-segment.invariant.ram) (sym (loaded_more _ all i s c.loop-segment-test.true c.segment-item.is));
      size = ap length is ∙ length-placed_within c.loop-segment.store.ram s.at c.as_slice.result.now within' ∙ c.loop-segment.invariant.size;
    }

pub returns-clause-ram : goal.returns-clause-ram
returns-clause-ram c =
    let now = all_loaded c.args.store.now.ram c.loop-segment.store.ram c.as_slice-segment-items.result.now c.loop-segment.segment-index c.loop-segment-test.false c.loop-segment.invariant.ram in
    rw (now, c.as_slice-segment-items.ensures) refl

pub returns-clause-size : goal.returns-clause-size
returns-clause-size c = c.loop-segment.invariant.size ∙ sym c.requires.size
