use Rattle.std.proofs.Common.{◌≡◌, ◌+◌, ◌<◌, ◌≤◌, length, get_or, refl, sym, ap, ◌∙◌, arith}
use Rattle.journal_core.specs.Bytes.{placed}
use Rattle.elf_image.specs.Laws.{LieInRam}
use Rattle.elf_image.proofs.RamLemmas.{lie_in_ram, guest_fits}
use Rattle.elf_image.proofs.StartLemmas.{with_guests_more, all_with_guests, length-placed_within}
use Rattle.ppc_machine.proofs.OpenLemmas.{from_ok}
use Rattle.ppc_machine.proofs.opening.load_guests.Goals as goal

pub loop-guest-init : goal.loop-guest-init
loop-guest-init c = record { ram = refl; size = c.requires.size }

pub loop-guest-preserved : goal.loop-guest-preserved
loop-guest-preserved c =
    let all = c.as_slice-guest-items.result.now in
    let i = c.loop-guest.guest-index in
    let s = c.guest-item.result in
    let lie : LieInRam c.args.image.now c.args.guests.now c.args.ram_mib = lie_in_ram c.args.image.now c.args.guests.now c.args.ram_mib c.requires.place in
    let below : i < length c.args.guests.now = rw c.as_slice-guest-items.ensures at c.loop-guest-test.true in
    let at : s ≡ get_or c.args.guests.now i s = rw c.as_slice-guest-items.ensures at c.guest-item.is in
    let within : 0 < length s.bytes → s.at + length s.bytes ≤ length c.loop-guest.store.ram =
    λ some. let fits = guest_fits c.args.image.now c.args.guests.now c.args.ram_mib i s lie below at some in omega (arith, fits, c.loop-guest.invariant.size) in
    let within' : 0 < length c.as_slice.result.now → s.at + length c.as_slice.result.now ≤ length c.loop-guest.store.ram = rw c.as_slice.ensures within in
    let is : c.place.new.self.ram ≡ placed c.loop-guest.store.ram s.at c.as_slice.result.now =
    from_ok c.place.result _ (λ failed. let why = c.place.ensures.refused.0 failed in let fits = within' why.0 in omega (arith, why.1, fits)) c.place.ensures.ok in
    record {
      ram = rw (is, c.as_slice.ensures, c.loop-guest.invariant.ram) (sym (with_guests_more _ all i s c.loop-guest-test.true c.guest-item.is));
      size = ap length is ∙ length-placed_within c.loop-guest.store.ram s.at c.as_slice.result.now within' ∙ c.loop-guest.invariant.size;
    }

pub returns : goal.returns
returns c =
    let now = all_with_guests c.args.store.now.ram c.loop-guest.store.ram c.as_slice-guest-items.result.now c.loop-guest.guest-index c.loop-guest-test.false c.loop-guest.invariant.ram in
    record { ram = rw (now, c.as_slice-guest-items.ensures) refl }
