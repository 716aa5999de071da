use Rattle.std.proofs.Common.{◌≡◌, sym, ap, ◌∙◌}
use Rattle.ppc_bus.specs.Windows.{windows_of}
use Rattle.ppc_bus.specs.Holding.{window_at, slot_of}
use Rattle.ppc_bus.proofs.WindowLemmas.{nothing_below, alone, whole_from, plugged_now}
use Rattle.ppc_bus.proofs.buses.BusOf.slot_at.Goals as goal

pub returns-then-at-lt-FIRST_PLACE-clause-place : goal.returns-then-at-lt-FIRST_PLACE-clause-place
returns-then-at-lt-FIRST_PLACE-clause-place g c =
    sym (nothing_below (windows_of c.args.self.now) c.args.at (plugged_now c.self.inside.slots.items c.args.self.now c.self.view_is c.self.invariant) c.if-at-lt-FIRST_PLACE.true)

pub returns-then-at-lt-FIRST_PLACE-clause-alone : goal.returns-then-at-lt-FIRST_PLACE-clause-alone
returns-then-at-lt-FIRST_PLACE-clause-alone g c k is =
    let plugged = plugged_now c.self.inside.slots.items c.args.self.now c.self.view_is c.self.invariant in
    sym (ap slot_of (nothing_below (windows_of c.args.self.now) c.args.at plugged c.if-at-lt-FIRST_PLACE.true)) ∙ alone (windows_of c.args.self.now) c.args.at k plugged is

pub returns-clause-alone : goal.returns-clause-alone
returns-clause-alone g c k is =
    let plugged = plugged_now c.self.inside.slots.items c.args.self.now c.self.view_is c.self.invariant in
    let found : c.window_from.result ≡ window_at (windows_of c.args.self.now) c.args.at = c.window_from.ensures ∙ ap (λ l. window_at (windows_of l) c.args.at) (c.as_slice-slots.ensures.value ∙ c.self.view_is) in
    ap slot_of found ∙ alone (windows_of c.args.self.now) c.args.at k plugged is

pub returns-clause-whole : goal.returns-clause-whole
returns-clause-whole g c =
    let plugged = plugged_now c.self.inside.slots.items c.args.self.now c.self.view_is c.self.invariant in
    let found : c.window_from.result ≡ window_at (windows_of c.args.self.now) c.args.at = c.window_from.ensures ∙ ap (λ l. window_at (windows_of l) c.args.at) (c.as_slice-slots.ensures.value ∙ c.self.view_is) in
    whole_from (windows_of c.args.self.now) c.args.at c.window_from.result plugged found
