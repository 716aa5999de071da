use Rattle.std.proofs.Common.{Some, take, ap, sym, subst, ◌∙◌}
use Rattle.asm_places.specs.Names.{value_of}
use Rattle.asm_places.specs.Keeping.{IsSmall}
use Rattle.asm_places.proofs.Named.{first_from_position, value_first, none_before_first, none_first, value_of-lookup, small_at, small_same}
use Rattle.asm_places.proofs.names.Names.value.Goals as goal

pub returns-then-index-known-clause-value : goal.returns-then-index-known-clause-value
returns-then-index-known-clause-value c =
    let es = c.self.inside.map.entries in
    let name = c.args.name.now in
    let v = c.in-Some.value.now in
    let first = first_from_position c.args.name es name c.in-Some.index (sym c.in-Some.ensures.index) in
    let small = small_at es c.in-Some.index c.in-Some._key.now v c.in-Some.ensures.entry c.self.invariant.values in
    ap Some (small_same v small)
    ∙ sym (value_first c.args.name name es c.in-Some.index c.args.known c.in-Some._key.now v c.in-Some.ensures.entry first c.if-index-known.true)
    ∙ ap (λ ds. value_of (take c.args.known ds) name) c.self.view_is

pub returns-then-index-known-clause-small : goal.returns-then-index-known-clause-small
returns-then-index-known-clause-small c =
    let v = c.in-Some.value.now in
    let small = small_at c.self.inside.map.entries c.in-Some.index c.in-Some._key.now v c.in-Some.ensures.entry c.self.invariant.values in
    subst IsSmall (sym (small_same v small)) small

pub returns-else-index-known-clause-value : goal.returns-else-index-known-clause-value
returns-else-index-known-clause-value c =
    let es = c.self.inside.map.entries in
    let name = c.args.name.now in
    let first = first_from_position c.args.name es name c.in-Some.index (sym c.in-Some.ensures.index) in
    sym (none_before_first c.args.name name es c.in-Some.index c.args.known first c.if-index-known.false)
    ∙ ap (λ ds. value_of (take c.args.known ds) name) c.self.view_is

pub returns-in-None-clause-value : goal.returns-in-None-clause-value
returns-in-None-clause-value c =
    let name = c.args.name.now in
    let none = value_of-lookup c.self.inside.map.entries name ∙ sym c.in-None.ensures.value in
    sym (none_first c.args.self.now c.args.known name (ap (λ ds. value_of ds name) (sym c.self.view_is) ∙ none))
