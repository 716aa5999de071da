use Rattle.std.proofs.Common.{◌≡◌, ◌+◌, ◌%◌, ◌∷◌, Option, length, ap, sym, subst, ◌∙◌, append_assoc}
use Rattle.std.proofs.Math.Nat.{mod-lt}
use Rattle.journal_core.specs.Past.{write_row}
use Rattle.storage_ops.specs.Accesses.{with_writes}
use Rattle.storage_ops.specs.Parts.{AreWithin, listed_second, bytes_of_second}
use Rattle.storage_ops.specs.declared.parts.Part.{Part}
use Rattle.storage_ops.proofs.StoringLemmas.{power-some, rows-once, rows-twice, fits-second, length-row, ram-once, ram-twice, split-right}
use Rattle.storage_ops.proofs.storing.store_parts.Goals as goal

pub returns-in-None-clause-ram : goal.returns-in-None-clause-ram
returns-in-None-clause-ram c =
    c.store_part.ensures.ram ∙ ram-once c.args.moment c.args.number c.args.store.now.ram c.args.parts.now.first c.args.parts.now.second c.args.value c.args.size c.in-None.is c.requires.sizes.whole c.requires.value

pub returns-in-None-clause-rows : goal.returns-in-None-clause-rows
returns-in-None-clause-rows c =
    let rows = rows-once c.args.moment c.args.number c.args.store.now.ram c.args.parts.now.first c.args.parts.now.second c.args.value c.args.size c.in-None.is c.requires.sizes.whole c.requires.value in
    c.store_part.ensures.row ∙ ap (λ ws. with_writes c.args.journal.now ws) (sym rows)

pub returns-in-None-clause-right : goal.returns-in-None-clause-right
returns-in-None-clause-right c =
    split-right c.args.moment c.args.number c.args.store.now.ram c.args.parts.now.first c.args.parts.now.second c.args.value c.args.size c.requires.within c.requires.sizes.first c.requires.sizes.second c.requires.sizes.whole c.requires.most

pub nonzero_rem-value : goal.nonzero_rem-value
nonzero_rem-value c = rw c.weight-weight.ensures (power-some c.args.parts.now.first.size)

pub store_part-requires-2-clause-value : goal.store_part-requires-2-clause-value
store_part-requires-2-clause-value c = rw c.weight-weight.ensures (mod-lt c.args.value (power-some c.args.parts.now.first.size))

pub nonzero_div-value : goal.nonzero_div-value
nonzero_div-value c = rw c.weight-weight.ensures (power-some c.args.parts.now.first.size)

pub store_part-requires-3-clause-within : goal.store_part-requires-3-clause-within
store_part-requires-3-clause-within c =
    let row = write_row c.args.moment c.args.number c.args.store.now.ram c.args.parts.now.first.at c.args.parts.now.first.size (c.args.value % c.weight-weight.result) in
    let same : length c.store_part-2.new.store.ram ≡ length c.args.store.now.ram = ap (λ xs. length xs) c.store_part-2.ensures.ram ∙ length-row c.args.store.now.ram row c.requires.within.0 in
    let within = subst (λ (o : Option Part). AreWithin (length c.args.store.now.ram) (c.args.parts.now.first ∷ listed_second o)) c.in-Some.is c.requires.within in
    rw same within.1.0

pub store_part-requires-3-clause-value : goal.store_part-requires-3-clause-value
store_part-requires-3-clause-value c =
    let whole = subst (λ (o : Option Part). c.args.parts.now.first.size + bytes_of_second o ≡ c.args.size) c.in-Some.is c.requires.sizes.whole in
    rw c.weight-weight.ensures (fits-second c.args.value c.args.parts.now.first.size c.in-Some.second.size c.args.size whole c.requires.value)

pub returns-clause-ram : goal.returns-clause-ram
returns-clause-ram c =
    c.store_part-3.ensures.ram ∙ (rw (c.store_part-2.ensures.ram, c.weight-weight.ensures) (ram-twice c.args.moment c.args.number c.args.store.now.ram c.args.parts.now.first c.in-Some.second c.args.parts.now.second c.args.value c.args.size c.in-Some.is c.requires.sizes.whole c.requires.value))

pub returns-clause-right : goal.returns-clause-right
returns-clause-right c =
    split-right c.args.moment c.args.number c.args.store.now.ram c.args.parts.now.first c.args.parts.now.second c.args.value c.args.size c.requires.within c.requires.sizes.first c.requires.sizes.second c.requires.sizes.whole c.requires.most

pub returns-clause-rows : goal.returns-clause-rows
returns-clause-rows c =
    let rows = rows-twice c.args.moment c.args.number c.args.store.now.ram c.args.parts.now.first c.in-Some.second c.args.parts.now.second c.args.value c.args.size c.in-Some.is c.requires.sizes.whole c.requires.value in
    c.store_part-3.ensures.row
    ∙ (rw (c.store_part-2.ensures.row, c.store_part-2.ensures.ram, c.weight-weight.ensures, append_assoc) (ap (λ ws. with_writes c.args.journal.now ws) (sym rows)))
