use Rattle.std.proofs.Common.{◌≡◌, length, length-append, ap, ◌∙◌, arith}
use Rattle.journal_core.specs.Past.{write_row}
use Rattle.storage_ops.proofs.StoringLemmas.{length-row, zeros-right}
use Rattle.storage_ops.proofs.storing.+clear_doublewords.Goals as goal

pub overflow_add-at : goal.overflow_add-at
overflow_add-at t c =
    let same : length c.store_part.new.store.ram ≡ length c.args.store.now.ram =
    ap (λ xs. length xs) c.store_part.ensures.ram ∙ length-row c.args.store.now.ram (write_row c.args.moment c.args.number c.args.store.now.ram c.args.at 8 0) (omega (arith, c.requires.within, c.if-count-eq0.false)) in
    omega (arith, same, c.size.ensures.size, c.size.ensures.most, c.requires.within, c.if-count-eq0.false)

pub clear_doublewords-requires : goal.clear_doublewords-requires
clear_doublewords-requires t c =
    let same : length c.store_part.new.store.ram ≡ length c.args.store.now.ram =
    ap (λ xs. length xs) c.store_part.ensures.ram ∙ length-row c.args.store.now.ram (write_row c.args.moment c.args.number c.args.store.now.ram c.args.at 8 0) (omega (arith, c.requires.within, c.if-count-eq0.false)) in
    (omega (arith, c.decreases), (omega (arith, same, c.requires.within, c.if-count-eq0.false), (rw c.store_part.ensures.row (rw length-append (omega (arith, c.requires.room, c.if-count-eq0.false))), rw c.store_part.ensures.row c.requires.moment)))

pub returns-clause-right : goal.returns-clause-right
returns-clause-right t c = zeros-right c.args.moment c.args.number c.args.store.now.ram c.args.count c.args.at c.requires.within

pub returns-then-count-eq0-clause-right : goal.returns-then-count-eq0-clause-right
returns-then-count-eq0-clause-right t c = zeros-right c.args.moment c.args.number c.args.store.now.ram c.args.count c.args.at c.requires.within
