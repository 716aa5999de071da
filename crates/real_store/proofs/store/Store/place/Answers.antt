use Rattle.std.proofs.Common.{◌≡◌, length, sym, arith}
use Rattle.std.proofs.lemmas.Grind.{common_steps}
use Rattle.real_store.proofs.PlaceLemmas.{placed-none}
use Rattle.real_store.proofs.store.Store.place.Goals as goal

pub returns-then-is_empty-clause-ok : goal.returns-then-is_empty-clause-ok
returns-then-is_empty-clause-ok c =
    let none : length c.args.bytes.now ≡ 0 = grind (arith, common_steps) in
    sym (placed-none c.args.self.now.ram c.args.at c.args.bytes.now none)
