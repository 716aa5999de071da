use Rattle.std.proofs.lemmas.Nat.{one_shl}
use Rattle.std.proofs.Common.{arith}
use Rattle.part_walk.proofs.RealAddress.{real_small}
use Rattle.part_walk.proofs.addresses.real_address.Goals as goal

pub returns-clause-small : goal.returns-clause-small
returns-clause-small c = rw (one_shl c.args.low 64 (omega (arith, c.requires.low))) (real_small c.args.page c.args.low c.args.address c.requires.low c.requires.page)
