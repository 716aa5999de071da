use Rattle.std.proofs.Common.{refl}
use Rattle.ppc_bits.specs.Bits.{low, modulo}
use Rattle.branch_unit.specs.Trap.{trap_of}
use Rattle.branch_unit.proofs.LawLemmas.{traps_at_31}
use Rattle.branch_unit.proofs.laws.to_31_always_traps.Goals as goal

pub returns-clause-always : goal.returns-clause-always
unfolding trap_of
returns-clause-always c ra rb a b si =
    (traps_at_31 32 (low 32 a) (low 32 b), traps_at_31 64 a b, traps_at_31 32 (low 32 a) (low 32 (modulo 64 si)), traps_at_31 64 a (modulo 64 si))

pub returns-clause-never : goal.returns-clause-never
unfolding trap_of
returns-clause-never c ra rb a b si = (refl, refl, refl, refl)
