-- Threads in their reset state.
use Rattle.std.proofs.Common.{◌≡◌, ℕ, zero, suc, ◌+◌, List, [], ◌∷◌, ◌++◌, length, refl, ap, arith}
use Rattle.thread_regs.specs.declared.registers.Thread.{Thread}
use Rattle.thread_regs.specs.Registers.{reset, reset_from}

-- one more thread
pub reset_from-push : (number count next entry : ℕ) → next ≡ number + count → reset_from number (count + 1) entry ≡ reset_from number count entry ++ reset next entry ∷ []
unfolding reset_from
reset_from-push number zero next entry is = let same : next ≡ number = omega (arith, is) in rw same refl
reset_from-push number (suc count) next entry is =
    let more : suc count + 1 ≡ suc (count + 1) = omega arith in
    rw more (ap (λ (rest : List Thread). reset number entry ∷ rest) (reset_from-push (number + 1) count next entry (omega (arith, is))))

pub length-reset_from : (number count entry : ℕ) → length (reset_from number count entry) ≡ count
unfolding reset_from
length-reset_from number zero entry = refl
length-reset_from number (suc count) entry = ap (λ (n : ℕ). suc n) (length-reset_from (number + 1) count entry)
