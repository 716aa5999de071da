-- Ticks of one thread after another.
use Rattle.std.proofs.Common.{◌≡◌, ℕ, zero, suc, ◌+◌, ◌<◌, ◌≤◌, List, [], ◌∷◌, ◌++◌, length, map, take, drop, slice_set, slice_index_or, refl, ap, ◌∙◌, arith}
use Rattle.thread_regs.specs.declared.registers.Thread.{Thread}
use Rattle.thread_regs.specs.Registers.{reset, thread_at}
use Rattle.interrupts.specs.Clock.{ticked, all_ticked}

one_more : (old : List Thread) (k : ℕ) (d : Thread) → k < length old →
    slice_set (map ticked (take k old) ++ drop k old) k (ticked (slice_index_or (map ticked (take k old) ++ drop k old) k d)) ≡ map ticked (take (suc k) old) ++ drop (suc k) old
one_more [] k d below = absurd (omega (arith, below))
one_more (t ∷ ts) zero d below = refl
one_more (t ∷ ts) (suc k) d below = ap (λ (more : List Thread). ticked t ∷ more) (one_more ts k d (omega (arith, below)))

-- the first k threads have ticked, and now one more
pub ticked_more : (old now : List Thread) (k : ℕ) → k < length old → now ≡ all_ticked (take k old) ++ drop k old →
    slice_set now k (ticked (thread_at now k)) ≡ all_ticked (take (k + 1) old) ++ drop (k + 1) old
unfolding all_ticked
ticked_more old now k below is =
    let next : k + 1 ≡ suc k = omega arith in
    rw (next, is) (one_more old k (reset 0 0) below)

map-take_all : (old : List Thread) (k : ℕ) → length old ≤ k → map ticked (take k old) ++ drop k old ≡ map ticked old
map-take_all [] zero all = refl
map-take_all [] (suc k) all = refl
map-take_all (t ∷ ts) zero all = absurd (omega (arith, all))
map-take_all (t ∷ ts) (suc k) all = ap (λ (more : List Thread). ticked t ∷ more) (map-take_all ts k (omega (arith, all)))

-- all of them have ticked
pub all_are_ticked : (old now : List Thread) (k : ℕ) → length old ≤ k → now ≡ all_ticked (take k old) ++ drop k old → now ≡ all_ticked old
unfolding all_ticked
all_are_ticked old now k all is = is ∙ map-take_all old k all
