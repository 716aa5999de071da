-- Threads that are sound, and stay so.
use Rattle.std.proofs.Common.{◌≡◌, ◌≢◌, ℕ, zero, suc, ◌+◌, ◌<◌, Bool, true, false, nat_eq, List, length, slice_set, refl, ◌∙◌, ap, arith, slice_index_or}
use Rattle.std.proofs.lemmas.Bool.Decides.{nat_tests}
use Rattle.std.proofs.lemmas.List.{get_or-set_same, get_or-set_other, length-set}
use Rattle.ppc_spr.specs.FixedBits.{holds_below}
use Rattle.thread_regs.specs.declared.registers.Thread.{Thread}
use Rattle.thread_regs.specs.Registers.{reset, reset_from, all_reset, thread_at}
use Rattle.thread_regs.specs.Soundness.{IsWithinWidths, IsProfiled, IsSoundThread, AreSound, AreWithinWidths}
use Rattle.thread_regs.proofs.ResetLemmas.{length-reset_from}

-- registers that have what those of a profiled thread have are profiled
pub IsProfiled-same : (t u : Thread) → u.msr.0 ≡ t.msr.0 → u.lpcr ≡ t.lpcr → u.amr ≡ t.amr → u.iamr ≡ t.iamr → u.lpidr ≡ t.lpidr → u.pidr ≡ t.pidr → IsProfiled t → IsProfiled u
IsProfiled-same t u msr lpcr amr iamr lpidr pidr is = record {
  machine_state = rw msr is.machine_state;
  partitioning = rw lpcr is.partitioning;
  data_mask = rw amr is.data_mask;
  fetch_mask = rw iamr is.fetch_mask;
  widths = record { partition = rw lpidr is.widths.partition; process = rw pidr is.widths.process };
}

-- a thread in its reset state is sound
pub IsSoundThread-reset : (number entry : ℕ) → IsSoundThread (reset number entry)
unfolding reset holds_below
IsSoundThread-reset number entry = record {
  profile = record { machine_state = refl; partitioning = refl; data_mask = refl; fetch_mask = refl; widths = record { partition = omega arith; process = omega arith } };
  next = omega arith;
}

reset_at : (number count entry i : ℕ) (d : Thread) → i < count → slice_index_or (reset_from number count entry) i d ≡ reset (number + i) entry
unfolding reset_from
reset_at number zero entry i d below = absurd (omega (arith, below))
reset_at number (suc count) entry zero d below = ap (λ (n : ℕ). reset n entry) (omega arith)
reset_at number (suc count) entry (suc i) d below =
    reset_at (number + 1) count entry i d (omega (arith, below)) ∙ ap (λ (n : ℕ). reset n entry) (omega arith)

-- each of the threads in their reset state
pub thread_at-reset : (count entry i : ℕ) → i < count → thread_at (all_reset count entry) i ≡ reset i entry
thread_at-reset count entry i below = reset_at 0 count entry i (reset 0 0) below ∙ ap (λ (n : ℕ). reset n entry) (omega arith)

-- ---- one thread set

equal : (a b : ℕ) → nat_eq a b ≡ true → a ≡ b
equal a b e = grind (arith, nat_tests)

apart : (a b : ℕ) → nat_eq a b ≡ false → a ≢ b
apart a b e = grind (arith, nat_tests)

in_place : (P : Thread → Type 0) (ts : List Thread) (n : ℕ) (u : Thread) → n < length ts → P u → ((i : ℕ) → i < length ts → P (thread_at ts i)) →
    (i : ℕ) (same : Bool) → nat_eq i n ≡ same → i < length ts → P (thread_at (slice_set ts n u) i)
in_place P ts n u inside new old i true e below = let is : i ≡ n = equal i n e in rw (is, get_or-set_same ts n u (reset 0 0) inside) new
in_place P ts n u inside new old i false e below = rw (get_or-set_other ts n i u (reset 0 0) (apart i n e)) (old i below)

-- what holds of a thread that is put in, and of all others, holds of all
pub each-set : (P : Thread → Type 0) (ts : List Thread) (n : ℕ) (u : Thread) → n < length ts → P u → ((i : ℕ) → i < length ts → P (thread_at ts i)) →
    (i : ℕ) → i < length ts → P (thread_at (slice_set ts n u) i)
each-set P ts n u inside new old i below = in_place P ts n u inside new old i (nat_eq i n) refl below

-- ---- widths

pub AreWithinWidths-sound : (ts : List Thread) → AreSound ts → AreWithinWidths ts
AreWithinWidths-sound ts are i below = (are i below).profile.widths

pub AreWithinWidths-reset : (count entry : ℕ) → AreWithinWidths (all_reset count entry)
AreWithinWidths-reset count entry i below =
    rw (thread_at-reset count entry i (rw (length-reset_from 0 count entry) at below)) (IsSoundThread-reset i entry).profile.widths

pub AreWithinWidths-set : (ts : List Thread) (n : ℕ) (u : Thread) → n < length ts → AreWithinWidths ts → IsWithinWidths u → AreWithinWidths (slice_set ts n u)
AreWithinWidths-set ts n u inside are new i below = each-set IsWithinWidths ts n u inside new are i (rw (length-set ts n u) at below)
