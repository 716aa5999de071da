-- The named bits of the new values of the machine state register.
use Rattle.std.proofs.Common.{◌≡◌, ℕ, ◌-◌, ◌<◌, min, max, cond, Bool, true, false, sym, ap, refl, ◌∙◌, arith, eqb, [], ◌∷◌, ◌||◌}
use Rattle.std.specs.Prelude.{Ok, Err, IfOk}
use Rattle.std.proofs.lemmas.Bool.Decides.{nat_tests}
use Rattle.std.proofs.lemmas.Nat.Bits.{bit_at-lt}
use Rattle.ppc_bits.specs.Bits.{bit, word_of, is_among, is_set}
use Rattle.ppc_bits.proofs.Words.{weights_bit}
use Rattle.ppc_spr.specs.declared.msr.Msr.{Msr}
use Rattle.ppc_spr.specs.declared.msr.Hyper.{Hyper}
use Rattle.ppc_spr.specs.declared.msr.Hyper.TheVariants.{Keep, Raise, RaiseKeepRi, KeepRi}
use Rattle.ppc_bits.specs.MachineStateBits as at
use Rattle.ppc_spr.specs.Profile.{may_be, is_in_profile, msr_of, outside_of, profiled}
use Rattle.ppc_spr.specs.Msrs.{hv, pr, ee, ir, dr, put_bit, saved_bit, mtmsrd_bit, mtmsr_bit, enabled_bit, rfid_bit, hrfid_bit, interrupt_bit, raises, keeps_ri, after_mtmsrd, after_mtmsr, after_rfid}
use Rattle.ppc_spr.specs.Laws.{GainsNoHypervisor, ConfinesProblem, IsProfiled}
use Rattle.ppc_spr.proofs.Bitwise.{same_below}
use Rattle.ppc_spr.proofs.FixedBits.{all_hold, each_holds}

-- ---- a new value by its bits

pub record AreBits (f : ℕ → ℕ) : Type 0 where
  pub each : (i : ℕ) → f i < 2

bit_of_word : (f : ℕ → ℕ) → AreBits f → (i : ℕ) → i < 64 → bit 64 (word_of 64 f) i ≡ f i
bit_of_word f are i h = weights_bit 64 (λ j. f (63 - j)) (λ j l. are.each (63 - j)) (63 - i) (omega arith) ∙ ap f (back i h)
  where
    back : (i : ℕ) → i < 64 → 63 - (63 - i) ≡ i
    back i h = omega arith

-- what the value has at a place
set_in_word : (f : ℕ → ℕ) → AreBits f → (i : ℕ) → i < 64 → is_set 64 (word_of 64 f) i ≡ eqb (f i) 1
set_in_word f are i h = ap (λ b. eqb b 1) (bit_of_word f are i h)

-- what holds of the value holds of an accepted one
if_ok : (v : ℕ) (P : Msr → Type 0) → P (msr_of v) → IfOk (profiled v) P
if_ok v P p = elim (is_in_profile v) as (λ b. IfOk (cond b (Ok (msr_of v)) (Err (outside_of v))) P) [ true ↦ p | false ↦ tt ]

pub is_profiled : (v : ℕ) → IsProfiled (profiled v)
is_profiled v = by_test (is_in_profile v) refl
  where
    by_test : (b : Bool) → is_in_profile v ≡ b → IfOk (cond b (Ok (msr_of v)) (Err (outside_of v))) (λ m. is_in_profile m.0 ≡ true)
    by_test true e = e
    by_test false e = tt

pub mtmsrd_is_profiled : (old : Msr) (rs : ℕ) (l : Bool) → IsProfiled (after_mtmsrd old rs l)
unfolding after_mtmsrd
mtmsrd_is_profiled old rs true = is_profiled (word_of 64 (λ i. enabled_bit old.0 rs i))
mtmsrd_is_profiled old rs false = is_profiled (word_of 64 (λ i. mtmsrd_bit old.0 rs i))

pub mtmsr_is_profiled : (old : Msr) (rs : ℕ) (l : Bool) → IsProfiled (after_mtmsr old rs l)
unfolding after_mtmsr
mtmsr_is_profiled old rs true = is_profiled (word_of 64 (λ i. enabled_bit old.0 rs i))
mtmsr_is_profiled old rs false = is_profiled (word_of 64 (λ i. mtmsr_bit old.0 rs i))

-- ---- each bit is 0 or 1

cond_lt : (b : Bool) (x y : ℕ) → x < 2 → y < 2 → cond b x y < 2
cond_lt true x y h l = h
cond_lt false x y h l = l

max_lt : (x y : ℕ) → x < 2 → y < 2 → max x y < 2
max_lt x y h l = omega arith

min_lt : (x y : ℕ) → x < 2 → y < 2 → min x y < 2
min_lt x y h l = omega arith

one_bit : (v i : ℕ) → bit 64 v i < 2
one_bit v i = bit_at-lt v (63 - i)

put_lt : (new : ℕ → ℕ) → AreBits new → (i : ℕ) → put_bit new i < 2
put_lt new are i = cond_lt (is_among (at.ee ∷ at.ir ∷ at.dr ∷ []) i) (max (new i) (new at.pr)) (new i) (max_lt (new i) (new at.pr) (are.each i) (are.each at.pr)) (are.each i)

register_bits : (v : ℕ) → AreBits (λ k. bit 64 v k)
register_bits v = record { each = one_bit v }

saved_bits : (v : ℕ) → AreBits (λ k. saved_bit v k)
saved_bits v = record { each = λ i. cond_lt _ 0 (bit 64 v i) (omega arith) (one_bit v i) }

mtmsrd_lt : (old rs i : ℕ) → mtmsrd_bit old rs i < 2
mtmsrd_lt old rs i = cond_lt (is_among (at.hv ∷ at.me ∷ at.le ∷ []) i) (bit 64 old i) (put_bit (λ k. bit 64 rs k) i) (one_bit old i) (put_lt (λ k. bit 64 rs k) (register_bits rs) i)

mtmsrd_bits : (old rs : ℕ) → AreBits (λ i. mtmsrd_bit old rs i)
mtmsrd_bits old rs = record { each = mtmsrd_lt old rs }

mtmsr_bits : (old rs : ℕ) → AreBits (λ i. mtmsr_bit old rs i)
mtmsr_bits old rs = record { each = λ i. cond_lt _ (bit 64 old i) (mtmsrd_bit old rs i) (one_bit old i) (mtmsrd_lt old rs i) }

enabled_bits : (old rs : ℕ) → AreBits (λ i. enabled_bit old rs i)
enabled_bits old rs = record { each = λ i. cond_lt (is_among (at.ee ∷ at.ri ∷ []) i) (bit 64 rs i) (bit 64 old i) (one_bit rs i) (one_bit old i) }

hrfid_bits : (hsrr1 : ℕ) → AreBits (λ i. hrfid_bit hsrr1 i)
hrfid_bits hsrr1 = record { each = put_lt (λ k. saved_bit hsrr1 k) (saved_bits hsrr1) }

rfid_bits : (old srr1 : ℕ) → AreBits (λ i. rfid_bit old srr1 i)
rfid_bits old srr1 = record { each = each_lt }
  where
    me_lt : cond (is_set 64 old at.hv) (bit 64 srr1 at.me) (bit 64 old at.me) < 2
    me_lt = cond_lt (is_set 64 old at.hv) (bit 64 srr1 at.me) (bit 64 old at.me) (one_bit srr1 at.me) (one_bit old at.me)

    each_lt : (i : ℕ) → rfid_bit old srr1 i < 2
    each_lt i = cond_lt (eqb i at.hv) (min (bit 64 old at.hv) (bit 64 srr1 at.hv)) _ (min_lt (bit 64 old at.hv) (bit 64 srr1 at.hv) (one_bit old at.hv) (one_bit srr1 at.hv))
        (cond_lt (eqb i at.me) (cond (is_set 64 old at.hv) (bit 64 srr1 at.me) (bit 64 old at.me)) (put_bit (λ k. saved_bit srr1 k) i) me_lt (put_lt (λ k. saved_bit srr1 k) (saved_bits srr1) i))

interrupt_bits : (old : ℕ) (h : Hyper) → AreBits (λ i. interrupt_bit old h i)
interrupt_bits old h = record { each = each_lt }
  where
    each_lt : (i : ℕ) → interrupt_bit old h i < 2
    each_lt i = cond_lt (is_among (at.ee ∷ at.pr ∷ at.ir ∷ at.dr ∷ []) i) 0 _ (omega arith)
        (cond_lt (eqb i at.ri) (cond (keeps_ri h) (bit 64 old i) 0) _ (cond_lt (keeps_ri h) (bit 64 old i) 0 (one_bit old i) (omega arith))
        (cond_lt (eqb i at.hv) (cond (raises h) 1 (bit 64 old i)) (bit 64 old i) (cond_lt (raises h) 1 (bit 64 old i) (omega arith) (one_bit old i)) (one_bit old i)))

-- ---- hypervisor state is not gained

gains_none : (old : Msr) (f : ℕ → ℕ) → AreBits f → (hv old ≡ false → eqb (f at.hv) 1 ≡ false) → GainsNoHypervisor old (profiled (word_of 64 f))
gains_none old f are none guest = if_ok (word_of 64 f) (λ m. hv m ≡ false) (set_in_word f are 3 (omega arith) ∙ none guest)

pub mtmsrd_gains_none : (old : Msr) (rs : ℕ) (l : Bool) → GainsNoHypervisor old (after_mtmsrd old rs l)
unfolding after_mtmsrd
mtmsrd_gains_none old rs true = gains_none old (λ i. enabled_bit old.0 rs i) (enabled_bits old.0 rs) (λ guest. guest)
mtmsrd_gains_none old rs false = gains_none old (λ i. mtmsrd_bit old.0 rs i) (mtmsrd_bits old.0 rs) (λ guest. guest)

pub mtmsr_gains_none : (old : Msr) (rs : ℕ) (l : Bool) → GainsNoHypervisor old (after_mtmsr old rs l)
unfolding after_mtmsr
mtmsr_gains_none old rs true = gains_none old (λ i. enabled_bit old.0 rs i) (enabled_bits old.0 rs) (λ guest. guest)
mtmsr_gains_none old rs false = gains_none old (λ i. mtmsr_bit old.0 rs i) (mtmsr_bits old.0 rs) (λ guest. guest)

pub rfid_gains_none : (old : Msr) (srr1 : ℕ) → GainsNoHypervisor old (after_rfid old srr1)
unfolding after_rfid
rfid_gains_none old srr1 = gains_none old (λ i. rfid_bit old.0 srr1 i) (rfid_bits old.0 srr1) (λ guest. lower (bit 64 old.0 at.hv) (bit 64 srr1 at.hv) guest (one_bit old.0 at.hv))
  where
    lower : (a b : ℕ) → eqb a 1 ≡ false → a < 2 → eqb (min a b) 1 ≡ false
    lower a b e l = grind (arith, nat_tests)

-- ---- problem state

abbrev IsConfining : (ℕ → ℕ) → ℕ → Type 0
IsConfining f i = eqb (f at.pr) 1 ≡ true → eqb (f i) 1 ≡ true

-- a value whose EE, IR and DR are 1 where its PR is
confines : (f : ℕ → ℕ) → AreBits f → IsConfining f at.ee → IsConfining f at.ir → IsConfining f at.dr → ConfinesProblem (profiled (word_of 64 f))
confines f are on_ee on_ir on_dr = if_ok (word_of 64 f) (λ m. pr m ≡ true → (ee m ≡ true) × (ir m ≡ true) × (dr m ≡ true)) named
  where
    named : is_set 64 (word_of 64 f) 49 ≡ true → (is_set 64 (word_of 64 f) 48 ≡ true) × (is_set 64 (word_of 64 f) 58 ≡ true) × (is_set 64 (word_of 64 f) 59 ≡ true)
    named p =
        let one : eqb (f 49) 1 ≡ true = sym (set_in_word f are 49 (omega arith)) ∙ p in (
          set_in_word f are 48 (omega arith) ∙ on_ee one,
          set_in_word f are 58 (omega arith) ∙ on_ir one,
          set_in_word f are 59 (omega arith) ∙ on_dr one,
        )

one_of : (a b : ℕ) → a < 2 → eqb b 1 ≡ true → eqb (max a b) 1 ≡ true
one_of a b h e = grind (arith, nat_tests)

-- a value that is put in
put_confines : (f new : ℕ → ℕ) → AreBits f → AreBits new → f 49 ≡ new 49 → f 48 ≡ max (new 48) (new 49) → f 58 ≡ max (new 58) (new 49) → f 59 ≡ max (new 59) (new 49)
    → ConfinesProblem (profiled (word_of 64 f))
put_confines f new are bits on_pr on_ee on_ir on_dr = confines f are (λ e. forced 48 on_ee e) (λ e. forced 58 on_ir e) (λ e. forced 59 on_dr e)
  where
    forced : (i : ℕ) → f i ≡ max (new i) (new 49) → eqb (f 49) 1 ≡ true → eqb (f i) 1 ≡ true
    forced i here e = ap (λ n. eqb n 1) here ∙ one_of (new i) (new 49) (bits.each i) (sym (ap (λ n. eqb n 1) on_pr) ∙ e)

pub mtmsrd_confines : (old rs : ℕ) → ConfinesProblem (profiled (word_of 64 (λ i. mtmsrd_bit old rs i)))
mtmsrd_confines old rs = put_confines (λ i. mtmsrd_bit old rs i) (λ k. bit 64 rs k) (mtmsrd_bits old rs) (register_bits rs) refl refl refl refl

pub mtmsr_confines : (old rs : ℕ) → ConfinesProblem (profiled (word_of 64 (λ i. mtmsr_bit old rs i)))
mtmsr_confines old rs = put_confines (λ i. mtmsr_bit old rs i) (λ k. bit 64 rs k) (mtmsr_bits old rs) (register_bits rs) refl refl refl refl

pub rfid_confines : (old srr1 : ℕ) → ConfinesProblem (profiled (word_of 64 (λ i. rfid_bit old srr1 i)))
rfid_confines old srr1 = put_confines (λ i. rfid_bit old srr1 i) (λ k. saved_bit srr1 k) (rfid_bits old srr1) (saved_bits srr1) refl refl refl refl

pub hrfid_confines : (hsrr1 : ℕ) → ConfinesProblem (profiled (word_of 64 (λ i. hrfid_bit hsrr1 i)))
hrfid_confines hsrr1 = put_confines (λ i. hrfid_bit hsrr1 i) (λ k. saved_bit hsrr1 k) (hrfid_bits hsrr1) (saved_bits hsrr1) refl refl refl refl

-- ---- an interrupt

pub interrupt_clears : (old : ℕ) (h : Hyper) (i : ℕ) → i < 64 → is_among (at.ee ∷ at.pr ∷ at.ir ∷ at.dr ∷ []) i ≡ true → is_set 64 (word_of 64 (λ k. interrupt_bit old h k)) i ≡ false
interrupt_clears old h i b e = set_in_word (λ k. interrupt_bit old h k) (interrupt_bits old h) i b ∙ rw e refl

pub interrupt_raises : (old : ℕ) (h : Hyper) → is_set 64 (word_of 64 (λ k. interrupt_bit old h k)) 3 ≡ (raises h || is_set 64 old 3)
interrupt_raises old h = set_in_word (λ k. interrupt_bit old h k) (interrupt_bits old h) 3 (omega arith) ∙ by_kind h
  where
    by_kind : (h : Hyper) → eqb (interrupt_bit old h 3) 1 ≡ (raises h || is_set 64 old 3)
    by_kind Keep = refl
    by_kind Raise = refl
    by_kind RaiseKeepRi = refl
    by_kind KeepRi = refl

abbrev is_free : ℕ → Bool
is_free i = is_among (at.hv ∷ at.ee ∷ at.pr ∷ at.me ∷ at.ir ∷ at.dr ∷ at.ri ∷ []) i

-- what is fixed is as it was
fixed_stays : (old : ℕ) (h : Hyper) (i : ℕ) → i < 64 → may_be i (interrupt_bit old h i) ≡ cond (is_free i) true (may_be i (bit 64 old i))
fixed_stays old Keep i b = same_below (λ k. may_be k (interrupt_bit old Keep k)) (λ k. cond (is_free k) true (may_be k (bit 64 old k))) 64 refl i b
fixed_stays old Raise i b = same_below (λ k. may_be k (interrupt_bit old Raise k)) (λ k. cond (is_free k) true (may_be k (bit 64 old k))) 64 refl i b
fixed_stays old RaiseKeepRi i b = same_below (λ k. may_be k (interrupt_bit old RaiseKeepRi k)) (λ k. cond (is_free k) true (may_be k (bit 64 old k))) 64 refl i b
fixed_stays old KeepRi i b = same_below (λ k. may_be k (interrupt_bit old KeepRi k)) (λ k. cond (is_free k) true (may_be k (bit 64 old k))) 64 refl i b

always : (a b : Bool) → b ≡ true → cond a true b ≡ true
always true b e = refl
always false b e = e

pub interrupt_profiled : (old : ℕ) (h : Hyper) → is_in_profile old ≡ true → is_in_profile (word_of 64 (λ k. interrupt_bit old h k)) ≡ true
interrupt_profiled old h e = all_hold (λ i. may_be i (bit 64 (word_of 64 (λ k. interrupt_bit old h k)) i)) 64
    (λ i b. ap (may_be i) (bit_of_word (λ k. interrupt_bit old h k) (interrupt_bits old h) i b) ∙ fixed_stays old h i b
    ∙ always (is_free i) (may_be i (bit 64 old i)) (each_holds (λ k. may_be k (bit 64 old k)) 64 e i b))
