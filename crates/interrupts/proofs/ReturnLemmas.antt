-- A return directly after an interrupt gives back each bit of the machine state.
use Rattle.std.proofs.Common.{◌≡◌, ℕ, zero, suc, ◌-◌, ◌^◌, ◌<◌, min, max, cond, Bool, true, false, sym, ap, refl, ◌∙◌, arith, eqb, [], ◌∷◌, ◌||◌}
use Rattle.std.specs.Prelude.{Ok, Err}
use Rattle.std.proofs.lemmas.Bool.Decides.{nat_tests}
use Rattle.std.proofs.lemmas.Nat.Bits.{bit_at-lt}
use Rattle.ppc_bits.specs.Bits.{bit, word_of, is_within}
use Rattle.ppc_bits.proofs.Words.{weights_bit}
use Rattle.ppc_spr.specs.declared.msr.Msr.{Msr}
use Rattle.ppc_spr.specs.declared.msr.Hyper.{Hyper}
use Rattle.ppc_bits.specs.MachineStateBits as at
use Rattle.ppc_bits.specs.Bits.{is_among, is_set, either}
use Rattle.ppc_spr.specs.Profile.{may_be, is_in_profile, msr_of, outside_of, profiled}
use Rattle.ppc_spr.specs.Msrs.{put_bit, saved_bit, rfid_bit, hrfid_bit, interrupt_bit, raises, keeps_ri, after_interrupt, after_rfid, after_hrfid}
use Rattle.ppc_spr.proofs.Bitwise.{same_below, word_is}
use Rattle.ppc_spr.proofs.FixedBits.{each_holds}
use Rattle.ppc_spr.specs.declared.msr.Hyper.TheVariants.{Keep, RaiseKeepRi}
use Rattle.journal_core.specs.declared.causes.Cause.{Cause}
use Rattle.journal_core.specs.declared.causes.Cause.TheVariants.{DataStorage, DataSegment, InstStorage, InstSegment, Alignment, Program, Decrementer, HypDecrementer, SystemCall, HypDataStorage, HypInstStorage, HypAssist, HypDoorbell}
use Rattle.thread_regs.specs.declared.registers.Thread.{Thread}
use Rattle.interrupts.specs.Table.{interrupt_of, called}
use Rattle.interrupts.specs.Delivery.{saved_state, delivered, with_details}
use Rattle.interrupts.specs.Laws.{IsConfined, IsStatus, AReturnRestoresTheState}

-- ---- bits of the two new words

cond_lt : (b : Bool) (x y : ℕ) → x < 2 → y < 2 → cond b x y < 2
cond_lt true x y h l = h
cond_lt false x y h l = l

max_lt : (x y : ℕ) → x < 2 → y < 2 → max x y < 2
max_lt x y h l = omega arith

one_bit : (v i : ℕ) → bit 64 v i < 2
one_bit v i = bit_at-lt v (63 - i)

bit_of_word : (f : ℕ → ℕ) → ((i : ℕ) → f i < 2) → (i : ℕ) → i < 64 → bit 64 (word_of 64 f) i ≡ f i
bit_of_word f are i h = weights_bit 64 (λ j. f (63 - j)) (λ j l. are (63 - j)) (63 - i) (omega arith) ∙ ap f (back i h)
  where
    back : (i : ℕ) → i < 64 → 63 - (63 - i) ≡ i
    back i h = omega arith

abbrev joined : ℕ → ℕ → ℕ → ℕ
joined m b i = either (bit 64 m i) (bit 64 b i)

joined_word : (m b i : ℕ) → i < 64 → bit 64 (word_of 64 (λ k. joined m b k)) i ≡ joined m b i
joined_word m b i l = bit_of_word (λ k. joined m b k) (λ k. max_lt (bit 64 m k) (bit 64 b k) (one_bit m k) (one_bit b k)) i l

-- ---- the bits that a return reads of the saved state

abbrev is_apart : ℕ → Bool
is_apart i = is_within 33 36 i || is_within 42 47 i

fixed_there : (x i : ℕ) → i < 64 → cond (is_apart i) (may_be i x) true ≡ cond (is_apart i) (eqb x 0) true
fixed_there x i l = same_below (λ k. cond (is_apart k) (may_be k x) true) (λ k. cond (is_apart k) (eqb x 0) true) 64 refl i l

is_zero : (x : ℕ) → eqb x 0 ≡ true → x ≡ 0
is_zero x e = grind (arith, nat_tests)

none_there : (m i : ℕ) → is_in_profile m ≡ true → i < 64 → is_apart i ≡ true → bit 64 m i ≡ 0
none_there m i p l there =
    let may : may_be i (bit 64 m i) ≡ true = each_holds (λ k. may_be k (bit 64 m k)) 64 p i l in
    is_zero (bit 64 m i) (chosen (is_apart i) (may_be i (bit 64 m i)) (eqb (bit 64 m i) 0) there (fixed_there (bit 64 m i) i l) may)
  where
    chosen : (p x y : Bool) → p ≡ true → cond p x true ≡ cond p y true → x ≡ true → y ≡ true
    chosen true x y h e g = sym e ∙ g
    chosen false x y h e g = absurd (cc)

-- a bit that is 1 only elsewhere is 0
none_elsewhere : (y : ℕ) (p : Bool) → y < 2 → p ≡ false → (y ≡ 1 → p ≡ true) → y ≡ 0
none_elsewhere y true l e one = absurd (cc)
none_elsewhere y false l e one = not_one y l (λ is. no_truth (one is))
  where
    no_truth : false ≡ true → ⊥
    no_truth e = cc

    not_one : (y : ℕ) → y < 2 → (y ≡ 1 → ⊥) → y ≡ 0
    not_one zero l never = refl
    not_one (suc zero) l never = absurd (never refl)
    not_one (suc (suc y)) l never = absurd (omega (arith, l))

with_nothing : (x y : ℕ) → y ≡ 0 → max x y ≡ x
with_nothing x y e = omega (arith, e)

saved_same : (m b : ℕ) → is_in_profile m ≡ true → IsStatus b → (i : ℕ) → i < 64 → saved_bit (word_of 64 (λ k. joined m b k)) i ≡ bit 64 m i
saved_same m b p status i l = by_place (is_apart i) refl
  where
    by_place : (q : Bool) → is_apart i ≡ q → cond q 0 (bit 64 (word_of 64 (λ k. joined m b k)) i) ≡ bit 64 m i
    by_place true e = sym (none_there m i p l e)
    by_place false e = joined_word m b i l ∙ with_nothing (bit 64 m i) (bit 64 b i) (none_elsewhere (bit 64 b i) (is_apart i) (one_bit b i) e (status i l))

-- ---- EE, IR and DR

-- the bits of m, with those of EE, IR and DR given
abbrev given : ℕ → ℕ → ℕ → ℕ → ℕ → ℕ
given m x y z i = cond (eqb i at.ee) x (cond (eqb i at.ir) y (cond (eqb i at.dr) z (bit 64 m i)))

abbrev forced : ℕ → ℕ → ℕ
forced m i = max (bit 64 m i) (bit 64 m at.pr)

put_given : (m i : ℕ) → i < 64 → put_bit (λ k. bit 64 m k) i ≡ given m (forced m at.ee) (forced m at.ir) (forced m at.dr) i
put_given m i l = same_below (λ k. put_bit (λ j. bit 64 m j) k) (λ k. given m (forced m at.ee) (forced m at.ir) (forced m at.dr) k) 64 refl i l

given_same : (m i : ℕ) → i < 64 → given m (bit 64 m at.ee) (bit 64 m at.ir) (bit 64 m at.dr) i ≡ bit 64 m i
given_same m i l = same_below (λ k. given m (bit 64 m at.ee) (bit 64 m at.ir) (bit 64 m at.dr) k) (λ k. bit 64 m k) 64 refl i l

no_more : (x y : ℕ) → x < 2 → y < 2 → (eqb y 1 ≡ true → eqb x 1 ≡ true) → max x y ≡ x
no_more x y h l on = by_bit (eqb y 1) refl
  where
    zero_of : (y : ℕ) → y < 2 → eqb y 1 ≡ false → y ≡ 0
    zero_of y l e = grind (arith, nat_tests)

    above : (x y : ℕ) → y < 2 → eqb x 1 ≡ true → max x y ≡ x
    above x y l e = grind (arith, nat_tests)

    by_bit : (p : Bool) → eqb y 1 ≡ p → max x y ≡ x
    by_bit true e = above x y l (on e)
    by_bit false e = with_nothing x y (zero_of y l e)

put_same : (m : ℕ) → IsConfined (msr_of m) → (i : ℕ) → i < 64 → put_bit (λ k. bit 64 m k) i ≡ bit 64 m i
put_same m confined i l =
    let on_ee : forced m at.ee ≡ bit 64 m at.ee = no_more (bit 64 m 48) (bit 64 m 49) (one_bit m 48) (one_bit m 49) (λ e. (confined e).0) in
    let on_ir : forced m at.ir ≡ bit 64 m at.ir = no_more (bit 64 m 58) (bit 64 m 49) (one_bit m 58) (one_bit m 49) (λ e. (confined e).1) in
    let on_dr : forced m at.dr ≡ bit 64 m at.dr = no_more (bit 64 m 59) (bit 64 m 49) (one_bit m 59) (one_bit m 49) (λ e. (confined e).2) in
    put_given m i l
    ∙ ap (λ x. given m x (forced m at.ir) (forced m at.dr) i) on_ee
    ∙ ap (λ y. given m (bit 64 m at.ee) y (forced m at.dr) i) on_ir
    ∙ ap (λ z. given m (bit 64 m at.ee) (bit 64 m at.ir) z i) on_dr
    ∙ given_same m i l

-- what is put in is read at four places alone
put_alike : (f g : ℕ → ℕ) → ((i : ℕ) → i < 64 → f i ≡ g i) → (i : ℕ) → i < 64 → put_bit f i ≡ put_bit g i
put_alike f g each i l =
    ap (λ x. cond (is_among (at.ee ∷ at.ir ∷ at.dr ∷ []) i) (max x (f at.pr)) x) (each i l)
    ∙ ap (λ y. cond (is_among (at.ee ∷ at.ir ∷ at.dr ∷ []) i) (max (g i) y) (g i)) (each 49 (omega arith))

-- ---- hrfid

pub record IsSaved (m b : ℕ) : Type 0 where
  pub fits : m < 2 ^ 64
  pub profile : is_in_profile m ≡ true
  pub confined : IsConfined (msr_of m)
  pub status : IsStatus b

abbrev saved : ℕ → ℕ → ℕ
saved m b = word_of 64 (λ k. joined m b k)

hrfid_same : (m b : ℕ) → IsSaved m b → (i : ℕ) → i < 64 → hrfid_bit (saved m b) i ≡ bit 64 m i
hrfid_same m b is i l =
    put_alike (λ k. saved_bit (saved m b) k) (λ k. bit 64 m k) (saved_same m b is.profile is.status) i l
    ∙ put_same m is.confined i l

accepted : (m : ℕ) (f : ℕ → ℕ) → m < 2 ^ 64 → is_in_profile m ≡ true → ((i : ℕ) → i < 64 → f i ≡ bit 64 m i) → profiled (word_of 64 f) ≡ Ok (msr_of m)
accepted m f l p each =
    ap profiled (sym (word_is m f l (λ i h. sym (each i h))))
    ∙ ap (λ q. cond q (Ok (msr_of m)) (Err (outside_of m))) p

pub hrfid_returns : (m b : ℕ) (now : Msr) → IsSaved m b → after_hrfid now (saved_state (msr_of m) b) ≡ Ok (msr_of m)
unfolding after_hrfid
hrfid_returns m b now is = accepted m (λ i. hrfid_bit (saved m b) i) is.fits is.profile (hrfid_same m b is)

-- ---- rfid

interrupt_lt : (m : ℕ) (h : Hyper) (i : ℕ) → interrupt_bit m h i < 2
interrupt_lt m h i = cond_lt (is_among (at.ee ∷ at.pr ∷ at.ir ∷ at.dr ∷ []) i) 0 _ (omega arith)
    (cond_lt (eqb i at.ri) (cond (keeps_ri h) (bit 64 m i) 0) _ (cond_lt (keeps_ri h) (bit 64 m i) 0 (one_bit m i) (omega arith))
    (cond_lt (eqb i at.hv) (cond (raises h) 1 (bit 64 m i)) (bit 64 m i) (cond_lt (raises h) 1 (bit 64 m i) (omega arith) (one_bit m i)) (one_bit m i)))

abbrev interrupted : ℕ → Hyper → ℕ
interrupted m h = word_of 64 (λ k. interrupt_bit m h k)

-- HV of the new state
new_hv : (m : ℕ) (h : Hyper) → bit 64 (interrupted m h) at.hv ≡ cond (raises h) 1 (bit 64 m at.hv)
new_hv m h = bit_of_word (λ k. interrupt_bit m h k) (interrupt_lt m h) 3 (omega arith)

new_me : (m : ℕ) (h : Hyper) → bit 64 (interrupted m h) at.me ≡ bit 64 m at.me
new_me m h = bit_of_word (λ k. interrupt_bit m h k) (interrupt_lt m h) 51 (omega arith)

-- rfid's bits with those of HV and ME given
abbrev rfid_with : (ℕ → ℕ) → ℕ → ℕ → ℕ → ℕ
rfid_with f h m i = cond (eqb i at.hv) h (cond (eqb i at.me) m (f i))

rfid_same_with : (m i : ℕ) → i < 64 → rfid_with (λ k. bit 64 m k) (bit 64 m at.hv) (bit 64 m at.me) i ≡ bit 64 m i
rfid_same_with m i l = same_below (λ i. rfid_with (λ k. bit 64 m k) (bit 64 m at.hv) (bit 64 m at.me) i) (λ k. bit 64 m k) 64 refl i l

-- the saved state has HV and ME of the old one
saved_hv : (m b : ℕ) → IsSaved m b → bit 64 (saved m b) at.hv ≡ bit 64 m at.hv
saved_hv m b is = saved_same m b is.profile is.status 3 (omega arith)

saved_me : (m b : ℕ) → IsSaved m b → bit 64 (saved m b) at.me ≡ bit 64 m at.me
saved_me m b is = saved_same m b is.profile is.status 51 (omega arith)

lower_same : (p : Bool) (x : ℕ) → x < 2 → min (cond p 1 x) x ≡ x
lower_same true x l = omega arith
lower_same false x l = omega arith

same_both : (p : Bool) (x : ℕ) → cond p x x ≡ x
same_both true x = refl
same_both false x = refl

rfid_hv : (m b : ℕ) (h : Hyper) → IsSaved m b → min (bit 64 (interrupted m h) at.hv) (bit 64 (saved m b) at.hv) ≡ bit 64 m at.hv
rfid_hv m b h is =
    ap (λ x. min x (bit 64 (saved m b) at.hv)) (new_hv m h)
    ∙ ap (λ y. min (cond (raises h) 1 (bit 64 m at.hv)) y) (saved_hv m b is)
    ∙ lower_same (raises h) (bit 64 m at.hv) (one_bit m 3)

rfid_me : (m b : ℕ) (h : Hyper) → IsSaved m b → cond (is_set 64 (interrupted m h) at.hv) (bit 64 (saved m b) at.me) (bit 64 (interrupted m h) at.me) ≡ bit 64 m at.me
rfid_me m b h is =
    ap (λ x. cond (is_set 64 (interrupted m h) at.hv) x (bit 64 (interrupted m h) at.me)) (saved_me m b is)
    ∙ ap (λ y. cond (is_set 64 (interrupted m h) at.hv) (bit 64 m at.me) y) (new_me m h)
    ∙ same_both (is_set 64 (interrupted m h) at.hv) (bit 64 m at.me)

rfid_same : (m b : ℕ) (h : Hyper) → IsSaved m b → (i : ℕ) → i < 64 → rfid_bit (interrupted m h) (saved m b) i ≡ bit 64 m i
rfid_same m b h is i l =
    ap (λ x. rfid_with (λ k. hrfid_bit (saved m b) k) x (cond (is_set 64 (interrupted m h) at.hv) (bit 64 (saved m b) at.me) (bit 64 (interrupted m h) at.me)) i) (rfid_hv m b h is)
    ∙ ap (λ y. rfid_with (λ k. hrfid_bit (saved m b) k) (bit 64 m at.hv) y i) (rfid_me m b h is)
    ∙ ap (λ z. cond (eqb i at.hv) (bit 64 m at.hv) (cond (eqb i at.me) (bit 64 m at.me) z)) (hrfid_same m b is i l)
    ∙ rfid_same_with m i l

pub rfid_returns : (m b : ℕ) (h : Hyper) → IsSaved m b → after_rfid (after_interrupt (msr_of m) h) (saved_state (msr_of m) b) ≡ Ok (msr_of m)
unfolding after_interrupt after_rfid
rfid_returns m b h is = accepted m (λ i. rfid_bit (interrupted m h) (saved m b) i) is.fits is.profile (rfid_same m b h is)

-- ---- each cause

state_of : (m b : ℕ) → m < 2 ^ 64 → is_in_profile m ≡ true → IsConfined (msr_of m) → IsStatus b → IsSaved m b
state_of m b l p c s = record { fits = l; profile = p; confined = c; status = s }

pub restores : (cause : Cause) (t : Thread) → t.msr.0 < 2 ^ 64 → AReturnRestoresTheState cause t
unfolding delivered interrupt_of with_details
restores (DataStorage dar dsisr) t l p c s = rfid_returns t.msr.0 0 Keep (state_of t.msr.0 0 l p c s)
restores (DataSegment dar) t l p c s = rfid_returns t.msr.0 0 Keep (state_of t.msr.0 0 l p c s)
restores (InstStorage bits) t l p c s = rfid_returns t.msr.0 bits Keep (state_of t.msr.0 bits l p c s)
restores InstSegment t l p c s = rfid_returns t.msr.0 0 Keep (state_of t.msr.0 0 l p c s)
restores (Alignment dar) t l p c s = rfid_returns t.msr.0 0 Keep (state_of t.msr.0 0 l p c s)
restores (Program bits) t l p c s = rfid_returns t.msr.0 bits Keep (state_of t.msr.0 bits l p c s)
restores Decrementer t l p c s = rfid_returns t.msr.0 0 Keep (state_of t.msr.0 0 l p c s)
restores HypDecrementer t l p c s = hrfid_returns t.msr.0 0 (after_interrupt t.msr RaiseKeepRi) (state_of t.msr.0 0 l p c s)
restores (SystemCall lev) t l p c s = rfid_returns t.msr.0 0 (called lev) (state_of t.msr.0 0 l p c s)
restores (HypDataStorage hdar hdsisr asdr) t l p c s = hrfid_returns t.msr.0 0 (after_interrupt t.msr RaiseKeepRi) (state_of t.msr.0 0 l p c s)
restores (HypInstStorage bits asdr) t l p c s = hrfid_returns t.msr.0 bits (after_interrupt t.msr RaiseKeepRi) (state_of t.msr.0 bits l p c s)
restores (HypAssist heir) t l p c s = hrfid_returns t.msr.0 0 (after_interrupt t.msr RaiseKeepRi) (state_of t.msr.0 0 l p c s)
restores HypDoorbell t l p c s = hrfid_returns t.msr.0 0 (after_interrupt t.msr RaiseKeepRi) (state_of t.msr.0 0 l p c s)
