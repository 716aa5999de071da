-- The new values of the machine state register, as the code makes them.
use Rattle.std.proofs.Common.{◌≡◌, ℕ, ◌-◌, ◌^◌, ◌<◌, min, max, cond, Bool, true, false, sym, ap, refl, ◌∙◌, arith, eqb, bit_and, bit_or, [], ◌∷◌}
use Rattle.std.specs.Int.{w64, bit_not}
use Rattle.std.proofs.lemmas.Bool.Decides.{nat_tests}
use Rattle.std.proofs.lemmas.Nat.{or_lt}
use Rattle.std.proofs.lemmas.Nat.Bits.{bit_at_or, bit_at-lt}
use Rattle.ppc_bits.specs.Bits.{bit, word_of, is_among, is_set}
use Rattle.ppc_bits.specs.MachineStateBits as at
use Rattle.ppc_spr.specs.declared.msr.Hyper.{Hyper}
use Rattle.ppc_spr.specs.declared.msr.Hyper.TheVariants.{Keep, Raise, RaiseKeepRi, KeepRi}
use Rattle.ppc_spr.specs.Joining.{joined_bit}
use Rattle.ppc_spr.specs.Msrs.{put_bit, mtmsrd_bit, mtmsr_bit, enabled_bit, saved_bit, rfid_bit, hrfid_bit, interrupt_bit, keeps_ri, raises}
use Rattle.ppc_spr.proofs.Bitwise.{same_below, word_is, choice_bit, choice_lt, without_bit, mask_is, same_words}

abbrev forced_of : Bool → ℕ
forced_of p = cond p 0x8030 0

abbrev is_forced : ℕ → Bool
is_forced i = is_among (at.ee ∷ at.ir ∷ at.dr ∷ []) i

-- ---- a value that is put in

forced_place : (i : ℕ) → i < 64 → bit 64 0x8030 i ≡ cond (is_forced i) 1 0
forced_place = same_below (λ i. bit 64 0x8030 i) (λ i. cond (is_forced i) 1 0) 64 refl

-- m is the bit without force, p the bit PR of the new value
either_way : (a p : Bool) (m : ℕ) (b : ℕ) → m < 2 → b < 2 → p ≡ eqb b 1 → max m (cond p (cond a 1 0) 0) ≡ cond a (max m b) m
either_way true true m b h l e = grind (arith, nat_tests)
either_way true false m b h l e = grind (arith, nat_tests)
either_way false true m b h l e = omega arith
either_way false false m b h l e = omega arith

forced_bit : (p : Bool) (i : ℕ) → i < 64 → bit 64 (forced_of p) i ≡ cond p (cond (is_forced i) 1 0) 0
forced_bit true i h = forced_place i h
forced_bit false i h = same_below (λ i. bit 64 0 i) (λ i. 0) 64 refl i h

forced_lt : (p : Bool) → forced_of p < 2 ^ 64
forced_lt true = omega arith
forced_lt false = omega arith

joined_lt : (kept old new i : ℕ) → cond (eqb (bit 64 kept i) 1) (bit 64 old i) (bit 64 new i) < 2
joined_lt kept old new i = picked (eqb (bit 64 kept i) 1) (bit_at-lt old (63 - i)) (bit_at-lt new (63 - i))
  where
    picked : (b : Bool) → bit 64 old i < 2 → bit 64 new i < 2 → cond b (bit 64 old i) (bit 64 new i) < 2
    picked true h l = h
    picked false h l = l

pub put_is : (old kept new : ℕ) → old < 2 ^ 64 → kept < 2 ^ 64 → new < 2 ^ 64
    → bit_or (bit_or (bit_and old kept) (bit_and new (bit_not w64 kept))) (forced_of (is_set 64 new at.pr)) ≡ word_of 64 (λ i. joined_bit kept (λ k. bit 64 old k) (λ k. bit 64 new k) i)
put_is old kept new h k l =
    word_is (bit_or (bit_or (bit_and old kept) (bit_and new (bit_not w64 kept))) (forced_of (is_set 64 new at.pr))) (λ i. joined_bit kept (λ k. bit 64 old k) (λ k. bit 64 new k) i)
    (or_lt 64 (bit_or (bit_and old kept) (bit_and new (bit_not w64 kept))) (forced_of (is_set 64 new at.pr)) (choice_lt old kept new h l) (forced_lt (is_set 64 new at.pr)))
    (λ i b. bit_at_or (bit_or (bit_and old kept) (bit_and new (bit_not w64 kept))) (forced_of (is_set 64 new at.pr)) (63 - i)
    ∙ ap (λ n. max n (bit 64 (forced_of (is_set 64 new at.pr)) i)) (choice_bit old kept new i k b)
    ∙ ap (max (cond (eqb (bit 64 kept i) 1) (bit 64 old i) (bit 64 new i))) (forced_bit (is_set 64 new at.pr) i b)
    ∙ either_way (is_forced i) (is_set 64 new at.pr) (cond (eqb (bit 64 kept i) 1) (bit 64 old i) (bit 64 new i)) (bit 64 new at.pr) (joined_lt kept old new i) (bit_at-lt new 14) refl)

-- ---- each instruction's

pub mtmsrd_is : (old rs : ℕ) → word_of 64 (λ i. joined_bit 0x1000_0000_0000_1001 (λ k. bit 64 old k) (λ k. bit 64 rs k) i) ≡ word_of 64 (λ i. mtmsrd_bit old rs i)
mtmsrd_is old rs = same_words _ _ (same_below (λ i. joined_bit 0x1000_0000_0000_1001 (λ k. bit 64 old k) (λ k. bit 64 rs k) i) (λ i. mtmsrd_bit old rs i) 64 refl)

pub mtmsr_is : (old rs : ℕ) → word_of 64 (λ i. joined_bit 0xffff_ffff_0000_1001 (λ k. bit 64 old k) (λ k. bit 64 rs k) i) ≡ word_of 64 (λ i. mtmsr_bit old rs i)
mtmsr_is old rs = same_words _ _ (same_below (λ i. joined_bit 0xffff_ffff_0000_1001 (λ k. bit 64 old k) (λ k. bit 64 rs k) i) (λ i. mtmsr_bit old rs i) 64 refl)

pub enabled_is : (old rs : ℕ) → old < 2 ^ 64 → rs < 2 ^ 64 → bit_or (bit_and rs 0x8002) (bit_and old (bit_not w64 0x8002)) ≡ word_of 64 (λ i. enabled_bit old rs i)
enabled_is old rs h l = word_is (bit_or (bit_and rs 0x8002) (bit_and old (bit_not w64 0x8002))) (λ i. enabled_bit old rs i) (choice_lt rs 0x8002 old l h)
    (λ i b. choice_bit rs 0x8002 old i (omega arith) b ∙ same_below (λ i. cond (eqb (bit 64 0x8002 i) 1) (bit 64 rs i) (bit 64 old i)) (λ i. enabled_bit old rs i) 64 refl i b)

-- the saved register without the bits that hold something else
saved_is : (saved i : ℕ) → i < 64 → bit 64 (bit_and saved (bit_not w64 0x783f_0000)) i ≡ saved_bit saved i
saved_is saved i b = without_bit saved 0x783f_0000 i (omega arith) b ∙ same_below (λ i. cond (eqb (bit 64 0x783f_0000 i) 1) 0 (bit 64 saved i)) (λ i. saved_bit saved i) 64 refl i b

-- bits that are equal are joined alike
joined_same : (kept : ℕ) (old f g : ℕ → ℕ) → ((i : ℕ) → i < 64 → f i ≡ g i) → (i : ℕ) → i < 64 → joined_bit kept old f i ≡ joined_bit kept old g i
joined_same kept old f g each i b =
    ap (λ n. cond (is_forced i) (max (cond (eqb (bit 64 kept i) 1) (old i) n) (f at.pr)) (cond (eqb (bit 64 kept i) 1) (old i) n)) (each i b)
    ∙ ap (λ p. cond (is_forced i) (max (cond (eqb (bit 64 kept i) 1) (old i) (g i)) p) (cond (eqb (bit 64 kept i) 1) (old i) (g i))) (each at.pr (omega arith))

abbrev back : ℕ → ℕ → ℕ → ℕ → ℕ
back kept old saved i = joined_bit kept (λ k. bit 64 old k) (λ k. bit 64 (bit_and saved (bit_not w64 0x783f_0000)) k) i

abbrev back_bit : ℕ → ℕ → ℕ → ℕ → ℕ
back_bit kept old saved i = joined_bit kept (λ k. bit 64 old k) (λ k. saved_bit saved k) i

back_is : (kept old saved i : ℕ) → i < 64 → back kept old saved i ≡ back_bit kept old saved i
back_is kept old saved i b = joined_same kept (λ k. bit 64 old k) (λ k. bit 64 (bit_and saved (bit_not w64 0x783f_0000)) k) (λ k. saved_bit saved k) (saved_is saved) i b

pub hrfid_is : (old hsrr1 : ℕ) → word_of 64 (λ i. back 0 old hsrr1 i) ≡ word_of 64 (λ i. hrfid_bit hsrr1 i)
hrfid_is old hsrr1 = same_words (λ i. back 0 old hsrr1 i) (λ i. hrfid_bit hsrr1 i) (λ i b. back_is 0 old hsrr1 i b ∙ same_below (λ i. back_bit 0 old hsrr1 i) (λ i. hrfid_bit hsrr1 i) 64 refl i b)

-- rfid's bits with those of HV and ME given
abbrev rfid_with : ℕ → ℕ → ℕ → ℕ → ℕ
rfid_with h m srr1 i = cond (eqb i at.hv) h (cond (eqb i at.me) m (put_bit (λ k. saved_bit srr1 k) i))

guest_rfid : (old srr1 i : ℕ) → i < 64 → back_bit 0x1000_0000_0000_1000 old srr1 i ≡ rfid_with (bit 64 old at.hv) (bit 64 old at.me) srr1 i
guest_rfid old srr1 i b = same_below (λ k. back_bit 0x1000_0000_0000_1000 old srr1 k) (λ k. rfid_with (bit 64 old at.hv) (bit 64 old at.me) srr1 k) 64 refl i b

host_rfid : (old srr1 i : ℕ) → i < 64 → back_bit 0 old srr1 i ≡ rfid_with (bit 64 srr1 at.hv) (bit 64 srr1 at.me) srr1 i
host_rfid old srr1 i b = same_below (λ k. back_bit 0 old srr1 k) (λ k. rfid_with (bit 64 srr1 at.hv) (bit 64 srr1 at.me) srr1 k) 64 refl i b

lower_is : (a b : ℕ) → b < 2 → eqb a 1 ≡ true → b ≡ min a b
lower_is a b l e = grind (arith, nat_tests)

none_is : (a b : ℕ) → a < 2 → eqb a 1 ≡ false → a ≡ min a b
none_is a b l e = grind (arith, nat_tests)

rfid_case : (old srr1 : ℕ) (p : Bool) → is_set 64 old at.hv ≡ p → (i : ℕ) → i < 64 → back_bit (cond p 0 0x1000_0000_0000_1000) old srr1 i ≡ rfid_bit old srr1 i
rfid_case old srr1 true e i b = host_rfid old srr1 i b
    ∙ ap (λ h. rfid_with h (bit 64 srr1 at.me) srr1 i) (lower_is (bit 64 old at.hv) (bit 64 srr1 at.hv) (bit_at-lt srr1 60) e)
    ∙ ap (λ t. rfid_with (min (bit 64 old at.hv) (bit 64 srr1 at.hv)) (cond t (bit 64 srr1 at.me) (bit 64 old at.me)) srr1 i) (sym e)
rfid_case old srr1 false e i b = guest_rfid old srr1 i b
    ∙ ap (λ h. rfid_with h (bit 64 old at.me) srr1 i) (none_is (bit 64 old at.hv) (bit 64 srr1 at.hv) (bit_at-lt old 60) e)
    ∙ ap (λ t. rfid_with (min (bit 64 old at.hv) (bit 64 srr1 at.hv)) (cond t (bit 64 srr1 at.me) (bit 64 old at.me)) srr1 i) (sym e)

pub rfid_is : (old srr1 : ℕ) → word_of 64 (λ i. back (cond (is_set 64 old at.hv) 0 0x1000_0000_0000_1000) old srr1 i) ≡ word_of 64 (λ i. rfid_bit old srr1 i)
rfid_is old srr1 = same_words (λ i. back (cond (is_set 64 old at.hv) 0 0x1000_0000_0000_1000) old srr1 i) (λ i. rfid_bit old srr1 i)
    (λ i b. back_is (cond (is_set 64 old at.hv) 0 0x1000_0000_0000_1000) old srr1 i b ∙ rfid_case old srr1 (is_set 64 old at.hv) refl i b)

-- ---- an interrupt

abbrev after_masks : ℕ → Hyper → ℕ → ℕ
after_masks old h i = cond (eqb (bit 64 (cond (raises h) 0x1000_0000_0000_0000 0) i) 1) 1 (cond (eqb (bit 64 (cond (keeps_ri h) 0xc030 0xc032) i) 1) 0 (bit 64 old i))

interrupt_each : (old : ℕ) (h : Hyper) (i : ℕ) → i < 64 → after_masks old h i ≡ interrupt_bit old h i
interrupt_each old Keep i b = same_below (λ k. after_masks old Keep k) (λ k. interrupt_bit old Keep k) 64 refl i b
interrupt_each old Raise i b = same_below (λ k. after_masks old Raise k) (λ k. interrupt_bit old Raise k) 64 refl i b
interrupt_each old RaiseKeepRi i b = same_below (λ k. after_masks old RaiseKeepRi k) (λ k. interrupt_bit old RaiseKeepRi k) 64 refl i b
interrupt_each old KeepRi i b = same_below (λ k. after_masks old KeepRi k) (λ k. interrupt_bit old KeepRi k) 64 refl i b

cleared_lt : (p : Bool) → cond p 0xc030 0xc032 < 2 ^ 64
cleared_lt true = omega arith
cleared_lt false = omega arith

raised_lt : (p : Bool) → cond p 0x1000_0000_0000_0000 0 < 2 ^ 64
raised_lt true = omega arith
raised_lt false = omega arith

pub interrupt_is : (old : ℕ) (h : Hyper) → old < 2 ^ 64 → bit_or (bit_and old (bit_not w64 (cond (keeps_ri h) 0xc030 0xc032))) (cond (raises h) 0x1000_0000_0000_0000 0) ≡ word_of 64 (λ i. interrupt_bit old h i)
interrupt_is old h l = mask_is old (cond (keeps_ri h) 0xc030 0xc032) (cond (raises h) 0x1000_0000_0000_0000 0) (λ i. interrupt_bit old h i) l (cleared_lt (keeps_ri h)) (raised_lt (raises h)) (interrupt_each old h)
