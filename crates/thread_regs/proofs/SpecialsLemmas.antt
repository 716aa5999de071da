-- The special purpose registers of a thread as one list of values, so that setting one is setting an element.
use Rattle.std.proofs.Common.{◌≡◌, ℕ, ◌%◌, ◌^◌, ◌<◌, ◌==◌, Bool, true, false, if◌then◌else◌, List, [], ◌∷◌, length, slice_index_or, slice_set, refl, sym, ap, ◌∙◌, arith, ◌+◌}
use Rattle.std.proofs.Math.Nat.{mod-eq_of_lt}
use Rattle.std.proofs.lemmas.List.{get_or-set_same, get_or-set_other}
use Rattle.ppc_ops.specs.Results.{xer_number}
use Rattle.ppc_spr.specs.declared.spr.Spr.{Spr}
use Rattle.ppc_spr.specs.declared.spr.Spr.TheVariants.{Xer, Lr, Ctr, Dsisr, Dar, Dec, Srr0, Srr1, Amr, Pidr, Iamr, UserSprg3, Tb, Sprg0, Sprg1, Sprg2, Sprg3, Pvr, Hsprg0, Hsprg1, Hdsisr, Hdar, Hdec, Hsrr0, Hsrr1, Lpcr, Lpidr, Heir, Ptcr, Tar, Asdr, Pir}
use Rattle.ppc_spr.specs.Sprs.{row_of}
use Rattle.thread_regs.specs.declared.registers.Thread.{Thread}
use Rattle.thread_regs.specs.Specials.{spr, with_spr, kept_of}
use Rattle.thread_regs.specs.Laws.{own_number}

-- the values, each register once
abbrev values : Thread → List ℕ
values t =
    xer_number t.xer ∷ t.lr ∷ t.ctr ∷ t.dsisr ∷ t.dar ∷ t.dec ∷ t.srr0 ∷ t.srr1 ∷ t.amr ∷ t.pidr ∷ t.iamr ∷
    t.tb ∷ t.sprg0 ∷ t.sprg1 ∷ t.sprg2 ∷ t.sprg3 ∷ t.pvr ∷ t.hsprg0 ∷ t.hsprg1 ∷ t.hdsisr ∷ t.hdar ∷ t.hdec ∷
    t.hsrr0 ∷ t.hsrr1 ∷ t.lpcr ∷ t.lpidr ∷ t.heir ∷ t.ptcr ∷ t.tar ∷ t.asdr ∷ t.pir ∷ []

-- where a register stands in the list
abbrev place : Spr → ℕ
place Xer = 0
place Lr = 1
place Ctr = 2
place Dsisr = 3
place Dar = 4
place Dec = 5
place Srr0 = 6
place Srr1 = 7
place Amr = 8
place Pidr = 9
place Iamr = 10
place UserSprg3 = 15
place Tb = 11
place Sprg0 = 12
place Sprg1 = 13
place Sprg2 = 14
place Sprg3 = 15
place Pvr = 16
place Hsprg0 = 17
place Hsprg1 = 18
place Hdsisr = 19
place Hdar = 20
place Hdec = 21
place Hsrr0 = 22
place Hsrr1 = 23
place Lpcr = 24
place Lpidr = 25
place Heir = 26
place Ptcr = 27
place Tar = 28
place Asdr = 29
place Pir = 30

-- the numbers of the registers, in the order of the list
abbrev numbers : List ℕ
numbers =
    1 ∷ 8 ∷ 9 ∷ 18 ∷ 19 ∷ 22 ∷ 26 ∷ 27 ∷ 29 ∷ 48 ∷ 61 ∷ 268 ∷ 272 ∷ 273 ∷ 274 ∷ 275 ∷ 287 ∷ 304 ∷ 305 ∷ 306 ∷
    307 ∷ 310 ∷ 314 ∷ 315 ∷ 318 ∷ 319 ∷ 339 ∷ 464 ∷ 815 ∷ 816 ∷ 1023 ∷ []

abbrev position : ℕ → List ℕ → ℕ
position n [] = 0
position n (m ∷ ms) = if n == m then 0 else 1 + position n ms

-- the place of the register with a number
abbrev place_at : ℕ → ℕ
place_at n = position n numbers

place_of_number : (s : Spr) → place_at (own_number s) ≡ place s
unfolding row_of
place_of_number Xer = refl
place_of_number Lr = refl
place_of_number Ctr = refl
place_of_number Dsisr = refl
place_of_number Dar = refl
place_of_number Dec = refl
place_of_number Srr0 = refl
place_of_number Srr1 = refl
place_of_number Amr = refl
place_of_number Pidr = refl
place_of_number Iamr = refl
place_of_number UserSprg3 = refl
place_of_number Tb = refl
place_of_number Sprg0 = refl
place_of_number Sprg1 = refl
place_of_number Sprg2 = refl
place_of_number Sprg3 = refl
place_of_number Pvr = refl
place_of_number Hsprg0 = refl
place_of_number Hsprg1 = refl
place_of_number Hdsisr = refl
place_of_number Hdar = refl
place_of_number Hdec = refl
place_of_number Hsrr0 = refl
place_of_number Hsrr1 = refl
place_of_number Lpcr = refl
place_of_number Lpidr = refl
place_of_number Heir = refl
place_of_number Ptcr = refl
place_of_number Tar = refl
place_of_number Asdr = refl
place_of_number Pir = refl

number_at_place : (s : Spr) → slice_index_or numbers (place s) 0 ≡ own_number s
unfolding row_of
number_at_place Xer = refl
number_at_place Lr = refl
number_at_place Ctr = refl
number_at_place Dsisr = refl
number_at_place Dar = refl
number_at_place Dec = refl
number_at_place Srr0 = refl
number_at_place Srr1 = refl
number_at_place Amr = refl
number_at_place Pidr = refl
number_at_place Iamr = refl
number_at_place UserSprg3 = refl
number_at_place Tb = refl
number_at_place Sprg0 = refl
number_at_place Sprg1 = refl
number_at_place Sprg2 = refl
number_at_place Sprg3 = refl
number_at_place Pvr = refl
number_at_place Hsprg0 = refl
number_at_place Hsprg1 = refl
number_at_place Hdsisr = refl
number_at_place Hdar = refl
number_at_place Hdec = refl
number_at_place Hsrr0 = refl
number_at_place Hsrr1 = refl
number_at_place Lpcr = refl
number_at_place Lpidr = refl
number_at_place Heir = refl
number_at_place Ptcr = refl
number_at_place Tar = refl
number_at_place Asdr = refl
number_at_place Pir = refl

value_at_place : (t : Thread) (s : Spr) → spr t s ≡ slice_index_or (values t) (place s) 0
unfolding spr
value_at_place t Xer = refl
value_at_place t Lr = refl
value_at_place t Ctr = refl
value_at_place t Dsisr = refl
value_at_place t Dar = refl
value_at_place t Dec = refl
value_at_place t Srr0 = refl
value_at_place t Srr1 = refl
value_at_place t Amr = refl
value_at_place t Pidr = refl
value_at_place t Iamr = refl
value_at_place t UserSprg3 = refl
value_at_place t Tb = refl
value_at_place t Sprg0 = refl
value_at_place t Sprg1 = refl
value_at_place t Sprg2 = refl
value_at_place t Sprg3 = refl
value_at_place t Pvr = refl
value_at_place t Hsprg0 = refl
value_at_place t Hsprg1 = refl
value_at_place t Hdsisr = refl
value_at_place t Hdar = refl
value_at_place t Hdec = refl
value_at_place t Hsrr0 = refl
value_at_place t Hsrr1 = refl
value_at_place t Lpcr = refl
value_at_place t Lpidr = refl
value_at_place t Heir = refl
value_at_place t Ptcr = refl
value_at_place t Tar = refl
value_at_place t Asdr = refl
value_at_place t Pir = refl

within : (t : Thread) (s : Spr) → place s < length (values t)
within t Xer = omega arith
within t Lr = omega arith
within t Ctr = omega arith
within t Dsisr = omega arith
within t Dar = omega arith
within t Dec = omega arith
within t Srr0 = omega arith
within t Srr1 = omega arith
within t Amr = omega arith
within t Pidr = omega arith
within t Iamr = omega arith
within t UserSprg3 = omega arith
within t Tb = omega arith
within t Sprg0 = omega arith
within t Sprg1 = omega arith
within t Sprg2 = omega arith
within t Sprg3 = omega arith
within t Pvr = omega arith
within t Hsprg0 = omega arith
within t Hsprg1 = omega arith
within t Hdsisr = omega arith
within t Hdar = omega arith
within t Hdec = omega arith
within t Hsrr0 = omega arith
within t Hsrr1 = omega arith
within t Lpcr = omega arith
within t Lpidr = omega arith
within t Heir = omega arith
within t Ptcr = omega arith
within t Tar = omega arith
within t Asdr = omega arith
within t Pir = omega arith

-- a full-width register keeps the whole value
set_whole : (t : Thread) (i v : ℕ) → v < 2 ^ 64 → slice_set (values t) i v ≡ slice_set (values t) i (v % 2 ^ 64)
set_whole t i v l = ap (λ k. slice_set (values t) i k) (sym (mod-eq_of_lt l))

set_at_place : (t : Thread) (s : Spr) (v : ℕ) → v < 2 ^ 64 → values (with_spr t s v) ≡ slice_set (values t) (place s) (kept_of s v)
unfolding with_spr kept_of row_of
set_at_place t Xer v l = refl
set_at_place t Lr v l = set_whole t 1 v l
set_at_place t Ctr v l = set_whole t 2 v l
set_at_place t Dsisr v l = refl
set_at_place t Dar v l = set_whole t 4 v l
set_at_place t Dec v l = refl
set_at_place t Srr0 v l = set_whole t 6 v l
set_at_place t Srr1 v l = set_whole t 7 v l
set_at_place t Amr v l = set_whole t 8 v l
set_at_place t Pidr v l = refl
set_at_place t Iamr v l = set_whole t 10 v l
set_at_place t UserSprg3 v l = set_whole t 15 v l
set_at_place t Tb v l = set_whole t 11 v l
set_at_place t Sprg0 v l = set_whole t 12 v l
set_at_place t Sprg1 v l = set_whole t 13 v l
set_at_place t Sprg2 v l = set_whole t 14 v l
set_at_place t Sprg3 v l = set_whole t 15 v l
set_at_place t Pvr v l = set_whole t 16 v l
set_at_place t Hsprg0 v l = set_whole t 17 v l
set_at_place t Hsprg1 v l = set_whole t 18 v l
set_at_place t Hdsisr v l = refl
set_at_place t Hdar v l = set_whole t 20 v l
set_at_place t Hdec v l = refl
set_at_place t Hsrr0 v l = set_whole t 22 v l
set_at_place t Hsrr1 v l = set_whole t 23 v l
set_at_place t Lpcr v l = set_whole t 24 v l
set_at_place t Lpidr v l = refl
set_at_place t Heir v l = refl
set_at_place t Ptcr v l = set_whole t 27 v l
set_at_place t Tar v l = set_whole t 28 v l
set_at_place t Asdr v l = set_whole t 29 v l
set_at_place t Pir v l = set_whole t 30 v l

pub same_gpr : (t : Thread) (s : Spr) (v : ℕ) → (with_spr t s v).gpr ≡ t.gpr
unfolding with_spr
same_gpr t Xer v = refl
same_gpr t Lr v = refl
same_gpr t Ctr v = refl
same_gpr t Dsisr v = refl
same_gpr t Dar v = refl
same_gpr t Dec v = refl
same_gpr t Srr0 v = refl
same_gpr t Srr1 v = refl
same_gpr t Amr v = refl
same_gpr t Pidr v = refl
same_gpr t Iamr v = refl
same_gpr t UserSprg3 v = refl
same_gpr t Tb v = refl
same_gpr t Sprg0 v = refl
same_gpr t Sprg1 v = refl
same_gpr t Sprg2 v = refl
same_gpr t Sprg3 v = refl
same_gpr t Pvr v = refl
same_gpr t Hsprg0 v = refl
same_gpr t Hsprg1 v = refl
same_gpr t Hdsisr v = refl
same_gpr t Hdar v = refl
same_gpr t Hdec v = refl
same_gpr t Hsrr0 v = refl
same_gpr t Hsrr1 v = refl
same_gpr t Lpcr v = refl
same_gpr t Lpidr v = refl
same_gpr t Heir v = refl
same_gpr t Ptcr v = refl
same_gpr t Tar v = refl
same_gpr t Asdr v = refl
same_gpr t Pir v = refl

pub same_cr : (t : Thread) (s : Spr) (v : ℕ) → (with_spr t s v).cr ≡ t.cr
unfolding with_spr
same_cr t Xer v = refl
same_cr t Lr v = refl
same_cr t Ctr v = refl
same_cr t Dsisr v = refl
same_cr t Dar v = refl
same_cr t Dec v = refl
same_cr t Srr0 v = refl
same_cr t Srr1 v = refl
same_cr t Amr v = refl
same_cr t Pidr v = refl
same_cr t Iamr v = refl
same_cr t UserSprg3 v = refl
same_cr t Tb v = refl
same_cr t Sprg0 v = refl
same_cr t Sprg1 v = refl
same_cr t Sprg2 v = refl
same_cr t Sprg3 v = refl
same_cr t Pvr v = refl
same_cr t Hsprg0 v = refl
same_cr t Hsprg1 v = refl
same_cr t Hdsisr v = refl
same_cr t Hdar v = refl
same_cr t Hdec v = refl
same_cr t Hsrr0 v = refl
same_cr t Hsrr1 v = refl
same_cr t Lpcr v = refl
same_cr t Lpidr v = refl
same_cr t Heir v = refl
same_cr t Ptcr v = refl
same_cr t Tar v = refl
same_cr t Asdr v = refl
same_cr t Pir v = refl

pub same_msr : (t : Thread) (s : Spr) (v : ℕ) → (with_spr t s v).msr ≡ t.msr
unfolding with_spr
same_msr t Xer v = refl
same_msr t Lr v = refl
same_msr t Ctr v = refl
same_msr t Dsisr v = refl
same_msr t Dar v = refl
same_msr t Dec v = refl
same_msr t Srr0 v = refl
same_msr t Srr1 v = refl
same_msr t Amr v = refl
same_msr t Pidr v = refl
same_msr t Iamr v = refl
same_msr t UserSprg3 v = refl
same_msr t Tb v = refl
same_msr t Sprg0 v = refl
same_msr t Sprg1 v = refl
same_msr t Sprg2 v = refl
same_msr t Sprg3 v = refl
same_msr t Pvr v = refl
same_msr t Hsprg0 v = refl
same_msr t Hsprg1 v = refl
same_msr t Hdsisr v = refl
same_msr t Hdar v = refl
same_msr t Hdec v = refl
same_msr t Hsrr0 v = refl
same_msr t Hsrr1 v = refl
same_msr t Lpcr v = refl
same_msr t Lpidr v = refl
same_msr t Heir v = refl
same_msr t Ptcr v = refl
same_msr t Tar v = refl
same_msr t Asdr v = refl
same_msr t Pir v = refl

pub same_nia : (t : Thread) (s : Spr) (v : ℕ) → (with_spr t s v).nia ≡ t.nia
unfolding with_spr
same_nia t Xer v = refl
same_nia t Lr v = refl
same_nia t Ctr v = refl
same_nia t Dsisr v = refl
same_nia t Dar v = refl
same_nia t Dec v = refl
same_nia t Srr0 v = refl
same_nia t Srr1 v = refl
same_nia t Amr v = refl
same_nia t Pidr v = refl
same_nia t Iamr v = refl
same_nia t UserSprg3 v = refl
same_nia t Tb v = refl
same_nia t Sprg0 v = refl
same_nia t Sprg1 v = refl
same_nia t Sprg2 v = refl
same_nia t Sprg3 v = refl
same_nia t Pvr v = refl
same_nia t Hsprg0 v = refl
same_nia t Hsprg1 v = refl
same_nia t Hdsisr v = refl
same_nia t Hdar v = refl
same_nia t Hdec v = refl
same_nia t Hsrr0 v = refl
same_nia t Hsrr1 v = refl
same_nia t Lpcr v = refl
same_nia t Lpidr v = refl
same_nia t Heir v = refl
same_nia t Ptcr v = refl
same_nia t Tar v = refl
same_nia t Asdr v = refl
same_nia t Pir v = refl

pub equal : (a b : ℕ) → (a == b) ≡ true → a ≡ b
equal a b e = grind arith

pub apart : (a b : ℕ) → (a == b) ≡ false → a ≡ b → ⊥
apart a b e = grind arith

same_place : (r s : Spr) → own_number r ≡ own_number s → place r ≡ place s
same_place r s e = sym (place_of_number r) ∙ ap place_at e ∙ place_of_number s

other_place : (r s : Spr) → (own_number r ≡ own_number s → ⊥) → place r ≡ place s → ⊥
other_place r s h e = h (sym (number_at_place r) ∙ ap (λ i. slice_index_or numbers i 0) e ∙ number_at_place s)

pub chosen : {A : Type 0} (b : Bool) (x y z : A) → (b ≡ true → z ≡ x) → (b ≡ false → z ≡ y) → z ≡ (if b then x else y)
chosen true x y z h k = h refl
chosen false x y z h k = k refl

read_same : (t : Thread) (a b : Spr) (v : ℕ) → v < 2 ^ 64 → place a ≡ place b → spr (with_spr t a v) b ≡ kept_of a v
read_same t a b v l e =
    value_at_place (with_spr t a v) b ∙ ap (λ xs. slice_index_or xs (place b) 0) (set_at_place t a v l) ∙ ap (λ i. slice_index_or (slice_set (values t) (place a) (kept_of a v)) i 0) (sym e)
    ∙ get_or-set_same (values t) (place a) (kept_of a v) 0 (within t a)

read_other : (t : Thread) (a b : Spr) (v : ℕ) → v < 2 ^ 64 → (place a ≡ place b → ⊥) → spr (with_spr t a v) b ≡ spr t b
read_other t a b v l h =
    value_at_place (with_spr t a v) b ∙ ap (λ xs. slice_index_or xs (place b) 0) (set_at_place t a v l)
    ∙ get_or-set_other (values t) (place a) (place b) (kept_of a v) 0 (λ e. h (sym e)) ∙ sym (value_at_place t b)

pub special_read_back : (t : Thread) (a b : Spr) (v : ℕ) → v < 2 ^ 64 → spr (with_spr t a v) b ≡ (if own_number a == own_number b then kept_of a v else spr t b)
special_read_back t a b v l =
    chosen (own_number a == own_number b) (kept_of a v) (spr t b) (spr (with_spr t a v) b)
    (λ e. read_same t a b v l (same_place a b (equal (own_number a) (own_number b) e)))
    (λ e. read_other t a b v l (other_place a b (apart (own_number a) (own_number b) e)))

-- the special purpose registers do not see the others
pub same_specials : (t u : Thread) → values t ≡ values u → (s : Spr) → spr t s ≡ spr u s
same_specials t u e s = value_at_place t s ∙ ap (λ xs. slice_index_or xs (place s) 0) e ∙ sym (value_at_place u s)
