-- The table of special purpose registers (Power ISA, Book III, Move To/From System Register).
use Rattle.std.specs.Prelude.{ℕ, ◌==◌, Bool, true, false, List, [], ◌∷◌, Option, find}
use Rattle.ppc_spr.specs.declared.spr.Spr.{Spr}
use Rattle.ppc_spr.specs.declared.spr.Spr.TheVariants.{Xer, Lr, Ctr, Dsisr, Dar, Dec, Srr0, Srr1, Amr, Pidr, Iamr, UserSprg3, Tb, Sprg0, Sprg1, Sprg2, Sprg3, Pvr, Hsprg0, Hsprg1, Hdsisr, Hdar, Hdec, Hsrr0, Hsrr1, Lpcr, Lpidr, Heir, Ptcr, Tar, Asdr, Pir}

-- a line of the table
pub record SprRow : Type 0 where
  pub number : ℕ
  pub width : ℕ
  pub is_hypervisor : Bool
  pub is_read_only : Bool

-- the register of a number, so many bits wide
abbrev pub register : ℕ → ℕ → SprRow
register n bits = record { number = n; width = bits; is_hypervisor = false; is_read_only = false }

-- it is the hypervisor's
abbrev pub hypervisor : SprRow → SprRow
hypervisor row = record row { is_hypervisor = true }

-- it is not written by its number
abbrev pub read_only : SprRow → SprRow
read_only row = record row { is_read_only = true }

-- the line of each register
unfoldable pub row_of : Spr → SprRow
row_of Xer = register 1 64
row_of Lr = register 8 64
row_of Ctr = register 9 64
row_of Dsisr = register 18 32
row_of Dar = register 19 64
row_of Dec = register 22 32
row_of Srr0 = register 26 64
row_of Srr1 = register 27 64
row_of Amr = register 29 64
row_of Pidr = register 48 20
row_of Iamr = register 61 64
row_of UserSprg3 = read_only (register 259 64)
row_of Tb = read_only (register 268 64)
row_of Sprg0 = register 272 64
row_of Sprg1 = register 273 64
row_of Sprg2 = register 274 64
row_of Sprg3 = register 275 64
row_of Pvr = read_only (register 287 64)
row_of Hsprg0 = hypervisor (register 304 64)
row_of Hsprg1 = hypervisor (register 305 64)
row_of Hdsisr = hypervisor (register 306 32)
row_of Hdar = hypervisor (register 307 64)
row_of Hdec = hypervisor (register 310 32)
row_of Hsrr0 = hypervisor (register 314 64)
row_of Hsrr1 = hypervisor (register 315 64)
row_of Lpcr = hypervisor (register 318 64)
row_of Lpidr = hypervisor (register 319 12)
row_of Heir = hypervisor (register 339 32)
row_of Ptcr = hypervisor (register 464 64)
row_of Tar = register 815 64
row_of Asdr = hypervisor (register 816 64)
row_of Pir = read_only (register 1023 64)

-- all registers; the clause `alone` of `number` says that each is found by its number
abbrev pub registers : List Spr
registers =
    Xer ∷ Lr ∷ Ctr ∷ Dsisr ∷ Dar ∷ Dec ∷ Srr0 ∷ Srr1 ∷ Amr ∷ Pidr ∷ Iamr ∷ UserSprg3 ∷ Tb ∷ Sprg0 ∷ Sprg1 ∷ Sprg2 ∷ Sprg3 ∷ Pvr
    ∷ Hsprg0 ∷ Hsprg1 ∷ Hdsisr ∷ Hdar ∷ Hdec ∷ Hsrr0 ∷ Hsrr1 ∷ Lpcr ∷ Lpidr ∷ Heir ∷ Ptcr ∷ Tar ∷ Asdr ∷ Pir ∷ []

abbrev pub number_of : Spr → ℕ
number_of s = (row_of s).number

-- how many bits it has, which are the low ones of what is written
abbrev pub width_of : Spr → ℕ
width_of s = (row_of s).width

abbrev pub is_hypervisor : Spr → Bool
is_hypervisor s = (row_of s).is_hypervisor

abbrev pub is_read_only : Spr → Bool
is_read_only s = (row_of s).is_read_only

-- the register whose row has this number
unfoldable pub spr_of : ℕ → Option Spr
spr_of n = find (λ s. number_of s == n) registers
