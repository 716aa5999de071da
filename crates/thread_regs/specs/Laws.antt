-- The one law of a thread's registers.
use Rattle.std.specs.Prelude.{◌≡◌, ℕ, ◌^◌, ◌<◌, ◌==◌, Bool, true, false, if◌then◌else◌, length}
use Rattle.ppc_spr.specs.declared.spr.Spr.{Spr}
use Rattle.ppc_spr.specs.declared.spr.Spr.TheVariants.{UserSprg3, Sprg3}
use Rattle.ppc_spr.specs.Sprs.{number_of}
use Rattle.ppc_spr.specs.Profile.{msr_of}
use Rattle.thread_regs.specs.declared.registers.Thread.{Thread}
use Rattle.thread_regs.specs.Registers.{gpr, with_gpr, with_cr, with_msr, with_nia}
use Rattle.thread_regs.specs.Specials.{spr, with_spr, kept_of}

-- a register of a thread
pub data Register : Type 0 where
  General : ℕ → Register
  Condition : Register
  MachineState : Register
  NextAddress : Register
  Special : Spr → Register

abbrev pub value_of : Thread → Register → ℕ
value_of t (General n) = gpr t n
value_of t Condition = t.cr
value_of t MachineState = t.msr.0
value_of t NextAddress = t.nia
value_of t (Special s) = spr t s

abbrev pub with_value : Thread → Register → ℕ → Thread
with_value t (General n) v = with_gpr t n v
with_value t Condition v = with_cr t v
with_value t MachineState v = with_msr t (msr_of v)
with_value t NextAddress v = with_nia t v
with_value t (Special s) v = with_spr t s v

-- what a register keeps of a value
abbrev pub kept_by : Register → ℕ → ℕ
kept_by (Special s) v = kept_of s v
kept_by other v = v

-- the number of the register that a number names: 259 is another number of the software-use register 3
abbrev pub own_number : Spr → ℕ
own_number UserSprg3 = number_of Sprg3
own_number s = number_of s

abbrev pub is_same : Register → Register → Bool
is_same (General n) (General m) = n == m
is_same Condition Condition = true
is_same MachineState MachineState = true
is_same NextAddress NextAddress = true
is_same (Special r) (Special s) = own_number r == own_number s
is_same a b = false

-- there are 32 general purpose registers
abbrev pub IsRegister : Register → Type 0
IsRegister (General n) = n < 32
IsRegister other = Unit {0}

-- a register that was set has what it keeps of the value, and every other register what it had
abbrev pub ASetRegisterIsReadBack : Type 0
ASetRegisterIsReadBack = (t : Thread) (a b : Register) (v : ℕ) → length t.gpr ≡ 32 → IsRegister a → IsRegister b → v < 2 ^ 64 →
    value_of (with_value t a v) b ≡ (if is_same a b then kept_by a v else value_of t b)
