-- What an ask says of its access and of the thread's state.
use Rattle.std.specs.Prelude.{ℕ, Bool, true, false, if◌then◌else◌}
use Rattle.ppc_bits.specs.Bits.{field_of, is_set}
use Rattle.ppc_bits.specs.MachineStateBits as at
use Rattle.journal_core.specs.declared.asks.AccessKind.{AccessKind}
use Rattle.journal_core.specs.declared.asks.AccessKind.TheVariants.{Fetch, Load, Store}
use Rattle.journal_core.specs.declared.asks.Ask.{Ask}

-- the bits from a to b of a doubleword
abbrev pub bits : ℕ → ℕ → ℕ → ℕ
bits v a b = field_of 64 v a b

-- bit i of a doubleword is 1
abbrev pub is_one : ℕ → ℕ → Bool
is_one v i = is_set 64 v i

abbrev pub is_fetch : AccessKind → Bool
is_fetch Fetch = true
is_fetch Load = false
is_fetch Store = false

abbrev pub is_load : AccessKind → Bool
is_load Fetch = false
is_load Load = true
is_load Store = false

abbrev pub is_store : AccessKind → Bool
is_store Fetch = false
is_store Load = false
is_store Store = true

-- the thread is in hypervisor state
abbrev pub is_hypervisor : Ask → Bool
is_hypervisor ask = is_one ask.msr at.hv

-- the thread is in problem state
abbrev pub is_problem : Ask → Bool
is_problem ask = is_one ask.msr at.pr

-- the access's addresses are translated: for a fetch IR says so, else DR
abbrev pub is_relocated : Ask → Bool
is_relocated ask = if is_fetch ask.access then is_one ask.msr at.ir else is_one ask.msr at.dr
