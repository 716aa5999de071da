-- The devices of the program as contracts see them.
use Rattle.std.specs.Prelude.{ℕ, List}
use Rattle.ppc_bus.specs.Devices.{Access, Reply}
use Rattle.ppc_machine.specs.declared.plugging.PluggedOf.{PluggedOf}
use Rattle.radix_top.specs.Devices.{DevicesSeen, handed}

-- how many bytes the window of a device has, the list that it means, and the function by which it answers
pub record DeviceView : Type 0 where
  pub size : ℕ
  pub list : List ℕ
  pub answers : List ℕ → Access → Reply

-- devices that are seen so
abbrev pub seen : List (PluggedOf DeviceView) → DevicesSeen DeviceView
seen devices = handed (λ v. v.size) (λ v. v.list) (λ v. v.answers) devices
