-- The devices that the program hands to a call.
use Rattle.std.specs.Prelude.{ℕ, ◌≡◌, List, [], ◌∷◌}
use Rattle.ppc_bus.specs.Devices.{Access, Reply}
use Rattle.bench_devices.specs.Benches.{console_list, console_answers, control_answers, tape_answers}
use Rattle.ppc_machine.specs.declared.plugging.PluggedOf.{PluggedOf}
use Rattle.radix_top.specs.Devices.{DevicesSeen}

-- a device whose window begins at a place and has so many bytes, which means a list and answers by a function
pub record IsDevice {D : Type 0} (d : DevicesSeen D) (p : PluggedOf D) (place bytes : ℕ) (means : List ℕ) (function : List ℕ → Access → Reply) : Type 0 where
  pub at : p.at ≡ place
  pub size : d.size p.device ≡ bytes
  pub list : d.list p.device ≡ means
  pub answers : (l : List ℕ) (access : Access) → d.answers p.device l access ≡ function l access

-- they are a console that has shown nothing at 0x10000000, a control at 0x10001000, and an empty tape at 0x10002000
pub record AreStandard {D : Type 0} (d : DevicesSeen D) : Type 0 where
  pub console : PluggedOf D
  pub control : PluggedOf D
  pub tape : PluggedOf D
  pub are : d.devices ≡ console ∷ control ∷ tape ∷ []
  pub is_console : IsDevice d console 268435456 8 (console_list 0) console_answers
  pub is_control : IsDevice d control 268439552 16 [] control_answers
  pub is_tape : IsDevice d tape 268443648 16 [] tape_answers
