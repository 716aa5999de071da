use Rattle.std.specs.Prelude.{ℕ, Bool, true, false, Option, Some, None, Result, Ok, Err}
use Rattle.ppc_bus.specs.declared.faults.BusFault.{BusFault}
use Rattle.ppc_bus.specs.declared.faults.BusFault.TheVariants.{NoDevice, DeviceAccess}
use Rattle.ppc_bus.specs.declared.faults.PlugFaultOf.{PlugFaultOf}
use Rattle.ppc_bus.specs.declared.faults.PlugReason.{PlugReason}

-- why an access is refused, by the window that holds its address and by whether it is one
abbrev pub fault_of : Option (ℕ × ℕ) → Bool → Option BusFault
fault_of None fits = Some NoDevice
fault_of (Some place) false = Some DeviceAccess
fault_of (Some place) true = None

-- why no device was reached, or None where one was
abbrev pub fault_in : {A : Type 0} → Result A BusFault → Option BusFault
fault_in (Ok answer) = None
fault_in (Err fault) = Some fault

-- why a device was not plugged, or None where it was
abbrev pub reason_in : {A D : Type 0} → Result A (PlugFaultOf D) → Option PlugReason
reason_in (Ok slot) = None
reason_in (Err fault) = Some fault.reason
