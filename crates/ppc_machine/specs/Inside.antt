-- The view of a machine.
use Rattle.ppc_bus.specs.Windows.{windows_of}
use Rattle.ppc_machine.specs.declared.machines.MachineOf.TheInside.{Inside}
use Rattle.ppc_machine.specs.MachineView.{MachineView}

abbrev pub held_of : {D : Type 0} → Inside D → MachineView D
held_of m = record { entry = m.entry; plugged = windows_of m.measured; threads = m.parts.threads; ram = m.parts.store.ram; slots = m.parts.bus; journal = m.parts.journal }
