use Rattle.std.proofs.Common.{◌≡◌, ◌++◌}
use Rattle.ppc_machine.specs.Plugging as plugging
use Rattle.ppc_machine.proofs.plugging.plug_all.Given as goal

-- the devices so far are in slots, and those that are left come after them
abbrev pub invariant-loop-plugged : goal.invariant-loop-plugged
invariant-loop-plugged g l = record {
  slots : l.bus ≡ plugging.slots_for g.D.Device.window_size l.yielded;
  split : l.yielded ++ l.plugged-iterator.rest.items ≡ l.fn.devices.items;
}
