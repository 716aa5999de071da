use Rattle.std.proofs.Common.{length}
use Rattle.ppc_machine.proofs.plugging.+measure_windows.Given as goal

abbrev pub decreases-measure_windows : goal.decreases-measure_windows
decreases-measure_windows g l = length l.devices.now
