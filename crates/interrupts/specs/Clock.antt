-- The clock: one tick a step.
use Rattle.std.specs.Prelude.{◌+◌, ◌-◌, ◌%◌, ◌^◌, List, map}
use Rattle.thread_regs.specs.declared.registers.Thread.{Thread}

-- the time base rises by 1, and both decrementers fall by 1, round their ends
abbrev pub ticked : Thread → Thread
ticked t = record t {
  tb = (t.tb + 1) % 2 ^ 64;
  dec = (t.dec + (2 ^ 32 - 1)) % 2 ^ 32;
  hdec = (t.hdec + (2 ^ 32 - 1)) % 2 ^ 32;
}

-- every thread's clock ticks
unfoldable pub all_ticked : List Thread → List Thread
all_ticked threads = map ticked threads
