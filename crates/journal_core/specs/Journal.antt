-- What a journal keeps beside its rows. No public contract cites these definitions.
use Rattle.std.specs.Prelude.{◌≤◌, length, vec_capacity, vec_len}
use Rattle.journal_core.specs.declared.journal.Journal.TheInside.{Inside}
use Rattle.journal_core.specs.Rows.{JournalView}
use Rattle.journal_core.specs.Steps.{IsDatedSoFar}
use Rattle.journal_core.specs.Standing.{AreNamed, AreShort}
use Rattle.journal_core.specs.Room.{most_steps, read_places, fill_places, write_places, done_places, device_places}

-- what contracts see of a journal
abbrev pub shown_of : Inside → JournalView
shown_of j = record { reserved = j.reserved; floor = j.floor; rows = record { reads = j.reads.items; fills = j.fills.items; writes = j.writes.items; dones = j.dones.items; devices = j.devices.items; steps = j.steps.items } }

-- the memory of each list is taken, its rows are in order, each fill has at most 36 readings, whose numbers name read rows, and the
-- floor is no more than the number of fills
pub record IsReserved (j : Inside) : Type 0 where
  pub most : j.reserved ≤ most_steps
  pub steps : j.reserved ≤ vec_capacity j.steps
  pub steps_within : vec_len j.steps ≤ j.reserved
  pub reads : read_places j.reserved ≤ vec_capacity j.reads
  pub reads_within : vec_len j.reads ≤ read_places j.reserved
  pub fills : fill_places j.reserved ≤ vec_capacity j.fills
  pub fills_within : vec_len j.fills ≤ fill_places j.reserved
  pub writes : write_places j.reserved ≤ vec_capacity j.writes
  pub writes_within : vec_len j.writes ≤ write_places j.reserved
  pub dones : done_places j.reserved ≤ vec_capacity j.dones
  pub dones_within : vec_len j.dones ≤ done_places j.reserved
  pub devices : device_places j.reserved ≤ vec_capacity j.devices
  pub devices_within : vec_len j.devices ≤ device_places j.reserved
  pub dated : IsDatedSoFar (shown_of j).rows
  pub short : AreShort j.fills.items
  pub named : AreNamed j.reads.items j.fills.items
  pub within : j.floor ≤ length j.fills.items
