-- What the reading of one file says, and what a prepared command has.
use Rattle.std.specs.Prelude.{◌≡◌, ℕ, List}
use Rattle.radix_top.specs.declared.status.Refusal.{Refusal}
use Rattle.radix_top.specs.declared.status.Refusal.TheVariants as refusals
use Rattle.radix_top.specs.Inputs.{FilesSeen, FailedToRead, WasTooLong}

-- the file of a name, which the word with this number is, was not read
abbrev pub ReadFails : FilesSeen → List ℕ → ℕ → Refusal → Type 0
ReadFails m name place (refusals.ReadFault p) = (p ≡ place) × FailedToRead m name
ReadFails m name place (refusals.TooLong p) = (p ≡ place) × WasTooLong m name
ReadFails m name place refusals.Memory = Unit {0}
ReadFails m name place (refusals.Usage p) = ⊥
ReadFails m name place (refusals.BadImage fault) = ⊥
ReadFails m name place (refusals.BadSchedule p) = ⊥
ReadFails m name place (refusals.BadAsm line kind) = ⊥
ReadFails m name place (refusals.BadPlace range other) = ⊥
ReadFails m name place (refusals.BadDevice number reason) = ⊥
