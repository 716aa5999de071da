use Rattle.std.proofs.Common.{◌≡◌, ◌≤◌, drop}
use Rattle.number_text.specs.Number.{number_from, number_of}
use Rattle.number_text.proofs.reading.read_number.Given as goal

abbrev pub invariant-loop-byte : goal.invariant-loop-byte
invariant-loop-byte l = (number_from l.number (drop l.byte-index l.bytes) ≡ number_of l.bytes) × (l.number ≤ l.greatest)
