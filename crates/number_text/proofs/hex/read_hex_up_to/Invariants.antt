use Rattle.std.proofs.Common.{◌≡◌, ◌≤◌, drop}
use Rattle.number_text.specs.Hex.{hex_from, hex_of}
use Rattle.number_text.proofs.hex.read_hex_up_to.Given as goal

abbrev pub invariant-loop-byte : goal.invariant-loop-byte
invariant-loop-byte l = (hex_from l.number (drop l.byte-index l.bytes) ≡ hex_of l.bytes) × (l.number ≤ l.greatest)
