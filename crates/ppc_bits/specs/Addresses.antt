-- Addresses of instructions, which are words of four bytes.
use Rattle.std.specs.Prelude.{ℕ, ◌+◌, ◌*◌, ◌/◌, ◌%◌, ◌^◌}

-- the address of the next instruction
abbrev pub next_address : ℕ → ℕ
next_address cia = (cia + 4) % 2 ^ 64

-- bits 62 and 63 cleared
abbrev pub aligned : ℕ → ℕ
aligned address = address / 4 * 4
