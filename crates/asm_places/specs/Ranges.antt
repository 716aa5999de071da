-- The ranges of numbers in a source.
use Rattle.std.specs.Prelude.{ℕ, ◌+◌, ◌-◌, ◌%◌, ◌^◌, Bool, ◌&&◌, ◌||◌, Option, Some, None, nat_le, nat_lt, ◌==◌, ℤ, pos, negsuc, if◌then◌else◌}

-- -2^63 to 2^64 - 1
abbrev pub fits_doubleword : ℤ → Bool
fits_doubleword (pos n) = nat_lt n (2 ^ 64)
fits_doubleword (negsuc n) = nat_lt n (2 ^ 63)

-- the value of an expression, which may be any number that fits a doubleword, signed or not
abbrev pub in_range : ℤ → Option ℤ
in_range z = if fits_doubleword z then Some z else None

-- the address of a segment's first byte: 0 to 2^64 - 1
abbrev pub base_of : ℤ → Option ℕ
base_of (pos n) = if nat_lt n (2 ^ 64) then Some n else None
base_of (negsuc n) = None

-- 16 MiB, the most zeros of all .space and .align together
abbrev pub most_zeros : ℕ
most_zeros = 16777216

-- how many zeros a .space of this value has, behind so many zeros of the source
abbrev pub space_of : ℕ → ℤ → Option ℕ
space_of before (pos n) = if nat_le (before + n) most_zeros then Some n else None
space_of before (negsuc n) = None

-- 4, 8, 16, 4096 or 65536
abbrev pub is_alignment : ℕ → Bool
is_alignment n = (n == 4) || (n == 8) || (n == 16) || (n == 4096) || (n == 65536)

-- how many zeros lead from an address to the next multiple
abbrev pub padding : ℕ → ℕ → ℕ
padding multiple at = (multiple - at % multiple) % multiple

-- how many zeros an .align of this value has at an address, behind so many zeros of the source
abbrev pub padding_of : ℕ → ℕ → ℤ → Option ℕ
padding_of before at (pos n) = if is_alignment n && nat_le (before + padding n at) most_zeros then Some (padding n at) else None
padding_of before at (negsuc n) = None
