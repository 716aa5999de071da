-- The values of operands in text, and what a field of a form takes of them.
use Rattle.std.specs.Prelude.{ℕ, ◌-◌, ◌^◌, ◌==◌, nat_lt, ℤ, pos, negsuc, Bool, true, false, ◌&&◌, if◌then◌else◌, List, slice_get, Option, Some, None, unwrap_or, option_map, option_and_then}
use Rattle.ppc_bits.specs.Bits.{modulo}

-- the value at a place, counted from 0, or 0 where no more values stand
unfoldable pub value_at : List ℤ → ℕ → ℤ
value_at vs place = unwrap_or (slice_get vs place) (pos 0)

-- a number of k bits
unfoldable pub number_of : ℕ → ℤ → Option ℕ
number_of k (pos n) = if nat_lt n (2 ^ k) then Some n else None
number_of k (negsuc n) = None

-- the number is from -2 ^ (k - 1) to 2 ^ (k - 1) - 1
abbrev pub is_signed : ℕ → ℤ → Bool
is_signed k (pos n) = nat_lt n (2 ^ (k - 1))
is_signed k (negsuc n) = nat_lt n (2 ^ (k - 1))

-- a signed number of k bits
unfoldable pub signed_number : ℕ → ℤ → Option ℤ
signed_number k z = if is_signed k z then Some z else None

-- a signed number of k bits that is a multiple of 4
unfoldable pub signed_multiple : ℕ → ℤ → Option ℤ
signed_multiple k z = if is_signed k z && modulo 2 z == 0 then Some z else None

-- a displacement of 16 bits, where it is scaled a multiple of 4
unfoldable pub displacement : Bool → ℤ → Option ℤ
displacement scaled z = if scaled then signed_multiple 16 z else signed_number 16 z

-- an immediate of 16 bits, signed or not, that is compared
unfoldable pub compared : Bool → ℤ → Option ℤ
compared unsigned z = if unsigned then option_map pos (number_of 16 z) else signed_number 16 z

-- false for 0, and true for 1
unfoldable pub flag : ℤ → Option Bool
flag (pos n) = if n == 0 then Some false else if n == 1 then Some true else None
flag (negsuc n) = None

abbrev pub false_where : Bool → Bool → Option Bool
false_where never b = if never && b then None else Some b

-- false for 0, and true for 1 unless it is never true
unfoldable pub flag_unless : Bool → ℤ → Option Bool
flag_unless never z = option_and_then (false_where never) (flag z)

-- what the function makes of the value, where it is there
infixl 10 ◌>>=◌
abbrev pub ◌>>=◌ : {A B : Type 0} → Option A → (A → Option B) → Option B
(Some a) >>= f = f a
None >>= f = None
