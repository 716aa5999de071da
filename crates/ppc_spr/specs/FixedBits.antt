-- Values of registers of 64 bits, of which some are fixed.
use Rattle.std.specs.Prelude.{ℕ, zero, suc, ◌==◌, Bool, true, ◌&&◌, if◌then◌else◌, List}
use Rattle.ppc_bits.specs.Bits.{bit, is_among}

-- the test holds of 0, 1, .. k - 1
unfoldable pub holds_below : ℕ → (ℕ → Bool) → Bool
holds_below zero test = true
holds_below (suc k) test = test k && holds_below k test

-- bit i of a value may be b: it is 1 at one of the places `ones`, may be either at one of `free`, and is 0 at all others
abbrev pub may_be : List ℕ → List ℕ → ℕ → ℕ → Bool
may_be ones free i b = if is_among ones i then b == 1 else (if is_among free i then true else b == 0)

-- each bit is one that it may be
abbrev pub has_fixed : List ℕ → List ℕ → ℕ → Bool
has_fixed ones free v = holds_below 64 (λ i. may_be ones free i (bit 64 v i))
