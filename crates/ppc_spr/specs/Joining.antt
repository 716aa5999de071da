-- What the code's masks join: the old bits where a mask has ones, and the new ones elsewhere.
use Rattle.std.specs.Prelude.{ℕ, ◌==◌, if◌then◌else◌, [], ◌∷◌}
use Rattle.ppc_bits.specs.Bits.{bit, is_among, either}
use Rattle.ppc_bits.specs.MachineStateBits as at

-- the bit that the mask chooses; EE, IR and DR become 1 where the new PR is 1
abbrev pub joined_bit : ℕ → (ℕ → ℕ) → (ℕ → ℕ) → ℕ → ℕ
joined_bit kept old new i =
    let bit_i = if bit 64 kept i == 1 then old i else new i in
    if is_among (at.ee ∷ at.ir ∷ at.dr ∷ []) i then either bit_i (new at.pr) else bit_i
