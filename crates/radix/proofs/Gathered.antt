-- What a loop of reads has gathered.
use Rattle.std.proofs.Common.{◌≡◌, ◌+◌, ◌-◌, ◌≤◌, ◌++◌, ℕ, List, Option, length, take, ap, ◌∙◌, arith, append_assoc, length-take, length-append}
use Rattle.std.specs.Io.KnownBytes.{Consumes, Keeps}
use Rattle.std.proofs.KnownBytes.{Consumes-trans, Consumes-kept}

-- what follows `old` in `new` was consumed, and leaves this much room
abbrev pub Gathered : Option (List ℕ) → Option (List ℕ) → List ℕ → List ℕ → ℕ → ℕ → Type 0
Gathered a b old new max room = (rest : List ℕ) × (new ≡ old ++ rest) × (length rest + room ≡ max) × Consumes a b rest

-- one read more
pub gathers_on : (a b c : Option (List ℕ)) (old mid new window : List ℕ) (max room left n : ℕ) → Gathered a b old mid max room
    → n ≤ room → n ≤ length window → new ≡ mid ++ take n window → left ≡ room - n → Consumes b c (take n window) → Gathered a c old new max left
gathers_on a b c old mid new window max room left n (rest, is, count, before) within fits more less consumed = (
  rest ++ take n window,
  more ∙ ap (λ l. l ++ take n window) is ∙ append_assoc old rest (take n window),
  omega (arith, length-append rest (take n window), length-take n window),
  Consumes-trans _ _ _ _ _ before consumed,
)

-- a read that is made again
pub gathers_again : (a b c : Option (List ℕ)) (old mid new : List ℕ) (max room left : ℕ) → Gathered a b old mid max room
    → new ≡ mid → left ≡ room → Keeps b c → Gathered a c old new max left
gathers_again a b c old mid new max room left (rest, is, count, before) same stays kept =
    (rest, same ∙ is, omega arith, Consumes-kept _ _ _ _ before kept)
