-- What reading to the end, or to one byte more than a bound, gives.
use Rattle.std.specs.Prelude.{◌≡◌, ◌++◌, ◌<◌, ℕ, List, length, Option, IfSome}
use Rattle.outer_io.specs.declared.files.Answer.{Answer}
use Rattle.outer_io.specs.declared.files.Answer.TheVariants.{Read, Failed, TooLong}
use Rattle.outer_io.specs.Outside.{AddsAtMost}

-- `known` are the bytes that the reader has left, where they are known.
abbrev pub Gathers : Option (List ℕ) → ℕ → List ℕ → List ℕ → Answer → Type 0
Gathers known max old new Read = AddsAtMost max old new × IfSome known (λ bytes. new ≡ old ++ bytes)
Gathers known max old new TooLong = IfSome known (λ bytes. max < length bytes)
Gathers known max old new Failed = Unit {0}
