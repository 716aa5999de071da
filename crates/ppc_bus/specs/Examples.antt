use Rattle.std.specs.Prelude.{ℕ, ◌+◌, ◌%◌, ◌^◌, List, [], ◌∷◌}
use Rattle.journal_core.specs.declared.rows.Signal.TheVariants.{Quiet, Byte}
use Rattle.ppc_bus.specs.Devices.{Access, Reply, Load, Store}

-- the first number of a list, or another number where there is none
abbrev pub first_or : ℕ → List ℕ → ℕ
first_or other [] = other
first_or other (number ∷ more) = number

-- a device that adds up what is stored, and whose one number is the sum modulo 2^64
abbrev pub adder_answers : List ℕ → Access → Reply
adder_answers list (Load at size) = record { value = first_or 0 list; signal = Quiet; list = list }
adder_answers list (Store at size value) = record { value = 0; signal = Quiet; list = (first_or 0 list + value) % 2 ^ 64 ∷ [] }

-- a device that answers every load by 1FF, and a store by its value modulo 251
abbrev pub counted_answers : List ℕ → Access → Reply
counted_answers list (Load at size) = record { value = 511; signal = Quiet; list = list }
counted_answers list (Store at size value) = record { value = 0; signal = Byte (value % 251); list = list }
