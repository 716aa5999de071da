use Rattle.std.specs.Prelude.{ℕ, ◌+◌, ◌%◌, ◌^◌, ◌==◌, List, [], ◌∷◌, drop, length, if◌then◌else◌}
use Rattle.journal_core.specs.declared.rows.Signal.TheVariants.{Quiet, Byte, Stop, Eject}
use Rattle.ppc_bus.specs.Devices.{Access, Reply, Load, Store}

-- what a load gives, and what a store signals, with the list that the device then means
abbrev pub given : ℕ → List ℕ → Reply
given value list = record { value = value; signal = Quiet; list = list }

-- the first number of a list, or another number where there is none
abbrev pub first_or : ℕ → List ℕ → ℕ
first_or other [] = other
first_or other (number ∷ more) = number

-- The console means one number: how many bytes were shown so far, modulo 2^64. Every load gives it. A store at 0 shows the
-- low 8 bits and counts.
abbrev pub console_list : ℕ → List ℕ
console_list count = count ∷ []

abbrev pub console_answers : List ℕ → Access → Reply
console_answers list (Load at size) = given (first_or 0 list) list
console_answers list (Store at size value) =
    if at == 0
    then record { value = 0; signal = Byte (value % 256); list = console_list ((first_or 0 list + 1) % 2 ^ 64) }
    else given 0 list

-- The control means nothing. A store at 0 stops, and a store at 8 ejects the slot that its low 8 bits name.
abbrev pub control_answers : List ℕ → Access → Reply
control_answers list (Load at size) = given 0 list
control_answers list (Store at size value) =
    if at == 0
    then record { value = 0; signal = Stop; list = list }
    else if at == 8
    then record { value = 0; signal = Eject (value % 256); list = list }
    else given 0 list

-- The tape means the bytes that are left. A load at 0 takes the next one and gives it, or gives 256 where none is left; a
-- load at 8 gives how many are left.
abbrev pub tape_answers : List ℕ → Access → Reply
tape_answers list (Load at size) =
    if at == 0
    then given (first_or 256 list) (drop 1 list)
    else if at == 8
    then given (length list) list
    else given 0 list
tape_answers list (Store at size value) = given 0 list
