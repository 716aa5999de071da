-- Where an ask points (Power ISA, Book III, address translation and quadrants).
use Rattle.std.specs.Prelude.{ℕ, ◌==◌, ◌||◌, if◌then◌else◌}
use Rattle.journal_core.specs.declared.asks.Ask.{Ask}
use Rattle.journal_core.specs.declared.asks.Place.{Place}
use Rattle.journal_core.specs.declared.asks.Place.TheVariants.{Real, GuestReal, Space, Segment}
use Rattle.journal_core.specs.Asks.{bits, is_hypervisor, is_problem, is_relocated}

-- in the space of a process of a partition, at the address without its two highest bits
abbrev pub in_space : Ask → ℕ → ℕ → Place
in_space ask lpid pid = Space lpid pid (bits ask.ea 2 63)

-- hypervisor state: quadrants 0 and 3 are of partition 0, 1 and 2 of the thread's
abbrev pub hypervisor_quadrant : Ask → ℕ → Place
hypervisor_quadrant ask q =
    if q == 0 then in_space ask 0 ask.pid
    else if q == 3 then in_space ask 0 0
    else if is_problem ask || (ask.lpid == 0) then Segment
    else if q == 1 then in_space ask ask.lpid ask.pid
    else in_space ask ask.lpid 0

-- a guest's state: quadrant 0 is of its process, 3 of its kernel
abbrev pub guest_quadrant : Ask → ℕ → Place
guest_quadrant ask q =
    if q == 0 then in_space ask ask.lpid ask.pid
    else if q == 3 then in_space ask ask.lpid 0
    else Segment

-- Where an ask points. A guest's state with partition 0 asks nothing: the machine stops before. With relocation it is
-- the quadrant that decides, the two highest bits of the address; else it is a real address, or in a guest a guest real
-- one, without the four highest bits.
unfoldable pub place_of : Ask → Place
place_of ask =
    if is_relocated ask then (if is_hypervisor ask then hypervisor_quadrant ask (bits ask.ea 0 1) else guest_quadrant ask (bits ask.ea 0 1))
    else if is_hypervisor ask then Real (bits ask.ea 4 63)
    else GuestReal ask.lpid (bits ask.ea 4 63)
