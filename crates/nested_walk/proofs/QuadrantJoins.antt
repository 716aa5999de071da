-- What a quadrant gives is where an ask points.
use Rattle.std.proofs.Common.{◌≡◌, ℕ, Bool, true, false, refl, Option, None}
use Rattle.std.specs.Prelude.{◌==◌, ◌||◌, if◌then◌else◌}
use Rattle.journal_core.specs.declared.asks.Ask.{Ask}
use Rattle.journal_core.specs.declared.asks.Place.{Place}
use Rattle.journal_core.specs.Asks.{bits, is_hypervisor, is_problem}
use Rattle.journal_core.specs.Places.{hypervisor_quadrant, guest_quadrant}
use Rattle.table_formats.specs.declared.quadrants.Space.{Space}
use Rattle.table_formats.specs.Quadrants.{space, space_of, hypervisor_space, guest_space}
use Rattle.nested_walk.specs.Targets.{place_in}

-- the place that a space gives is chosen as the space is
chosen : (ask : Ask) (b : Bool) (x y : Place) (s t : Option Space) → x ≡ place_in ask s → y ≡ place_in ask t → (if b then x else y) ≡ place_in ask (if b then s else t)
chosen ask true x y s t e f = e
chosen ask false x y s t e f = f

in_hypervisor : (ask : Ask) (q : ℕ) → hypervisor_quadrant ask q ≡ place_in ask (hypervisor_space (is_problem ask) ask.lpid ask.pid q)
in_hypervisor ask q =
    chosen ask (q == 0) _ _ (space 0 ask.pid) _ refl
    (chosen ask (q == 3) _ _ (space 0 0) _ refl
    (chosen ask (is_problem ask || (ask.lpid == 0)) _ _ None _ refl
    (chosen ask (q == 1) _ _ (space ask.lpid ask.pid) (space ask.lpid 0) refl refl)))

in_guest : (ask : Ask) (q : ℕ) → guest_quadrant ask q ≡ place_in ask (guest_space ask.lpid ask.pid q)
in_guest ask q = chosen ask (q == 0) _ _ (space ask.lpid ask.pid) _ refl (chosen ask (q == 3) _ _ (space ask.lpid 0) None refl refl)

pub quadrant_joins : (ask : Ask) → (if is_hypervisor ask then hypervisor_quadrant ask (bits ask.ea 0 1) else guest_quadrant ask (bits ask.ea 0 1)) ≡ place_in ask (space_of ask.ea ask.msr ask.lpid ask.pid)
unfolding space_of
quadrant_joins ask = chosen ask (is_hypervisor ask) _ _ _ _ (in_hypervisor ask (bits ask.ea 0 1)) (in_guest ask (bits ask.ea 0 1))
