use Rattle.std.specs.Prelude.{ℕ, ◌≡◌, ◌+◌, ◌&&◌, nat_lt, Bool, List, [], ◌∷◌, if◌then◌else◌, Option, Some, None}
use Rattle.ppc_bus.specs.Windows.{Window}

-- two windows share an address, where neither is empty
abbrev pub meets : Window → Window → Bool
meets a b = nat_lt a.place (b.place + b.size) && nat_lt b.place (a.place + a.size)

-- the first slot from a number on whose window another window meets
unfoldable pub met_from : ℕ → List (Option Window) → Window → Option ℕ
met_from slot [] window = None
met_from slot (None ∷ more) window = met_from (slot + 1) more window
met_from slot (Some other ∷ more) window = if meets other window then Some slot else met_from (slot + 1) more window

-- no two windows share an address: the first one meets none of the others, and these are apart
unfoldable pub AreApart : List (Option Window) → Type 0
AreApart [] = Unit {0}
AreApart (None ∷ more) = AreApart more
AreApart (Some window ∷ more) = (met_from 0 more window ≡ None) × AreApart more
