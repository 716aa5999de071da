-- Which parts of an access are refused, where they lie in real storage.
use Rattle.std.specs.Prelude.{◌≡◌, ℕ, ◌+◌, nat_le, ◌&&◌, if◌then◌else◌, Bool, true, false, List, [], ◌∷◌, Option, Some, None}
use Rattle.journal_core.specs.declared.rows.Signal.{Signal}
use Rattle.journal_core.specs.declared.rows.Signal.TheVariants.{Quiet, Byte, Stop, Eject}
use Rattle.journal_core.specs.declared.rows.StopName.{StopName}
use Rattle.journal_core.specs.declared.rows.StopName.TheVariants.{NoStorage, DeviceAccess}
use Rattle.form_outcomes.specs.Outcomes.{Outcome, Stops}
use Rattle.ppc_bus.specs.Windows.{Window}
use Rattle.ppc_bus.specs.Holding.{window_at, is_access}
use Rattle.storage_ops.specs.declared.parts.Part.{Part}

-- Why a part is refused, by the window that holds its first byte and by whether it may be an access of a device: one is
-- refused whose first byte is in a window and which may not, and any other that does not lie in RAM whole, which has so many bytes.
abbrev pub refusal_by : Option (ℕ × ℕ) → Bool → ℕ → Part → Option (StopName × ℕ)
refusal_by (Some place) true bytes p = None
refusal_by (Some place) false bytes p = Some (DeviceAccess, p.at)
refusal_by None may bytes p = if nat_le (p.at + p.size) bytes then None else Some (NoStorage, p.at)

-- a device takes no part of an access, and only one that its size divides
abbrev pub refusal_of : List (Option Window) → Bool → ℕ → Part → Option (StopName × ℕ)
refusal_of windows whole bytes p = refusal_by (window_at windows p.at) (whole && is_access p.at p.size) bytes p

-- the first of two refusals
abbrev pub first_of : Option (StopName × ℕ) → Option (StopName × ℕ) → Option (StopName × ℕ)
first_of (Some stop) next = Some stop
first_of None next = next

-- why the first part is refused that is
abbrev pub first_refusal : List (Option Window) → Bool → ℕ → List Part → Option (StopName × ℕ)
first_refusal windows whole bytes [] = None
first_refusal windows whole bytes (p ∷ ps) = first_of (refusal_of windows whole bytes p) (first_refusal windows whole bytes ps)

-- a refused access stops the machine before anything moves
abbrev pub unless_refused : {A : Type 0} → Option (StopName × ℕ) → Outcome A → Outcome A
unless_refused (Some stop) outcome = Stops stop.0 stop.1
unless_refused None outcome = outcome

-- the window of a device that holds an access of one part
abbrev pub device_of : List (Option Window) → List Part → Option (ℕ × ℕ)
device_of windows [] = None
device_of windows (p ∷ []) = window_at windows p.at
device_of windows (p ∷ (q ∷ ps)) = None

-- a port without the device that a signal ejects; no other signal changes it
abbrev pub Ejects : {P : Type 0} → (P → ℕ → P → Type 0) → Signal → P → P → Type 0
Ejects empties (Eject slot) old new = empties old slot new
Ejects empties Quiet old new = new ≡ old
Ejects empties (Byte b) old new = new ≡ old
Ejects empties Stop old new = new ≡ old
