-- The events of a run of two steps, by computation; each line says which definitions it exercises.
use Rattle.std.proofs.Common.{◌≡◌, ℕ, ◌+◌, List, [], ◌∷◌, None, refl}
use Rattle.journal_core.specs.Steps.{StepRows}
use Rattle.journal_core.specs.Runs.{Event, made_after, events_of, AreCounted}
use Rattle.journal_core.specs.declared.rows.StepEnd.TheVariants.{Ran}
use Rattle.journal_core.specs.declared.rows.Use.TheVariants.{Unused}

-- step n, of a thread, that has no other rows
abbrev own : ℕ → ℕ → StepRows
own n thread = record { number = n; row = record { thread = thread; cia = 0; word = None; end = Ran; uses = Unused ∷ Unused ∷ Unused ∷ [] }; reads = []; fills = []; writes = []; dones = []; devices = [] }

-- each step adds 4 to the state, and its deed is the state that it found
abbrev after : ℕ → StepRows → ℕ
after s own = s + 4

abbrev found : ℕ → StepRows → ℕ
found s own = s

abbrev event : ℕ → ℕ → ℕ → Event ℕ
event step thread deed = record { step = step; thread = thread; deed = deed }

abbrev events : List (Event ℕ)
events = events_of found (made_after after [] 0x100 (own 0 1 ∷ own 1 0 ∷ []))

-- the last event comes first, and each deed is read off the state before its step (events_of, event_of, made_after)
last_comes_first : events ≡ event 1 0 0x104 ∷ event 0 1 0x100 ∷ []
unfolding made_after
last_comes_first = refl

-- each event's step is the number of those before it (AreCounted)
are_counted : AreCounted events
unfolding made_after
are_counted = (refl, (refl, tt))
