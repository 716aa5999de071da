-- The asks of an access, and what their answers come to.
use Rattle.std.specs.Prelude.{◌≡◌, ℕ, List, [], ◌∷◌, map, if◌then◌else◌, Option, Some, None, Result, Ok, Err}
use Rattle.journal_core.specs.declared.asks.AccessKind.{AccessKind}
use Rattle.journal_core.specs.declared.asks.Ask.{Ask}
use Rattle.journal_core.specs.declared.asks.Found.{Found}
use Rattle.journal_core.specs.declared.asks.Found.TheVariants as founds_of
use Rattle.journal_core.specs.declared.rows.Use.{Use}
use Rattle.journal_core.specs.declared.rows.Use.TheVariants.{Unused}
use Rattle.journal_core.specs.Answers.{use_of}
use Rattle.journal_core.specs.declared.rows.StepEnd.{StepEnd}
use Rattle.journal_core.specs.declared.rows.StepEnd.TheVariants.{Took, Stopped}
use Rattle.form_outcomes.specs.Outcomes.{Outcome, Goes, Takes, Stops}
use Rattle.thread_regs.specs.declared.registers.Thread.{Thread}
use Rattle.storage_ops.specs.declared.deeds.Deed.{Deed}
use Rattle.storage_ops.specs.declared.parts.Part.{Part}
use Rattle.storage_ops.specs.declared.parts.Parts.{Parts}
use Rattle.storage_ops.specs.declared.answering.Answers.{Answers}
use Rattle.storage_ops.specs.Parts.{part}
use Rattle.storage_ops.specs.Deeds.{parts_in, kind_in, is_misaligned}

-- a thread asks for an effective address
abbrev pub ask_of : Thread → AccessKind → ℕ → Ask
ask_of t kind at = record { ea = at; access = kind; msr = t.msr.0; lpid = t.lpidr; pid = t.pidr; ptcr = t.ptcr; amr = t.amr; iamr = t.iamr }

-- a thread's ask for each part
abbrev pub asks_for : Thread → AccessKind → List Part → List Ask
asks_for t kind parts = map (λ (p : Part). ask_of t kind p.at) parts

-- the asks of a deed: none where its address is misaligned
abbrev pub asks_of : Deed → Thread → List Ask
asks_of deed t = if is_misaligned deed then [] else asks_for t (kind_in deed) (parts_in deed)

-- the asks that are made where they are answered so: none behind an answer that is no real address
abbrev pub reached : List Ask → List Found → List Ask
reached [] founds = []
reached (ask ∷ asks) [] = ask ∷ asks
reached (ask ∷ asks) (founds_of.Real at used ∷ founds) = ask ∷ reached asks founds
reached (ask ∷ asks) (founds_of.Fault cause used ∷ founds) = ask ∷ []
reached (ask ∷ asks) (founds_of.Stop name value ∷ founds) = ask ∷ []

-- one thing after another: what the second comes to goes by what the first leaves, and there is no second where the first one
-- does not go on
abbrev pub and_then : {A B : Type 0} → Outcome A → (A → Outcome B) → Outcome B
and_then (Goes a) next = next a
and_then (Takes cause) next = Takes cause
and_then (Stops name value) next = Stops name value

-- the parts at the real addresses of the answers, or the interrupt or stop of the first answer that is none
abbrev pub laid : List Part → List Found → Outcome (List Part)
laid [] founds = Goes []
laid (p ∷ ps) [] = Goes []
laid (p ∷ ps) (founds_of.Real at used ∷ founds) = and_then (laid ps founds) (λ more. Goes (part at p.size ∷ more))
laid (p ∷ ps) (founds_of.Fault cause used ∷ founds) = Takes cause
laid (p ∷ ps) (founds_of.Stop name value ∷ founds) = Stops name value

-- the uses of a row for the data of a form whose asks had these answers
abbrev pub first_use : List Found → Use
first_use [] = Unused
first_use (found ∷ founds) = use_of found

abbrev pub second_use : List Found → Use
second_use [] = Unused
second_use (found ∷ founds) = first_use founds

-- the answers to one ask or two, in order
abbrev pub second_in : Option Found → List Found
second_in None = []
second_in (Some found) = found ∷ []

abbrev pub founds_in : Answers → List Found
founds_in answers = answers.first ∷ second_in answers.second

-- the part that is asked for behind an answer: the second, if there is one, behind a real address
abbrev pub next_part : Found → Option Part → Option Part
next_part (founds_of.Real at used) second = second
next_part (founds_of.Fault cause used) second = None
next_part (founds_of.Stop name value) second = None

-- a part by the answer to its ask: at the real address, or how the step ends
abbrev pub PlacesPart : Part → Found → Result Part StepEnd → Type 0
PlacesPart p (founds_of.Real at used) placed = placed ≡ Ok (part at p.size)
PlacesPart p (founds_of.Fault cause used) placed = placed ≡ Err (Took cause)
PlacesPart p (founds_of.Stop name value) placed = placed ≡ Err (Stopped name value)

-- what does not go on ends a step so
abbrev pub EndsAs : {A : Type 0} → Outcome A → StepEnd → Type 0
EndsAs (Goes a) end = ⊥
EndsAs (Takes cause) end = end ≡ Took cause
EndsAs (Stops name value) end = end ≡ Stopped name value

-- a second part behind a real address has an answer
abbrev pub HasAnswer : Option Part → Option Found → Type 0
HasAnswer None found = Unit {0}
HasAnswer (Some p) (Some found) = Unit {0}
HasAnswer (Some p) None = ⊥

abbrev pub IsAllAnswered : Parts → Answers → Type 0
IsAllAnswered parts answers = HasAnswer (next_part answers.first parts.second) answers.second
