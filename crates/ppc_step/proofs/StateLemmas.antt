-- The state that a step leaves.
use Rattle.std.proofs.Common.{◌≡◌, ℕ, ◌≤◌, Bool, true, false, if◌then◌else◌, List, [], ◌∷◌, length, Option, Some, None, refl, sym, ap, ◌∙◌, arith}
use Rattle.std.specs.List.{AllByRecursion}
use Rattle.journal_core.specs.declared.causes.Cause.{Cause}
use Rattle.journal_core.specs.declared.asks.Ask.{Ask}
use Rattle.journal_core.specs.declared.asks.Found.{Found}
use Rattle.journal_core.specs.declared.asks.Found.TheVariants.{Real, Fault, Stop}
use Rattle.journal_core.specs.declared.rows.Use.{Use}
use Rattle.journal_core.specs.declared.rows.Use.TheVariants.{Unused, Real as RealUse, Hit, Walked, Faulted}
use Rattle.journal_core.specs.declared.rows.ReadRow.{ReadRow}
use Rattle.journal_core.specs.declared.rows.StopName.{StopName}
use Rattle.journal_core.specs.declared.rows.StopName.TheVariants.{GuestZero}
use Rattle.journal_core.specs.declared.rows.DeviceRow.{DeviceRow}
use Rattle.journal_core.specs.declared.rows.StepEnd.{StepEnd}
use Rattle.journal_core.specs.Steps.{StepRows}
use Rattle.journal_core.specs.Past.{ram_after}
use Rattle.journal_core.specs.Turns.{Mark, Query, query_of, Turn}
use Rattle.journal_core.specs.Choice.{ByKind, IsFault, IsStop}
use Rattle.journal_core.specs.Answers.{IsHit, IsWalked, IsAnswer, AreAnswered, uses_of}
use Rattle.form_outcomes.specs.Outcomes.{Outcome, Goes, Takes, Stops}
use Rattle.ppc_bus.specs.Windows.{Window}
use Rattle.thread_regs.specs.declared.registers.Thread.{Thread}
use Rattle.interrupts.specs.PendingCauses.{pending_cause}
use Rattle.storage_ops.specs.Reaching.{reached, first_use, second_use}
use Rattle.storage_ops.specs.Effects.{After, around, behind, answer_in, windows_after}
use Rattle.ppc_step.specs.States.{State, state_of, word_at}
use Rattle.ppc_step.specs.Words.{word_asks, word_outcome}
use Rattle.ppc_step.specs.Steps.{is_guest_zero, word_unless, word_by, behind_first, data_asks, asks_unless_ended, step_asks, fetched, fetched_outcome, found_outcome, outcome_unless, step_outcome, ticked_with, is_done, threads_undone, threads_after}
use Rattle.ppc_step.specs.Rule.{thread_in, all_shown, data_uses, registers_behind, behind_step, next_state}
use Rattle.ppc_step.proofs.ShownLemmas.{Shows, shown_outcome, few_asks}

-- ---- the asks

reached_few : (asks : List Ask) (founds : List Found) → length (reached asks founds) ≤ length asks
reached_few [] founds = omega arith
reached_few (ask ∷ asks) [] = omega arith
reached_few (ask ∷ asks) (Real at used ∷ founds) = omega (arith, reached_few asks founds)
reached_few (ask ∷ asks) (Fault cause used ∷ founds) = omega arith
reached_few (ask ∷ asks) (Stop name value ∷ founds) = omega arith

few_data : (t : Thread) (o : Option ℕ) (founds : List Found) → length (data_asks t o founds) ≤ 2
few_data t None founds = omega arith
few_data t (Some word) founds = omega (arith, reached_few (word_asks word t) founds, few_asks word t)

few_unless_ended : (p : Option Cause) (zero : Bool) (t : Thread) (ram : List ℕ) (founds : List Found) → length (asks_unless_ended p zero t ram founds) ≤ 3
few_unless_ended (Some cause) zero t ram founds = omega arith
few_unless_ended None true t ram founds = omega arith
few_unless_ended None false t ram founds = omega (arith, few_data t (word_by ram founds) (behind_first founds))

-- a step has at most three asks
pub few_step_asks : (t : Thread) (ram : List ℕ) (founds : List Found) → length (step_asks t ram founds) ≤ 3
few_step_asks t ram founds = few_unless_ended (pending_cause t) (is_guest_zero t) t ram founds

-- each ask has an answer
pub all_answered : (answers : Mark → Ask → Found → Mark → Type 0) (before after : Mark) (asks : List Ask) (founds : List Found) → AreAnswered answers before asks founds after → length founds ≡ length asks
all_answered answers before after [] [] h = refl
all_answered answers before after [] (found ∷ founds) h = absurd h
all_answered answers before after (ask ∷ asks) [] h = absurd h
all_answered answers before after (ask ∷ asks) (found ∷ founds) h = omega (arith, all_answered answers h.0 after asks founds h.3)

-- ---- what the uses show

-- an answer that keeps the rule is shown by its use
one_shows : (q : Query) (rs : List ReadRow) (found : Found) (after : Mark) → ByKind q (IsHit q rs) (IsWalked q rs) (IsFault q) (IsStop q) found after → Shows found
one_shows q rs (Real a (RealUse b)) after h = ap (λ x. Real x (RealUse b) ∷ []) h.1
one_shows q rs (Real a (Hit i b)) after h = ap (λ x. Real x (Hit i b) ∷ []) h.1
one_shows q rs (Real a (Walked i b)) after h = ap (λ x. Real x (Walked i b) ∷ []) h.1
one_shows q rs (Real a (Faulted first count)) after h = absurd h
one_shows q rs (Real a Unused) after h = absurd h
one_shows q rs (Fault cause used) after h = tt
one_shows q rs (Stop name value) after h = tt

pub all_show : (past : ℕ → ℕ → Option ℕ) (word : ℕ → Option ℕ) (v : Turn) (before after : Mark) (asks : List Ask) (founds : List Found) → AreAnswered (λ b ask f a. IsAnswer past (query_of v word b ask) f a) before asks founds after → AllByRecursion Shows founds
all_show past word v before after [] [] h = tt
all_show past word v before after [] (found ∷ founds) h = absurd h
all_show past word v before after (ask ∷ asks) [] h = absurd h
all_show past word v before after (ask ∷ asks) (found ∷ founds) h = (one_shows (query_of v word before ask) h.2.readings found h.0 h.2.walk, all_show past word v h.0 after asks founds h.3)

shown_data : (found : Found) (more : List Found) → data_uses (uses_of (found ∷ more)) ≡ first_use more ∷ second_use more ∷ []
shown_data found [] = refl
shown_data found (a ∷ []) = refl
shown_data found (a ∷ b ∷ more) = refl

takes_not : {A : Type 0} (cause : Cause) (x : A) → Takes cause ≡ Goes x → ⊥
takes_not cause x e = cc

stops_not : {A : Type 0} (name : StopName) (value : ℕ) (x : A) → Stops name value ≡ Goes x → ⊥
stops_not name value x e = cc

-- ---- the registers behind a step that goes on

behind_word : (s : State) (own : StepRows) (t : Thread) (used : Use) (at : ℕ) (more : List Found) (a : After) (o : Option ℕ) → AllByRecursion Shows more → length more ≡ length (data_asks t o more) →
    own.row.uses ≡ uses_of (Real at used ∷ more) → fetched_outcome t at o (around s.windows s.ram more (answer_in own.devices)) ≡ Goes a → registers_behind s own o t ≡ a.thread
behind_word s own t used at more a None shows few uses goes = absurd (stops_not _ _ a goes)
behind_word s own t used at more a (Some word) shows few uses goes =
    let these : data_uses own.row.uses ≡ first_use more ∷ second_use more ∷ [] = ap data_uses uses ∙ shown_data (Real at used) more in
    let alike : word_outcome word t (around s.windows s.ram (all_shown (first_use more ∷ second_use more ∷ [])) (answer_in own.devices)) ≡ Goes a =
    shown_outcome word t s.windows s.ram more (answer_in own.devices) a shows (omega (arith, few, few_data t (Some word) more)) goes in
    ap (λ us. (behind (word_outcome word t (around s.windows s.ram (all_shown us) (answer_in own.devices))) t).thread) these ∙ ap (λ (out : Outcome After). (behind out t).thread) alike

behind_found : (s : State) (own : StepRows) (t : Thread) (founds : List Found) (a : After) → AllByRecursion Shows founds → length founds ≡ length (asks_unless_ended None false t s.ram founds) →
    own.row.uses ≡ uses_of founds → found_outcome t s.windows s.ram founds (answer_in own.devices) ≡ Goes a → registers_behind s own (word_by s.ram founds) t ≡ a.thread
behind_found s own t [] a shows few uses goes = absurd (omega (arith, few))
behind_found s own t (Real at used ∷ more) a shows few uses goes = behind_word s own t used at more a (word_at s.ram at) shows.1 (omega (arith, few)) uses goes
behind_found s own t (Fault cause used ∷ founds) a shows few uses goes = absurd (takes_not cause a goes)
behind_found s own t (Stop name value ∷ founds) a shows few uses goes = absurd (stops_not name value a goes)

behind_unless : (p : Option Cause) (zero : Bool) (s : State) (own : StepRows) (t : Thread) (founds : List Found) (a : After) → AllByRecursion Shows founds → length founds ≡ length (asks_unless_ended p zero t s.ram founds) →
    own.row.uses ≡ uses_of founds → outcome_unless p zero (found_outcome t s.windows s.ram founds (answer_in own.devices)) ≡ Goes a → registers_behind s own (word_unless p zero s.ram founds) t ≡ a.thread
behind_unless (Some cause) zero s own t founds a shows few uses goes = absurd (takes_not cause a goes)
behind_unless None true s own t founds a shows few uses goes = absurd (stops_not GuestZero 0 a goes)
behind_unless None false s own t founds a shows few uses goes = behind_found s own t founds a shows few uses goes

-- the registers that the row of a step shows are those that its form leaves
pub behind_shown : (s : State) (own : StepRows) (t : Thread) (founds : List Found) (a : After) → t ≡ thread_in s own → AllByRecursion Shows founds → length founds ≡ length (step_asks t s.ram founds) →
    own.row.uses ≡ uses_of founds → own.row.word ≡ fetched t s.ram founds → step_outcome t s.windows s.ram founds (answer_in own.devices) ≡ Goes a → a.thread ≡ behind_step s own
behind_shown s own t founds a is shows few uses word goes =
    sym (ap (λ u. registers_behind s own own.row.word u) (sym is) ∙ (ap (λ o. registers_behind s own o t) word ∙ behind_unless (pending_cause t) (is_guest_zero t) s own t founds a shows few uses goes))

-- ---- the state

threads_alike : (number : ℕ) (t u : Thread) (threads : List Thread) (end : StepEnd) (devices : List DeviceRow) → (is_done end devices ≡ true → t ≡ u) → threads_after number t threads end devices ≡ threads_after number u threads end devices
threads_alike number t u threads end devices same = either (is_done end devices) same
  where
    either : (b : Bool) → (b ≡ true → t ≡ u) → (if b then ticked_with number t threads else threads_undone number threads end) ≡ (if b then ticked_with number u threads else threads_undone number threads end)
    either true same = ap (λ x. ticked_with number x threads) (same refl)
    either false same = refl

made : List Thread → List ℕ → List (Option Window) → State
made threads ram windows = state_of threads ram windows

pub state_is : (s : State) (own : StepRows) (t : Thread) (threads' : List Thread) (ram' : List ℕ) (windows' : List (Option Window)) →
    threads' ≡ threads_after own.row.thread t s.threads own.row.end own.devices → (is_done own.row.end own.devices ≡ true → t ≡ behind_step s own) → ram' ≡ ram_after s.ram own.writes → windows' ≡ windows_after s.windows own.devices →
    state_of threads' ram' windows' ≡ next_state s own
unfolding next_state made
state_is s own t threads' ram' windows' threads same ram windows =
    ap (λ x. made x ram' windows') (threads ∙ threads_alike own.row.thread t (behind_step s own) s.threads own.row.end own.devices same)
    ∙ (ap (λ x. made (threads_after own.row.thread (behind_step s own) s.threads own.row.end own.devices) x windows') ram
    ∙ ap (λ x. made (threads_after own.row.thread (behind_step s own) s.threads own.row.end own.devices) (ram_after s.ram own.writes) x) windows)
