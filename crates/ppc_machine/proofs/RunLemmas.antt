-- Runs, one step after another.
use Rattle.std.proofs.Common.{append-nil, ap, subst, ◌≡◌, ℕ, zero, suc, ◌+◌, ◌<◌, ◌≤◌, nat_le, Bool, true, false, List, [], ◌∷◌, ◌++◌, length, slice_get, Option, Some, None, refl, sym, ◌∙◌, arith}
use Rattle.std.proofs.lemmas.Bool.{leb-false, leb-true}
use Rattle.std.proofs.lemmas.List.{length-append}
use Rattle.journal_core.specs.declared.rows.RowKind.{RowKind}
use Rattle.journal_core.specs.declared.rows.StopName.{StopName}
use Rattle.journal_core.specs.declared.rows.StepEnd.{StepEnd}
use Rattle.journal_core.specs.Rows.{Rows, JournalView}
use Rattle.journal_core.specs.Room.{room_of, HasRoom}
use Rattle.journal_core.specs.Steps.{with_own, IsDated, first_steps}
use Rattle.journal_core.specs.Ends.{stop_of, IsRunning, end_by, ended_of, thread_of_row, Grows}
use Rattle.journal_core.proofs.StepsLemmas.{first_steps-all, first_steps-own}
use Rattle.journal_core.proofs.RunsLemmas.{state_after-push}
use Rattle.journal_core.specs.declared.rows.DeviceRow.{DeviceRow}
use Rattle.ppc_bus.specs.declared.slots.Slot.{Slot}
use Rattle.sched_text.specs.Plan.{Plan, turn}
use Rattle.ppc_machine.specs.MachineView.{MachineView}
use Rattle.ppc_machine.specs.Machines.{StepsOn, Asks}
use Rattle.ppc_bus.specs.Chains.{Chain}
use Rattle.ppc_machine.proofs.ViewLemmas.{Relation, rows_of_step}

-- a run goes on only where none of its ends is met
pub record GoesOn (n reserved : ℕ) (j : Rows) : Type 0 where
  pub running : IsRunning j.steps
  pub fewer : length j.steps < n
  pub room : HasRoom reserved j

goes_on : (stop : Option (StopName × ℕ)) (all : Bool) (next : Option ℕ) (full : Option (RowKind × ℕ)) → end_by stop all next full ≡ None → (stop ≡ None) × (all ≡ false) × (full ≡ None)
goes_on (Some stop) all next full none = cc
goes_on None true next full none = cc
goes_on None false None full none = cc
goes_on None false (Some t) (Some full) none = cc
goes_on None false (Some t) None none = (refl, refl, refl)

pub GoesOn-none : (n : ℕ) (next : Option ℕ) (reserved : ℕ) (j : Rows) → ended_of n next reserved j ≡ None → GoesOn n reserved j
unfolding ended_of
GoesOn-none n next reserved j none =
    let parts = goes_on (stop_of j.steps) (nat_le n (length j.steps)) next (room_of reserved j) none in
    record { running = parts.0; fewer = leb-false n (length j.steps) parts.1; room = parts.2 }

pub Grows-step : {D : Type 0} (related : Relation D) (first : JournalView) (old new : MachineView D) (t : ℕ) (end : StepEnd) → Grows first old.journal → StepsOn related old new t end → Grows first new.journal
Grows-step related first old new t end grows on = record {
  more = grows.more ++ on.steps.own ∷ [];
  rows = rw (on.steps.journal, grows.rows, state_after-push) refl;
}

-- one more row
pub length-rows : {D : Type 0} (related : Relation D) (old new : MachineView D) (t : ℕ) (end : StepEnd) → StepsOn related old new t end → length new.journal.rows.steps ≡ length old.journal.rows.steps + 1
unfolding with_own
length-rows related old new t end on = rw (on.steps.journal, length-append) refl

get-last : {X : Type 0} (xs : List X) (x : X) (k : ℕ) → k ≡ length xs → slice_get (xs ++ x ∷ []) k ≡ Some x
get-last [] x k is = rw is refl
get-last (y ∷ xs) x zero is = absurd (omega (arith, is))
get-last (y ∷ xs) x (suc k) is = get-last xs x k (omega (arith, is))

get-front : {X : Type 0} (xs : List X) (x : X) (k : ℕ) → k < length xs → slice_get (xs ++ x ∷ []) k ≡ slice_get xs k
get-front [] x k below = absurd (omega (arith, below))
get-front (y ∷ xs) x zero below = refl
get-front (y ∷ xs) x (suc k) below = get-front xs x k (omega (arith, below))

pub thread-last : {D : Type 0} (related : Relation D) (old new : MachineView D) (t : ℕ) (end : StepEnd) → StepsOn related old new t end → thread_of_row new.journal.rows.steps (length old.journal.rows.steps) ≡ Some t
unfolding with_own thread_of_row
thread-last related old new t end on =
    rw (on.steps.journal, get-last old.journal.rows.steps on.steps.own.row (length old.journal.rows.steps) refl, on.steps.thread) refl

pub thread-front : {D : Type 0} (related : Relation D) (old new : MachineView D) (t : ℕ) (end : StepEnd) (k : ℕ) → k < length old.journal.rows.steps → StepsOn related old new t end → thread_of_row new.journal.rows.steps k ≡ thread_of_row old.journal.rows.steps k
unfolding with_own thread_of_row
thread-front related old new t end k below on = rw (on.steps.journal, get-front old.journal.rows.steps on.steps.own.row k below) refl

pub first-front : {D : Type 0} (related : Relation D) (old new : MachineView D) (t : ℕ) (end : StepEnd) (k : ℕ) → k ≤ length old.journal.rows.steps → StepsOn related old new t end → first_steps k new.journal.rows ≡ first_steps k old.journal.rows
first-front related old new t end k below on =
    rw on.steps.journal (first_steps-own k old.journal.rows on.steps.own below on.steps.is_own on.steps.number)

-- all of a run's steps from `low` on were steps of their turns, and none was made where the run had ended
pub record Goes (n reserved low : ℕ) (p : Plan) (j : Rows) : Type 0 where
  pub exact : (k : ℕ) → low ≤ k → k < length j.steps → ended_of n (turn p k) reserved (first_steps k j) ≡ None
  pub turns : (k : ℕ) → low ≤ k → k < length j.steps → thread_of_row j.steps k ≡ turn p k

pub Goes-none : (n reserved low : ℕ) (p : Plan) (j : Rows) → length j.steps ≤ low → Goes n reserved low p j
Goes-none n reserved low p j few = record {
  exact = λ k above below. absurd (omega (arith, few, above, below));
  turns = λ k above below. absurd (omega (arith, few, above, below));
}

step-exact : {D : Type 0} (related : Relation D) (n reserved low : ℕ) (p : Plan) (old new : MachineView D) (t : ℕ) (end : StepEnd) → Goes n reserved low p old.journal.rows → IsDated old.journal.rows → StepsOn related old new t end →
    ended_of n (turn p (length old.journal.rows.steps)) reserved old.journal.rows ≡ None →
    (k : ℕ) (early : Bool) → nat_le (length old.journal.rows.steps) k ≡ early → low ≤ k → k < length old.journal.rows.steps + 1 → ended_of n (turn p k) reserved (first_steps k new.journal.rows) ≡ None
step-exact related n reserved low p old new t end goes dated on none k true late above below =
    let k_is : k ≡ length old.journal.rows.steps = omega (arith, leb-true (length old.journal.rows.steps) k late, below) in
    rw (k_is, first-front related old new t end (length old.journal.rows.steps) (omega arith) on, first_steps-all old.journal.rows dated) none
step-exact related n reserved low p old new t end goes dated on none k false late above below =
    let k_below : k < length old.journal.rows.steps = leb-false (length old.journal.rows.steps) k late in
    rw (first-front related old new t end k (omega (arith, k_below)) on) (goes.exact k above k_below)

step-turns : {D : Type 0} (related : Relation D) (n reserved low : ℕ) (p : Plan) (old new : MachineView D) (t : ℕ) (end : StepEnd) → Goes n reserved low p old.journal.rows → StepsOn related old new t end →
    turn p (length old.journal.rows.steps) ≡ Some t →
    (k : ℕ) (early : Bool) → nat_le (length old.journal.rows.steps) k ≡ early → low ≤ k → k < length old.journal.rows.steps + 1 → thread_of_row new.journal.rows.steps k ≡ turn p k
step-turns related n reserved low p old new t end goes on here k true late above below =
    let k_is : k ≡ length old.journal.rows.steps = omega (arith, leb-true (length old.journal.rows.steps) k late, below) in
    rw k_is (thread-last related old new t end on ∙ sym here)
step-turns related n reserved low p old new t end goes on here k false late above below =
    let k_below : k < length old.journal.rows.steps = leb-false (length old.journal.rows.steps) k late in
    thread-front related old new t end k k_below on ∙ goes.turns k above k_below

-- one more step of its turn, where the run had not ended
pub Goes-step : {D : Type 0} (related : Relation D) (n reserved low : ℕ) (p : Plan) (old new : MachineView D) (t : ℕ) (end : StepEnd) → Goes n reserved low p old.journal.rows → IsDated old.journal.rows → StepsOn related old new t end →
    ended_of n (turn p (length old.journal.rows.steps)) reserved old.journal.rows ≡ None → turn p (length old.journal.rows.steps) ≡ Some t → Goes n reserved low p new.journal.rows
Goes-step related n reserved low p old new t end goes dated on none here =
    let long = length-rows related old new t end on in
    record {
      exact = λ k above below. step-exact related n reserved low p old new t end goes dated on none k _ refl above (rw long at below);
      turns = λ k above below. step-turns related n reserved low p old new t end goes on here k _ refl above (rw long at below);
    }

-- the number of threads, the entry, the windows as plugged, and what the devices gave, one step more
joined : {X : Type 0} (xs ys zs : List X) → (xs ++ ys) ++ zs ≡ xs ++ (ys ++ zs)
joined [] ys zs = refl
joined (x ∷ xs) ys zs = ap (λ ws. x ∷ ws) (joined xs ys zs)

Chain-join : {D : Type 0} (related : Relation D) (a b c : List (Option (Slot D))) (xs ys : List DeviceRow) → Chain related a xs b → Chain related b ys c → Chain related a (xs ++ ys) c
unfolding Chain
Chain-join related a b c [] ys first next = subst (λ s. Chain related s ys c) first next
Chain-join related a b c (x ∷ xs) ys first next = (first.0, first.1, Chain-join related first.0 b c xs ys first.2 next)

pub Asks-none : {D : Type 0} (related : Relation D) (m : MachineView D) → Asks related m m
unfolding Chain
Asks-none related m = record { rows = []; added = sym (append-nil m.journal.rows.devices); chain = refl }

pub Asks-step : {D : Type 0} (related : Relation D) (first old new : MachineView D) (t : ℕ) (end : StepEnd) → Asks related first old → StepsOn related old new t end → Asks related first new
unfolding with_own
Asks-step related first old new t end asks on = record {
  rows = asks.rows ++ on.steps.own.devices;
  added = ap (λ (j : Rows). j.devices) (rows_of_step related old new t end on) ∙ (ap (λ (ds : List DeviceRow). ds ++ on.steps.own.devices) asks.added ∙ joined first.journal.rows.devices asks.rows on.steps.own.devices);
  chain = Chain-join related first.slots old.slots new.slots asks.rows on.steps.own.devices asks.chain on.steps.devices;
}
