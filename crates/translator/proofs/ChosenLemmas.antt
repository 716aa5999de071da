-- What is chosen, and that it keeps the rule.
use Rattle.std.proofs.Common.{◌≡◌, ℕ, ◌<◌, List, length, Option, Some, arith, ap, sym, refl, subst}
use Rattle.std.specs.Prelude.{slice_get}
use Rattle.std.specs.List.{AllByRecursion}
use Rattle.journal_core.specs.declared.rows.Use.TheVariants.{Unused, Real as RealUse, Hit, Walked, Faulted}
use Rattle.journal_core.specs.declared.rows.DoneRow.{DoneRow}
use Rattle.journal_core.specs.declared.rows.FillRow.{FillRow}
use Rattle.journal_core.specs.declared.asks.Ask.{Ask}
use Rattle.journal_core.specs.declared.asks.Found.{Found}
use Rattle.journal_core.specs.declared.asks.Found.TheVariants.{Real, Fault, Stop}
use Rattle.journal_core.specs.Rows.{JournalView}
use Rattle.journal_core.specs.Turns.{turn_of, turn_in, next_turn, query_of, mark_of}
use Rattle.journal_core.specs.Standing.{AreNamed, IsStanding}
use Rattle.journal_core.specs.Choice.{IsTranslated, IsPermitted, NonePermits, PlainChoice}
use Rattle.journal_core.specs.Early.{PagesChoice}
use Rattle.journal_core.specs.Answers.{IsAnswer}
use Rattle.journal_core.specs.Translating.{IsQuiet, AreTrue, IsFillOfWalk, OnlyAdds}
use Rattle.journal_core.proofs.AddsFacts.{goes_on}
use Rattle.journal_core.proofs.StandingStays.{standing_goes_back}
use Rattle.walk_laws.proofs.ChoiceKeeps.{pages_choice_keeps}
use Rattle.translator.specs.declared.lists.Lists.{Lists}
use Rattle.translator.specs.Fits.{Fits}
use Rattle.translator.proofs.StandingLemmas.{not_gone_if_current}

permitted_back : (old new : JournalView) (t n : ℕ) (ask : Ask) (i real : ℕ) → AreNamed old.rows.reads old.rows.fills → OnlyAdds old new → IsPermitted (turn_of new.rows old.floor t n) (length old.rows.fills) ask i real → IsPermitted (turn_of old.rows old.floor t n) (length old.rows.fills) ask i real
unfolding standing_goes_back
permitted_back old new t n ask i real named o h =
    record { fill = h.fill; standing = standing_goes_back old.rows new.rows old.floor t n (length old.rows.fills) i h.fill (goes_on old new n o) (omega arith) named h.standing; own = h.own; permits = h.permits }

-- where no fill permits beside the old journal, none does beside the new one
none_later : (old new : JournalView) (t n : ℕ) (ask : Ask) → n ≡ length old.rows.steps → AreNamed old.rows.reads old.rows.fills → OnlyAdds old new → NonePermits (next_turn old t) (length old.rows.fills) ask → NonePermits (turn_in new t n) (length old.rows.fills) ask
none_later old new t n ask now named o none =
    subst (λ floor. NonePermits (turn_of new.rows floor t n) (length old.rows.fills) ask) (sym (ap (λ (j : JournalView). j.floor) o.rows))
    (λ i real p. subst (λ m. NonePermits (turn_of old.rows old.floor t m) (length old.rows.fills) ask) (sym now) none i real (permitted_back old new t n ask i real named o p))

by_none : (word : ℕ → Option ℕ) (old new : JournalView) (t n : ℕ) (ask : Ask) (found : Found) → NonePermits (turn_in new t n) (length old.rows.fills) ask → PlainChoice (query_of (turn_in new t n) word (mark_of old.rows) ask) found (mark_of new.rows) →
    PagesChoice (query_of (turn_in new t n) word (mark_of old.rows) ask) found (mark_of new.rows)
by_none word old new t n ask (Real a (RealUse b)) none h = h
by_none word old new t n ask (Real a (Hit i b)) none h = absurd h.2
by_none word old new t n ask (Real a (Walked i b)) none h = (h.0, h.1, (none, h.2))
by_none word old new t n ask (Real a (Faulted first count)) none h = absurd h
by_none word old new t n ask (Real a Unused) none h = absurd h
by_none word old new t n ask (Fault cause (Faulted first count)) none h = (h.0, (none, h.1))
by_none word old new t n ask (Fault cause Unused) none h = absurd h
by_none word old new t n ask (Fault cause (RealUse b)) none h = absurd h
by_none word old new t n ask (Fault cause (Hit i b)) none h = absurd h
by_none word old new t n ask (Fault cause (Walked i b)) none h = absurd h
by_none word old new t n ask (Stop name value) none h = (h.0, (none, h.1))

-- the fresh walk's answer is chosen where no fill permits
pub walk_chosen : (word : ℕ → Option ℕ) (old new : JournalView) (t n : ℕ) (ask : Ask) (found : Found) → n ≡ length old.rows.steps → AreNamed old.rows.reads old.rows.fills → OnlyAdds old new → NonePermits (next_turn old t) (length old.rows.fills) ask →
    PlainChoice (query_of (turn_in new t n) word (mark_of old.rows) ask) found (mark_of new.rows) → PagesChoice (query_of (turn_in new t n) word (mark_of old.rows) ask) found (mark_of new.rows)
walk_chosen word old new t n ask found now named o none h = by_none word old new t n ask found (none_later old new t n ask now named o none) h

-- a fill that permits is chosen
pub hit_chosen : (word : ℕ → Option ℕ) (j : JournalView) (t n : ℕ) (ask : Ask) (i real : ℕ) → n ≡ length j.rows.steps → IsTranslated ask → IsPermitted (next_turn j t) (length j.rows.fills) ask i real →
    PagesChoice (query_of (turn_in j t n) word (mark_of j.rows) ask) (Real real (Hit i real)) (mark_of j.rows)
hit_chosen word j t n ask i real now away h = (away, refl, (subst (λ m. IsPermitted (turn_in j t m) (length j.rows.fills) ask i real) (sym now) h, (refl, refl)))

-- what is chosen keeps the rule
pub chosen_answers : (past : ℕ → ℕ → Option ℕ) (s : Lists) (old new : JournalView) (t n : ℕ) (ask : Ask) (found : Found) (values : List ℕ) → n ≡ length old.rows.steps → t < s.threads → slice_get values t ≡ Some ask.ptcr → Fits s old values → AreNamed old.rows.reads old.rows.fills → IsQuiet old.rows → OnlyAdds old new → AreTrue past old.rows →
    PagesChoice (query_of (turn_in new t n) (past n) (mark_of old.rows) ask) found (mark_of new.rows) → IsAnswer past (query_of (turn_in new t n) (past n) (mark_of old.rows) ask) found (mark_of new.rows)
chosen_answers past s old new t n ask found values now below value h named quiet o stood chosen =
    pages_choice_keeps past (query_of (turn_in new t n) (past n) (mark_of old.rows) ask) old.rows found (mark_of new.rows)
    (record { before = refl; on = goes_on old new n o; named = named; reads = stood; of_walks = of_walks; word = λ at. refl }) (record { fills = omega arith; reads = omega arith }) chosen
  where
    same_floor : new.floor ≡ old.floor
    same_floor = ap (λ (j : JournalView). j.floor) o.rows

    of_walks : (i : ℕ) (f : FillRow) → IsStanding (turn_of old.rows new.floor t n) (length old.rows.fills) i f → IsFillOfWalk old.rows ask.ptcr f
    of_walks i f st = (h.made t ask.ptcr below value i f st.is (omega (arith, st.from_floor, same_floor)) st.of_thread).present
        (not_gone_if_current old.rows.reads old.rows.dones t n f st.readings (subst (λ m. AllByRecursion (λ (d : DoneRow). d.step < m) old.rows.dones) (sym now) quiet) st.named st.current)
