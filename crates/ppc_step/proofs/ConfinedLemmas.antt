-- What a step's answers let through is confined.
use Rattle.std.proofs.Common.{◌≡◌, ℕ, List, [], ◌∷◌, Option, sym, subst}
use Rattle.journal_core.specs.declared.asks.Ask.{Ask}
use Rattle.journal_core.specs.declared.asks.Found.{Found}
use Rattle.journal_core.specs.declared.asks.Found.TheVariants.{Real, Fault, Stop}
use Rattle.journal_core.specs.declared.rows.ReadRow.{ReadRow}
use Rattle.journal_core.specs.declared.rows.Use.{Use}
use Rattle.journal_core.specs.declared.rows.Use.TheVariants.{Unused, Real as RealUse, Hit, Walked, Faulted}
use Rattle.journal_core.specs.declared.asks.Place.{Place}
use Rattle.journal_core.specs.declared.asks.Place.TheVariants.{Real as RealPlace}
use Rattle.journal_core.specs.Rows.{Rows, no_rows}
use Rattle.journal_core.specs.Steps.{StepRows, steps_of, with_own}
use Rattle.journal_core.specs.Runs.{PastStep, EachKeeps, IsRun}
use Rattle.journal_core.specs.Places.{place_of}
use Rattle.journal_core.specs.Turns.{Mark, Turn, Query, query_of}
use Rattle.journal_core.specs.Admitted.{IsRight}
use Rattle.journal_core.specs.Confined.{IsConfined, IsConfinedAt}
use Rattle.journal_core.specs.Answers.{IsAnswer, AreAnswered, named_by}
use Rattle.walk_laws.proofs.ConfinedLemmas.{walk_confined}
use Rattle.ppc_step.specs.Chosen.{IsConfinedBy, AreConfined, StepsAreConfined, KeepsChosen}
use Rattle.ppc_step.specs.Rule.{KeepsRule, next_state}
use Rattle.ppc_step.specs.States.{State}

confined_real : (ask : Ask) (rs : List ReadRow) (a : ℕ) → place_of ask ≡ RealPlace a → IsConfined ask rs a
confined_real ask rs a is = subst (λ (p : Place). IsConfinedAt p ask.access rs a) (sym is) tt

answer_confined : (past : ℕ → ℕ → Option ℕ) (q : Query) (a : ℕ) (used : Use) (after : Mark) → IsAnswer past q (Real a used) after → IsConfinedBy q.turn.rows q.ask (named_by q.turn.rows.fills used) a
answer_confined past q a Unused after h = absurd h.walk
answer_confined past q a (RealUse b) after h = record { readings = h.readings; are_named = h.named; confined = confined_real q.ask h.readings a h.walk.0 }
answer_confined past q a (Hit i b) after h = record { readings = h.readings; are_named = h.named; confined = walk_confined q.ask h.readings a h.walk.2.walk (subst (λ x. IsRight q.ask h.readings x) h.walk.1 h.right) }
answer_confined past q a (Walked i b) after h = record { readings = h.readings; are_named = h.named; confined = walk_confined q.ask h.readings a h.walk.2.walk (subst (λ x. IsRight q.ask h.readings x) h.walk.1 h.right) }
answer_confined past q a (Faulted first count) after h = absurd h.walk

all_confined : (past : ℕ → ℕ → Option ℕ) (word : ℕ → Option ℕ) (v : Turn) (before after : Mark) (asks : List Ask) (founds : List Found) →
    AreAnswered (λ b ask found to. IsAnswer past (query_of v word b ask) found to) before asks founds after → AreConfined v.rows asks founds
all_confined past word v before after [] founds h = tt
all_confined past word v before after (ask ∷ asks) [] h = tt
all_confined past word v before after (ask ∷ asks) (Real a used ∷ founds) h = (answer_confined past (query_of v word before ask) a used h.0 h.2, all_confined past word v h.0 after asks founds h.3)
all_confined past word v before after (ask ∷ asks) (Fault cause used ∷ founds) h = all_confined past word v h.0 after asks founds h.3
all_confined past word v before after (ask ∷ asks) (Stop name value ∷ founds) h = all_confined past word v h.0 after asks founds h.3

pub steps_confined : StepsAreConfined
steps_confined begin before made s own rule = all_confined _ _ _ _ _ _ rule.founds rule.uses.answers_are

-- a run whose answers were chosen is lawful
each_lawful : (chooses : Query → Found → Mark → Type 0) (begin : State) (before : Rows) (made : List (PastStep State)) (s : State) (steps : List StepRows) →
    EachKeeps (KeepsChosen chooses begin) next_state before made s steps → EachKeeps (KeepsRule begin) next_state before made s steps
unfolding EachKeeps
each_lawful chooses begin before made s [] h = tt
each_lawful chooses begin before made s (own ∷ more) h = (h.0.rule, each_lawful chooses begin (with_own before own) (record { state = s; own = own } ∷ made) (next_state s own) more h.1)

pub lawful_by : (chooses : Query → Found → Mark → Type 0) (begin : State) (rows : Rows) (made : List (PastStep State)) (now : State) → IsRun (KeepsChosen chooses begin) next_state begin rows made now → IsRun (KeepsRule begin) next_state begin rows made now
lawful_by chooses begin rows made now run = record {
  dated = run.dated;
  whole = run.whole;
  each = each_lawful chooses begin no_rows [] begin (steps_of rows) run.each;
  steps = run.steps;
  last = run.last;
}
