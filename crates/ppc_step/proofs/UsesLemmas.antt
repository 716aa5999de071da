-- The answers of a step, seen with the rows that it ends with.
use Rattle.std.proofs.Common.{◌≡◌, ℕ, ◌+◌, ◌≤◌, List, [], ◌++◌, length, Option, refl, sym, ap, ◌∙◌, subst, arith, append-nil}
use Rattle.journal_core.specs.declared.rows.ReadRow.{ReadRow}
use Rattle.journal_core.specs.declared.rows.Use.{Use}
use Rattle.journal_core.specs.declared.rows.StopName.{StopName}
use Rattle.journal_core.specs.declared.causes.Cause.{Cause}
use Rattle.journal_core.specs.declared.asks.Ask.{Ask}
use Rattle.journal_core.specs.declared.asks.Found.{Found}
use Rattle.journal_core.specs.Rows.{Rows, JournalView}
use Rattle.journal_core.specs.Steps.{StepRows, IsDated, IsOwn, with_own}
use Rattle.journal_core.specs.Standing.{AreNamed}
use Rattle.journal_core.specs.Turns.{Mark, Query, query_of, turn_of, turn_in, mark_of}
use Rattle.journal_core.specs.Choice.{IsFault, IsStop}
use Rattle.journal_core.specs.Answers.{IsHit, IsWalked, IsAnswer, AreAnswered, uses_of, mark_at, AnswersUses, KeepsUses, ChoosesUses}
use Rattle.journal_core.specs.Translating.{GoesOn, IsWithin, Stays}
use Rattle.walk_laws.proofs.AnswersStay.{by_kind_on, answer_goes_on, answered_goes_on}
use Rattle.ppc_step.proofs.MarksLemmas.{mark_before, mark_behind, mark_with}

-- ---- the floor of the fills is nothing to the rule

-- the query under another floor
abbrev with_floor : Query → ℕ → Query
with_floor q floor = query_of (turn_of q.turn.rows floor q.turn.thread q.turn.step) q.word q.before q.ask

hit_under : (q : Query) (floor : ℕ) (rs : List ReadRow) (i real : ℕ) (after : Mark) → IsHit q rs i real after → IsHit (with_floor q floor) rs i real after
hit_under q floor rs i real after h = record { fill = h.fill; is = h.is; of_thread = h.of_thread; below = h.below; walk = h.walk; same = h.same }

walked_under : (q : Query) (floor : ℕ) (rs : List ReadRow) (i real : ℕ) (after : Mark) → IsWalked q rs i real after → IsWalked (with_floor q floor) rs i real after
walked_under q floor rs i real after h = record {
  fill = h.fill;
  is = h.is;
  of_thread = h.of_thread;
  same_moment = h.same_moment;
  from = h.from;
  last = h.last;
  few = h.few;
  walk = h.walk;
  items = h.items;
  are_items = h.are_items;
  reads_to = h.reads_to;
  reads = h.reads;
  fills = h.fills;
}

fault_under : (q : Query) (floor : ℕ) (cause : Cause) (first count : ℕ) (after : Mark) → IsFault q cause first count after → IsFault (with_floor q floor) cause first count after
fault_under q floor cause first count after h = record {
  readings = h.readings;
  fresh = h.fresh;
  adds = record { first_is = h.adds.first_is; count_is = h.adds.count_is; reads_to = h.adds.reads_to; fills_to = h.adds.fills_to; reads = h.adds.reads };
}

stop_under : (q : Query) (floor : ℕ) (name : StopName) (value : ℕ) (after : Mark) → IsStop q name value after → IsStop (with_floor q floor) name value after
stop_under q floor name value after s = record { readings = s.readings; fresh = s.fresh; same = s.same }

any_floor : (past : ℕ → ℕ → Option ℕ) (q : Query) (floor : ℕ) (found : Found) (after : Mark) → IsAnswer past q found after → IsAnswer past (with_floor q floor) found after
any_floor past q floor found after h = record {
  readings = h.readings;
  named = h.named;
  read = h.read;
  current = h.current;
  walk = by_kind_on q (with_floor q floor) (IsHit q h.readings) (IsWalked q h.readings) (IsHit (with_floor q floor) h.readings) (IsWalked (with_floor q floor) h.readings) (IsFault q) (IsFault (with_floor q floor)) (IsStop q) (IsStop (with_floor q floor)) found after refl refl
      (λ i real. hit_under q floor h.readings i real after)
      (λ i real. walked_under q floor h.readings i real after)
      (λ cause first count. fault_under q floor cause first count after)
      (λ name value. stop_under q floor name value after) h.walk;
  right = h.right;
}

-- ---- the answers of a step

-- the rows of the answers, and then all rows of the step, of which no operation is completed
pub record IsBetween (old : Rows) (between : Rows) (own : StepRows) : Type 0 where
  pub dated : IsDated old
  pub is_own : IsOwn own
  pub numbered : own.number ≡ length old.steps
  pub reads : between.reads ≡ old.reads ++ own.reads
  pub fills : between.fills ≡ old.fills ++ own.fills
  pub dones : between.dones ≡ old.dones
  pub none : own.dones ≡ []

goes_on_with : (old between : Rows) (own : StepRows) → IsBetween old between own → GoesOn own.number between (with_own old own)
unfolding with_own
goes_on_with old between own b = record {
  more_reads = [];
  more_fills = [];
  more_dones = [];
  reads = sym b.reads ∙ sym (append-nil between.reads);
  fills = sym b.fills ∙ sym (append-nil between.fills);
  dones = ap (λ ds. old.dones ++ ds) b.none ∙ ap (λ ds. ds ++ []) (sym b.dones);
  later = tt;
}

whole : (rows : Rows) → IsWithin (mark_of rows) rows
whole rows = record { fills = omega arith; reads = omega arith }

-- the uses of a step by a relation that goes on from the answers' rows to all rows of the step
answers_uses : (answers later : Mark → Ask → Found → Mark → Type 0) (old between : Rows) (own : StepRows) (floor thread : ℕ) (asks : List Ask) (founds : List Found) (uses : List Use) → IsBetween old between own →
    length asks ≤ 3 → uses ≡ uses_of founds → ((b : Mark) (ask : Ask) (found : Found) (a : Mark) → IsWithin a between → answers b ask found a → later b ask found a) →
    AreAnswered answers (mark_of old) asks founds (mark_of between) → AnswersUses later (turn_of (with_own old own) floor thread own.number) asks founds uses
answers_uses answers later old between own floor thread asks founds uses b few shown on h =
    let all : AreAnswered later (mark_of old) asks founds (mark_of between) = answered_goes_on answers later between (mark_of old) (mark_of between) asks founds (whole between) on h in
    let from : mark_at (with_own old own) own.number ≡ mark_of old = mark_before old own b.dated b.is_own b.numbered in
    let to : mark_at (with_own old own) (own.number + 1) ≡ mark_of between = mark_behind old own b.dated b.is_own b.numbered ∙ mark_with old own between b.reads b.fills in
    record {
      few = few;
      answers_are = subst (λ x. AreAnswered later x asks founds (mark_at (with_own old own) (own.number + 1))) (sym from) (subst (λ x. AreAnswered later (mark_of old) asks founds x) (sym to) all);
      shown = shown;
    }

-- the uses keep the rule
pub uses_kept : (past : ℕ → ℕ → Option ℕ) (old : Rows) (between : JournalView) (own : StepRows) (thread : ℕ) (asks : List Ask) (founds : List Found) (uses : List Use) → IsBetween old between.rows own →
    length asks ≤ 3 → uses ≡ uses_of founds →
    AreAnswered (λ before ask found after. IsAnswer past (query_of (turn_in between thread own.number) (past own.number) before ask) found after) (mark_of old) asks founds (mark_of between.rows) →
    KeepsUses past (turn_of (with_own old own) 0 thread own.number) asks founds uses
uses_kept past old between own thread asks founds uses b few shown h =
    answers_uses (λ before ask found after. IsAnswer past (query_of (turn_in between thread own.number) (past own.number) before ask) found after)
    (λ before ask found after. IsAnswer past (query_of (turn_of (with_own old own) 0 thread own.number) (past own.number) before ask) found after) old between.rows own 0 thread asks founds uses b few shown
    (λ before ask found after inside one. answer_goes_on past (query_of (turn_of between.rows 0 thread own.number) (past own.number) before ask) (with_own old own) found after (goes_on_with old between.rows own b) inside
    (any_floor past (query_of (turn_in between thread own.number) (past own.number) before ask) 0 found after one)) h

-- the uses were chosen so
pub uses_chosen : (chooses : Query → Found → Mark → Type 0) (word : ℕ → Option ℕ) (old : Rows) (between : JournalView) (own : StepRows) (floor thread : ℕ) (asks : List Ask) (founds : List Found) (uses : List Use) → Stays chooses → AreNamed between.rows.reads between.rows.fills →
    between.floor ≡ floor → IsBetween old between.rows own → length asks ≤ 3 → uses ≡ uses_of founds →
    AreAnswered (λ before ask found after. chooses (query_of (turn_in between thread own.number) word before ask) found after) (mark_of old) asks founds (mark_of between.rows) →
    ChoosesUses chooses word (turn_of (with_own old own) floor thread own.number) asks founds uses
uses_chosen chooses word old between own floor thread asks founds uses stays named floored b few shown h =
    answers_uses (λ before ask found after. chooses (query_of (turn_in between thread own.number) word before ask) found after)
    (λ before ask found after. chooses (query_of (turn_of (with_own old own) floor thread own.number) word before ask) found after) old between.rows own floor thread asks founds uses b few shown
    (λ before ask found after inside one. stays (query_of (turn_of between.rows floor thread own.number) word before ask) (with_own old own) found after (goes_on_with old between.rows own b) inside named
    (subst (λ f. chooses (query_of (turn_of between.rows f thread own.number) word before ask) found after) floored one)) h
