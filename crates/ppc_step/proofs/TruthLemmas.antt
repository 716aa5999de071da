-- The readings of a lawful journal are true, step by step: each read row is one that an answer of its step added.
use Rattle.std.proofs.Common.{◌≡◌, ℕ, zero, suc, ◌+◌, ◌-◌, ◌≤◌, Bool, true, false, List, [], ◌∷◌, ◌++◌, length, take, drop, Option, refl, sym, ap, ◌∙◌, subst, arith, length-append}
use Rattle.std.specs.Prelude.{◌==◌}
use Rattle.std.specs.List.{AllByRecursion}
use Rattle.std.proofs.Math.Seq.{take-add}
use Rattle.std.proofs.lemmas.List.{drop-drop}
use Rattle.std.proofs.lemmas.Bool.Decides.{nat_tests}
use Rattle.journal_core.specs.declared.asks.Ask.{Ask}
use Rattle.journal_core.specs.declared.asks.Found.{Found}
use Rattle.journal_core.specs.declared.asks.Found.TheVariants.{Real, Fault, Stop}
use Rattle.journal_core.specs.declared.rows.Use.TheVariants.{Unused, Real as RealUse, Hit, Walked, Faulted}
use Rattle.journal_core.specs.declared.rows.ReadRow.{ReadRow}
use Rattle.journal_core.specs.declared.rows.StepRow.{StepRow}
use Rattle.journal_core.specs.declared.walks.NestResult.TheVariants.{Fault as WalkFault}
use Rattle.journal_core.specs.Rows.{Rows, no_rows}
use Rattle.journal_core.specs.Past.{past}
use Rattle.journal_core.specs.Steps.{StepRows, InOrder, IsDated, IsOwn, rows_of_step, own_at, own_from, steps_of, with_own}
use Rattle.journal_core.specs.Runs.{PastStep, state_after, EachKeeps}
use Rattle.journal_core.specs.Turns.{Mark, Turn, Query, query_of}
use Rattle.journal_core.specs.Standing.{AreRows, fill_reads}
use Rattle.journal_core.specs.Resumed.{numbers_in}
use Rattle.journal_core.specs.Following.{IsTrueReading}
use Rattle.journal_core.specs.Choice.{SameMark, added}
use Rattle.journal_core.specs.Answers.{IsAnswer, AreAnswered, mark_at}
use Rattle.journal_core.specs.Translating.{AreTrue}
use Rattle.journal_core.proofs.StepsLemmas.{IsDated-push}
use Rattle.walk_laws.proofs.TrueAgain.{new_hold, only_true, true_joined}
use Rattle.walk_laws.proofs.FreshFacts.{fresh_true}
use Rattle.ppc_step.specs.States.{State}
use Rattle.ppc_step.specs.Rule.{KeepsRule, next_state}
use Rattle.ppc_step.specs.Truth.{LawfulReadingsAreTrue}
use Rattle.ppc_step.proofs.MarksLemmas.{mark_before, mark_behind}
use Rattle.ppc_step.proofs.RowsLemmas.{readings_true}

-- ---- the rows that an answer adds

none_between : {X : Type 0} (xs : List X) (from to : ℕ) → to ≡ from → added xs from to ≡ []
none_between xs from to e = ap (λ n. take n (drop from xs)) (none from to e)
  where
    none : (from to : ℕ) → to ≡ from → to - from ≡ 0
    none from to e = omega (arith, e)

nothing_added : (p : ℕ → ℕ → Option ℕ) (reads : List ReadRow) (before after : Mark) → SameMark before after → AllByRecursion (IsTrueReading p) (added reads before.reads after.reads)
nothing_added p reads before after same = subst (AllByRecursion (IsTrueReading p)) (sym (none_between reads before.reads after.reads same.1)) tt

answer_true : (p : ℕ → ℕ → Option ℕ) (q : Query) (found : Found) (after : Mark) → ((at : ℕ) → q.word at ≡ p q.turn.step at) → IsAnswer p q found after → AllByRecursion (IsTrueReading p) (added q.turn.rows.reads q.before.reads after.reads)
answer_true p q (Real a (RealUse b)) after word h = nothing_added p q.turn.rows.reads q.before after h.walk.2
answer_true p q (Real a (Hit i b)) after word h = nothing_added p q.turn.rows.reads q.before after h.walk.2.same
answer_true p q (Real a (Walked i b)) after word h =
    let named : AreRows q.turn.rows.reads (fill_reads h.walk.2.fill) h.readings = subst (λ f. AreRows q.turn.rows.reads (numbers_in f) h.readings) h.walk.2.is h.named in
    subst (AllByRecursion (IsTrueReading p)) (sym h.walk.2.reads)
    (new_hold (IsTrueReading p) q.turn.rows.reads q.before.reads (fill_reads h.walk.2.fill) h.walk.2.items h.readings h.walk.2.are_items named (only_true p q.turn.step h.readings h.read))
answer_true p q (Real a (Faulted first count)) after word h = absurd h.walk
answer_true p q (Real a Unused) after word h = absurd h.walk
answer_true p q (Fault cause (Faulted first count)) after word h =
    subst (AllByRecursion (IsTrueReading p)) (sym h.walk.1.adds.reads) (fresh_true p q.word q.turn.step q.ask h.walk.1.readings (WalkFault cause) word h.walk.1.fresh)
answer_true p q (Fault cause Unused) after word h = absurd h.walk
answer_true p q (Fault cause (RealUse b)) after word h = absurd h.walk
answer_true p q (Fault cause (Hit i b)) after word h = absurd h.walk
answer_true p q (Fault cause (Walked i b)) after word h = absurd h.walk
answer_true p q (Stop name value) after word h = nothing_added p q.turn.rows.reads q.before after h.walk.1.same

-- ---- those of several answers

never_fewer : (answers : Mark → Ask → Found → Mark → Type 0) (before after : Mark) (asks : List Ask) (founds : List Found) → AreAnswered answers before asks founds after → before.reads ≤ after.reads
never_fewer answers before after [] [] h = (let e : after.reads ≡ before.reads = ap (λ (m : Mark). m.reads) h in omega (arith, e))
never_fewer answers before after [] (found ∷ founds) h = absurd h
never_fewer answers before after (ask ∷ asks) [] h = absurd h
never_fewer answers before after (ask ∷ asks) (found ∷ founds) h = omega (arith, h.1.reads, never_fewer answers h.0 after asks founds h.3)

added_joined : {X : Type 0} (xs : List X) (from mid to : ℕ) → from ≤ mid → mid ≤ to → added xs from to ≡ added xs from mid ++ added xs mid to
added_joined xs from mid to a b =
    ap (λ n. take n (drop from xs)) (parts from mid to a b)
    ∙ (take-add (mid - from) (to - mid) (drop from xs) ∙ ap (λ ys. take (mid - from) (drop from xs) ++ take (to - mid) ys) (drop-drop (mid - from) from xs ∙ ap (λ n. drop n xs) (whole from mid a)))
  where
    parts : (from mid to : ℕ) → from ≤ mid → mid ≤ to → to - from ≡ (mid - from) + (to - mid)
    parts from mid to a b = omega (arith, a, b)

    whole : (from mid : ℕ) → from ≤ mid → from + (mid - from) ≡ mid
    whole from mid a = omega (arith, a)

answers_true : (p : ℕ → ℕ → Option ℕ) (word : ℕ → Option ℕ) (v : Turn) (before after : Mark) (asks : List Ask) (founds : List Found) → ((at : ℕ) → word at ≡ p v.step at) →
    AreAnswered (λ b ask found to. IsAnswer p (query_of v word b ask) found to) before asks founds after → AllByRecursion (IsTrueReading p) (added v.rows.reads before.reads after.reads)
answers_true p word v before after [] [] stands h = subst (AllByRecursion (IsTrueReading p)) (sym (none_between v.rows.reads before.reads after.reads (ap (λ (m : Mark). m.reads) h))) tt
answers_true p word v before after [] (found ∷ founds) stands h = absurd h
answers_true p word v before after (ask ∷ asks) [] stands h = absurd h
answers_true p word v before after (ask ∷ asks) (found ∷ founds) stands h =
    subst (AllByRecursion (IsTrueReading p)) (sym (added_joined v.rows.reads before.reads h.0.reads after.reads h.1.reads (never_fewer (λ b ask found to. IsAnswer p (query_of v word b ask) found to) h.0 after asks founds h.3)))
    (true_joined p (added v.rows.reads before.reads h.0.reads) (added v.rows.reads h.0.reads after.reads) (answer_true p (query_of v word before ask) found h.0 stands h.2) (answers_true p word v h.0 after asks founds stands h.3))

-- ---- a step

drop_seam : {X : Type 0} (xs ys : List X) → drop (length xs) (xs ++ ys) ≡ ys
drop_seam [] ys = refl
drop_seam (x ∷ xs) ys = drop_seam xs ys

whole_list : {X : Type 0} (xs : List X) (n : ℕ) → length xs ≡ n → take n xs ≡ xs
whole_list [] zero e = refl
whole_list [] (suc n) e = refl
whole_list (x ∷ xs) zero e = absurd (omega (arith, e))
whole_list (x ∷ xs) (suc n) e = ap (λ ys. x ∷ ys) (whole_list xs n (omega (arith, e)))

added_all : {X : Type 0} (xs ys : List X) → added (xs ++ ys) (length xs) (length (xs ++ ys)) ≡ ys
added_all xs ys = ap (take (length (xs ++ ys) - length xs)) (drop_seam xs ys) ∙ whole_list ys (length (xs ++ ys) - length xs) (omega (arith, length-append xs ys))

step_true : (begin : State) (before : Rows) (made : List (PastStep State)) (s : State) (own : StepRows) → IsDated before → IsOwn own → own.number ≡ length before.steps → KeepsRule begin before made s own →
    AreTrue (past begin.ram before.writes) before → AreTrue (past begin.ram (with_own before own).writes) (with_own before own)
unfolding with_own
step_true begin before made s own dated is numbered rule stood =
    let p : ℕ → ℕ → Option ℕ = past begin.ram before.writes in
    let these = answers_true p (p own.number) _ (mark_at (with_own before own) own.number) (mark_at (with_own before own) (own.number + 1)) _ rule.founds (λ at. refl) rule.uses.answers_are in
    let from : (mark_at (with_own before own) own.number).reads ≡ length before.reads = ap (λ (m : Mark). m.reads) (mark_before before own dated is numbered) in
    let to : (mark_at (with_own before own) (own.number + 1)).reads ≡ length (before.reads ++ own.reads) = ap (λ (m : Mark). m.reads) (mark_behind before own dated is numbered) in
    let all : AllByRecursion (IsTrueReading p) own.reads =
    subst (AllByRecursion (IsTrueReading p)) (added_all before.reads own.reads)
    (subst (λ n. AllByRecursion (IsTrueReading p) (added (before.reads ++ own.reads) (length before.reads) n)) to (subst (λ m. AllByRecursion (IsTrueReading p) (added (before.reads ++ own.reads) m (mark_at (with_own before own) (own.number + 1)).reads)) from these)) in
    readings_true begin.ram before own (with_own before own) dated is numbered refl (true_joined p before.reads own.reads stood all)

-- ---- all steps

eq_of : (a b : ℕ) → (a == b) ≡ true → a ≡ b
eq_of a b e = grind (arith, nat_tests)

-- the rows of one step are in order
one_more : {R : Type 0} (number : R → ℕ) (n low : ℕ) (row : R) (rows : List R) (b : Bool) → (number row == n) ≡ b → low ≤ n → ((lower : ℕ) → lower ≤ n → InOrder number lower (n + 1) (rows_of_step number n rows)) → InOrder number low (n + 1) (rows_of_step number n (row ∷ rows))
unfolding rows_of_step InOrder
one_more number n low row rows true is below rest = (let e : number row ≡ n = eq_of (number row) n is in rw is (omega (arith, e, below), omega (arith, e), rest (number row) (omega (arith, e))))
one_more number n low row rows false is below rest = rw is (rest low below)

step_order : {R : Type 0} (number : R → ℕ) (n low : ℕ) (rows : List R) → low ≤ n → InOrder number low (n + 1) (rows_of_step number n rows)
unfolding rows_of_step InOrder
step_order number n low [] below = tt
step_order number n low (row ∷ rows) below = one_more number n low row rows (number row == n) refl below (λ lower l. step_order number n lower rows l)

own_is : (n : ℕ) (j : Rows) (row : StepRow) → IsOwn (own_at n j row)
unfolding with_own own_at
own_is n j row = record {
  reads = step_order (λ r. r.moment) n n j.reads (omega arith);
  fills = step_order (λ r. r.moment) n n j.fills (omega arith);
  writes = step_order (λ r. r.step) n n j.writes (omega arith);
  dones = step_order (λ r. r.step) n n j.dones (omega arith);
  devices = step_order (λ r. r.step) n n j.devices (omega arith);
}

numbered_at : (n : ℕ) (j : Rows) (row : StepRow) → (own_at n j row).number ≡ n
unfolding own_at
numbered_at n j row = refl

steps_more : (before : Rows) (own : StepRows) → length (with_own before own).steps ≡ length before.steps + 1
unfolding with_own
steps_more before own = length-append before.steps (own.row ∷ [])

all_true : (begin : State) (before j : Rows) (made : List (PastStep State)) (s : State) (n : ℕ) (rows : List StepRow) → IsDated before → n ≡ length before.steps → AreTrue (past begin.ram before.writes) before → EachKeeps (KeepsRule begin) next_state before made s (own_from n j rows) →
    AreTrue (past begin.ram (state_after with_own before (own_from n j rows)).writes) (state_after with_own before (own_from n j rows))
unfolding own_from state_after EachKeeps
all_true begin before j made s n [] dated is stood each = stood
all_true begin before j made s n (row ∷ rows) dated is stood each =
    let own : StepRows = own_at n j row in
    let numbered : own.number ≡ length before.steps = numbered_at n j row ∙ is in
    all_true begin (with_own before own) j (record { state = s; own = own } ∷ made) (next_state s own) (n + 1) rows (IsDated-push before own dated (own_is n j row) numbered) (ap (λ k. k + 1) is ∙ sym (steps_more before own))
    (step_true begin before made s own dated (own_is n j row) numbered each.0 stood) each.1

no_rows_dated : IsDated no_rows
unfolding InOrder
no_rows_dated = record { reads = tt; fills = tt; writes = tt; dones = tt; devices = tt }

pub lawful_true : LawfulReadingsAreTrue
unfolding steps_of
lawful_true begin rows now lawful =
    subst (λ (j : Rows). AreTrue (past begin.ram j.writes) j) (sym lawful.run.whole) (all_true begin no_rows rows [] begin 0 rows.steps no_rows_dated refl tt lawful.run.each)
