-- The uses of a step keep the rule when later steps come.
use Rattle.std.proofs.Common.{◌≡◌, ℕ, ◌+◌, ◌<◌, ◌≤◌, nat_lt, Bool, true, false, List, [], ◌∷◌, ◌++◌, length, Option, arith, ap, sym, ◌∙◌, refl, subst}
use Rattle.std.specs.Prelude.{filter, if◌then◌else◌}
use Rattle.std.specs.List.{AllByRecursion}
use Rattle.std.proofs.lemmas.Bool.Decides.{nat_tests}
use Rattle.journal_core.specs.declared.rows.ReadRow.{ReadRow}
use Rattle.journal_core.specs.declared.rows.FillRow.{FillRow}
use Rattle.journal_core.specs.declared.rows.Use.{Use}
use Rattle.journal_core.specs.declared.asks.Ask.{Ask}
use Rattle.journal_core.specs.declared.asks.Found.{Found}
use Rattle.journal_core.specs.Rows.{Rows}
use Rattle.journal_core.specs.Steps.{rows_below}
use Rattle.journal_core.specs.Standing.{AreNamed}
use Rattle.journal_core.specs.Answers.{IsAnswer, AreAnswered, mark_at, AnswersUses, KeepsUses, ChoosesUses}
use Rattle.walk_laws.specs.KeptLaws.{GoesOnAfter}
use Rattle.walk_laws.proofs.AnswersStay.{answer_goes_on, answered_goes_on}
use Rattle.journal_core.specs.Turns.{Mark, Turn, Query, query_of, turn_later}
use Rattle.journal_core.specs.Translating.{IsWithin, Stays}

not_below : (m n k : ℕ) → n < m → k ≤ n + 1 → nat_lt m k ≡ false
not_below m n k above few = grind (arith, nat_tests)

-- rows of later steps are below no number up to the next step's
below_later : {R : Type 0} (number : R → ℕ) (n k : ℕ) (xs : List R) → k ≤ n + 1 → AllByRecursion (λ x. n < number x) xs → rows_below number k xs ≡ []
unfolding rows_below
below_later number n k [] few later = refl
below_later number n k (x ∷ xs) few later = rw (not_below (number x) n k later.0 few) (below_later number n k xs few later.1)

below_joined : {R : Type 0} (number : R → ℕ) (n k : ℕ) (xs more : List R) → k ≤ n + 1 → AllByRecursion (λ x. n < number x) more → rows_below number k (xs ++ more) ≡ rows_below number k xs
unfolding rows_below
below_joined number n k [] more few later = below_later number n k more few later
below_joined number n k (x ∷ xs) more few later = by (nat_lt (number x) k) (below_joined number n k xs more few later)
  where
    by : (b : Bool) → filter (λ row. nat_lt (number row) k) (xs ++ more) ≡ filter (λ row. nat_lt (number row) k) xs →
        (if b then x ∷ filter (λ row. nat_lt (number row) k) (xs ++ more) else filter (λ row. nat_lt (number row) k) (xs ++ more)) ≡ (if b then x ∷ filter (λ row. nat_lt (number row) k) xs else filter (λ row. nat_lt (number row) k) xs)
    by true e = ap (λ ys. x ∷ ys) e
    by false e = e

below_few : {R : Type 0} (number : R → ℕ) (k : ℕ) (xs : List R) → length (rows_below number k xs) ≤ length xs
unfolding rows_below
below_few number k [] = omega arith
below_few number k (x ∷ xs) = by (nat_lt (number x) k) (below_few number k xs)
  where
    by : (b : Bool) → length (filter (λ row. nat_lt (number row) k) xs) ≤ length xs → length (if b then x ∷ filter (λ row. nat_lt (number row) k) xs else filter (λ row. nat_lt (number row) k) xs) ≤ length (x ∷ xs)
    by true few = omega (arith, few)
    by false few = omega (arith, few)

reached_made : ℕ → ℕ → Mark
reached_made fills reads = record { fills = fills; reads = reads }

-- a step begins and ends at the same counts
same_reached_at : (old new : Rows) (n k : ℕ) → GoesOnAfter n old new → k ≤ n + 1 → mark_at new k ≡ mark_at old k
unfolding reached_made
same_reached_at old new n k after few =
    let fills : rows_below (λ (f : FillRow). f.moment) k new.fills ≡ rows_below (λ (f : FillRow). f.moment) k old.fills =
    ap (rows_below (λ (f : FillRow). f.moment) k) after.on.fills ∙ below_joined (λ (f : FillRow). f.moment) n k old.fills after.on.more_fills few after.fills in
    let reads : rows_below (λ (r : ReadRow). r.moment) k new.reads ≡ rows_below (λ (r : ReadRow). r.moment) k old.reads =
    ap (rows_below (λ (r : ReadRow). r.moment) k) after.on.reads ∙ below_joined (λ (r : ReadRow). r.moment) n k old.reads after.on.more_reads few after.reads in
    ap (λ (xs : List FillRow). reached_made (length xs) (length (rows_below (λ (r : ReadRow). r.moment) k new.reads))) fills
    ∙ ap (λ (ys : List ReadRow). reached_made (length (rows_below (λ (f : FillRow). f.moment) k old.fills)) (length ys)) reads

-- the uses of a step by a relation that goes on with the journal go on
pub answered_uses_go_on : (answers later : Mark → Ask → Found → Mark → Type 0) (v : Turn) (new : Rows) (asks : List Ask) (founds : List Found) (uses : List Use) → GoesOnAfter v.step v.rows new →
    ((b : Mark) (ask : Ask) (found : Found) (a : Mark) → IsWithin a v.rows → answers b ask found a → later b ask found a) → AnswersUses answers v asks founds uses → AnswersUses later (turn_later v new) asks founds uses
answered_uses_go_on answers later v new asks founds uses after on h =
    let n : ℕ = v.step in
    let old : Rows = v.rows in
    let within : IsWithin (mark_at old (n + 1)) old = record { fills = below_few (λ (f : FillRow). f.moment) (n + 1) old.fills; reads = below_few (λ (r : ReadRow). r.moment) (n + 1) old.reads } in
    let all : AreAnswered later (mark_at old n) asks founds (mark_at old (n + 1)) = answered_goes_on answers later old (mark_at old n) (mark_at old (n + 1)) asks founds within on h.answers_are in
    let from : mark_at new n ≡ mark_at old n = same_reached_at old new n n after (omega arith) in
    let to : mark_at new (n + 1) ≡ mark_at old (n + 1) = same_reached_at old new n (n + 1) after (omega arith) in
    record {
      few = h.few;
      answers_are = subst (λ x. AreAnswered later x asks founds (mark_at new (n + 1))) (sym from) (subst (λ x. AreAnswered later (mark_at old n) asks founds x) (sym to) all);
      shown = h.shown;
    }

pub uses_go_on : (past : ℕ → ℕ → Option ℕ) (v : Turn) (new : Rows) (asks : List Ask) (founds : List Found) (uses : List Use) → GoesOnAfter v.step v.rows new →
    KeepsUses past v asks founds uses → KeepsUses past (turn_later v new) asks founds uses
uses_go_on past v new asks founds uses after h =
    answered_uses_go_on (λ b ask found a. IsAnswer past (query_of v (past v.step) b ask) found a) (λ b ask found a. IsAnswer past (query_of (turn_later v new) (past v.step) b ask) found a) v new asks founds uses after
    (λ b ask found a inside one. answer_goes_on past (query_of v (past v.step) b ask) new found a after.on inside one) h

-- the uses of a step that were chosen stay so when later steps come, where a choice stays so
pub chosen_uses_go_on : (chooses : Query → Found → Mark → Type 0) (word : ℕ → Option ℕ) (v : Turn) (new : Rows) (asks : List Ask) (founds : List Found) (uses : List Use) → Stays chooses → AreNamed v.rows.reads v.rows.fills → GoesOnAfter v.step v.rows new →
    ChoosesUses chooses word v asks founds uses → ChoosesUses chooses word (turn_later v new) asks founds uses
chosen_uses_go_on chooses word v new asks founds uses stays named after h =
    answered_uses_go_on (λ b ask found a. chooses (query_of v word b ask) found a) (λ b ask found a. chooses (query_of (turn_later v new) word b ask) found a) v new asks founds uses after
    (λ b ask found a inside one. stays (query_of v word b ask) new found a after.on inside named one) h
