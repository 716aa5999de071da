-- How many rows the answers of a step add.
use Rattle.std.proofs.Common.{◌≡◌, ℕ, ◌+◌, ◌*◌, ◌≤◌, List, [], ◌∷◌, length, Option, Some, refl, ap, subst, arith}
use Rattle.journal_core.specs.declared.rows.ReadRow.{ReadRow}
use Rattle.journal_core.specs.declared.rows.Use.TheVariants.{Unused, Real as RealUse, Hit, Walked, Faulted}
use Rattle.journal_core.specs.declared.asks.Ask.{Ask}
use Rattle.journal_core.specs.declared.asks.Found.{Found}
use Rattle.journal_core.specs.declared.asks.Found.TheVariants.{Real, Fault, Stop}
use Rattle.journal_core.specs.declared.walks.TrailItem.{TrailItem}
use Rattle.journal_core.specs.declared.walks.TrailItem.TheVariants.{Old, New}
use Rattle.journal_core.specs.Turns.{Mark, Query}
use Rattle.journal_core.specs.Standing.{fill_reads, AreRows}
use Rattle.journal_core.specs.Resumed.{numbers_in, numbers_of}
use Rattle.journal_core.specs.Fills.{new_rows}
use Rattle.journal_core.specs.Rights.{first_denial}
use Rattle.journal_core.specs.Walk.{never_denied}
use Rattle.journal_core.specs.Choice.{SameMark, IsFault, IsStop}
use Rattle.journal_core.specs.Answers.{AreItems, IsWalked, IsAnswer, AreAnswered}
use Rattle.walk_laws.proofs.WalkBounds.{walk-few}

-- an answer adds no more reads and fills than one walk
pub record IsFew (count : ℕ) (before after : Mark) : Type 0 where
  pub reads : after.reads ≤ before.reads + 36 * count
  pub fills : after.fills ≤ before.fills + 35 * count

few_same : (before after : Mark) → SameMark before after → IsFew 1 before after
few_same before after same = record { reads = omega (arith, same.1); fills = omega (arith, same.0) }

few_new : (items : List TrailItem) → length (new_rows items) ≤ length items
few_new [] = omega arith
few_new (Old i ∷ items) = omega (arith, few_new items)
few_new (New r ∷ items) = omega (arith, few_new items)

items_long : (reads : List ReadRow) (from : ℕ) (numbers : List ℕ) (items : List TrailItem) → AreItems reads from numbers items → length items ≡ length numbers
items_long reads from [] [] are = refl
items_long reads from [] (item ∷ items) are = absurd are
items_long reads from (i ∷ is) [] are = absurd are
items_long reads from (i ∷ is) (Old j ∷ items) are = (let more = items_long reads from is items are.2 in omega (arith, more))
items_long reads from (i ∷ is) (New r ∷ items) are = (let more = items_long reads from is items are.2 in omega (arith, more))

rows_long : (reads : List ReadRow) (numbers : List ℕ) (rows : List ReadRow) → AreRows reads numbers rows → length numbers ≡ length rows
rows_long reads [] [] are = refl
rows_long reads [] (r ∷ rows) are = absurd are
rows_long reads (i ∷ is) [] are = absurd are
rows_long reads (i ∷ is) (r ∷ rows) are = (let more = rows_long reads is rows are.1 in omega (arith, more))

few_walked : (q : Query) (rs : List ReadRow) (i real : ℕ) (after : Mark) → AreRows q.turn.rows.reads (numbers_of q.turn.rows.fills (Some i)) rs → IsWalked q rs i real after → IsFew 1 q.before after
few_walked q rs i real after named w =
    let numbers : length (fill_reads w.fill) ≡ length rs = rows_long q.turn.rows.reads (fill_reads w.fill) rs (subst (λ x. AreRows q.turn.rows.reads (numbers_in x) rs) w.is named) in
    let items : length w.items ≡ length (fill_reads w.fill) = items_long q.turn.rows.reads q.before.reads (fill_reads w.fill) w.items w.are_items in
    let new : length (new_rows w.items) ≤ length w.items = few_new w.items in
    let short : length rs ≤ 36 = walk-few never_denied q.ask rs w.walk.follows in
    record { reads = omega (arith, numbers, items, new, short, w.reads_to); fills = omega (arith, w.few) }

few_fault : (q : Query) (cause : _) (first count : ℕ) (after : Mark) → IsFault q cause first count after → IsFew 1 q.before after
few_fault q cause first count after f =
    let short : length f.readings ≤ 36 = walk-few (first_denial q.ask) q.ask f.readings f.fresh.walk.follows in
    record { reads = omega (arith, short, f.adds.count_is, f.adds.reads_to); fills = omega (arith, f.adds.fills_to) }

few_stop : (q : Query) (name : _) (value : ℕ) (after : Mark) → IsStop q name value after → IsFew 1 q.before after
few_stop q name value after s = few_same q.before after s.same

few_answer : (past : ℕ → ℕ → Option ℕ) (q : Query) (found : Found) (after : Mark) → IsAnswer past q found after → IsFew 1 q.before after
few_answer past q (Real a (RealUse b)) after is = few_same q.before after is.walk.2
few_answer past q (Real a (Hit i b)) after is = few_same q.before after is.walk.2.same
few_answer past q (Real a (Walked i b)) after is = few_walked q is.readings i a after is.named is.walk.2
few_answer past q (Real a (Faulted first count)) after is = absurd is.walk
few_answer past q (Real a Unused) after is = absurd is.walk
few_answer past q (Fault cause (Faulted first count)) after is = few_fault q cause first count after is.walk.1
few_answer past q (Fault cause Unused) after is = absurd is.walk
few_answer past q (Fault cause (RealUse b)) after is = absurd is.walk
few_answer past q (Fault cause (Hit i b)) after is = absurd is.walk
few_answer past q (Fault cause (Walked i b)) after is = absurd is.walk
few_answer past q (Stop name value) after is = few_stop q name value after is.walk.1

-- answers add no more than so many walks
pub few_answers : (past : ℕ → ℕ → Option ℕ) (query : Mark → Ask → Query) → ((before : Mark) (ask : Ask) → (query before ask).before ≡ before) →
    (before : Mark) (asks : List Ask) (founds : List Found) (after : Mark) → AreAnswered (λ b ask found a. IsAnswer past (query b ask) found a) before asks founds after → IsFew (length asks) before after
few_answers past query from before [] [] after are = record { reads = omega (arith, ap (λ (m : Mark). m.reads) are); fills = omega (arith, ap (λ (m : Mark). m.fills) are) }
few_answers past query from before [] (found ∷ founds) after are = absurd are
few_answers past query from before (ask ∷ asks) [] after are = absurd are
few_answers past query from before (ask ∷ asks) (found ∷ founds) after are =
    let one : IsFew 1 before are.0 = subst (λ b. IsFew 1 b are.0) (from before ask) (few_answer past (query before ask) found are.0 are.2) in
    let more : IsFew (length asks) are.0 after = few_answers past query from are.0 asks founds after are.3 in
    record { reads = omega (arith, one.reads, more.reads); fills = omega (arith, one.fills, more.fills) }
