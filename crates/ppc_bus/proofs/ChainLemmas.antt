use Rattle.std.proofs.Common.{◌≡◌, ℕ, ◌==◌, Bool, true, false, List, [], ◌∷◌, cond, if◌then◌else◌, Option, Some, None, refl, sym, ap, arith}
use Rattle.std.proofs.lemmas.Bool.Decides.{nat_tests}
use Rattle.journal_core.specs.declared.rows.DeviceRow.{DeviceRow}
use Rattle.ppc_bus.specs.declared.slots.Slot.{Slot}
use Rattle.ppc_bus.specs.Devices.{Access, Reply, access_of}
use Rattle.ppc_bus.specs.Slots.{slot_in}
use Rattle.ppc_bus.specs.Answers.{reply_of, list_after, SlotGives, SlotKeeps, DeviceAnswers}
use Rattle.ppc_bus.specs.Chains.{Chain}
use Rattle.ppc_bus.specs.SlotRows.{rows_of, AnswersOf, SlotAnswersOf}
use Rattle.ppc_bus.proofs.AnswerLemmas.{Lists, Functions}

-- equal functions answer the same rows
answers_same : (f g : List ℕ → Access → Reply) → ((l : List ℕ) (access : Access) → g l access ≡ f l access) → (list : List ℕ) (rows : List DeviceRow) → AnswersOf g list rows → AnswersOf f list rows
unfolding AnswersOf
answers_same f g same list [] is = tt
answers_same f g same list (row ∷ rows) is =
    let here : g list (access_of row) ≡ f list (access_of row) = same list (access_of row) in
    (rw (sym here) is.0, answers_same f g same (f list (access_of row)).list rows (rw (sym here) is.1))

no_rows : (f : List ℕ → Access → Reply) (list : List ℕ) (rows : List DeviceRow) → rows ≡ [] → AnswersOf f list rows
unfolding AnswersOf
no_rows f list rows none = rw none tt

-- the rows after one row, from the list that the slot's device means after it
after_row : {D : Type 0} (list : Lists D) (answers : Functions D) (row : DeviceRow) (k : ℕ) (s : Slot D) (next : Option (Slot D)) (rows : List DeviceRow) →
    SlotKeeps list answers row k (Some s) next → SlotAnswersOf list answers next rows → AnswersOf (answers s.device) (list_after list answers row k s.device) rows
after_row list answers row k s None rows keeps is = no_rows (answers s.device) (list_after list answers row k s.device) rows is
after_row list answers row k s (Some n) rows keeps is = answers_same (answers s.device) (answers n.device) keeps.0 (list_after list answers row k s.device) rows (rw (sym keeps.1) is)

none_after : {D : Type 0} (list : Lists D) (answers : Functions D) (row : DeviceRow) (k : ℕ) (next : Option (Slot D)) (rows : List DeviceRow) →
    SlotKeeps list answers row k None next → SlotAnswersOf list answers next rows → rows ≡ []
none_after list answers row k None rows keeps is = is
none_after list answers row k (Some n) rows keeps is = absurd keeps

same_number : (m n : ℕ) → (m == n) ≡ true → m ≡ n
same_number m n is = grind (arith, nat_tests)

-- a row of the slot
row_here : {D : Type 0} (list : Lists D) (answers : Functions D) (row : DeviceRow) (k : ℕ) (slot next : Option (Slot D)) (rows : List DeviceRow) → (row.slot == k) ≡ true →
    SlotGives list answers slot row → SlotKeeps list answers row k slot next → SlotAnswersOf list answers next rows → SlotAnswersOf list answers slot (row ∷ rows)
unfolding AnswersOf
row_here list answers row k None next rows here gives keeps is = absurd gives
row_here list answers row k (Some s) next rows here gives keeps is =
    (gives, rw (sym (ap (λ b. if b then (reply_of list answers s.device row).list else list s.device) here)) (after_row list answers row k s next rows keeps is))

-- a row of another slot
row_there : {D : Type 0} (list : Lists D) (answers : Functions D) (row : DeviceRow) (k : ℕ) (slot next : Option (Slot D)) (rows : List DeviceRow) → (row.slot == k) ≡ false →
    SlotKeeps list answers row k slot next → SlotAnswersOf list answers next rows → SlotAnswersOf list answers slot rows
row_there list answers row k None next rows there keeps is = none_after list answers row k next rows keeps is
row_there list answers row k (Some s) next rows there keeps is =
    rw (sym (ap (λ b. if b then (reply_of list answers s.device row).list else list s.device) there)) (after_row list answers row k s next rows keeps is)

by_slot : {D : Type 0} (list : Lists D) (answers : Functions D) (row : DeviceRow) (k : ℕ) (slot next : Option (Slot D)) (rows : List DeviceRow) (b : Bool) → (row.slot == k) ≡ b →
    ((row.slot ≡ k) → SlotGives list answers slot row) → SlotKeeps list answers row k slot next → SlotAnswersOf list answers next rows → SlotAnswersOf list answers slot (cond b (row ∷ rows) rows)
by_slot list answers row k slot next rows true here gives keeps is = row_here list answers row k slot next rows here (gives (same_number row.slot k here)) keeps is
by_slot list answers row k slot next rows false there gives keeps is = row_there list answers row k slot next rows there keeps is

nothing : {D : Type 0} (list : Lists D) (answers : Functions D) (slot : Option (Slot D)) → SlotAnswersOf list answers slot []
unfolding AnswersOf
nothing list answers None = refl
nothing list answers (Some s) = tt

pub chain_answers : {D : Type 0} (list : Lists D) (answers : Functions D) (before after : List (Option (Slot D))) (rows : List DeviceRow) (slot : ℕ) →
    Chain (DeviceAnswers list answers) before rows after → SlotAnswersOf list answers (slot_in before slot) (rows_of slot rows)
unfolding Chain
chain_answers list answers before after [] slot chain = nothing list answers (slot_in before slot)
chain_answers list answers before after (row ∷ rows) slot chain =
    by_slot list answers row slot (slot_in before slot) (slot_in chain.0 slot) (rows_of slot rows) (row.slot == slot) refl
    (λ here. rw (sym here) chain.1.gives)
    (chain.1.left slot)
    (chain_answers list answers chain.0 after rows slot chain.2)
