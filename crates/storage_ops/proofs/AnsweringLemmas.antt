-- One answer, and two of them.
use Rattle.std.proofs.Common.{◌≡◌, ℕ, ◌+◌, ◌≤◌, List, [], ◌∷◌, ◌++◌, length, Option, Some, None, arith, ap, sym, ◌∙◌, refl, subst, length-append, append_assoc}
use Rattle.std.specs.List.{AllByRecursion}
use Rattle.journal_core.specs.declared.rows.ReadRow.{ReadRow}
use Rattle.journal_core.specs.declared.rows.FillRow.{FillRow}
use Rattle.journal_core.specs.declared.asks.AccessKind.{AccessKind}
use Rattle.journal_core.specs.declared.asks.Ask.{Ask}
use Rattle.journal_core.specs.declared.asks.Found.{Found}
use Rattle.journal_core.specs.declared.asks.Found.TheVariants.{Real, Fault, Stop}
use Rattle.journal_core.specs.Past.{word_in}
use Rattle.journal_core.specs.Rows.{JournalView}
use Rattle.journal_core.specs.Standing.{AreNamed}
use Rattle.journal_core.specs.Turns.{Mark, NoFewer, Query, query_of, turn_in, mark_of}
use Rattle.journal_core.specs.Answers.{IsAnswer}
use Rattle.journal_core.specs.Translating.{IsQuiet, AreTrue, OnlyAdds, IsWithin, Stays}
use Rattle.journal_core.proofs.AddsFacts.{goes_on}
use Rattle.walk_laws.proofs.AnswersStay.{answer_goes_on}
use Rattle.walk_laws.proofs.TrueAgain.{true_again}
use Rattle.thread_regs.specs.declared.registers.Thread.{Thread}
use Rattle.storage_ops.specs.declared.parts.Part.{Part}
use Rattle.storage_ops.specs.Parts.{listed_second}
use Rattle.storage_ops.specs.Reaching.{ask_of, asks_for, reached, next_part}
use Rattle.storage_ops.specs.Answering.{AddsWalks, IsAnswered}

-- what one answer of a translator says of the rule, and of its choice
abbrev pub IsOneAnswer : ℕ → ℕ → List ℕ → JournalView → JournalView → Ask → Found → Type 0
IsOneAnswer number moment ram old new ask found =
    (past : ℕ → ℕ → Option ℕ) → ((at : ℕ) → past moment at ≡ word_in ram at) → AreTrue past old.rows → IsAnswer past (query_of (turn_in new number moment) (past moment) (mark_of old.rows) ask) found (mark_of new.rows)

abbrev pub IsOneChoice : (Query → Found → Mark → Type 0) → ℕ → ℕ → List ℕ → JournalView → JournalView → Ask → Found → Type 0
IsOneChoice chooses number moment ram old new ask found =
    (word : ℕ → Option ℕ) → ((at : ℕ) → word at ≡ word_in ram at) → chooses (query_of (turn_in new number moment) word (mark_of old.rows) ask) found (mark_of new.rows)

longer : {X : Type 0} (xs ys zs : List X) → zs ≡ xs ++ ys → length xs ≤ length zs
longer xs ys zs is = (let l : length (xs ++ ys) ≡ length xs + length ys = length-append xs ys in rw is (omega (arith, l)))

no_fewer : (old new : JournalView) → OnlyAdds old new → NoFewer (mark_of old.rows) (mark_of new.rows)
no_fewer old new adds = record {
  fills = longer old.rows.fills adds.fills new.rows.fills (ap (λ (j : JournalView). j.rows.fills) adds.rows);
  reads = longer old.rows.reads adds.reads new.rows.reads (ap (λ (j : JournalView). j.rows.reads) adds.rows);
}

whole : (new : JournalView) → IsWithin (mark_of new.rows) new.rows
whole new = record { fills = omega arith; reads = omega arith }

pub one_adds : (old new : JournalView) → OnlyAdds old new → AddsWalks 2 old new
one_adds old new adds = record {
  reads = adds.reads;
  fills = adds.fills;
  few_reads = omega (arith, adds.few_reads);
  few_fills = omega (arith, adds.few_fills);
  read_moments = adds.read_moments;
  fill_moments = adds.fill_moments;
  rows = adds.rows;
}

pub answered_once : (chooses : Query → Found → Mark → Type 0) (number moment : ℕ) (ram : List ℕ) (ask : Ask) (old new : JournalView) (found : Found) → moment ≡ length old.rows.steps →
    OnlyAdds old new → IsOneAnswer number moment ram old new ask found → IsOneChoice chooses number moment ram old new ask found → IsAnswered chooses 2 number ram (ask ∷ []) old new (found ∷ [])
answered_once chooses number moment ram ask old new found is adds answer choice =
    let answers : IsOneAnswer number (length old.rows.steps) ram old new ask found = subst (λ m. IsOneAnswer number m ram old new ask found) is answer in
    let chosen : IsOneChoice chooses number (length old.rows.steps) ram old new ask found = subst (λ m. IsOneChoice chooses number m ram old new ask found) is choice in
    record {
      adds = one_adds old new adds;
      answers = λ past stands stood. (mark_of new.rows, no_fewer old new adds, answers past stands stood, refl);
      truth = λ past stands stood. true_again past (past (length old.rows.steps)) old new number ask found (λ at. refl) adds stood (answers past stands stood);
      chosen = λ word stands. (mark_of new.rows, no_fewer old new adds, chosen word stands, refl);
    }

all_joined : {X : Type 0} (P : X → Type 0) (xs ys : List X) → AllByRecursion P xs → AllByRecursion P ys → AllByRecursion P (xs ++ ys)
all_joined P [] ys a b = b
all_joined P (x ∷ xs) ys a b = (a.0, all_joined P xs ys a.1 b)

same_steps : (old new : JournalView) → OnlyAdds old new → length new.rows.steps ≡ length old.rows.steps
same_steps old new adds = ap (λ (j : JournalView). length j.rows.steps) adds.rows

pub two_add : (old mid new : JournalView) → OnlyAdds old mid → OnlyAdds mid new → AddsWalks 2 old new
two_add old mid new one two =
    let steps : length mid.rows.steps ≡ length old.rows.steps = same_steps old mid one in
    let reads_count : length (one.reads ++ two.reads) ≡ length one.reads + length two.reads = length-append one.reads two.reads in
    let fills_count : length (one.fills ++ two.fills) ≡ length one.fills + length two.fills = length-append one.fills two.fills in
    let from_mid : (j : JournalView) → j ≡ record old { rows = record old.rows { reads = old.rows.reads ++ one.reads; fills = old.rows.fills ++ one.fills } } → record j { rows = record j.rows { reads = j.rows.reads ++ two.reads; fills = j.rows.fills ++ two.fills } } ≡ record old { rows = record old.rows { reads = (old.rows.reads ++ one.reads) ++ two.reads; fills = (old.rows.fills ++ one.fills) ++ two.fills } } =
    λ j e. ap (λ (j : JournalView). record j { rows = record j.rows { reads = j.rows.reads ++ two.reads; fills = j.rows.fills ++ two.fills } }) e in
    let joined : record old { rows = record old.rows { reads = (old.rows.reads ++ one.reads) ++ two.reads; fills = (old.rows.fills ++ one.fills) ++ two.fills } } ≡ record old { rows = record old.rows { reads = old.rows.reads ++ (one.reads ++ two.reads); fills = old.rows.fills ++ (one.fills ++ two.fills) } } =
    rw (append_assoc old.rows.reads one.reads two.reads, append_assoc old.rows.fills one.fills two.fills) refl in
    record {
      reads = one.reads ++ two.reads;
      fills = one.fills ++ two.fills;
      few_reads = omega (arith, one.few_reads, two.few_reads, reads_count);
      few_fills = omega (arith, one.few_fills, two.few_fills, fills_count);
      read_moments = all_joined (λ (r : ReadRow). r.moment ≡ length old.rows.steps) one.reads two.reads one.read_moments (subst (λ n. AllByRecursion (λ (r : ReadRow). r.moment ≡ n) two.reads) steps two.read_moments);
      fill_moments = all_joined (λ (f : FillRow). f.moment ≡ length old.rows.steps) one.fills two.fills one.fill_moments (subst (λ n. AllByRecursion (λ (f : FillRow). f.moment ≡ n) two.fills) steps two.fill_moments);
      rows = two.rows ∙ (from_mid mid one.rows ∙ joined);
    }

-- the first answer of two is one in the journal behind the second
first_stays : (number moment : ℕ) (ram : List ℕ) (ask : Ask) (old mid new : JournalView) (found : Found) → OnlyAdds mid new → IsOneAnswer number moment ram old mid ask found →
    (past : ℕ → ℕ → Option ℕ) → ((at : ℕ) → past moment at ≡ word_in ram at) → AreTrue past old.rows → IsAnswer past (query_of (turn_in new number moment) (past moment) (mark_of old.rows) ask) found (mark_of mid.rows)
first_stays number moment ram ask old mid new found two answer past stands stood =
    let floor : new.floor ≡ mid.floor = ap (λ (j : JournalView). j.floor) two.rows in
    subst (λ f. IsAnswer past (query_of (record { rows = new.rows; floor = f; thread = number; step = moment }) (past moment) (mark_of old.rows) ask) found (mark_of mid.rows)) (sym floor)
    (answer_goes_on past (query_of (turn_in mid number moment) (past moment) (mark_of old.rows) ask) new.rows found (mark_of mid.rows) (goes_on mid new moment two) (whole mid) (answer past stands stood))

first_stays_chosen : (chooses : Query → Found → Mark → Type 0) (number moment : ℕ) (ram : List ℕ) (ask : Ask) (old mid new : JournalView) (found : Found) → Stays chooses → AreNamed mid.rows.reads mid.rows.fills → OnlyAdds mid new → IsOneChoice chooses number moment ram old mid ask found →
    (word : ℕ → Option ℕ) → ((at : ℕ) → word at ≡ word_in ram at) → chooses (query_of (turn_in new number moment) word (mark_of old.rows) ask) found (mark_of mid.rows)
first_stays_chosen chooses number moment ram ask old mid new found stays named two choice word stands =
    let floor : new.floor ≡ mid.floor = ap (λ (j : JournalView). j.floor) two.rows in
    subst (λ f. chooses (query_of (record { rows = new.rows; floor = f; thread = number; step = moment }) word (mark_of old.rows) ask) found (mark_of mid.rows)) (sym floor)
    (stays (query_of (turn_in mid number moment) word (mark_of old.rows) ask) new.rows found (mark_of mid.rows) (goes_on mid new moment two) (whole mid) named (choice word stands))

pub answered_twice : (chooses : Query → Found → Mark → Type 0) (number moment : ℕ) (ram : List ℕ) (ask next : Ask) (old mid new : JournalView) (found second : Found) → moment ≡ length old.rows.steps → Stays chooses → AreNamed mid.rows.reads mid.rows.fills →
    OnlyAdds old mid → IsOneAnswer number moment ram old mid ask found → IsOneChoice chooses number moment ram old mid ask found →
    OnlyAdds mid new → IsOneAnswer number moment ram mid new next second → IsOneChoice chooses number moment ram mid new next second →
    IsAnswered chooses 2 number ram (ask ∷ next ∷ []) old new (found ∷ second ∷ [])
answered_twice chooses number moment ram ask next old mid new found second is stays named one answer choice two answer_two choice_two =
    let n : ℕ = length old.rows.steps in
    let a1 : IsOneAnswer number n ram old mid ask found = subst (λ m. IsOneAnswer number m ram old mid ask found) is answer in
    let a2 : IsOneAnswer number n ram mid new next second = subst (λ m. IsOneAnswer number m ram mid new next second) is answer_two in
    let c1 : IsOneChoice chooses number n ram old mid ask found = subst (λ m. IsOneChoice chooses number m ram old mid ask found) is choice in
    let c2 : IsOneChoice chooses number n ram mid new next second = subst (λ m. IsOneChoice chooses number m ram mid new next second) is choice_two in
    let steps : length mid.rows.steps ≡ n = same_steps old mid one in
    let mid_true : (past : ℕ → ℕ → Option ℕ) → ((at : ℕ) → past n at ≡ word_in ram at) → AreTrue past old.rows → AreTrue past mid.rows =
    λ past stands stood. true_again past (past n) old mid number ask found (λ at. refl) one stood (a1 past stands stood) in
    record {
      adds = two_add old mid new one two;
      answers = λ past stands stood. (mark_of mid.rows, no_fewer old mid one, first_stays number n ram ask old mid new found two a1 past stands stood, (mark_of new.rows, no_fewer mid new two, a2 past stands (mid_true past stands stood), refl));
      truth = λ past stands stood. true_again past (past n) mid new number next second (λ at. ap (λ m. past m at) (sym steps)) two (mid_true past stands stood)
          (subst (λ m. IsAnswer past (query_of (turn_in new number m) (past n) (mark_of mid.rows) next) second (mark_of new.rows)) (sym steps) (a2 past stands (mid_true past stands stood)));
      chosen = λ word stands. (mark_of mid.rows, no_fewer old mid one, first_stays_chosen chooses number n ram ask old mid new found stays named two c1 word stands, (mark_of new.rows, no_fewer mid new two, c2 word stands, refl));
    }

-- the asks that are reached where the first answer is the last one, and where there are two
pub reached_once : (t : Thread) (kind : AccessKind) (first : Part) (o : Option Part) (found : Found) → next_part found o ≡ None → reached (asks_for t kind (first ∷ listed_second o)) (found ∷ []) ≡ ask_of t kind first.at ∷ []
reached_once t kind first None (Real at used) is = refl
reached_once t kind first (Some part) (Real at used) is = absurd (none_is_some is)
  where
    none_is_some : {A : Type 0} {x : A} → Some x ≡ None → ⊥
    none_is_some e = cc
reached_once t kind first o (Fault cause used) is = refl
reached_once t kind first o (Stop name value) is = refl

no_part : {A : Type 0} {x : A} → None ≡ Some x → ⊥
no_part e = cc

pub reached_twice : (t : Thread) (kind : AccessKind) (first part : Part) (o : Option Part) (found second : Found) → next_part found o ≡ Some part → reached (asks_for t kind (first ∷ listed_second o)) (found ∷ second ∷ []) ≡ ask_of t kind first.at ∷ ask_of t kind part.at ∷ []
reached_twice t kind first part o (Real at used) second is = rw is (last second)
  where
    last : (second : Found) → ask_of t kind first.at ∷ reached (ask_of t kind part.at ∷ []) (second ∷ []) ≡ ask_of t kind first.at ∷ ask_of t kind part.at ∷ []
    last (Real b u) = refl
    last (Fault cause u) = refl
    last (Stop name value) = refl
reached_twice t kind first part o (Fault cause used) second is = absurd (no_part is)
reached_twice t kind first part o (Stop name value) second is = absurd (no_part is)

-- an answer completes no operation
pub quiet_stays : (old new : JournalView) → OnlyAdds old new → IsQuiet old.rows → IsQuiet new.rows
quiet_stays old new adds quiet = rw adds.rows quiet
