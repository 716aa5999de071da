-- Answers that keep the rule of a step keep it when later rows come.
use Rattle.std.proofs.Common.{◌≡◌, ℕ, zero, suc, ◌+◌, ◌-◌, ◌<◌, ◌≤◌, List, [], ◌∷◌, ◌++◌, length, map, Option, Some, true, arith, ap, sym, ◌∙◌, refl, subst}
use Rattle.std.specs.Prelude.{slice_get, option_to_list, Contains}
use Rattle.std.specs.List.{range_with_len, AllByRecursion}
use Rattle.std.proofs.lemmas.List.{take-append-le}
use Rattle.journal_core.specs.declared.rows.ReadRow.{ReadRow}
use Rattle.journal_core.specs.declared.rows.FillRow.{FillRow}
use Rattle.journal_core.specs.declared.rows.Use.TheVariants.{Unused, Real as RealUse, Hit, Walked, Faulted}
use Rattle.journal_core.specs.declared.causes.Cause.{Cause}
use Rattle.journal_core.specs.declared.asks.Ask.{Ask}
use Rattle.journal_core.specs.declared.asks.Found.{Found}
use Rattle.journal_core.specs.declared.asks.Found.TheVariants.{Real, Fault, Stop}
use Rattle.journal_core.specs.declared.walks.TrailItem.{TrailItem}
use Rattle.journal_core.specs.declared.walks.TrailItem.TheVariants.{Old, New}
use Rattle.journal_core.specs.declared.rows.StopName.{StopName}
use Rattle.journal_core.specs.declared.rows.Use.{Use}
use Rattle.journal_core.specs.Rows.{Rows}
use Rattle.journal_core.specs.Walk.{task_of, start_of, never_denied}
use Rattle.journal_core.specs.Turns.{Mark, NoFewer, Turn, Query, query_of, turn_later, query_later}
use Rattle.journal_core.specs.Standing.{fill_reads, AreRows}
use Rattle.journal_core.specs.Resumed.{numbers_in, numbers_of}
use Rattle.journal_core.specs.Fills.{NumberedItem, as_old, number_items, nothing_so_far, fills_of, fills_from, own_key}
use Rattle.journal_core.specs.Choice.{SameMark, IsTranslated, ByKind, IsFault, IsStop, added}
use Rattle.journal_core.specs.Answers.{AreItems, use_of, named_by, IsHit, IsWalked, IsAnswer, AreAnswered}
use Rattle.journal_core.specs.Places.{place_of}
use Rattle.journal_core.specs.Covers.{IsCurrent}
use Rattle.journal_core.proofs.CurrentLemmas.{current_with_later}
use Rattle.journal_core.proofs.StandingStays.{at_front, rows_front, all_mapped}
use Rattle.journal_core.specs.Translating.{GoesOn, IsWithin}

-- rows that were added before are the same
pub added_front : {X : Type 0} (xs ys : List X) (from to : ℕ) → to ≤ length xs → added (xs ++ ys) from to ≡ added xs from to
added_front xs ys zero to within = (let whole : to - 0 ≡ to = omega arith in rw whole (take-append-le to xs ys within))
added_front [] ys (suc from) to within = (let none : to - suc from ≡ 0 = omega (arith, within) in rw none refl)
added_front (x ∷ xs) ys (suc from) zero within = (let none : 0 - suc from ≡ 0 = omega arith in rw none refl)
added_front (x ∷ xs) ys (suc from) (suc to) within = (let e : suc to - suc from ≡ to - from = omega arith in rw e (added_front xs ys from to (omega (arith, within))))

-- a number within the list names the same row
pub get_front : {X : Type 0} (xs ys : List X) (i : ℕ) → i < length xs → slice_get (xs ++ ys) i ≡ slice_get xs i
get_front [] ys i below = absurd (omega (arith, below))
get_front (x ∷ xs) ys zero below = refl
get_front (x ∷ xs) ys (suc i) below = get_front xs ys i (omega (arith, below))

items_front : (reads more : List ReadRow) (from : ℕ) (is : List ℕ) (items : List TrailItem) → AreItems reads from is items → AreItems (reads ++ more) from is items
items_front reads more from [] [] h = tt
items_front reads more from [] (item ∷ items) h = h
items_front reads more from (i ∷ is) [] h = h
items_front reads more from (i ∷ is) (Old j ∷ items) h = (h.0, h.1, items_front reads more from is items h.2)
items_front reads more from (i ∷ is) (New r ∷ items) h = (h.0, at_front reads more i r h.1, items_front reads more from is items h.2)

as_new : ℕ → ReadRow → NumberedItem
as_new i r = record { number = i; row = r; is_new = true }

-- the items of a walk are numbered as they were
numbered_front : (reads more : List ReadRow) (from first : ℕ) (is : List ℕ) (items : List TrailItem) → from ≤ length reads → AreItems reads from is items → number_items (reads ++ more) first items ≡ number_items reads first items
unfolding as_new
numbered_front reads more from first [] [] within h = refl
numbered_front reads more from first [] (item ∷ items) within h = absurd h
numbered_front reads more from first (i ∷ is) [] within h = absurd h
numbered_front reads more from first (i ∷ is) (Old j ∷ items) within h =
    let same : slice_get (reads ++ more) j ≡ slice_get reads j = get_front reads more j (omega (arith, h.0, h.1, within)) in
    ap (λ x. map (as_old j) (option_to_list x) ++ number_items (reads ++ more) first items) same
    ∙ ap (λ xs. map (as_old j) (option_to_list (slice_get reads j)) ++ xs) (numbered_front reads more from first is items within h.2)
numbered_front reads more from first (i ∷ is) (New r ∷ items) within h = ap (λ xs. as_new first r ∷ xs) (numbered_front reads more from (first + 1) is items within h.2)

-- the readings of an admitted ask stay current
pub all_stay_current : (old new : Rows) (t n : ℕ) (rs : List ReadRow) → GoesOn n old new → AllByRecursion (IsCurrent old.dones t n) rs → AllByRecursion (IsCurrent new.dones t n) rs
all_stay_current old new t n rs on h =
    subst (λ ds. AllByRecursion (IsCurrent ds t n) rs) (sym on.dones)
    (all_mapped (IsCurrent old.dones t n) (IsCurrent (old.dones ++ on.more_dones) t n) (λ r. current_with_later old.dones on.more_dones t n r on.later) rs h)

fill_goes_on : (old new : Rows) (n i : ℕ) (f : FillRow) → GoesOn n old new → slice_get old.fills i ≡ Some f → slice_get new.fills i ≡ Some f
fill_goes_on old new n i f on is = ap (λ xs. slice_get xs i) on.fills ∙ at_front old.fills on.more_fills i f is

named_goes_on : (old new : Rows) (n : ℕ) (is : List ℕ) (rs : List ReadRow) → GoesOn n old new → AreRows old.reads is rs → AreRows new.reads is rs
named_goes_on old new n is rs on named = subst (λ xs. AreRows xs is rs) (sym on.reads) (rows_front old.reads on.more_reads is rs named)

-- the fill that a use names is there
abbrev IsThere : List FillRow → Use → Type 0
IsThere fills Unused = Unit {0}
IsThere fills (RealUse a) = Unit {0}
IsThere fills (Hit i a) = (f : FillRow) × (slice_get fills i ≡ Some f)
IsThere fills (Walked i a) = (f : FillRow) × (slice_get fills i ≡ Some f)
IsThere fills (Faulted first count) = Unit {0}

fill_numbers : (old new : Rows) (n i : ℕ) (rs : List ReadRow) → GoesOn n old new → (f : FillRow) → slice_get old.fills i ≡ Some f → AreRows old.reads (numbers_of old.fills (Some i)) rs → AreRows new.reads (numbers_of new.fills (Some i)) rs
fill_numbers old new n i rs on f is named =
    subst (λ o. AreRows new.reads (numbers_in o) rs) (sym (fill_goes_on old new n i f on is))
    (named_goes_on old new n (fill_reads f) rs on (subst (λ o. AreRows old.reads (numbers_in o) rs) is named))

pub reads_go_on : (old new : Rows) (n from to : ℕ) → GoesOn n old new → to ≤ length old.reads → added new.reads from to ≡ added old.reads from to
reads_go_on old new n from to on within = ap (λ xs. added xs from to) on.reads ∙ added_front old.reads on.more_reads from to within

pub fills_go_on : (old new : Rows) (n from to : ℕ) → GoesOn n old new → to ≤ length old.fills → added new.fills from to ≡ added old.fills from to
fills_go_on old new n from to on within = ap (λ xs. added xs from to) on.fills ∙ added_front old.fills on.more_fills from to within

-- the rows of a fill's numbers are the same where there were some
numbers_go_on : (old new : Rows) (n : ℕ) (used : Use) (rs : List ReadRow) → GoesOn n old new → AreRows old.reads (named_by old.fills used) rs → IsThere old.fills used → AreRows new.reads (named_by new.fills used) rs
numbers_go_on old new n Unused rs on named there = named_goes_on old new n [] rs on named
numbers_go_on old new n (RealUse a) rs on named there = named_goes_on old new n [] rs on named
numbers_go_on old new n (Hit i a) rs on named there = fill_numbers old new n i rs on there.0 there.1 named
numbers_go_on old new n (Walked i a) rs on named there = fill_numbers old new n i rs on there.0 there.1 named
numbers_go_on old new n (Faulted first count) rs on named there = named_goes_on old new n (range_with_len first count) rs on named

hit_goes_on : (q : Query) (new : Rows) (rs : List ReadRow) (i real : ℕ) (after : Mark) → GoesOn q.turn.step q.turn.rows new → IsHit q rs i real after → IsHit (query_later q new) rs i real after
hit_goes_on q new rs i real after on h = record {
  fill = h.fill;
  is = fill_goes_on q.turn.rows new q.turn.step i h.fill on h.is;
  of_thread = h.of_thread;
  below = h.below;
  walk = h.walk;
  same = h.same;
}

same_walk_fills : (old new : Rows) (t n from : ℕ) (ask : Ask) (is : List ℕ) (items : List TrailItem) → GoesOn n old new → from ≤ length old.reads → AreItems old.reads from is items →
    fills_of t n ask new.reads from items ≡ fills_of t n ask old.reads from items
same_walk_fills old new t n from ask is items on within h =
    ap (λ xs. fills_of t n ask xs from items) on.reads ∙
    ap (λ xs. fills_from t n (task_of never_denied ask) (own_key (place_of ask)) (start_of never_denied ask) nothing_so_far xs) (numbered_front old.reads on.more_reads from from is items within h)

walked_goes_on : (q : Query) (new : Rows) (rs : List ReadRow) (i real : ℕ) (after : Mark) → GoesOn q.turn.step q.turn.rows new → IsWithin after q.turn.rows → IsWalked q rs i real after → IsWalked (query_later q new) rs i real after
walked_goes_on q new rs i real after on within h =
    let old : Rows = q.turn.rows in
    let n : ℕ = q.turn.step in
    let begun : q.before.reads ≤ length old.reads = omega (arith, h.reads_to, within.reads) in
    let same_walk : fills_of q.turn.thread n q.ask new.reads q.before.reads h.items ≡ fills_of q.turn.thread n q.ask old.reads q.before.reads h.items =
    same_walk_fills old new q.turn.thread n q.before.reads q.ask (fill_reads h.fill) h.items on begun h.are_items in
    let same_fills : added new.fills q.before.fills after.fills ≡ added old.fills q.before.fills after.fills = fills_go_on old new n q.before.fills after.fills on within.fills in
    record {
      fill = h.fill;
      is = fill_goes_on old new n i h.fill on h.is;
      of_thread = h.of_thread;
      same_moment = h.same_moment;
      from = h.from;
      last = h.last;
      few = h.few;
      walk = h.walk;
      items = h.items;
      are_items = subst (λ xs. AreItems xs q.before.reads (fill_reads h.fill) h.items) (sym on.reads) (items_front old.reads on.more_reads q.before.reads (fill_reads h.fill) h.items h.are_items);
      reads_to = h.reads_to;
      reads = reads_go_on old new n q.before.reads after.reads on within.reads ∙ h.reads;
      fills = subst (λ xs. AllByRecursion (λ f. Contains xs f) (added new.fills q.before.fills after.fills)) (sym same_walk)
          (subst (λ ys. AllByRecursion (λ f. Contains (fills_of q.turn.thread n q.ask old.reads q.before.reads h.items) f) ys) (sym same_fills) h.fills);
    }

-- a fault stays what it is
pub fault_goes_on : (q : Query) (new : Rows) (cause : Cause) (first count : ℕ) (after : Mark) → GoesOn q.turn.step q.turn.rows new → IsWithin after q.turn.rows → IsFault q cause first count after → IsFault (query_later q new) cause first count after
fault_goes_on q new cause first count after on within h = record {
  readings = h.readings;
  fresh = h.fresh;
  adds = record {
    first_is = h.adds.first_is;
    count_is = h.adds.count_is;
    reads_to = h.adds.reads_to;
    fills_to = h.adds.fills_to;
    reads = reads_go_on q.turn.rows new q.turn.step q.before.reads after.reads on within.reads ∙ h.adds.reads;
  };
}

-- so does a stop
pub stop_goes_on : (q : Query) (new : Rows) (name : StopName) (value : ℕ) (after : Mark) → IsStop q name value after → IsStop (query_later q new) name value after
stop_goes_on q new name value after h = record { readings = h.readings; fresh = h.fresh; same = h.same }

-- an answer by its kind, when each kind goes on to another
pub by_kind_on : (q r : Query) (hit walked hit2 walked2 : ℕ → ℕ → Mark → Type 0) (fault fault2 : Cause → ℕ → ℕ → Mark → Type 0) (stop stop2 : StopName → ℕ → Mark → Type 0) (found : Found) (after : Mark) → q.ask ≡ r.ask → q.before ≡ r.before →
    ((i real : ℕ) → hit i real after → hit2 i real after) → ((i real : ℕ) → walked i real after → walked2 i real after) → ((cause : Cause) (first count : ℕ) → fault cause first count after → fault2 cause first count after) → ((name : StopName) (value : ℕ) → stop name value after → stop2 name value after) →
    ByKind q hit walked fault stop found after → ByKind r hit2 walked2 fault2 stop2 found after
by_kind_on q r hit walked hit2 walked2 fault fault2 stop stop2 (Real a (RealUse b)) after ask before on_hit on_walk on_fault on_stop h = (ap place_of (sym ask) ∙ h.0, h.1, subst (λ x. SameMark x after) before h.2)
by_kind_on q r hit walked hit2 walked2 fault fault2 stop stop2 (Real a (Hit i b)) after ask before on_hit on_walk on_fault on_stop h = (subst IsTranslated ask h.0, h.1, on_hit i a h.2)
by_kind_on q r hit walked hit2 walked2 fault fault2 stop stop2 (Real a (Walked i b)) after ask before on_hit on_walk on_fault on_stop h = (subst IsTranslated ask h.0, h.1, on_walk i a h.2)
by_kind_on q r hit walked hit2 walked2 fault fault2 stop stop2 (Real a (Faulted first count)) after ask before on_hit on_walk on_fault on_stop h = h
by_kind_on q r hit walked hit2 walked2 fault fault2 stop stop2 (Real a Unused) after ask before on_hit on_walk on_fault on_stop h = h
by_kind_on q r hit walked hit2 walked2 fault fault2 stop stop2 (Fault cause (Faulted first count)) after ask before on_hit on_walk on_fault on_stop h = (subst IsTranslated ask h.0, on_fault cause first count h.1)
by_kind_on q r hit walked hit2 walked2 fault fault2 stop stop2 (Fault cause Unused) after ask before on_hit on_walk on_fault on_stop h = h
by_kind_on q r hit walked hit2 walked2 fault fault2 stop stop2 (Fault cause (RealUse b)) after ask before on_hit on_walk on_fault on_stop h = h
by_kind_on q r hit walked hit2 walked2 fault fault2 stop stop2 (Fault cause (Hit i b)) after ask before on_hit on_walk on_fault on_stop h = h
by_kind_on q r hit walked hit2 walked2 fault fault2 stop stop2 (Fault cause (Walked i b)) after ask before on_hit on_walk on_fault on_stop h = h
by_kind_on q r hit walked hit2 walked2 fault fault2 stop stop2 (Stop name value) after ask before on_hit on_walk on_fault on_stop h = (subst IsTranslated ask h.0, on_stop name value h.1)

-- the fill that a use names is there
walk_there : (q : Query) (rs : List ReadRow) (found : Found) (after : Mark) → ByKind q (IsHit q rs) (IsWalked q rs) (IsFault q) (IsStop q) found after → IsThere q.turn.rows.fills (use_of found)
walk_there q rs (Real a (RealUse b)) after h = tt
walk_there q rs (Real a (Hit i b)) after h = (h.2.fill, h.2.is)
walk_there q rs (Real a (Walked i b)) after h = (h.2.fill, h.2.is)
walk_there q rs (Real a (Faulted first count)) after h = tt
walk_there q rs (Real a Unused) after h = tt
walk_there q rs (Fault cause (Faulted first count)) after h = tt
walk_there q rs (Fault cause Unused) after h = tt
walk_there q rs (Fault cause (RealUse b)) after h = tt
walk_there q rs (Fault cause (Hit i b)) after h = absurd h
walk_there q rs (Fault cause (Walked i b)) after h = absurd h
walk_there q rs (Stop name value) after h = tt

pub answer_goes_on : (past : ℕ → ℕ → Option ℕ) (q : Query) (new : Rows) (found : Found) (after : Mark) → GoesOn q.turn.step q.turn.rows new → IsWithin after q.turn.rows → IsAnswer past q found after → IsAnswer past (query_later q new) found after
answer_goes_on past q new found after on within h = record {
  readings = h.readings;
  named = numbers_go_on q.turn.rows new q.turn.step (use_of found) h.readings on h.named (walk_there q h.readings found after h.walk);
  read = h.read;
  current = all_stay_current q.turn.rows new q.turn.thread q.turn.step h.readings on h.current;
  walk = by_kind_on q (query_later q new) (IsHit q h.readings) (IsWalked q h.readings) (IsHit (query_later q new) h.readings) (IsWalked (query_later q new) h.readings) (IsFault q) (IsFault (query_later q new)) (IsStop q) (IsStop (query_later q new)) found after refl refl
      (λ i real. hit_goes_on q new h.readings i real after on)
      (λ i real. walked_goes_on q new h.readings i real after on within)
      (λ cause first count. fault_goes_on q new cause first count after on within)
      (λ name value. stop_goes_on q new name value after) h.walk;
  right = h.right;
}

-- answers by a relation that goes on with the journal go on
record Fewer (before after : Mark) : Type 0 where
  fills : before.fills ≤ after.fills
  reads : before.reads ≤ after.reads

answers_grow : (answers : Mark → Ask → Found → Mark → Type 0) (before after : Mark) (asks : List Ask) (founds : List Found) → AreAnswered answers before asks founds after → Fewer before after
answers_grow answers before after [] [] h = (let e : after ≡ before = h in rw e (let g : Fewer before before = record { fills = omega arith; reads = omega arith } in g))
answers_grow answers before after [] (found ∷ founds) h = absurd h
answers_grow answers before after (ask ∷ asks) [] h = absurd h
answers_grow answers before after (ask ∷ asks) (found ∷ founds) h =
    let first : NoFewer before h.0 = h.1 in
    let rest : Fewer h.0 after = answers_grow answers h.0 after asks founds h.3 in
    record { fills = omega (arith, first.fills, rest.fills); reads = omega (arith, first.reads, rest.reads) }

pub answered_goes_on : (answers later : Mark → Ask → Found → Mark → Type 0) (rows : Rows) (before after : Mark) (asks : List Ask) (founds : List Found) → IsWithin after rows →
    ((b : Mark) (ask : Ask) (found : Found) (a : Mark) → IsWithin a rows → answers b ask found a → later b ask found a) → AreAnswered answers before asks founds after → AreAnswered later before asks founds after
answered_goes_on answers later rows before after [] [] within on h = h
answered_goes_on answers later rows before after [] (found ∷ founds) within on h = h
answered_goes_on answers later rows before after (ask ∷ asks) [] within on h = h
answered_goes_on answers later rows before after (ask ∷ asks) (found ∷ founds) within on h =
    let rest : Fewer h.0 after = answers_grow answers h.0 after asks founds h.3 in
    let between : IsWithin h.0 rows = record { fills = omega (arith, rest.fills, within.fills); reads = omega (arith, rest.reads, within.reads) } in
    (h.0, h.1, on before ask found h.0 between h.2, answered_goes_on answers later rows h.0 after asks founds within on h.3)

pub answers_go_on : (past : ℕ → ℕ → Option ℕ) (word : ℕ → Option ℕ) (v : Turn) (new : Rows) (before after : Mark) (asks : List Ask) (founds : List Found) → GoesOn v.step v.rows new → IsWithin after v.rows →
    AreAnswered (λ b ask. IsAnswer past (query_of v word b ask)) before asks founds after → AreAnswered (λ b ask. IsAnswer past (query_of (turn_later v new) word b ask)) before asks founds after
answers_go_on past word v new before after asks founds on within h =
    answered_goes_on (λ b ask. IsAnswer past (query_of v word b ask)) (λ b ask. IsAnswer past (query_of (turn_later v new) word b ask)) v.rows before after asks founds within
    (λ b ask found a inside one. answer_goes_on past (query_of v word b ask) new found a on inside one) h
