-- What the readings of a walk that gave a page do, whether it used what stands or not.
use Rattle.std.proofs.Common.{◌≡◌, ℕ, List, [], ◌∷◌, length, map, Option, Some, None, arith, ap, sym, ◌∙◌, refl, subst, inl, inr}
use Rattle.std.specs.Prelude.{slice_get}
use Rattle.std.specs.List.{AllByRecursion}
use Rattle.journal_core.specs.declared.rows.ReadRow.{ReadRow}
use Rattle.journal_core.specs.declared.rows.FillRow.{FillRow}
use Rattle.journal_core.specs.declared.rows.KeyKind.{KeyKind}
use Rattle.journal_core.specs.declared.rows.KeyKind.TheVariants.{ProcessDir, PartDir}
use Rattle.journal_core.specs.declared.asks.Place.{Place}
use Rattle.journal_core.specs.declared.asks.Place.TheVariants.{Real, GuestReal, Space, Segment}
use Rattle.journal_core.specs.declared.walks.NestResult.{NestResult}
use Rattle.journal_core.specs.declared.walks.NestResult.TheVariants.{Page}
use Rattle.journal_core.specs.declared.walks.Stage.{Stage}
use Rattle.journal_core.specs.declared.walks.Stage.TheVariants.{SecondWord, PartEntry, PartTable, ProcessEntry, ProcessTable, Over}
use Rattle.journal_core.specs.declared.walks.TrailItem.{TrailItem}
use Rattle.journal_core.specs.declared.walks.TrailItem.TheVariants.{Old, New}
use Rattle.journal_core.specs.Rows.{Rows}
use Rattle.journal_core.specs.Places.{place_of}
use Rattle.journal_core.specs.Covers.{IsCurrent}
use Rattle.journal_core.specs.Rights.{first_denial}
use Rattle.journal_core.specs.Walk.{Task, next, stage_after, task_of, start_of}
use Rattle.journal_core.specs.Following.{IsNew, AreNew, EndsAt, WalksFrom, IsTrueReading, Fresh}
use Rattle.journal_core.specs.Turns.{Query, turn_later}
use Rattle.journal_core.specs.Standing.{fill_reads, AreRows, IsStanding, IsStandingPage, IsDeepest}
use Rattle.journal_core.specs.Resumed.{KeptAnswers, KnowsStanding, due, owed_at, kept_reads, numbers_of, numbers_in, ResumesFrom, Resumed, readings}
use Rattle.journal_core.specs.PartResumed.{kept_for}
use Rattle.journal_core.specs.Fills.{OldsBelow}
use Rattle.journal_core.specs.Admitted.{IsReadBy, IsWalkTo, IsRight}
use Rattle.journal_core.specs.Choice.{WalkedBy}
use Rattle.walk_laws.specs.KeptLaws.{AreWords, IsReadyFor}
use Rattle.journal_core.proofs.StandingStays.{all_get, standing_goes_back}
use Rattle.walk_laws.proofs.ChoiceStays.{AreBelow, names_below, fresh_olds}
use Rattle.walk_laws.proofs.FreedWalks.{permitted_walks}
use Rattle.walk_laws.proofs.KeptPart.{read_by}
use Rattle.walk_laws.proofs.ResumedLemmas.{resumed_walks}
use Rattle.walk_laws.proofs.ResumedReadingsLemmas.{StandingAll, resumed_all, resumed_current, new_current}

-- a walk answers: its old readings were there before, its readings are true and current, and they lead to a page that the rights
-- in them permit
pub record AnsweringWalk (past : ℕ → ℕ → Option ℕ) (q : Query) (items : List TrailItem) (real : ℕ) : Type 0 where
  pub olds : OldsBelow q.before.reads items
  pub read : AllByRecursion (IsReadBy past q.turn.step) (readings q.turn.rows.reads items)
  pub current : AllByRecursion (IsCurrent q.turn.rows.dones q.turn.thread q.turn.step) (readings q.turn.rows.reads items)
  pub walk : IsWalkTo q.ask (readings q.turn.rows.reads items) real
  pub right : IsRight q.ask (readings q.turn.rows.reads items) real

gap_apart : {X : Type 0} (word : ℕ → Option ℕ) (at : ℕ) (out : NestResult) (real : ℕ) → out ≡ Page real → EndsAt word (SecondWord at) out → X
gap_apart word at out real page h = (let e : Page real ≡ _ = sym page ∙ h.1 in cc)

-- a walk that ends in a page is over with it
pub page_ends : (word : ℕ → Option ℕ) (s : Stage) (real : ℕ) → EndsAt word s (Page real) → s ≡ Over (Page real)
page_ends word (SecondWord at) real h = gap_apart word at (Page real) real refl h
page_ends word (PartEntry goal gra at) real h = gap_apart word at (Page real) real refl h
page_ends word (PartTable goal gra n) real h = gap_apart word _ (Page real) real refl h
page_ends word (ProcessEntry at) real h = gap_apart word at (Page real) real refl h
page_ends word (ProcessTable n at) real h = gap_apart word at (Page real) real refl h
page_ends word (Over o) real h = ap Over (sym h)

-- what is due is below a number, where all that is kept is
below_due : (m : ℕ) (a : KeptAnswers) (k : Task) (s : Stage) (owed : List ℕ) → ((lpid gra : ℕ) → AreBelow m (kept_for a lpid gra)) → AreBelow m owed → AreBelow m (due a k s owed)
below_due m a k s (i ∷ is) kept h = h
below_due m a k (SecondWord at) [] kept h = h
below_due m a k (PartEntry goal gra at) [] kept h = kept k.lpid gra
below_due m a k (PartTable goal gra n) [] kept h = h
below_due m a k (ProcessEntry at) [] kept h = h
below_due m a k (ProcessTable n at) [] kept h = h
below_due m a k (Over o) [] kept h = h

olds_before : (m : ℕ) (word : ℕ → Option ℕ) (n : ℕ) (a : KeptAnswers) (k : Task) (s : Stage) (owed : List ℕ) (items : List TrailItem) (out : NestResult) → ((lpid gra : ℕ) → AreBelow m (kept_for a lpid gra)) → AreBelow m owed → ResumesFrom word n a k s owed items out → OldsBelow m items
olds_before m word n a k s owed [] out kept below h = tt
olds_before m word n a k s owed (New r ∷ items) out kept below h = olds_before m word n a k (next k s r.value) [] items out kept tt h.3
olds_before m word n a k s owed (Old i ∷ items) out kept below h =
    let all : AreBelow m (i ∷ h.0) = subst (AreBelow m) h.2 (below_due m a k s owed kept below) in
    (all.0, olds_before m word n a k (next k s h.1.value) h.0 items out kept all.1 h.5)

-- a standing fill's numbers name old reads
standing_below : (past : ℕ → ℕ → Option ℕ) (q : Query) (old : Rows) (i : ℕ) (f : FillRow) (fills : List FillRow) → IsReadyFor past q old → fills ≡ q.turn.rows.fills → IsStanding q.turn q.before.fills i f → AreBelow (length old.reads) (numbers_of fills (Some i))
standing_below past q old i f fills ready same h =
    let back : IsStanding (turn_later q.turn old) q.before.fills i f = goes_back past q old i f ready h in
    let numbers : numbers_of fills (Some i) ≡ fill_reads f = ap (λ fs. numbers_in (slice_get fs i)) same ∙ ap numbers_in h.is in
    subst (AreBelow (length old.reads)) (sym numbers) (names_below old.reads (fill_reads f) back.readings back.named)
  where
    goes_back : (past : ℕ → ℕ → Option ℕ) (q : Query) (old : Rows) (i : ℕ) (f : FillRow) → IsReadyFor past q old → IsStanding q.turn q.before.fills i f → IsStanding (turn_later q.turn old) q.before.fills i f
    goes_back past q old i f ready h = standing_goes_back old q.turn.rows q.turn.floor q.turn.thread q.turn.step q.before.fills i f ready.on (let e : q.before.fills ≡ length old.fills = ap (λ r. r.fills) ready.before in omega (arith, e)) ready.named h

directory_below : (past : ℕ → ℕ → Option ℕ) (q : Query) (old : Rows) (a : KeptAnswers) (kind : KeyKind) (lpid pid sought : ℕ) (o : Option ℕ) → IsReadyFor past q old → KnowsStanding q.turn q.before.fills a → IsDeepest q.turn q.before.fills kind lpid pid sought o → AreBelow (length old.reads) (numbers_of a.fills o)
directory_below past q old a kind lpid pid sought None ready knows h = tt
directory_below past q old a kind lpid pid sought (Some i) ready knows h = standing_below past q old i h.fill a.fills ready knows.fills h.standing

page_below : (past : ℕ → ℕ → Option ℕ) (q : Query) (old : Rows) (a : KeptAnswers) (lpid gra : ℕ) (o : Option ℕ) → IsReadyFor past q old → KnowsStanding q.turn q.before.fills a → IsStandingPage q.turn q.before.fills lpid gra o → AreBelow (length old.reads) (kept_reads a.fills o (a.directory PartDir lpid 0 gra))
page_below past q old a lpid gra (Some i) ready knows h = standing_below past q old i h.fill a.fills ready knows.fills h.standing
page_below past q old a lpid gra None ready knows h = directory_below past q old a PartDir lpid 0 gra (a.directory PartDir lpid 0 gra) ready knows (knows.directories PartDir lpid 0 gra tt)

owed_before : (past : ℕ → ℕ → Option ℕ) (q : Query) (old : Rows) (a : KeptAnswers) (p : Place) → IsReadyFor past q old → KnowsStanding q.turn q.before.fills a → AreBelow (length old.reads) (owed_at a p)
owed_before past q old a (Real x) ready knows = tt
owed_before past q old a (GuestReal lpid x) ready knows = tt
owed_before past q old a (Space lpid pid x) ready knows = directory_below past q old a ProcessDir lpid pid x (a.directory ProcessDir lpid pid x) ready knows (knows.directories ProcessDir lpid pid x tt)
owed_before past q old a Segment ready knows = tt

-- rows that old numbers name are true
named_true : (past : ℕ → ℕ → Option ℕ) (reads : List ReadRow) (is : List ℕ) (rs : List ReadRow) → AllByRecursion (IsTrueReading past) reads → AreRows reads is rs → AllByRecursion (IsTrueReading past) rs
named_true past reads [] [] all h = tt
named_true past reads [] (r ∷ rs) all h = absurd h
named_true past reads (i ∷ is) [] all h = absurd h
named_true past reads (i ∷ is) (r ∷ rs) all h = (all_get (IsTrueReading past) reads i r all h.0, named_true past reads is rs all h.1)

-- so are the readings of each fill that stands
pub standing_true : (past : ℕ → ℕ → Option ℕ) (q : Query) (old : Rows) → IsReadyFor past q old → StandingAll (IsTrueReading past) q.turn q.before.fills
unfolding standing_goes_back
standing_true past q old ready i f h =
    let back : IsStanding (turn_later q.turn old) q.before.fills i f = standing_goes_back old q.turn.rows q.turn.floor q.turn.thread q.turn.step q.before.fills i f ready.on (let e : q.before.fills ≡ length old.fills = ap (λ r. r.fills) ready.before in omega (arith, e)) ready.named h in
    named_true past old.reads (fill_reads f) back.readings ready.reads back.named

-- what is read now is true
pub new_true : (past : ℕ → ℕ → Option ℕ) (q : Query) → AreWords past q → (sought : ℕ) (r : ReadRow) → IsNew q.word q.turn.step sought r → IsTrueReading past r
new_true past q word sought r h = subst (λ m. past m r.at ≡ Some r.value) (sym h.same_moment) (sym (word r.at) ∙ h.stands)

-- a walk that uses what stands answers
resumed_answers : (past : ℕ → ℕ → Option ℕ) (q : Query) (old : Rows) (a : KeptAnswers) (items : List TrailItem) (real : ℕ) → IsReadyFor past q old → KnowsStanding q.turn q.before.fills a → Resumed q.word q.turn.step a q.ask items (Page real) → AnsweringWalk past q items real
resumed_answers past q old a items real ready knows h =
    let k : Task = task_of (first_denial q.ask) q.ask in
    let s : Stage = start_of (first_denial q.ask) q.ask in
    let w : WalksFrom q.word k s (readings a.reads items) (Page real) = resumed_walks q.word q.turn.step a k s (owed_at a (place_of q.ask)) items (Page real) h in
    let right : IsRight q.ask (readings a.reads items) real = page_ends q.word (stage_after k s (readings a.reads items)) real w.ends in
    let current : AllByRecursion (IsCurrent q.turn.rows.dones q.turn.thread q.turn.step) (readings a.reads items) = resumed_current q.word q.turn q.before.fills a q.ask items (Page real) knows h in
    let stood : AllByRecursion (IsTrueReading past) (readings a.reads items) = resumed_all (IsTrueReading past) q.word q.turn q.before.fills a q.ask items (Page real) (standing_true past q old ready) (new_true past q ready.word) knows h in
    let same : readings a.reads items ≡ readings q.turn.rows.reads items = ap (λ xs. readings xs items) knows.reads in
    record {
      olds = subst (λ m. OldsBelow m items) (sym (ap (λ r. r.reads) ready.before)) (olds_before (length old.reads) q.word q.turn.step a k s (owed_at a (place_of q.ask)) items (Page real) (λ lpid gra. page_below past q old a lpid gra (a.page lpid gra) ready knows (knows.pages lpid gra)) (owed_before past q old a (place_of q.ask) ready knows) h);
      read = subst (AllByRecursion (IsReadBy past q.turn.step)) same (read_by past q.turn (readings a.reads items) current stood);
      current = subst (AllByRecursion (IsCurrent q.turn.rows.dones q.turn.thread q.turn.step)) same current;
      walk = subst (λ rs. IsWalkTo q.ask rs real) same (permitted_walks q.ask (readings a.reads items) real w.follows right);
      right = subst (λ rs. IsRight q.ask rs real) same right;
    }

-- what holds of each new reading holds of all of a fresh walk
pub all_new : (P : ReadRow → Type 0) (word : ℕ → Option ℕ) (n : ℕ) (k : Task) (s : Stage) (rs : List ReadRow) → ((sought : ℕ) (r : ReadRow) → IsNew word n sought r → P r) → AreNew word n k s rs → AllByRecursion P rs
all_new P word n k s [] on h = tt
all_new P word n k s (r ∷ rs) on h = (on _ r h.0, all_new P word n k (next k s r.value) rs on h.1)

new_readings : (reads rs : List ReadRow) → readings reads (map New rs) ≡ rs
new_readings reads [] = refl
new_readings reads (r ∷ rs) = ap (λ (xs : List ReadRow). r ∷ xs) (new_readings reads rs)

-- a fresh walk answers
pub fresh_answers : (past : ℕ → ℕ → Option ℕ) (q : Query) (rs : List ReadRow) (real : ℕ) → AreWords past q → Fresh q.word q.turn.step q.ask rs (Page real) → AnsweringWalk past q (map New rs) real
fresh_answers past q rs real word h =
    let k : Task = task_of (first_denial q.ask) q.ask in
    let s : Stage = start_of (first_denial q.ask) q.ask in
    let right : IsRight q.ask rs real = page_ends q.word (stage_after k s rs) real h.walk.ends in
    let current : AllByRecursion (IsCurrent q.turn.rows.dones q.turn.thread q.turn.step) rs = all_new (IsCurrent q.turn.rows.dones q.turn.thread q.turn.step) q.word q.turn.step k s rs (λ sought r new. new_current q.turn.rows.dones q.turn.thread q.turn.step r new.same_moment) h.new in
    let stood : AllByRecursion (IsTrueReading past) rs = all_new (IsTrueReading past) q.word q.turn.step k s rs (new_true past q word) h.new in
    let same : rs ≡ readings q.turn.rows.reads (map New rs) = sym (new_readings q.turn.rows.reads rs) in
    record {
      olds = fresh_olds q.before.reads rs;
      read = subst (AllByRecursion (IsReadBy past q.turn.step)) same (read_by past q.turn rs current stood);
      current = subst (AllByRecursion (IsCurrent q.turn.rows.dones q.turn.thread q.turn.step)) same current;
      walk = subst (λ xs. IsWalkTo q.ask xs real) same (permitted_walks q.ask rs real h.walk.follows right);
      right = subst (λ xs. IsRight q.ask xs real) same right;
    }

-- either answers
pub walked_answers : (past : ℕ → ℕ → Option ℕ) (q : Query) (old : Rows) (a : KeptAnswers) (items : List TrailItem) (real : ℕ) → IsReadyFor past q old → KnowsStanding q.turn q.before.fills a → WalkedBy q a items real → AnsweringWalk past q items real
walked_answers past q old a items real ready knows (inl h) = resumed_answers past q old a items real ready knows h
walked_answers past q old a items real ready knows (inr h) = subst (λ xs. AnsweringWalk past q xs real) (sym h.2) (fresh_answers past q h.1 real ready.word h.3)
