-- The machine's choice for a fetch, first with nothing kept and then with its own fill; each line says which definitions it
-- exercises.
use Rattle.std.proofs.Common.{◌≡◌, ℕ, ◌<◌, List, [], ◌∷◌, map, refl, Option, Some, None, true, false, arith, inl, ap, subst, sym}
use Rattle.std.specs.List.{AllByRecursion}
use Rattle.walk_laws.proofs.ExampleWalks.{task, start, rows_of, leads_by}
use Rattle.walk_laws.proofs.ExampleTables.{tables, ask_of}
use Rattle.walk_laws.proofs.ExamplesCurrent.{all_current}
use Rattle.journal_core.proofs.StandingStays.{rows_unique}
use Rattle.walk_laws.proofs.WalkIsOne.{fresh_unique}
use Rattle.walk_laws.proofs.ResumedLemmas.{nothing_kept}
use Rattle.journal_core.specs.PartitionWalk.{part_start, after_entry, after_tree, at_node}
use Rattle.journal_core.specs.Rights.{first_denial}
use Rattle.journal_core.specs.Places.{place_of}
use Rattle.journal_core.specs.Walk.{inside, in_process, after_second, after_process_entry, process_start}
use Rattle.journal_core.specs.Following.{Fresh}
use Rattle.journal_core.specs.Rows.{Rows, no_rows}
use Rattle.journal_core.specs.Turns.{Mark, Turn, turn_of, query_of}
use Rattle.journal_core.specs.Standing.{fill_reads, AreRows, IsStanding, IsStandingPage, IsDeepest, key_of}
use Rattle.journal_core.specs.Covers.{IsCurrent, covers, ends_reading}
use Rattle.journal_core.specs.Resumed.{KeptAnswers, Resumed, KnowsNothing, KnowsStanding}
use Rattle.journal_core.specs.Fills.{fills_of, fill_of, new_rows}
use Rattle.journal_core.specs.Translating.{AreFrom}
use Rattle.journal_core.specs.Choice.{IsTranslated, IsPermitted, NonePermits, NoneServes, Choice}
use Rattle.journal_core.specs.declared.rows.Done.{Done}
use Rattle.journal_core.specs.declared.rows.DoneRow.{DoneRow}
use Rattle.journal_core.specs.declared.rows.Done.TheVariants.{Global, Ptcr}
use Rattle.journal_core.specs.declared.rows.FillRow.{FillRow}
use Rattle.journal_core.specs.declared.rows.ReadRow.{ReadRow}
use Rattle.journal_core.specs.declared.rows.KeyKind.{KeyKind}
use Rattle.journal_core.specs.declared.rows.KeyKind.TheVariants.{Translation}
use Rattle.journal_core.specs.declared.rows.Use.TheVariants.{Real as RealUse, Hit, Walked, Faulted}
use Rattle.journal_core.specs.declared.rows.StopName.{StopName}
use Rattle.journal_core.specs.declared.rows.StopName.TheVariants.{NoStorage}
use Rattle.journal_core.specs.declared.asks.Ask.{Ask}
use Rattle.journal_core.specs.declared.asks.AccessKind.TheVariants.{Fetch, Load}
use Rattle.journal_core.specs.declared.asks.Found.TheVariants.{Real, Fault, Stop}
use Rattle.journal_core.specs.declared.causes.Cause.{Cause}
use Rattle.journal_core.specs.declared.causes.Cause.TheVariants.{DataSegment}
use Rattle.journal_core.specs.declared.walks.NestResult.{NestResult}
use Rattle.journal_core.specs.declared.walks.NestResult.TheVariants.{Page, Fault as WalkFault, Stop as WalkStop}
use Rattle.journal_core.specs.declared.walks.TrailItem.TheVariants.{New}

abbrev pub fetch : Ask
fetch = ask_of 0x5000 Fetch

abbrev pub reads : List ReadRow
reads = rows_of tables fetch

-- the journal after this fetch in step 7: its sixteen readings and its nine fills
abbrev pub rows : Rows
rows = record no_rows { reads = reads; fills = fills_of 0 7 fetch [] 0 (map New reads) }

-- so many fills and reads
abbrev pub reached : ℕ → ℕ → Mark
reached fills reads = record { fills = fills; reads = reads }

-- before any step nothing is kept
abbrev pub none_yet : Mark
none_yet = reached 0 0

none_below : (j : ℕ) → j < 0 → ⊥
none_below j below = omega arith

-- before the first fill nothing stands
abbrev known_of : Rows → KeptAnswers
known_of j = record { reads = j.reads; fills = j.fills; directory = λ kind lpid pid sought. None; page = λ lpid gra. None }

knows_none : (v : Turn) → KnowsStanding v 0 (known_of v.rows)
knows_none v = record { reads = refl; fills = refl; directories = λ kind lpid pid sought of_kind j g s for. none_below j s.below; pages = λ lpid gra j g s same. none_below j s.below }

pub none_permits : (v : Turn) (ask : Ask) → NonePermits v 0 ask
none_permits v ask i real hit = none_below i hit.standing.below

none_deepest : (v : Turn) (kind : KeyKind) (lpid pid sought : ℕ) (x : Option ℕ) → IsDeepest v 0 kind lpid pid sought x → x ≡ None
none_deepest v kind lpid pid sought None h = refl
none_deepest v kind lpid pid sought (Some i) h = absurd (none_below i h.standing.below)

none_kept : (v : Turn) (lpid gra : ℕ) (x : Option ℕ) → IsStandingPage v 0 lpid gra x → x ≡ None
none_kept v lpid gra None h = refl
none_kept v lpid gra (Some i) h = absurd (none_below i h.standing.below)

-- what knows exactly what stands then knows nothing
pub nothing_stands : (v : Turn) (a : KeptAnswers) → KnowsStanding v 0 a → KnowsNothing a
nothing_stands v a h = record { no_directory = λ kind lpid pid sought of_kind. none_deepest v kind lpid pid sought _ (h.directories kind lpid pid sought of_kind); no_page = λ lpid gra. none_kept v lpid gra _ (h.pages lpid gra) }

knows_nothing : (j : Rows) → KnowsNothing (known_of j)
knows_nothing j = record { no_directory = λ kind lpid pid sought of_kind. refl; no_page = λ lpid gra. refl }

new_again : (rs : List ReadRow) → new_rows (map New rs) ≡ rs
new_again [] = refl
new_again (r ∷ rs) = ap (λ xs. r ∷ xs) (new_again rs)

-- where nothing is kept, the walk that uses what is kept is the fresh one
fresh_resumes : (word : ℕ → Option ℕ) (n : ℕ) (a : KeptAnswers) (ask : Ask) (rs : List ReadRow) (out : NestResult) → KnowsNothing a → Fresh word n ask rs out → Resumed word n a ask (map New rs) out
fresh_resumes word n a ask rs out none fresh =
    (nothing_kept word n a ask (map New rs) out none).1 (subst (λ xs. (map New rs ≡ map New xs) × Fresh word n ask xs out) (sym (new_again rs)) (refl, fresh))

-- and if that one gives no page, none serves
none_serves : (word : ℕ → Option ℕ) (v : Turn) (ask : Ask) (rs : List ReadRow) (out : NestResult) → Fresh word v.step ask rs out → ((real : ℕ) → out ≡ Page real → ⊥) → NoneServes (query_of v word none_yet ask)
none_serves word v ask rs out fresh no_page = record {
  known = known_of v.rows;
  knows = knows_none v;
  none_permits = none_permits v ask;
  none_resumes = λ items real h.
      let walked : (items ≡ map New (new_rows items)) × Fresh word v.step ask (new_rows items) (Page real) = (nothing_kept word v.step (known_of v.rows) ask items (Page real) (knows_nothing v.rows)).0 h in
      no_page real (fresh_unique word v.step (task ask) (start ask) rs (new_rows items) out (Page real) fresh walked.1).1;
}

pub is_space : IsTranslated fetch
unfolding place_of
is_space a e = cc

pub fetch_walk : Fresh tables 7 fetch reads (Page 0x11_5000)
unfolding place_of part_start process_start after_second after_process_entry inside in_process after_entry after_tree at_node first_denial
fetch_walk = leads_by tables fetch (Page 0x11_5000) refl

-- the first fetch: nothing permits, and a walk gives the page; it adds sixteen reads and nine fills, the last one its own
-- (Choice, ChoseWalk, KnowsStanding, AddsWalk)
first_fetch : Choice (query_of (turn_of rows 0 0 7) tables none_yet fetch) (Real 0x11_5000 (Walked 8 0x11_5000)) (reached 9 16)
unfolding place_of part_start process_start after_second after_process_entry inside in_process after_entry after_tree at_node first_denial
first_fetch = (
  is_space,
  refl,
  record {
    known = known_of rows;
    knows = knows_none (turn_of rows 0 0 7);
    none_permits = none_permits (turn_of rows 0 0 7) fetch;
    items = map New reads;
    walked = inl (fresh_resumes tables 7 (known_of rows) fetch reads (Page 0x11_5000) (knows_nothing rows) fetch_walk);
    adds = record { reads_to = refl; fills_to = refl; reads = refl; fills = refl; last = refl };
  },
)

-- a fetch of the same page in step 8
abbrev pub again : Ask
again = ask_of 0x5004 Fetch

abbrev pub own_fill : FillRow
own_fill = fill_of 0 7 (key_of Translation 1 1 12 0x5000) 2 (0 ∷ 1 ∷ 2 ∷ 3 ∷ 4 ∷ 5 ∷ 6 ∷ 7 ∷ 8 ∷ 9 ∷ 10 ∷ 11 ∷ 12 ∷ 13 ∷ 14 ∷ 15 ∷ [])

pub own_named : AreRows reads (fill_reads own_fill) reads
unfolding place_of part_start process_start after_second after_process_entry inside in_process after_entry after_tree at_node first_denial
own_named = (refl, (refl, (refl, (refl, (refl, (refl, (refl, (refl, (refl, (refl, (refl, (refl, (refl, (refl, (refl, (refl, tt))))))))))))))))

none_between : (j : ℕ) → 8 < j → j < 9 → ⊥
none_between j later below = omega arith

abbrev with_dones : List DoneRow → Rows
with_dones dones = record rows { dones = dones }

-- the fetch's own fill stands in step 8, whatever that step and later ones complete
stands_in_8 : (dones : List DoneRow) → AreFrom 8 dones → IsStanding (turn_of (with_dones dones) 0 0 8) 9 8 own_fill
unfolding place_of part_start process_start after_second after_process_entry inside in_process after_entry after_tree at_node first_denial
stands_in_8 dones from = record {
  is = refl;
  of_thread = refl;
  from_floor = omega arith;
  below = omega arith;
  last = λ j later below g at thread same. none_between j later below;
  few = omega arith;
  readings = reads;
  named = own_named;
  current = all_current tables (task fetch) 7 36 0 8 (start fetch) dones (omega arith) from;
}

pub again_is_space : IsTranslated again
unfolding place_of
again_is_space a e = cc

again_permitted : (dones : List DoneRow) → AreFrom 8 dones → IsPermitted (turn_of (with_dones dones) 0 0 8) 9 again 8 0x11_5004
unfolding place_of part_start process_start after_second after_process_entry inside in_process after_entry after_tree at_node first_denial stands_in_8
again_permitted dones from = record { fill = own_fill; standing = stands_in_8 dones from; own = refl; permits = refl }

-- its own fill stands and permits it: a hit, which adds no row, and leads to its own place in the page (Choice, IsPermitted,
-- own_key, real_in)
second_fetch : Choice (query_of (turn_of rows 0 0 8) tables (reached 9 16) again) (Real 0x11_5004 (Hit 8 0x11_5004)) (reached 9 16)
second_fetch = (again_is_space, refl, (again_permitted [] tt, (refl, refl)))

-- no walk is chosen there, neither one that uses what stands nor a fresh one (ChoseWalk, NonePermits)
hit_before_walk : (i real : ℕ) (after : Mark) → Choice (query_of (turn_of rows 0 0 8) tables (reached 9 16) again) (Real real (Walked i real)) after → ⊥
hit_before_walk i real after h = h.2.none_permits 8 0x11_5004 (again_permitted [] tt)

-- the invalidation of this page, for all threads
abbrev of_page : Done
of_page = Global (record { ric = 0; prs = true; is = 0; lpid = 1; pid = 1; page = 0x5000; bits = 12 })

-- a thread completes it, or changes its partition table, in step 8
abbrev in_8 : ℕ → Done → List DoneRow
in_8 thread what = record { step = 8; thread = thread; what = what } ∷ []

-- what is completed in step 8 itself drops no fill there: the hit is chosen still (IsStanding, IsCurrent)
hit_in_step : Choice (query_of (turn_of (with_dones (in_8 1 of_page)) 0 0 8) tables (reached 9 16) again) (Real 0x11_5004 (Hit 8 0x11_5004)) (reached 9 16)
hit_in_step = (again_is_space, refl, (again_permitted (in_8 1 of_page) (omega arith, tt), (refl, refl)))

-- nor does a change of the partition table in the step itself
hit_in_change : Choice (query_of (turn_of (with_dones (in_8 0 Ptcr)) 0 0 8) tables (reached 9 16) again) (Real 0x11_5004 (Hit 8 0x11_5004)) (reached 9 16)
hit_in_change = (again_is_space, refl, (again_permitted (in_8 0 Ptcr) (omega arith, tt), (refl, refl)))

false_true : true ≡ false → ⊥
false_true e = cc

not_current : AllByRecursion (IsCurrent (in_8 1 of_page) 0 9) reads → ⊥
unfolding place_of part_start process_start after_second after_process_entry inside in_process after_entry after_tree at_node first_denial ends_reading covers
not_current h = false_true (h.1.1.1.1.1.1.1.1.1.1.1.1.0.kept.0 (omega arith))

own_rows : (f : FillRow) → Some own_fill ≡ Some f → own_fill ≡ f
own_rows f e = cc

-- in step 9 the fill does not stand, since the process's leaf among its readings is not current (IsStanding.current, AreRows)
fill_ends : (f : FillRow) → IsStanding (turn_of (with_dones (in_8 1 of_page)) 0 0 9) 9 8 f → ⊥
unfolding place_of part_start process_start after_second after_process_entry inside in_process after_entry after_tree at_node first_denial
fill_ends f h =
    let named : AreRows reads (fill_reads own_fill) h.readings = subst (λ g. AreRows reads (fill_reads g) h.readings) (sym (own_rows f h.is)) h.named in
    let same : h.readings ≡ reads = rows_unique reads (fill_reads own_fill) h.readings reads named own_named in
    not_current (subst (λ rs. AllByRecursion (IsCurrent (in_8 1 of_page) 0 9) rs) same h.current)

-- a load in hypervisor state without relocation is a real address, and is used as it is (Choice)
real_load : Choice (query_of (turn_of no_rows 0 0 7) tables none_yet (record (ask_of 0x1_0014 Load) { msr = 0x9000_0000_0000_1003 })) (Real 0x1_0014 (RealUse 0x1_0014)) none_yet
unfolding place_of
real_load = (refl, refl, (refl, refl))

-- a load in no segment ends in a fault with no reading, and adds no row (Choice, NoneServes, NoneResumes, IsFault)
abbrev pub away : Ask
away = ask_of 0x4000_0000_0000_0000 Load

pub is_no_place : IsTranslated away
unfolding place_of
is_no_place a e = cc

pub away_walk : Fresh tables 7 away [] (WalkFault (DataSegment 0x4000_0000_0000_0000))
unfolding place_of
away_walk = record { walk = record { follows = tt; ends = refl }; new = tt }

fault_is_no_page : (cause : Cause) (real : ℕ) → WalkFault cause ≡ Page real → ⊥
fault_is_no_page cause real e = cc

away_load : Choice (query_of (turn_of no_rows 0 0 7) tables none_yet away) (Fault (DataSegment 0x4000_0000_0000_0000) (Faulted 0 0)) none_yet
away_load = (
  is_no_place,
  (
    none_serves tables (turn_of no_rows 0 0 7) away [] (WalkFault (DataSegment 0x4000_0000_0000_0000)) away_walk (fault_is_no_page (DataSegment 0x4000_0000_0000_0000)),
    record { readings = []; fresh = away_walk; adds = record { first_is = refl; count_is = refl; reads_to = refl; fills_to = refl; reads = refl } },
  ),
)

-- where storage has no word, a load stops the machine at the first one that it wants, and adds no row (Choice, NoneServes, IsStop,
-- IsGap)
abbrev pub lost : Ask
lost = ask_of 0x5000 Load

abbrev pub no_word : ℕ → Option ℕ
no_word at = None

pub is_no_real : IsTranslated lost
unfolding place_of
is_no_real a e = cc

pub lost_walk : Fresh no_word 7 lost [] (WalkStop NoStorage 0x2_0018)
unfolding place_of process_start
lost_walk = record { walk = record { follows = tt; ends = (refl, refl) }; new = tt }

stop_is_no_page : (name : StopName) (value real : ℕ) → WalkStop name value ≡ Page real → ⊥
stop_is_no_page name value real e = cc

lost_load : Choice (query_of (turn_of no_rows 0 0 7) no_word none_yet lost) (Stop NoStorage 0x2_0018) none_yet
lost_load = (is_no_real, (none_serves no_word (turn_of no_rows 0 0 7) lost [] (WalkStop NoStorage 0x2_0018) lost_walk (stop_is_no_page NoStorage 0x2_0018), record { readings = []; fresh = lost_walk; same = (refl, refl) }))
