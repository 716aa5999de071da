-- Answers that keep the rule of a step, and some that do not, by computation; each line says which definitions it exercises.
use Rattle.std.proofs.Common.{◌≡◌, ℕ, suc, ◌≤◌, List, [], ◌∷◌, map, refl, Option, arith}
use Rattle.std.specs.Prelude.{Contains}
use Rattle.std.specs.List.{AllByRecursion}
use Rattle.walk_laws.proofs.ExampleWalks.{trace, trace_follows, task, start}
use Rattle.walk_laws.proofs.ExampleTables.{tables, with_words, leaf_with, ask_of}
use Rattle.walk_laws.proofs.ExamplesCurrent.{all_read, all_current}
use Rattle.walk_laws.proofs.ExamplesChoice.{fetch, reads, rows, reached, none_yet, again, own_fill, own_named, away, lost, no_word, is_space, again_is_space, is_no_place, away_walk, is_no_real, lost_walk}
use Rattle.journal_core.proofs.StandingStays.{all_mapped}
use Rattle.walk_laws.proofs.AlikeWalks.{follows_by_key}
use Rattle.walk_laws.proofs.FreedWalks.{permitted_walks}
use Rattle.journal_core.specs.PartitionWalk.{part_start, after_entry, after_tree, at_node}
use Rattle.journal_core.specs.Rights.{first_denial}
use Rattle.journal_core.specs.Places.{place_of}
use Rattle.journal_core.specs.Walk.{inside, in_process, after_second, after_process_entry, process_start, task_of, start_of, never_denied}
use Rattle.journal_core.specs.Following.{Follows}
use Rattle.journal_core.specs.Covers.{IsCurrent}
use Rattle.journal_core.specs.Rows.{no_rows}
use Rattle.journal_core.specs.Turns.{Mark, Turn, Query, turn_of, query_of}
use Rattle.journal_core.specs.Standing.{fill_reads}
use Rattle.journal_core.specs.Fills.{fills_of}
use Rattle.journal_core.specs.Admitted.{IsReadBy, IsWalkTo, IsRight}
use Rattle.journal_core.specs.Answers.{AreItems, IsAnswer}
use Rattle.journal_core.specs.declared.rows.ReadRow.{ReadRow}
use Rattle.journal_core.specs.declared.rows.Use.TheVariants.{Hit, Walked, Faulted}
use Rattle.journal_core.specs.declared.rows.StopName.TheVariants.{NoStorage}
use Rattle.journal_core.specs.declared.asks.Ask.{Ask}
use Rattle.journal_core.specs.declared.asks.AccessKind.TheVariants.{Load, Store}
use Rattle.journal_core.specs.declared.asks.Found.TheVariants.{Real, Fault, Stop}
use Rattle.journal_core.specs.declared.causes.Cause.{Cause}
use Rattle.journal_core.specs.declared.causes.Cause.TheVariants.{DataSegment}
use Rattle.journal_core.specs.declared.walks.TrailItem.TheVariants.{New}

-- storage stood so at each step
abbrev pub past : ℕ → ℕ → Option ℕ
past n at = tables at

-- a list contains each of its elements
contains_more : {X : Type 0} (y : X) (xs : List X) (x : X) → Contains xs x → Contains (y ∷ xs) x
contains_more y xs x h = (suc h.0, omega (arith, h.1), h.2)

pub contains_all : {X : Type 0} (xs : List X) → AllByRecursion (Contains xs) xs
contains_all [] = tt
contains_all (x ∷ xs) = ((0, omega arith, refl), all_mapped (Contains xs) (Contains (x ∷ xs)) (contains_more x xs) xs (contains_all xs))

pub fetch_follows : Follows (task fetch) (start fetch) reads
fetch_follows = trace_follows tables (task fetch) 7 36 (start fetch)

-- for step 7 and each later one the readings of the fetch are made, true and current; and they are a walk of it
pub fetch_read : (n : ℕ) → 7 ≤ n → AllByRecursion (IsReadBy past n) reads
fetch_read n later = all_read past tables (task fetch) 7 36 n (start fetch) later (λ at. refl)

pub fetch_current : (n : ℕ) → 7 ≤ n → AllByRecursion (IsCurrent [] 0 n) reads
fetch_current n later = all_current tables (task fetch) 7 36 0 n (start fetch) [] later tt

pub fetch_right : IsRight fetch reads 0x11_5000
unfolding place_of part_start process_start after_second after_process_entry inside in_process after_entry after_tree at_node first_denial
fetch_right = refl

pub fetch_walks : IsWalkTo fetch reads 0x11_5000
fetch_walks = permitted_walks fetch reads 0x11_5000 fetch_follows fetch_right

pub fetch_items : AreItems reads 0 (fill_reads own_fill) (map New reads)
unfolding place_of part_start process_start after_second after_process_entry inside in_process after_entry after_tree at_node first_denial
fetch_items = (omega arith, refl, (omega arith, refl, (omega arith, refl, (omega arith, refl, (omega arith, refl, (omega arith, refl, (omega arith, refl, (omega arith, refl, (omega arith, refl, (omega arith, refl, (omega arith, refl, (omega arith, refl, (omega arith, refl, (omega arith, refl, (omega arith, refl, (omega arith, refl, tt))))))))))))))))

-- a step before 7 has not made them (IsReadBy)
not_read_before : AllByRecursion (IsReadBy past 6) reads → ⊥
unfolding place_of part_start process_start after_second after_process_entry inside in_process after_entry after_tree at_node first_denial
not_read_before h = (let made : 7 ≤ 6 = h.0.0 in omega (arith, made))

-- a first fetch with nothing kept is answered by a walk (IsAnswer, IsWalked, AreItems, IsWalkTo, IsRight)
pub first_answer : IsAnswer past (query_of (turn_of rows 0 0 7) tables none_yet fetch) (Real 0x11_5000 (Walked 8 0x11_5000)) (reached 9 16)
unfolding place_of part_start process_start after_second after_process_entry inside in_process after_entry after_tree at_node first_denial
first_answer = record {
  readings = reads;
  named = own_named;
  read = fetch_read 7 (omega arith);
  current = fetch_current 7 (omega arith);
  walk = (
    is_space,
    refl,
    record {
      fill = own_fill;
      is = refl;
      of_thread = refl;
      same_moment = refl;
      from = omega arith;
      last = refl;
      few = omega arith;
      walk = fetch_walks;
      items = map New reads;
      are_items = fetch_items;
      reads_to = refl;
      reads = refl;
      fills = contains_all (fills_of 0 7 fetch reads 0 (map New reads));
    },
  );
  right = fetch_right;
}

-- the readings of that fill follow the walk of a fetch of the same page
again_follows : Follows (task again) (start again) reads
unfolding place_of part_start process_start after_second after_process_entry inside in_process after_entry after_tree at_node first_denial
again_follows = follows_by_key (first_denial fetch) (first_denial again) fetch again reads 0x11_5004 again_is_space refl refl fetch_follows refl

again_right : IsRight again reads 0x11_5004
unfolding place_of part_start process_start after_second after_process_entry inside in_process after_entry after_tree at_node first_denial
again_right = refl

-- a second fetch of the page in step 8 is answered by that fill (IsAnswer, IsHit, named_by)
second_answer : IsAnswer past (query_of (turn_of rows 0 0 8) tables (reached 9 16) again) (Real 0x11_5004 (Hit 8 0x11_5004)) (reached 9 16)
unfolding place_of part_start process_start after_second after_process_entry inside in_process after_entry after_tree at_node first_denial
second_answer = record {
  readings = reads;
  named = own_named;
  read = fetch_read 8 (omega arith);
  current = fetch_current 8 (omega arith);
  walk = (again_is_space, refl, record { fill = own_fill; is = refl; of_thread = refl; below = omega arith; walk = permitted_walks again reads 0x11_5004 again_follows again_right; same = (refl, refl) });
  right = again_right;
}

-- a load in no segment is answered by its fault, with no reading (IsAnswer, IsFault)
away_answer : IsAnswer past (query_of (turn_of no_rows 0 0 7) tables none_yet away) (Fault (DataSegment 0x4000_0000_0000_0000) (Faulted 0 0)) none_yet
away_answer = record {
  readings = [];
  named = tt;
  read = tt;
  current = tt;
  walk = (is_no_place, record { readings = []; fresh = away_walk; adds = record { first_is = refl; count_is = refl; reads_to = refl; fills_to = refl; reads = refl } });
  right = tt;
}

-- where storage has no word, a load is answered by the stop of the fresh walk (IsAnswer, IsStop)
lost_answer : IsAnswer (λ n. no_word) (query_of (turn_of no_rows 0 0 7) no_word none_yet lost) (Stop NoStorage 0x2_0018) none_yet
lost_answer = record { readings = []; named = tt; read = tt; current = tt; walk = (is_no_real, record { readings = []; fresh = lost_walk; same = (refl, refl) }); right = tt }

-- a store to a page that is not marked as changed: its readings are a walk to the page, and the rights in them refuse it
-- (IsWalkTo, IsRight)
abbrev unchanged : ℕ → Option ℕ
unchanged = with_words ((0x11_4080, leaf_with 0x107 0x1_0000) ∷ []) tables

abbrev store : Ask
store = ask_of 0x1_0014 Store

abbrev store_reads : List ReadRow
store_reads = trace unchanged (task_of never_denied store) 7 36 (start_of never_denied store)

refused_walk : IsWalkTo store store_reads 0x12_0014
unfolding place_of part_start process_start after_second after_process_entry inside in_process after_entry after_tree at_node first_denial
refused_walk = record { follows = trace_follows unchanged (task_of never_denied store) 7 36 (start_of never_denied store); leads = refl }

refused_right : IsRight store store_reads 0x12_0014 → ⊥
unfolding place_of part_start process_start after_second after_process_entry inside in_process after_entry after_tree at_node first_denial
refused_right e = cc

-- the address that a use shows is that of the answer (ByKind)
other_address : (past : ℕ → ℕ → Option ℕ) (q : Query) (i : ℕ) (after : Mark) → IsAnswer past q (Real 0x1000 (Walked i 0x2000)) after → ⊥
other_address past q i after h = (let same : 0x2000 ≡ 0x1000 = h.walk.1 in omega (arith, same))

-- a fault names its readings itself, and no fill (ByKind)
fault_of_fill : (past : ℕ → ℕ → Option ℕ) (q : Query) (cause : Cause) (i real : ℕ) (after : Mark) → IsAnswer past q (Fault cause (Walked i real)) after → ⊥
fault_of_fill past q cause i real after h = h.walk

-- an ask at a real address is answered by no walk, nor by what is kept (ByKind, IsTranslated)
abbrev real_load : Ask
real_load = record (ask_of 0x1_0014 Load) { msr = 0x9000_0000_0000_1003 }

real_walked : (v : Turn) (word : ℕ → Option ℕ) (before : Mark) (i real : ℕ) (after : Mark) → IsAnswer past (query_of v word before real_load) (Real real (Walked i real)) after → ⊥
unfolding place_of
real_walked v word before i real after h = h.walk.0 0x1_0014 refl

real_hit : (v : Turn) (word : ℕ → Option ℕ) (before : Mark) (i real : ℕ) (after : Mark) → IsAnswer past (query_of v word before real_load) (Real real (Hit i real)) after → ⊥
unfolding place_of
real_hit v word before i real after h = h.walk.0 0x1_0014 refl
