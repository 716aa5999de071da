-- The uses of one step, a fetch and a load; each line says which definitions it exercises.
use Rattle.std.proofs.Common.{◌≡◌, ℕ, ◌≤◌, List, [], ◌∷◌, ◌++◌, ap, sym, subst, refl, arith}
use Rattle.walk_laws.proofs.ExampleWalks.{task, start}
use Rattle.walk_laws.proofs.ExampleTables.{tables, leaf, ask_of}
use Rattle.walk_laws.proofs.ExamplesChoice.{fetch, reads, rows, reached, none_yet}
use Rattle.walk_laws.proofs.ExamplesAnswers.{past, contains_all, first_answer}
use Rattle.walk_laws.proofs.FreedWalks.{permitted_walks}
use Rattle.walk_laws.proofs.AnswersStay.{answer_goes_on}
use Rattle.journal_core.specs.PartitionWalk.{part_start, after_entry, after_tree, at_node}
use Rattle.journal_core.specs.Rights.{first_denial}
use Rattle.journal_core.specs.Places.{place_of}
use Rattle.journal_core.specs.Walk.{inside, in_process, after_second, after_process_entry, process_start}
use Rattle.journal_core.specs.Following.{Follows}
use Rattle.journal_core.specs.Rows.{Rows, no_rows}
use Rattle.journal_core.specs.Steps.{rows_below}
use Rattle.journal_core.specs.Turns.{Mark, NoFewer, Turn, turn_of, query_of}
use Rattle.journal_core.specs.Standing.{key_of}
use Rattle.journal_core.specs.Resumed.{readings}
use Rattle.journal_core.specs.Fills.{fills_of, fill_of}
use Rattle.journal_core.specs.Admitted.{IsWalkTo, IsRight}
use Rattle.journal_core.specs.Choice.{IsTranslated}
use Rattle.journal_core.specs.Answers.{AreAnswered, IsAnswer, KeepsUses}
use Rattle.journal_core.specs.Translating.{GoesOn}
use Rattle.journal_core.specs.declared.rows.FillRow.{FillRow}
use Rattle.journal_core.specs.declared.rows.ReadRow.{ReadRow}
use Rattle.journal_core.specs.declared.rows.Role.TheVariants.{ProcessLeaf, PartLeaf}
use Rattle.journal_core.specs.declared.rows.KeyKind.TheVariants.{Translation}
use Rattle.journal_core.specs.declared.rows.Use.{Use}
use Rattle.journal_core.specs.declared.rows.Use.TheVariants.{Unused, Walked}
use Rattle.journal_core.specs.declared.asks.Ask.{Ask}
use Rattle.journal_core.specs.declared.asks.AccessKind.TheVariants.{Load}
use Rattle.journal_core.specs.declared.asks.Found.{Found}
use Rattle.journal_core.specs.declared.asks.Found.TheVariants.{Real}
use Rattle.journal_core.specs.declared.walks.NestResult.TheVariants.{Page}
use Rattle.journal_core.specs.declared.walks.Stage.{Stage}
use Rattle.journal_core.specs.declared.walks.Stage.TheVariants.{Over}
use Rattle.journal_core.specs.declared.walks.TrailItem.{TrailItem}
use Rattle.journal_core.specs.declared.walks.TrailItem.TheVariants.{New, Old}

-- A load of the fetch's step, of page 16: it takes the nine readings of the process's directory, the three of the guest page of its
-- table and the two of the partition's directory, all of them rows of the fetch, and reads two words anew.
abbrev load : Ask
load = ask_of 0x1_0014 Load

abbrev leaf_reading : ReadRow
leaf_reading = record { role = ProcessLeaf; lpid = 1; pid = 1; sought = 0x1_0014; level = 2; left = 12; at = 0x11_4080; value = leaf 0x1_0000; moment = 7 }

abbrev page_reading : ReadRow
page_reading = record { role = PartLeaf; lpid = 1; pid = 0; sought = 0x1_0014; level = 2; left = 12; at = 0x10_2080; value = leaf 0x12_0000; moment = 7 }

abbrev items : List TrailItem
items = Old 0 ∷ Old 1 ∷ Old 2 ∷ Old 3 ∷ Old 4 ∷ Old 5 ∷ Old 6 ∷ Old 7 ∷ Old 8 ∷ Old 9 ∷ Old 10 ∷ Old 11 ∷ New leaf_reading ∷ Old 1 ∷ Old 2 ∷ New page_reading ∷ []

-- the readings of the fetch alone are no walk of it to its page, though each of them is true and current (IsWalkTo)
not_its_walk : IsWalkTo load reads 0x12_0014 → ⊥
unfolding place_of part_start process_start after_second after_process_entry inside in_process after_entry after_tree at_node first_denial
not_its_walk h = other h.leads
  where
    real_of : Stage → ℕ
    real_of (Over (Page real)) = real
    real_of s = 0

    other : Over (Page 0x11_5014) ≡ Over (Page 0x12_0014) → ⊥
    other e = (let same : 0x11_5014 ≡ 0x12_0014 = ap real_of e in omega (arith, same))

-- the journal after both: eighteen readings and eleven fills
abbrev more_reads : List ReadRow
more_reads = leaf_reading ∷ page_reading ∷ []

abbrev more_fills : List FillRow
more_fills = fills_of 0 7 load reads 16 items

abbrev both : Rows
both = record no_rows { reads = reads ++ more_reads; fills = rows.fills ++ more_fills }

abbrev load_fill : FillRow
load_fill = fill_of 0 7 (key_of Translation 1 1 12 0x1_0014) 2 (0 ∷ 1 ∷ 2 ∷ 3 ∷ 4 ∷ 5 ∷ 6 ∷ 7 ∷ 8 ∷ 9 ∷ 10 ∷ 11 ∷ 16 ∷ 1 ∷ 2 ∷ 17 ∷ [])

abbrev load_reads : List ReadRow
load_reads = readings both.reads items

load_follows : Follows (task load) (start load) load_reads
unfolding place_of part_start process_start after_second after_process_entry inside in_process after_entry after_tree at_node first_denial
load_follows = (record { same_role = refl; same_lpid = refl; same_pid = refl; same_level = refl; same_left = refl; same_at = refl }, (record { same_role = refl; same_lpid = refl; same_pid = refl; same_sought = refl; same_level = refl; same_left = refl; same_at = refl }, (record { same_role = refl; same_lpid = refl; same_pid = refl; same_sought = refl; same_level = refl; same_left = refl; same_at = refl }, (record { same_role = refl; same_lpid = refl; same_pid = refl; same_sought = refl; same_level = refl; same_left = refl; same_at = refl }, (record { same_role = refl; same_lpid = refl; same_pid = refl; same_sought = refl; same_level = refl; same_left = refl; same_at = refl }, (record { same_role = refl; same_lpid = refl; same_pid = refl; same_sought = refl; same_level = refl; same_left = refl; same_at = refl }, (record { same_role = refl; same_lpid = refl; same_pid = refl; same_sought = refl; same_level = refl; same_left = refl; same_at = refl }, (record { same_role = refl; same_lpid = refl; same_pid = refl; same_sought = refl; same_level = refl; same_left = refl; same_at = refl }, (record { same_role = refl; same_lpid = refl; same_pid = refl; same_sought = refl; same_level = refl; same_left = refl; same_at = refl }, (record { same_role = refl; same_lpid = refl; same_pid = refl; same_sought = refl; same_level = refl; same_left = refl; same_at = refl }, (record { same_role = refl; same_lpid = refl; same_pid = refl; same_sought = refl; same_level = refl; same_left = refl; same_at = refl }, (record { same_role = refl; same_lpid = refl; same_pid = refl; same_sought = refl; same_level = refl; same_left = refl; same_at = refl }, (record { same_role = refl; same_lpid = refl; same_pid = refl; same_sought = refl; same_level = refl; same_left = refl; same_at = refl }, (record { same_role = refl; same_lpid = refl; same_pid = refl; same_sought = refl; same_level = refl; same_left = refl; same_at = refl }, (record { same_role = refl; same_lpid = refl; same_pid = refl; same_sought = refl; same_level = refl; same_left = refl; same_at = refl }, (record { same_role = refl; same_lpid = refl; same_pid = refl; same_sought = refl; same_level = refl; same_left = refl; same_at = refl }, tt))))))))))))))))

is_load : IsTranslated load
unfolding place_of
is_load a e = cc

load_right : IsRight load load_reads 0x12_0014
unfolding place_of part_start process_start after_second after_process_entry inside in_process after_entry after_tree at_node first_denial
load_right = refl

load_answer : IsAnswer past (query_of (turn_of both 0 0 7) tables (reached 9 16) load) (Real 0x12_0014 (Walked 10 0x12_0014)) (reached 11 18)
unfolding place_of part_start process_start after_second after_process_entry inside in_process after_entry after_tree at_node first_denial
load_answer = record {
  readings = load_reads;
  named = (refl, (refl, (refl, (refl, (refl, (refl, (refl, (refl, (refl, (refl, (refl, (refl, (refl, (refl, (refl, (refl, tt))))))))))))))));
  read = ((omega arith, refl), ((omega arith, refl), ((omega arith, refl), ((omega arith, refl), ((omega arith, refl), ((omega arith, refl), ((omega arith, refl), ((omega arith, refl), ((omega arith, refl), ((omega arith, refl), ((omega arith, refl), ((omega arith, refl), ((omega arith, refl), ((omega arith, refl), ((omega arith, refl), ((omega arith, refl), tt))))))))))))))));
  current = (record { made = omega arith; kept = tt }, (record { made = omega arith; kept = tt }, (record { made = omega arith; kept = tt }, (record { made = omega arith; kept = tt }, (record { made = omega arith; kept = tt }, (record { made = omega arith; kept = tt }, (record { made = omega arith; kept = tt }, (record { made = omega arith; kept = tt }, (record { made = omega arith; kept = tt }, (record { made = omega arith; kept = tt }, (record { made = omega arith; kept = tt }, (record { made = omega arith; kept = tt }, (record { made = omega arith; kept = tt }, (record { made = omega arith; kept = tt }, (record { made = omega arith; kept = tt }, (record { made = omega arith; kept = tt }, tt))))))))))))))));
  walk = (
    is_load,
    refl,
    record {
      fill = load_fill;
      is = refl;
      of_thread = refl;
      same_moment = refl;
      from = omega arith;
      last = refl;
      few = omega arith;
      walk = permitted_walks load load_reads 0x12_0014 load_follows load_right;
      items = items;
      are_items = (omega arith, refl, (omega arith, refl, (omega arith, refl, (omega arith, refl, (omega arith, refl, (omega arith, refl, (omega arith, refl, (omega arith, refl, (omega arith, refl, (omega arith, refl, (omega arith, refl, (omega arith, refl, (omega arith, refl, (omega arith, refl, (omega arith, refl, (omega arith, refl, tt))))))))))))))));
      reads_to = refl;
      reads = refl;
      fills = contains_all (fills_of 0 7 load both.reads 16 items);
    },
  );
  right = load_right;
}

goes_on : GoesOn 7 rows both
goes_on = record { more_reads = more_reads; more_fills = more_fills; more_dones = []; reads = refl; fills = refl; dones = refl; later = tt }

-- the uses of a guest's first step, a fetch and a load, are two walks, and its eighteen reads and eleven fills are theirs
-- (KeepsUses, AreAnswered, uses_of, mark_at)
first_step : KeepsUses past (turn_of both 0 0 7) (fetch ∷ load ∷ []) (Real 0x11_5000 (Walked 8 0x11_5000) ∷ Real 0x12_0014 (Walked 10 0x12_0014) ∷ []) (Walked 8 0x11_5000 ∷ Walked 10 0x12_0014 ∷ Unused ∷ [])
unfolding place_of part_start process_start after_second after_process_entry inside in_process after_entry after_tree at_node first_denial rows_below
first_step = record {
  few = omega arith;
  answers_are = (
    reached 9 16,
    record { fills = omega arith; reads = omega arith },
    answer_goes_on past (query_of (turn_of rows 0 0 7) tables none_yet fetch) both (Real 0x11_5000 (Walked 8 0x11_5000)) (reached 9 16) goes_on (record { fills = omega arith; reads = omega arith }) first_answer,
    (reached 11 18, record { fills = omega arith; reads = omega arith }, load_answer, refl),
  );
  shown = refl;
}

-- an answer takes no row away (AreAnswered, NoFewer)
no_row_lost : (answers : Mark → Ask → Found → Mark → Type 0) (found : Found) → AreAnswered answers (reached 9 16) (fetch ∷ []) (found ∷ []) (reached 8 16) → ⊥
no_row_lost answers found h = fewer h.0 h.3 h.1
  where
    fewer : (between : Mark) → reached 8 16 ≡ between → NoFewer (reached 9 16) between → ⊥
    fewer between same none =
        let least : 9 ≤ 8 = subst (λ (x : Mark). 9 ≤ x.fills) (sym same) none.fills in
        omega (arith, least)

-- a step without an ask has no read row (AnswersUses, mark_at)
abbrev one_read : Rows
one_read = record no_rows { reads = leaf_reading ∷ [] }

row_of_no_answer : KeepsUses past (turn_of one_read 0 0 7) [] [] (Unused ∷ Unused ∷ Unused ∷ []) → ⊥
unfolding rows_below
row_of_no_answer h = (let same : 1 ≡ 0 = ap (λ (x : Mark). x.reads) h.answers_are in omega (arith, same))

-- a step's three uses are those of its answers, in the order of its asks (uses_of)
uses_in_order : (v : Turn) → KeepsUses past v (fetch ∷ load ∷ []) (Real 0x11_5000 (Walked 8 0x11_5000) ∷ Real 0x12_0014 (Walked 10 0x12_0014) ∷ []) (Walked 10 0x12_0014 ∷ Walked 8 0x11_5000 ∷ Unused ∷ []) → ⊥
uses_in_order v h = (let same : 10 ≡ 8 = ap (λ us. first_fill us) h.shown in omega (arith, same))
  where
    fill_in : Use → ℕ
    fill_in (Walked i real) = i
    fill_in u = 0

    first_fill : List Use → ℕ
    first_fill [] = 0
    first_fill (u ∷ us) = fill_in u
