-- The choices of machines that keep less; each line says which definitions it exercises.
use Rattle.std.proofs.Common.{◌≡◌, ℕ, ◌+◌, ◌<◌, List, [], ◌∷◌, length, map, ap, sym, subst, ◌∙◌, refl, arith, inl, inr}
use Rattle.walk_laws.proofs.ExampleWalks.{task, start}
use Rattle.walk_laws.proofs.ExampleTables.{tables}
use Rattle.walk_laws.proofs.ExamplesChoice.{fetch, reads, reached, none_yet, none_permits, nothing_stands, again, own_fill, own_named, is_space, fetch_walk, again_is_space}
use Rattle.walk_laws.proofs.ExamplesAnswers.{past, fetch_read, fetch_current, fetch_right, fetch_walks, fetch_items}
use Rattle.walk_laws.proofs.WalkIsOne.{fresh_unique}
use Rattle.walk_laws.proofs.ResumedLemmas.{nothing_kept}
use Rattle.journal_core.specs.PartitionWalk.{part_start, after_entry, after_tree, at_node}
use Rattle.journal_core.specs.Rights.{first_denial}
use Rattle.journal_core.specs.Places.{place_of}
use Rattle.journal_core.specs.Walk.{inside, in_process, after_second, after_process_entry, process_start}
use Rattle.journal_core.specs.Following.{Fresh}
use Rattle.journal_core.specs.Rows.{Rows, no_rows}
use Rattle.journal_core.specs.Turns.{Mark, Query, turn_of, query_of}
use Rattle.journal_core.specs.Standing.{IsStanding}
use Rattle.journal_core.specs.Resumed.{KeptAnswers, KnowsNothing}
use Rattle.journal_core.specs.Fills.{fills_of_query, new_rows}
use Rattle.journal_core.specs.Choice.{WalkedBy, AddsOwn, Choice, PlainChoice}
use Rattle.journal_core.specs.Early.{PagesChoice}
use Rattle.journal_core.specs.Answers.{IsAnswer}
use Rattle.journal_core.specs.declared.rows.Use.TheVariants.{Hit, Walked}
use Rattle.journal_core.specs.declared.asks.Found.TheVariants.{Real}
use Rattle.journal_core.specs.declared.walks.NestResult.TheVariants.{Page}
use Rattle.journal_core.specs.declared.walks.TrailItem.{TrailItem}
use Rattle.journal_core.specs.declared.walks.TrailItem.TheVariants.{New}

-- a machine that keeps nothing, or translations and guest pages alone, adds the sixteen reads of the fetch and one fill
abbrev own_rows : Rows
own_rows = record no_rows { reads = reads; fills = own_fill ∷ [] }

abbrev own_query : Query
own_query = query_of (turn_of own_rows 0 0 7) tables none_yet fetch

own_adds : AddsOwn own_query 0 0x11_5000 (reached 1 16)
unfolding place_of part_start process_start after_second after_process_entry inside in_process after_entry after_tree at_node first_denial
own_adds = record { rs = reads; fresh = fetch_walk; reads_to = refl; fills_to = refl; reads = refl; fills = refl; last = refl }

-- it always walks (PlainChoice, AddsOwn, last_of)
plain_fetch : PlainChoice own_query (Real 0x11_5000 (Walked 0 0x11_5000)) (reached 1 16)
plain_fetch = (is_space, refl, own_adds)

-- with nothing standing it walks too (PagesChoice, NonePermits)
pages_fetch : PagesChoice own_query (Real 0x11_5000 (Walked 0 0x11_5000)) (reached 1 16)
pages_fetch = (is_space, refl, (none_permits (turn_of own_rows 0 0 7) fetch, own_adds))

-- its rows keep the rule (IsAnswer, IsWalked)
own_answer : IsAnswer past own_query (Real 0x11_5000 (Walked 0 0x11_5000)) (reached 1 16)
unfolding place_of part_start process_start after_second after_process_entry inside in_process after_entry after_tree at_node first_denial
own_answer = record {
  readings = reads;
  named = own_named;
  read = fetch_read 7 (omega arith);
  current = fetch_current 7 (omega arith);
  walk = (
    is_space,
    refl,
    record {
      fill = own_fill;
      is = refl;
      of_thread = refl;
      same_moment = refl;
      from = omega arith;
      last = refl;
      few = omega arith;
      walk = fetch_walks;
      items = map New reads;
      are_items = fetch_items;
      reads_to = refl;
      reads = refl;
      fills = ((8, omega arith, refl), tt);
    },
  );
  right = fetch_right;
}

-- the walk that the machine chooses there reads what the fetch read
its_items : (a : KeptAnswers) (xs : List TrailItem) (real : ℕ) → KnowsNothing a → WalkedBy own_query a xs real → xs ≡ map New reads
its_items a xs real none (inl resumed) =
    let walked : (xs ≡ map New (new_rows xs)) × Fresh tables 7 fetch (new_rows xs) (Page real) = (nothing_kept tables 7 a fetch xs (Page real) none).0 resumed in
    let same : reads ≡ new_rows xs = (fresh_unique tables 7 (task fetch) (start fetch) reads (new_rows xs) (Page 0x11_5000) (Page real) fetch_walk walked.1).0 in
    walked.0 ∙ ap (λ rs. map New rs) (sym same)
its_items a xs real none (inr walked) =
    let same : reads ≡ walked.1 = (fresh_unique tables 7 (task fetch) (start fetch) reads walked.1 (Page 0x11_5000) (Page real) fetch_walk walked.3).0 in
    walked.2 ∙ ap (λ rs. map New rs) (sym same)

-- but the machine, which keeps directories too, does not choose them: its walk adds nine fills (Choice, AddsWalk)
own_not_chosen : (after : Mark) → Choice own_query (Real 0x11_5000 (Walked 0 0x11_5000)) after → ⊥
unfolding place_of part_start process_start after_second after_process_entry inside in_process after_entry after_tree at_node first_denial
own_not_chosen after h =
    let same : h.2.items ≡ map New reads = its_items h.2.known h.2.items 0x11_5000 (nothing_stands own_query.turn h.2.known h.2.knows) h.2.walked in
    let nine : after.fills ≡ 9 = subst (λ xs. after.fills ≡ 0 + length (fills_of_query own_query xs)) same h.2.adds.fills_to in
    let one : after.fills ≡ 0 + 1 = h.2.adds.last in
    omega (arith, nine, one)

none_later : (j : ℕ) → 0 < j → j < 1 → ⊥
none_later j later below = omega arith

own_alone_stands : IsStanding (turn_of own_rows 0 0 8) 1 0 own_fill
own_alone_stands = record {
  is = refl;
  of_thread = refl;
  from_floor = omega arith;
  below = omega arith;
  last = λ j later below g at thread same. none_later j later below;
  few = omega arith;
  readings = reads;
  named = own_named;
  current = fetch_current 8 (omega arith);
}

-- in step 8 the fill answers (PagesChoice, IsPermitted)
pages_again : PagesChoice (query_of (turn_of own_rows 0 0 8) tables (reached 1 16) again) (Real 0x11_5004 (Hit 0 0x11_5004)) (reached 1 16)
unfolding place_of part_start process_start after_second after_process_entry inside in_process after_entry after_tree at_node first_denial own_alone_stands
pages_again = (again_is_space, refl, (record { fill = own_fill; standing = own_alone_stands; own = refl; permits = refl }, (refl, refl)))
