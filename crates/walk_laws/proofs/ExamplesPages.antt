-- Walks that end in pages, and their fills, by computation; each line says which definitions it exercises.
use Rattle.std.proofs.Common.{◌≡◌, ℕ, ◌<◌, List, [], ◌∷◌, ◌++◌, length, map, sym, subst, refl, Option, None, Bool, true, false, arith}
use Rattle.std.specs.Prelude.{Contains, drop, take, if◌then◌else◌, ◌==◌, ◌&&◌}
use Rattle.walk_laws.proofs.ExampleWalks.{rows_of, Leads, leads_by}
use Rattle.walk_laws.proofs.ExampleTables.{tables, with_words, leaf, directory, ask_of, guest_ask, largest}
use Rattle.journal_core.specs.PartitionWalk.{part_start, after_entry, after_tree, at_node, is_leaf, PartitionWalk}
use Rattle.journal_core.specs.Rights.{first_denial}
use Rattle.journal_core.specs.Places.{place_of}
use Rattle.journal_core.specs.Walk.{Task, inside, in_process, after_second, after_process_entry, process_start, task_at, task_of, start_at, never_denied}
use Rattle.journal_core.specs.Following.{FreshPartitionWalk}
use Rattle.journal_core.specs.Rows.{Rows}
use Rattle.journal_core.specs.Translating.{IsFillOfWalk}
use Rattle.journal_core.specs.Standing.{key_of, fill_reads}
use Rattle.journal_core.specs.Admitted.{IsWalkTo}
use Rattle.journal_core.specs.Fills.{own_key, SoFar, NumberedItem, number_items, nothing_so_far, taking, first_found, fills_for, fills_from, fills_of}
use Rattle.journal_core.specs.declared.rows.ReadRow.{ReadRow}
use Rattle.journal_core.specs.declared.rows.Key.{Key}
use Rattle.journal_core.specs.declared.rows.KeyKind.TheVariants.{Translation, GuestPage, ProcessDir, PartDir}
use Rattle.journal_core.specs.declared.rows.FillRow.{FillRow}
use Rattle.journal_core.specs.declared.asks.Ask.{Ask}
use Rattle.journal_core.specs.declared.asks.Place.{Place}
use Rattle.journal_core.specs.declared.asks.Place.TheVariants.{Real}
use Rattle.journal_core.specs.declared.asks.AccessKind.TheVariants.{Load, Store, Fetch}
use Rattle.journal_core.specs.declared.rows.StopName.TheVariants.{NoStorage}
use Rattle.journal_core.specs.declared.walks.PartResult.TheVariants.{Leaf, Stop}
use Rattle.journal_core.specs.declared.walks.NestResult.{NestResult}
use Rattle.journal_core.specs.declared.walks.NestResult.TheVariants.{Page}
use Rattle.journal_core.specs.declared.walks.Stage.TheVariants.{Over}
use Rattle.journal_core.specs.declared.walks.TrailItem.{TrailItem}
use Rattle.journal_core.specs.declared.walks.TrailItem.TheVariants.{New}

-- a nested walk of 4 KiB pages: guest page 16 lies at real 0x12_0000 (next, real_in, Fresh)
load_page : Leads tables (ask_of 0x1_0014 Load) (Page 0x12_0014)
unfolding place_of part_start process_start after_second after_process_entry inside in_process after_entry after_tree at_node first_denial
load_page = leads_by tables (ask_of 0x1_0014 Load) (Page 0x12_0014) refl

-- the same for a fetch
fetch_page : Leads tables (ask_of 0x5000 Fetch) (Page 0x11_5000)
unfolding place_of part_start process_start after_second after_process_entry inside in_process after_entry after_tree at_node first_denial
fetch_page = leads_by tables (ask_of 0x5000 Fetch) (Page 0x11_5000) refl

-- the same for a store
store_page : Leads tables (ask_of 0x1_0014 Store) (Page 0x12_0014)
unfolding place_of part_start process_start after_second after_process_entry inside in_process after_entry after_tree at_node first_denial
store_page = leads_by tables (ask_of 0x1_0014 Store) (Page 0x12_0014) refl

-- it has sixteen readings (Follows)
load_page_readings : length (rows_of tables (ask_of 0x1_0014 Load)) ≡ 16
unfolding place_of part_start process_start after_second after_process_entry inside in_process after_entry after_tree at_node first_denial
load_page_readings = refl

-- a guest real address, of which the four highest bits are no part (place_of, start_at)
guest_page : Leads tables (guest_ask 0x8000_0000_0001_0014 Load) (Page 0x12_0014)
unfolding place_of part_start process_start after_second after_process_entry inside in_process after_entry after_tree at_node first_denial
guest_page = leads_by tables (guest_ask 0x8000_0000_0001_0014 Load) (Page 0x12_0014) refl

-- it has three readings (PartFollows)
guest_page_readings : length (rows_of tables (guest_ask 0x1_0014 Load)) ≡ 3
unfolding place_of part_start process_start after_second after_process_entry inside in_process after_entry after_tree at_node first_denial
guest_page_readings = refl

-- they are a walk of the partition's tree too, which ends at the leaf of guest page 16 (PartitionWalk, PartFollows)
guest_page_walk : PartitionWalk tables 0x2_0000 1 0x1_0014 (rows_of tables (guest_ask 0x1_0014 Load)) (Leaf 0x12_0000 12 0 7 true true)
unfolding place_of part_start process_start after_second after_process_entry inside in_process after_entry after_tree at_node first_denial
guest_page_walk = record {
  follows = (
    record { same_role = refl; same_lpid = refl; same_pid = refl; same_sought = refl; same_level = refl; same_left = refl; same_at = refl },
    (record { same_role = refl; same_lpid = refl; same_pid = refl; same_sought = refl; same_level = refl; same_left = refl; same_at = refl }, (record { same_role = refl; same_lpid = refl; same_pid = refl; same_sought = refl; same_level = refl; same_left = refl; same_at = refl }, tt)),
  );
  ends = refl;
}

-- all of them are new: it is the fresh walk of step 7 (FreshPartitionWalk, IsNew)
guest_page_fresh : FreshPartitionWalk tables 7 0x2_0000 1 0x1_0014 (rows_of tables (guest_ask 0x1_0014 Load)) (Leaf 0x12_0000 12 0 7 true true)
unfolding place_of part_start process_start after_second after_process_entry inside in_process after_entry after_tree at_node first_denial
guest_page_fresh = record {
  walk = guest_page_walk;
  new = (record { stands = refl; same_moment = refl; same_sought = refl }, (record { stands = refl; same_moment = refl; same_sought = refl }, (record { stands = refl; same_moment = refl; same_sought = refl }, tt)));
}

-- where the leaf's word is not in storage, the walk has the two readings before it and stops (PartEndsAt, IsPartGap)
guest_page_gap : PartitionWalk (λ at. if at == 0x10_2080 then None else tables at) 0x2_0000 1 0x1_0014 (take 2 (rows_of tables (guest_ask 0x1_0014 Load))) (Stop NoStorage 0x10_2080)
unfolding place_of part_start process_start after_second after_process_entry inside in_process after_entry after_tree at_node first_denial
guest_page_gap = record {
  follows = (
    record { same_role = refl; same_lpid = refl; same_pid = refl; same_sought = refl; same_level = refl; same_left = refl; same_at = refl },
    (record { same_role = refl; same_lpid = refl; same_pid = refl; same_sought = refl; same_level = refl; same_left = refl; same_at = refl }, tt),
  );
  ends = (refl, refl);
}

-- a leaf at level 1 is a page of 2 MiB, whose field's low 21 bits are replaced by the address's: 0x1_1014 stands (real_in)
large_page : Leads (with_words ((0x11_2008, leaf 0x1_0000) ∷ []) tables) (ask_of 0x21_1014 Load) (Page 0x12_1014)
unfolding place_of part_start process_start after_second after_process_entry inside in_process after_entry after_tree at_node first_denial
large_page = leads_by (with_words ((0x11_2008, leaf 0x1_0000) ∷ []) tables) (ask_of 0x21_1014 Load) (Page 0x12_1014) refl

-- partition 0: the process's entry at guest 0x10 is at the page that partition 0's own tree gives, but its tables and its page are real (at_table, at_result)
real_tables : Leads (with_words ((0x2_0000, 0x8000_0000_0010_000a) ∷ (0x2000, directory 0x4000 9) ∷ (0x4080, leaf 0x1_0000) ∷ []) tables) (record (ask_of 0x1_0014 Load) { lpid = 0; msr = 0x9000_0000_0000_1033 }) (Page 0x1_0014)
unfolding place_of part_start process_start after_second after_process_entry inside in_process after_entry after_tree at_node first_denial
real_tables = leads_by (with_words ((0x2_0000, 0x8000_0000_0010_000a) ∷ (0x2000, directory 0x4000 9) ∷ (0x4080, leaf 0x1_0000) ∷ []) tables) (record (ask_of 0x1_0014 Load) { lpid = 0; msr = 0x9000_0000_0000_1033 }) (Page 0x1_0014) refl

-- it has seven readings: 1 + 3 + 1 + 2
real_tables_readings : length (rows_of (with_words ((0x2_0000, 0x8000_0000_0010_000a) ∷ (0x2000, directory 0x4000 9) ∷ (0x4080, leaf 0x1_0000) ∷ []) tables) (record (ask_of 0x1_0014 Load) { lpid = 0; msr = 0x9000_0000_0000_1033 })) ≡ 7
unfolding place_of part_start process_start after_second after_process_entry inside in_process after_entry after_tree at_node first_denial
real_tables_readings = refl

-- the largest nested walk
largest_page : Leads largest (ask_of 0 Load) (Page 0x100_5000)
unfolding place_of part_start process_start after_second after_process_entry inside in_process after_entry after_tree at_node first_denial
largest_page = leads_by largest (ask_of 0 Load) (Page 0x100_5000) refl

-- it has thirty-six readings (Follows)
largest_readings : length (rows_of largest (ask_of 0 Load)) ≡ 36
unfolding place_of part_start process_start after_second after_process_entry inside in_process after_entry after_tree at_node first_denial
largest_readings = refl

-- the fills of the walk of an ask, all of whose readings are new and get numbers from 100 on, for thread 0 at 7
abbrev fresh_fills : (ℕ → Option ℕ) → Ask → List FillRow
fresh_fills word ask = fills_of 0 7 ask [] 100 (map New (rows_of word ask))

-- what a fill is found by, the level that it carries, and the numbers of its readings
record Said : Type 0 where
  key : Key
  level : ℕ
  numbers : List ℕ

abbrev said : Key → ℕ → List ℕ → Said
said key level numbers = record { key = key; level = level; numbers = numbers }

abbrev told : FillRow → Said
told f = said f.key f.level (fill_reads f)

-- the nine fills of a first fetch, each with its key, level and readings; the partition's root and directory are found four times and filled once (fills_of, found_at, first_found, numbers_for)
nine_fills : map told (fresh_fills tables (ask_of 0x5000 Fetch)) ≡
    said (key_of PartDir 1 0 31 0x10) 0 (101 ∷ [])
    ∷ said (key_of PartDir 1 0 21 0x10) 1 (101 ∷ 102 ∷ [])
    ∷ said (key_of GuestPage 1 0 12 0x10) 2 (101 ∷ 102 ∷ 103 ∷ [])
    ∷ said (key_of ProcessDir 1 1 31 0x5000) 0 (100 ∷ 101 ∷ 102 ∷ 103 ∷ 104 ∷ [])
    ∷ said (key_of GuestPage 1 0 12 0x2000) 2 (105 ∷ 106 ∷ 107 ∷ [])
    ∷ said (key_of ProcessDir 1 1 21 0x5000) 1 (100 ∷ 101 ∷ 102 ∷ 103 ∷ 104 ∷ 105 ∷ 106 ∷ 107 ∷ 108 ∷ [])
    ∷ said (key_of GuestPage 1 0 12 0x4000) 2 (109 ∷ 110 ∷ 111 ∷ [])
    ∷ said (key_of GuestPage 1 0 12 0x5000) 2 (113 ∷ 114 ∷ 115 ∷ [])
    ∷ said (key_of Translation 1 1 12 0x5000) 2 (100 ∷ 101 ∷ 102 ∷ 103 ∷ 104 ∷ 105 ∷ 106 ∷ 107 ∷ 108 ∷ 109 ∷ 110 ∷ 111 ∷ 112 ∷ 113 ∷ 114 ∷ 115 ∷ []) ∷ []
unfolding place_of part_start process_start after_second after_process_entry inside in_process after_entry after_tree at_node first_denial
nine_fills = refl

-- a guest real ask has the fills of its directories, and last its own guest page, which no reading fills (own_key, first_found)
guest_fills : map told (fresh_fills tables (guest_ask 0x1_0014 Load)) ≡ said (key_of PartDir 1 0 31 0x1_0014) 0 (100 ∷ []) ∷ said (key_of PartDir 1 0 21 0x1_0014) 1 (100 ∷ 101 ∷ []) ∷ said (key_of GuestPage 1 0 12 0x1_0014) 2 (100 ∷ 101 ∷ 102 ∷ []) ∷ []
unfolding place_of part_start process_start after_second after_process_entry inside in_process after_entry after_tree at_node first_denial
guest_fills = refl

-- the largest walk has thirty fills: its six guest real addresses share no directory but the partition's entry, whose key is found six times and filled once (fills_of)
thirty_fills : length (fresh_fills largest (ask_of 0 Load)) ≡ 30
unfolding place_of part_start process_start after_second after_process_entry inside in_process after_entry after_tree at_node first_denial
thirty_fills = refl

-- the fill of a page of 2 MiB is one of 4 KiB, with the leaf's level 1 (own_key, in_own_tree)
large_fill : map (λ (f : FillRow). said f.key f.level []) (drop 6 (fresh_fills (with_words ((0x11_2008, leaf 0x1_0000) ∷ []) tables) (ask_of 0x21_1014 Load))) ≡ said (key_of Translation 1 1 12 0x21_1014) 1 [] ∷ []
unfolding place_of part_start process_start after_second after_process_entry inside in_process after_entry after_tree at_node first_denial
large_fill = refl

-- a leaf that leaves 16 bits is a page of 64 KiB (is_page_size)
page_of_64k : Leads (with_words ((0x11_2008, directory 0x4000 5) ∷ []) tables) (ask_of 0x21_0014 Load) (Page 0x11_0014)
unfolding place_of part_start process_start after_second after_process_entry inside in_process after_entry after_tree at_node first_denial
page_of_64k = leads_by (with_words ((0x11_2008, directory 0x4000 5) ∷ []) tables) (ask_of 0x21_0014 Load) (Page 0x11_0014) refl

-- a leaf that leaves 30 bits is a page of 1 GiB (is_page_size)
page_of_1g : Leads (with_words ((0x100_2000, leaf 0) ∷ []) largest) (ask_of 0x14 Load) (Page 0x100_0014)
unfolding place_of part_start process_start after_second after_process_entry inside in_process after_entry after_tree at_node first_denial
page_of_1g = leads_by (with_words ((0x100_2000, leaf 0) ∷ []) largest) (ask_of 0x14 Load) (Page 0x100_0014) refl

-- Partition 1 with one page of 2 MiB from guest 0 on, at real 0x20_0000: all tables of process 1 lie in it, each in another of its
-- pages of 4 KiB.
abbrev one_large : ℕ → Option ℕ
one_large = with_words ((0x10_0000, leaf 0x20_0000) ∷ (0x20_0010, 0x200a) ∷ (0x20_2000, directory 0x4000 9) ∷ (0x20_4080, leaf 0x1_0000) ∷ []) tables

abbrev load : Ask
load = ask_of 0x1_0014 Load

-- the readings of the walk of a load, but each one of the page of 2 MiB sought its last page of 4 KiB
abbrev elsewhere : ReadRow → ReadRow
elsewhere r = if is_leaf r.value && r.left == 21 then record r { sought = 0x1f_f000 } else r

abbrev elsewhere_reads : List ReadRow
elsewhere_reads = map elsewhere (rows_of one_large load)

-- they are a walk of the load too, since a page of 2 MiB is the same for both addresses (IsWalkTo, SameOver)
elsewhere_walk : IsWalkTo load elsewhere_reads 0x21_0014
unfolding place_of part_start process_start after_second after_process_entry inside in_process after_entry after_tree at_node first_denial
elsewhere_walk = record { follows = (record { same_role = refl; same_lpid = refl; same_pid = refl; same_level = refl; same_left = refl; same_at = refl }, (record { same_role = refl; same_lpid = refl; same_pid = refl; same_sought = refl; same_level = refl; same_left = refl; same_at = refl }, (record { same_role = refl; same_lpid = refl; same_pid = refl; same_sought = refl; same_level = refl; same_left = refl; same_at = refl }, (record { same_role = refl; same_lpid = refl; same_pid = refl; same_sought = refl; same_level = refl; same_left = refl; same_at = refl }, (record { same_role = refl; same_lpid = refl; same_pid = refl; same_sought = refl; same_level = refl; same_left = refl; same_at = refl }, (record { same_role = refl; same_lpid = refl; same_pid = refl; same_sought = refl; same_level = refl; same_left = refl; same_at = refl }, (record { same_role = refl; same_lpid = refl; same_pid = refl; same_sought = refl; same_level = refl; same_left = refl; same_at = refl }, (record { same_role = refl; same_lpid = refl; same_pid = refl; same_sought = refl; same_level = refl; same_left = refl; same_at = refl }, (record { same_role = refl; same_lpid = refl; same_pid = refl; same_sought = refl; same_level = refl; same_left = refl; same_at = refl }, (record { same_role = refl; same_lpid = refl; same_pid = refl; same_sought = refl; same_level = refl; same_left = refl; same_at = refl }, (record { same_role = refl; same_lpid = refl; same_pid = refl; same_sought = refl; same_level = refl; same_left = refl; same_at = refl }, (record { same_role = refl; same_lpid = refl; same_pid = refl; same_sought = refl; same_level = refl; same_left = refl; same_at = refl }, tt)))))))))))); leads = refl }

-- but its fills are those of the addresses that were walked: no reading says which page is kept (found_at, own_key)
elsewhere_fills : map (λ (f : FillRow). f.key) (fills_of 0 7 load [] 0 (map New elsewhere_reads)) ≡
    key_of PartDir 1 0 31 0x10
    ∷ key_of GuestPage 1 0 12 0x10
    ∷ key_of ProcessDir 1 1 31 0x1_0014
    ∷ key_of GuestPage 1 0 12 0x2000
    ∷ key_of ProcessDir 1 1 21 0x1_0014
    ∷ key_of GuestPage 1 0 12 0x4080
    ∷ key_of GuestPage 1 0 12 0x1_0014
    ∷ key_of Translation 1 1 12 0x1_0014 ∷ []
unfolding place_of part_start process_start after_second after_process_entry inside in_process after_entry after_tree at_node first_denial
elsewhere_fills = refl

-- a guest real ask has its own guest page alone, and none of the page that its reading sought (own_key, first_found)
elsewhere_guest : map (λ (f : FillRow). f.key) (fills_of 0 7 (guest_ask 0x1_0014 Load) [] 0 (map New (map elsewhere (rows_of one_large (guest_ask 0x1_0014 Load))))) ≡ key_of PartDir 1 0 31 0x1_0014 ∷ key_of GuestPage 1 0 12 0x1_0014 ∷ []
unfolding place_of part_start process_start after_second after_process_entry inside in_process after_entry after_tree at_node first_denial
elsewhere_guest = refl

-- a load in hypervisor state without relocation
abbrev real_load : Ask
real_load = record (ask_of 0x1_0014 Load) { msr = 0x9000_0000_0000_1003 }

no_real_fills : (t n : ℕ) (k : Task) (out : NestResult) (x : SoFar) (items : List NumberedItem) → fills_from t n k None (Over out) x items ≡ []
no_real_fills t n k out x [] = refl
no_real_fills t n k out x (item ∷ items) = no_found item.is_new (λ y. no_real_fills t n k out y items)
  where
    no_found : (b : Bool) → ((y : SoFar) → fills_from t n k None (Over out) y items ≡ []) →
        fills_for t n (taking (Over out) x item) item.row.level (first_found None x.keys b None) ++ fills_from t n k None (Over out) (record (taking (Over out) x item) { keys = x.keys ++ first_found None x.keys b None }) items ≡ []
    no_found true rest = rest _
    no_found false rest = rest _

-- an ask at a real address adds no fill, whatever was read: it has no key (own_key)
real_fills : (reads : List ReadRow) (first : ℕ) (items : List TrailItem) → fills_of 0 7 real_load reads first items ≡ []
unfolding place_of
real_fills reads first items = no_real_fills 0 7 (task_of never_denied real_load) (Page 0x1_0014) nothing_so_far (number_items reads first items)

none_in : {X : Type 0} (xs : List X) (x : X) → xs ≡ [] → Contains xs x → ⊥
none_in xs x none h = (let at : h.0 < 0 = subst (λ ys. h.0 < length ys) none h.1 in omega (arith, at))

-- so a kept fill is of no walk of such an ask (IsFillOfWalk)
real_walks_keep_none : (rows : Rows) (ptcr a : ℕ) (f : FillRow) (h : IsFillOfWalk rows ptcr f) → place_of h.ask ≡ Real a → ⊥
real_walks_keep_none rows ptcr a f h e = none_in (fills_of f.thread f.moment h.ask rows.reads h.from h.items) f (subst (λ p. at_place p ≡ []) (sym e) (no_real_fills f.thread f.moment (task_at never_denied h.ask (Real a)) (Page a) nothing_so_far numbered)) h.is_one
  where
    numbered : List NumberedItem
    numbered = number_items rows.reads h.from h.items

    at_place : Place → List FillRow
    at_place p = fills_from f.thread f.moment (task_at never_denied h.ask p) (own_key p) (start_at (task_at never_denied h.ask p) p) nothing_so_far numbered
