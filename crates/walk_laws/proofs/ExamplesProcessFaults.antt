-- What a process's tables refuse, by computation; each line says which definitions it exercises.
use Rattle.std.proofs.Common.{◌≡◌, [], ◌∷◌, length, refl}
use Rattle.walk_laws.proofs.ExampleWalks.{rows_of, Leads, leads_by}
use Rattle.walk_laws.proofs.ExampleTables.{tables, with_words, leaf, leaf_with, directory, ask_of, problem_ask, largest}
use Rattle.journal_core.specs.PartitionWalk.{part_start, after_entry, after_tree, at_node}
use Rattle.journal_core.specs.Rights.{first_denial}
use Rattle.journal_core.specs.Places.{place_of}
use Rattle.journal_core.specs.Walk.{inside, in_process, after_second, after_process_entry, process_start}
use Rattle.journal_core.specs.declared.asks.AccessKind.TheVariants.{Load, Store, Fetch}
use Rattle.journal_core.specs.declared.causes.Cause.TheVariants.{DataStorage, InstStorage}
use Rattle.journal_core.specs.declared.walks.NestResult.TheVariants.{Page, Fault}

-- no entry for page 128: bit 33 (kind_bits, process_fault)
process_missing_load : Leads tables (ask_of 0x8_0014 Load) (Fault (DataStorage 0x8_0014 0x4000_0000))
unfolding place_of part_start process_start after_second after_process_entry inside in_process after_entry after_tree at_node first_denial
process_missing_load = leads_by tables (ask_of 0x8_0014 Load) (Fault (DataStorage 0x8_0014 0x4000_0000)) refl

-- a store sets bit 38 too (store_bits)
process_missing_store : Leads tables (ask_of 0x8_0014 Store) (Fault (DataStorage 0x8_0014 0x4200_0000))
unfolding place_of part_start process_start after_second after_process_entry inside in_process after_entry after_tree at_node first_denial
process_missing_store = leads_by tables (ask_of 0x8_0014 Store) (Fault (DataStorage 0x8_0014 0x4200_0000)) refl

-- a fetch raises the cause of its own side (process_fault)
process_missing_fetch : Leads tables (ask_of 0x8_0014 Fetch) (Fault (InstStorage 0x4000_0000))
unfolding place_of part_start process_start after_second after_process_entry inside in_process after_entry after_tree at_node first_denial
process_missing_fetch = leads_by tables (ask_of 0x8_0014 Fetch) (Fault (InstStorage 0x4000_0000)) refl

-- no right to execute: bit 35 (first_denial, denial_bits)
process_execute : Leads (with_words ((0x11_4080, leaf_with 0x186 0x1_0000) ∷ []) tables) (ask_of 0x1_0014 Fetch) (Fault (InstStorage 0x1000_0000))
unfolding place_of part_start process_start after_second after_process_entry inside in_process after_entry after_tree at_node first_denial
process_execute = leads_by (with_words ((0x11_4080, leaf_with 0x186 0x1_0000) ∷ []) tables) (ask_of 0x1_0014 Fetch) (Fault (InstStorage 0x1000_0000)) refl

-- such a page is loaded from (first_denial)
process_execute_load : Leads (with_words ((0x11_4080, leaf_with 0x186 0x1_0000) ∷ []) tables) (ask_of 0x1_0014 Load) (Page 0x12_0014)
unfolding place_of part_start process_start after_second after_process_entry inside in_process after_entry after_tree at_node first_denial
process_execute_load = leads_by (with_words ((0x11_4080, leaf_with 0x186 0x1_0000) ∷ []) tables) (ask_of 0x1_0014 Load) (Page 0x12_0014) refl

-- a guarded page is not fetched from: bit 35 (first_denial)
process_guarded : Leads (with_words ((0x11_4080, leaf_with 0x1a7 0x1_0000) ∷ []) tables) (ask_of 0x1_0014 Fetch) (Fault (InstStorage 0x1000_0000))
unfolding place_of part_start process_start after_second after_process_entry inside in_process after_entry after_tree at_node first_denial
process_guarded = leads_by (with_words ((0x11_4080, leaf_with 0x1a7 0x1_0000) ∷ []) tables) (ask_of 0x1_0014 Fetch) (Fault (InstStorage 0x1000_0000)) refl

-- and is loaded from (first_denial)
process_guarded_load : Leads (with_words ((0x11_4080, leaf_with 0x1a7 0x1_0000) ∷ []) tables) (ask_of 0x1_0014 Load) (Page 0x12_0014)
unfolding place_of part_start process_start after_second after_process_entry inside in_process after_entry after_tree at_node first_denial
process_guarded_load = leads_by (with_words ((0x11_4080, leaf_with 0x1a7 0x1_0000) ∷ []) tables) (ask_of 0x1_0014 Load) (Page 0x12_0014) refl

-- a privileged page in problem state: bit 36 (first_denial)
process_privilege_load : Leads (with_words ((0x11_4080, leaf_with 0x18f 0x1_0000) ∷ []) tables) (problem_ask 0x1_0014 Load) (Fault (DataStorage 0x1_0014 0x800_0000))
unfolding place_of part_start process_start after_second after_process_entry inside in_process after_entry after_tree at_node first_denial
process_privilege_load = leads_by (with_words ((0x11_4080, leaf_with 0x18f 0x1_0000) ∷ []) tables) (problem_ask 0x1_0014 Load) (Fault (DataStorage 0x1_0014 0x800_0000)) refl

-- the same for a store
process_privilege_store : Leads (with_words ((0x11_4080, leaf_with 0x18f 0x1_0000) ∷ []) tables) (problem_ask 0x1_0014 Store) (Fault (DataStorage 0x1_0014 0xa00_0000))
unfolding place_of part_start process_start after_second after_process_entry inside in_process after_entry after_tree at_node first_denial
process_privilege_store = leads_by (with_words ((0x11_4080, leaf_with 0x18f 0x1_0000) ∷ []) tables) (problem_ask 0x1_0014 Store) (Fault (DataStorage 0x1_0014 0xa00_0000)) refl

-- the same for a fetch
process_privilege_fetch : Leads (with_words ((0x11_4080, leaf_with 0x18f 0x1_0000) ∷ []) tables) (problem_ask 0x1_0014 Fetch) (Fault (InstStorage 0x800_0000))
unfolding place_of part_start process_start after_second after_process_entry inside in_process after_entry after_tree at_node first_denial
process_privilege_fetch = leads_by (with_words ((0x11_4080, leaf_with 0x18f 0x1_0000) ∷ []) tables) (problem_ask 0x1_0014 Fetch) (Fault (InstStorage 0x800_0000)) refl

-- in privileged state it is permitted (is_problem, first_denial)
process_privilege_state : Leads (with_words ((0x11_4080, leaf_with 0x18f 0x1_0000) ∷ []) tables) (ask_of 0x1_0014 Load) (Page 0x12_0014)
unfolding place_of part_start process_start after_second after_process_entry inside in_process after_entry after_tree at_node first_denial
process_privilege_state = leads_by (with_words ((0x11_4080, leaf_with 0x18f 0x1_0000) ∷ []) tables) (ask_of 0x1_0014 Load) (Page 0x12_0014) refl

-- no right to read: bit 36 (first_denial)
process_read : Leads (with_words ((0x11_4080, leaf_with 0x181 0x1_0000) ∷ []) tables) (ask_of 0x1_0014 Load) (Fault (DataStorage 0x1_0014 0x800_0000))
unfolding place_of part_start process_start after_second after_process_entry inside in_process after_entry after_tree at_node first_denial
process_read = leads_by (with_words ((0x11_4080, leaf_with 0x181 0x1_0000) ∷ []) tables) (ask_of 0x1_0014 Load) (Fault (DataStorage 0x1_0014 0x800_0000)) refl

-- no right to write: bits 36 and 38 (first_denial)
process_write : Leads (with_words ((0x11_4080, leaf_with 0x185 0x1_0000) ∷ []) tables) (ask_of 0x1_0014 Store) (Fault (DataStorage 0x1_0014 0xa00_0000))
unfolding place_of part_start process_start after_second after_process_entry inside in_process after_entry after_tree at_node first_denial
process_write = leads_by (with_words ((0x11_4080, leaf_with 0x185 0x1_0000) ∷ []) tables) (ask_of 0x1_0014 Store) (Fault (DataStorage 0x1_0014 0xa00_0000)) refl

-- such a page is loaded from (first_denial)
process_write_load : Leads (with_words ((0x11_4080, leaf_with 0x185 0x1_0000) ∷ []) tables) (ask_of 0x1_0014 Load) (Page 0x12_0014)
unfolding place_of part_start process_start after_second after_process_entry inside in_process after_entry after_tree at_node first_denial
process_write_load = leads_by (with_words ((0x11_4080, leaf_with 0x185 0x1_0000) ∷ []) tables) (ask_of 0x1_0014 Load) (Page 0x12_0014) refl

-- not marked as referenced: bit 45 (first_denial)
process_referenced_load : Leads (with_words ((0x11_4080, leaf_with 135 0x1_0000) ∷ []) tables) (ask_of 0x1_0014 Load) (Fault (DataStorage 0x1_0014 0x4_0000))
unfolding place_of part_start process_start after_second after_process_entry inside in_process after_entry after_tree at_node first_denial
process_referenced_load = leads_by (with_words ((0x11_4080, leaf_with 135 0x1_0000) ∷ []) tables) (ask_of 0x1_0014 Load) (Fault (DataStorage 0x1_0014 0x4_0000)) refl

-- the same for a fetch
process_referenced_fetch : Leads (with_words ((0x11_4080, leaf_with 135 0x1_0000) ∷ []) tables) (ask_of 0x1_0014 Fetch) (Fault (InstStorage 0x4_0000))
unfolding place_of part_start process_start after_second after_process_entry inside in_process after_entry after_tree at_node first_denial
process_referenced_fetch = leads_by (with_words ((0x11_4080, leaf_with 135 0x1_0000) ∷ []) tables) (ask_of 0x1_0014 Fetch) (Fault (InstStorage 0x4_0000)) refl

-- a store to a page that is not marked as changed: bits 45 and 38 (first_denial)
process_changed_store : Leads (with_words ((0x11_4080, leaf_with 0x107 0x1_0000) ∷ []) tables) (ask_of 0x1_0014 Store) (Fault (DataStorage 0x1_0014 0x204_0000))
unfolding place_of part_start process_start after_second after_process_entry inside in_process after_entry after_tree at_node first_denial
process_changed_store = leads_by (with_words ((0x11_4080, leaf_with 0x107 0x1_0000) ∷ []) tables) (ask_of 0x1_0014 Store) (Fault (DataStorage 0x1_0014 0x204_0000)) refl

-- it has thirteen readings: the process's rights come before the partition's walk of the result (in_process)
process_changed_readings : length (rows_of (with_words ((0x11_4080, leaf_with 0x107 0x1_0000) ∷ []) tables) (ask_of 0x1_0014 Store)) ≡ 13
unfolding place_of part_start process_start after_second after_process_entry inside in_process after_entry after_tree at_node first_denial
process_changed_readings = refl

-- a load there is permitted (first_denial)
process_changed_load : Leads (with_words ((0x11_4080, leaf_with 0x107 0x1_0000) ∷ []) tables) (ask_of 0x1_0014 Load) (Page 0x12_0014)
unfolding place_of part_start process_start after_second after_process_entry inside in_process after_entry after_tree at_node first_denial
process_changed_load = leads_by (with_words ((0x11_4080, leaf_with 0x107 0x1_0000) ∷ []) tables) (ask_of 0x1_0014 Load) (Page 0x12_0014) refl

-- a store without the right to write to a page that is not referenced: the right is asked first (first_denial)
process_order : Leads (with_words ((0x11_4080, leaf_with 5 0x1_0000) ∷ []) tables) (ask_of 0x1_0014 Store) (Fault (DataStorage 0x1_0014 0xa00_0000))
unfolding place_of part_start process_start after_second after_process_entry inside in_process after_entry after_tree at_node first_denial
process_order = leads_by (with_words ((0x11_4080, leaf_with 5 0x1_0000) ∷ []) tables) (ask_of 0x1_0014 Store) (Fault (DataStorage 0x1_0014 0xa00_0000)) refl

-- a directory whose table has 4 bits, though it leaves a page of 64 KiB: bit 44 (at_node)
process_unsupported_load : Leads (with_words ((0x11_0010, 0x200b) ∷ (0x11_2000, directory 0x4000 4) ∷ []) tables) (ask_of 0x14 Load) (Fault (DataStorage 0x14 0x8_0000))
unfolding place_of part_start process_start after_second after_process_entry inside in_process after_entry after_tree at_node first_denial
process_unsupported_load = leads_by (with_words ((0x11_0010, 0x200b) ∷ (0x11_2000, directory 0x4000 4) ∷ []) tables) (ask_of 0x14 Load) (Fault (DataStorage 0x14 0x8_0000)) refl

-- the same for a store
process_unsupported_store : Leads (with_words ((0x11_0010, 0x200b) ∷ (0x11_2000, directory 0x4000 4) ∷ []) tables) (ask_of 0x14 Store) (Fault (DataStorage 0x14 0x208_0000))
unfolding place_of part_start process_start after_second after_process_entry inside in_process after_entry after_tree at_node first_denial
process_unsupported_store = leads_by (with_words ((0x11_0010, 0x200b) ∷ (0x11_2000, directory 0x4000 4) ∷ []) tables) (ask_of 0x14 Store) (Fault (DataStorage 0x14 0x208_0000)) refl

-- the same for a fetch
process_unsupported_fetch : Leads (with_words ((0x11_0010, 0x200b) ∷ (0x11_2000, directory 0x4000 4) ∷ []) tables) (ask_of 0x14 Fetch) (Fault (InstStorage 0x8_0000))
unfolding place_of part_start process_start after_second after_process_entry inside in_process after_entry after_tree at_node first_denial
process_unsupported_fetch = leads_by (with_words ((0x11_0010, 0x200b) ∷ (0x11_2000, directory 0x4000 4) ∷ []) tables) (ask_of 0x14 Fetch) (Fault (InstStorage 0x8_0000)) refl

-- a process's tree of 55 bits, though it has a page of 1 GiB: bit 44 (after_process_entry)
process_root_unsupported : Leads (with_words ((0x11_0010, 0x6000_0000_0000_2010) ∷ (0x11_2000, directory 0x4000 9) ∷ []) tables) (ask_of 0x14 Load) (Fault (DataStorage 0x14 0x8_0000))
unfolding place_of part_start process_start after_second after_process_entry inside in_process after_entry after_tree at_node first_denial
process_root_unsupported = leads_by (with_words ((0x11_0010, 0x6000_0000_0000_2010) ∷ (0x11_2000, directory 0x4000 9) ∷ []) tables) (ask_of 0x14 Load) (Fault (DataStorage 0x14 0x8_0000)) refl

-- a tree of 52 bits with tables of 5 bits: a directory at level 4 names no table, though 32 bits are left (after_tree)
process_level_four : Leads (with_words ((0x11_0010, 0x4000_0000_0000_20a5) ∷ (0x11_2000, directory 0x3000 5) ∷ (0x11_3000, directory 0x4000 5) ∷ (0x11_4000, directory 0x5000 5) ∷ (0x11_5000, directory 0x6000 11) ∷ (0x11_6000, leaf 0) ∷ []) tables) (ask_of 0x14 Load) (Fault (DataStorage 0x14 0x8_0000))
unfolding place_of part_start process_start after_second after_process_entry inside in_process after_entry after_tree at_node first_denial
process_level_four = leads_by (with_words ((0x11_0010, 0x4000_0000_0000_20a5) ∷ (0x11_2000, directory 0x3000 5) ∷ (0x11_3000, directory 0x4000 5) ∷ (0x11_4000, directory 0x5000 5) ∷ (0x11_5000, directory 0x6000 11) ∷ (0x11_6000, leaf 0) ∷ []) tables) (ask_of 0x14 Load) (Fault (DataStorage 0x14 0x8_0000)) refl

-- a leaf at level 1 of this tree leaves 39 bits, and no page has them: bit 44 (is_page_size)
process_odd_page : Leads (with_words ((0x100_1000, leaf 0) ∷ []) largest) (ask_of 0 Load) (Fault (DataStorage 0 0x8_0000))
unfolding place_of part_start process_start after_second after_process_entry inside in_process after_entry after_tree at_node first_denial
process_odd_page = leads_by (with_words ((0x100_1000, leaf 0) ∷ []) largest) (ask_of 0 Load) (Fault (DataStorage 0 0x8_0000)) refl

-- process 256 is beyond a process table of 256 entries: bit 33 (after_second)
process_table_short : Leads tables (record (ask_of 0x1_0014 Load) { pid = 256 }) (Fault (DataStorage 0x1_0014 0x4000_0000))
unfolding place_of part_start process_start after_second after_process_entry inside in_process after_entry after_tree at_node first_denial
process_table_short = leads_by tables (record (ask_of 0x1_0014 Load) { pid = 256 }) (Fault (DataStorage 0x1_0014 0x4000_0000)) refl

-- a directory whose table has 10 bits where 21 are left, so that it leaves fewer than 12: bit 44, and its entry is not read (at_node)
process_table_large : Leads (with_words ((0x11_2008, directory 0x4000 10) ∷ (0x11_4000, 0) ∷ []) tables) (ask_of 0x20_0000 Load) (Fault (DataStorage 0x20_0000 0x8_0000))
unfolding place_of part_start process_start after_second after_process_entry inside in_process after_entry after_tree at_node first_denial
process_table_large = leads_by (with_words ((0x11_2008, directory 0x4000 10) ∷ (0x11_4000, 0) ∷ []) tables) (ask_of 0x20_0000 Load) (Fault (DataStorage 0x20_0000 0x8_0000)) refl

-- of the second and third bit of the authority either one permits a load: here the third alone (first_denial)
process_read_or_write : Leads (with_words ((0x11_4080, leaf_with 0x182 0x1_0000) ∷ []) tables) (ask_of 0x1_0014 Load) (Page 0x12_0014)
unfolding place_of part_start process_start after_second after_process_entry inside in_process after_entry after_tree at_node first_denial
process_read_or_write = leads_by (with_words ((0x11_4080, leaf_with 0x182 0x1_0000) ∷ []) tables) (ask_of 0x1_0014 Load) (Page 0x12_0014) refl

-- here the second alone (first_denial)
process_read_alone : Leads (with_words ((0x11_4080, leaf_with 0x184 0x1_0000) ∷ []) tables) (ask_of 0x1_0014 Load) (Page 0x12_0014)
unfolding place_of part_start process_start after_second after_process_entry inside in_process after_entry after_tree at_node first_denial
process_read_alone = leads_by (with_words ((0x11_4080, leaf_with 0x184 0x1_0000) ∷ []) tables) (ask_of 0x1_0014 Load) (Page 0x12_0014) refl
