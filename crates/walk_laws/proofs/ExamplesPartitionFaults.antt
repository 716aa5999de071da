-- What a partition's tables refuse, by computation; each line says which definitions it exercises.
use Rattle.std.proofs.Common.{◌≡◌, [], ◌∷◌, length, refl}
use Rattle.walk_laws.proofs.ExampleWalks.{rows_of, Leads, leads_by}
use Rattle.walk_laws.proofs.ExampleTables.{tables, with_words, leaf, leaf_with, directory, ask_of, problem_ask, guest_ask}
use Rattle.journal_core.specs.PartitionWalk.{part_start, after_entry, after_tree, at_node}
use Rattle.journal_core.specs.Rights.{first_denial}
use Rattle.journal_core.specs.Places.{place_of}
use Rattle.journal_core.specs.Walk.{inside, in_process, after_second, after_process_entry, process_start}
use Rattle.journal_core.specs.declared.asks.AccessKind.TheVariants.{Load, Store, Fetch}
use Rattle.journal_core.specs.declared.causes.Cause.TheVariants.{HypDataStorage, HypInstStorage}
use Rattle.journal_core.specs.declared.rows.StopName.TheVariants.{NoStorage, HashedPartition}
use Rattle.journal_core.specs.declared.walks.NestResult.TheVariants.{Page, Fault, Stop}

-- the page's guest page 128 has no entry: bit 33, the address and the guest page (partition_fault)
partition_missing_load : Leads (with_words ((0x11_4080, leaf 0x8_0000) ∷ []) tables) (ask_of 0x1_0014 Load) (Fault (HypDataStorage 0x1_0014 0x4000_0000 0x8_0000))
unfolding place_of part_start process_start after_second after_process_entry inside in_process after_entry after_tree at_node first_denial
partition_missing_load = leads_by (with_words ((0x11_4080, leaf 0x8_0000) ∷ []) tables) (ask_of 0x1_0014 Load) (Fault (HypDataStorage 0x1_0014 0x4000_0000 0x8_0000)) refl

-- a store sets bit 38 too (store_bits)
partition_missing_store : Leads (with_words ((0x11_4080, leaf 0x8_0000) ∷ []) tables) (ask_of 0x1_0014 Store) (Fault (HypDataStorage 0x1_0014 0x4200_0000 0x8_0000))
unfolding place_of part_start process_start after_second after_process_entry inside in_process after_entry after_tree at_node first_denial
partition_missing_store = leads_by (with_words ((0x11_4080, leaf 0x8_0000) ∷ []) tables) (ask_of 0x1_0014 Store) (Fault (HypDataStorage 0x1_0014 0x4200_0000 0x8_0000)) refl

-- a fetch raises the cause of its own side (partition_fault)
partition_missing_fetch : Leads (with_words ((0x11_4080, leaf 0x8_0000) ∷ []) tables) (ask_of 0x1_0014 Fetch) (Fault (HypInstStorage 0x4000_0000 0x8_0000))
unfolding place_of part_start process_start after_second after_process_entry inside in_process after_entry after_tree at_node first_denial
partition_missing_fetch = leads_by (with_words ((0x11_4080, leaf 0x8_0000) ∷ []) tables) (ask_of 0x1_0014 Fetch) (Fault (HypInstStorage 0x4000_0000 0x8_0000)) refl

-- no right to execute: bit 35 (denial_bits)
partition_execute : Leads (with_words ((0x10_2080, leaf_with 0x186 0x12_0000) ∷ []) tables) (ask_of 0x1_0014 Fetch) (Fault (HypInstStorage 0x1000_0000 0x1_0000))
unfolding place_of part_start process_start after_second after_process_entry inside in_process after_entry after_tree at_node first_denial
partition_execute = leads_by (with_words ((0x10_2080, leaf_with 0x186 0x12_0000) ∷ []) tables) (ask_of 0x1_0014 Fetch) (Fault (HypInstStorage 0x1000_0000 0x1_0000)) refl

-- guarded, and fetched from: bit 35 (first_denial)
partition_guarded : Leads (with_words ((0x10_2080, leaf_with 0x1a7 0x12_0000) ∷ []) tables) (ask_of 0x1_0014 Fetch) (Fault (HypInstStorage 0x1000_0000 0x1_0000))
unfolding place_of part_start process_start after_second after_process_entry inside in_process after_entry after_tree at_node first_denial
partition_guarded = leads_by (with_words ((0x10_2080, leaf_with 0x1a7 0x12_0000) ∷ []) tables) (ask_of 0x1_0014 Fetch) (Fault (HypInstStorage 0x1000_0000 0x1_0000)) refl

-- a partition's page knows no privilege (first_denial)
partition_no_privilege : Leads (with_words ((0x10_2080, leaf_with 0x18f 0x12_0000) ∷ []) tables) (problem_ask 0x1_0014 Load) (Page 0x12_0014)
unfolding place_of part_start process_start after_second after_process_entry inside in_process after_entry after_tree at_node first_denial
partition_no_privilege = leads_by (with_words ((0x10_2080, leaf_with 0x18f 0x12_0000) ∷ []) tables) (problem_ask 0x1_0014 Load) (Page 0x12_0014) refl

-- no right to read: bit 36 (first_denial)
partition_read : Leads (with_words ((0x10_2080, leaf_with 0x181 0x12_0000) ∷ []) tables) (ask_of 0x1_0014 Load) (Fault (HypDataStorage 0x1_0014 0x800_0000 0x1_0000))
unfolding place_of part_start process_start after_second after_process_entry inside in_process after_entry after_tree at_node first_denial
partition_read = leads_by (with_words ((0x10_2080, leaf_with 0x181 0x12_0000) ∷ []) tables) (ask_of 0x1_0014 Load) (Fault (HypDataStorage 0x1_0014 0x800_0000 0x1_0000)) refl

-- no right to write: bits 36 and 38 (first_denial)
partition_write : Leads (with_words ((0x10_2080, leaf_with 0x185 0x12_0000) ∷ []) tables) (ask_of 0x1_0014 Store) (Fault (HypDataStorage 0x1_0014 0xa00_0000 0x1_0000))
unfolding place_of part_start process_start after_second after_process_entry inside in_process after_entry after_tree at_node first_denial
partition_write = leads_by (with_words ((0x10_2080, leaf_with 0x185 0x12_0000) ∷ []) tables) (ask_of 0x1_0014 Store) (Fault (HypDataStorage 0x1_0014 0xa00_0000 0x1_0000)) refl

-- not marked as referenced: bit 45 (first_denial)
partition_referenced_load : Leads (with_words ((0x10_2080, leaf_with 135 0x12_0000) ∷ []) tables) (ask_of 0x1_0014 Load) (Fault (HypDataStorage 0x1_0014 0x4_0000 0x1_0000))
unfolding place_of part_start process_start after_second after_process_entry inside in_process after_entry after_tree at_node first_denial
partition_referenced_load = leads_by (with_words ((0x10_2080, leaf_with 135 0x12_0000) ∷ []) tables) (ask_of 0x1_0014 Load) (Fault (HypDataStorage 0x1_0014 0x4_0000 0x1_0000)) refl

-- the same for a fetch
partition_referenced_fetch : Leads (with_words ((0x10_2080, leaf_with 135 0x12_0000) ∷ []) tables) (ask_of 0x1_0014 Fetch) (Fault (HypInstStorage 0x4_0000 0x1_0000))
unfolding place_of part_start process_start after_second after_process_entry inside in_process after_entry after_tree at_node first_denial
partition_referenced_fetch = leads_by (with_words ((0x10_2080, leaf_with 135 0x12_0000) ∷ []) tables) (ask_of 0x1_0014 Fetch) (Fault (HypInstStorage 0x4_0000 0x1_0000)) refl

-- a store to a page that is not marked as changed: bits 45 and 38 (first_denial)
partition_changed_store : Leads (with_words ((0x10_2080, leaf_with 0x107 0x12_0000) ∷ []) tables) (ask_of 0x1_0014 Store) (Fault (HypDataStorage 0x1_0014 0x204_0000 0x1_0000))
unfolding place_of part_start process_start after_second after_process_entry inside in_process after_entry after_tree at_node first_denial
partition_changed_store = leads_by (with_words ((0x10_2080, leaf_with 0x107 0x12_0000) ∷ []) tables) (ask_of 0x1_0014 Store) (Fault (HypDataStorage 0x1_0014 0x204_0000 0x1_0000)) refl

-- a load there is permitted (first_denial)
partition_changed_load : Leads (with_words ((0x10_2080, leaf_with 0x107 0x12_0000) ∷ []) tables) (ask_of 0x1_0014 Load) (Page 0x12_0014)
unfolding place_of part_start process_start after_second after_process_entry inside in_process after_entry after_tree at_node first_denial
partition_changed_load = leads_by (with_words ((0x10_2080, leaf_with 0x107 0x12_0000) ∷ []) tables) (ask_of 0x1_0014 Load) (Page 0x12_0014) refl

-- a partition's tree whose root has 4 bits: bit 44 (after_entry)
partition_unsupported_load : Leads (with_words ((0x2_0010, 0x8000_0000_0010_0004) ∷ []) tables) (guest_ask 0x1_0014 Load) (Fault (HypDataStorage 0x1_0014 0x8_0000 0x1_0000))
unfolding place_of part_start process_start after_second after_process_entry inside in_process after_entry after_tree at_node first_denial
partition_unsupported_load = leads_by (with_words ((0x2_0010, 0x8000_0000_0010_0004) ∷ []) tables) (guest_ask 0x1_0014 Load) (Fault (HypDataStorage 0x1_0014 0x8_0000 0x1_0000)) refl

-- the same for a fetch
partition_unsupported_fetch : Leads (with_words ((0x2_0010, 0x8000_0000_0010_0004) ∷ []) tables) (guest_ask 0x1_0014 Fetch) (Fault (HypInstStorage 0x8_0000 0x1_0000))
unfolding place_of part_start process_start after_second after_process_entry inside in_process after_entry after_tree at_node first_denial
partition_unsupported_fetch = leads_by (with_words ((0x2_0010, 0x8000_0000_0010_0004) ∷ []) tables) (guest_ask 0x1_0014 Fetch) (Fault (HypInstStorage 0x8_0000 0x1_0000)) refl

-- a guest real address beyond the tree's 31 bits; the cause keeps the whole address of the ask (after_entry, partition_fault)
partition_beyond : Leads tables (guest_ask 0x8000_0000_8000_0014 Load) (Fault (HypDataStorage 0x8000_0000_8000_0014 0x4000_0000 0x8000_0000))
unfolding place_of part_start process_start after_second after_process_entry inside in_process after_entry after_tree at_node first_denial
partition_beyond = leads_by tables (guest_ask 0x8000_0000_8000_0014 Load) (Fault (HypDataStorage 0x8000_0000_8000_0014 0x4000_0000 0x8000_0000)) refl

-- a directory at level 4 of a partition's tree of 52 bits, where 32 are left: bit 44 (after_tree)
partition_level_four : Leads (with_words ((0x2_0010, 0xc000_0000_0010_00a5) ∷ (0x10_0000, directory 0x10_1000 5) ∷ (0x10_1000, directory 0x10_3000 5) ∷ (0x10_3000, directory 0x10_4000 5) ∷ (0x10_4000, directory 0x10_5000 11) ∷ (0x10_5000, leaf 0) ∷ []) tables) (guest_ask 0x14 Load) (Fault (HypDataStorage 0x14 0x8_0000 0))
unfolding place_of part_start process_start after_second after_process_entry inside in_process after_entry after_tree at_node first_denial
partition_level_four = leads_by (with_words ((0x2_0010, 0xc000_0000_0010_00a5) ∷ (0x10_0000, directory 0x10_1000 5) ∷ (0x10_1000, directory 0x10_3000 5) ∷ (0x10_3000, directory 0x10_4000 5) ∷ (0x10_4000, directory 0x10_5000 11) ∷ (0x10_5000, leaf 0) ∷ []) tables) (guest_ask 0x14 Load) (Fault (HypDataStorage 0x14 0x8_0000 0)) refl

-- a directory whose table lies in an unmapped guest page: bits 33 and 46 (table_bits)
table_missing_load : Leads (with_words ((0x11_2008, directory 0x7_f000 9) ∷ (0x10_23f8, 0) ∷ []) tables) (ask_of 0x20_0000 Load) (Fault (HypDataStorage 0x20_0000 0x4002_0000 0x7_f000))
unfolding place_of part_start process_start after_second after_process_entry inside in_process after_entry after_tree at_node first_denial
table_missing_load = leads_by (with_words ((0x11_2008, directory 0x7_f000 9) ∷ (0x10_23f8, 0) ∷ []) tables) (ask_of 0x20_0000 Load) (Fault (HypDataStorage 0x20_0000 0x4002_0000 0x7_f000)) refl

-- bit 38 is set for the instruction, also in table use (partition_fault)
table_missing_store : Leads (with_words ((0x11_2008, directory 0x7_f000 9) ∷ (0x10_23f8, 0) ∷ []) tables) (ask_of 0x20_0000 Store) (Fault (HypDataStorage 0x20_0000 0x4202_0000 0x7_f000))
unfolding place_of part_start process_start after_second after_process_entry inside in_process after_entry after_tree at_node first_denial
table_missing_store = leads_by (with_words ((0x11_2008, directory 0x7_f000 9) ∷ (0x10_23f8, 0) ∷ []) tables) (ask_of 0x20_0000 Store) (Fault (HypDataStorage 0x20_0000 0x4202_0000 0x7_f000)) refl

-- the same for a fetch
table_missing_fetch : Leads (with_words ((0x11_2008, directory 0x7_f000 9) ∷ (0x10_23f8, 0) ∷ []) tables) (ask_of 0x20_0000 Fetch) (Fault (HypInstStorage 0x4002_0000 0x7_f000))
unfolding place_of part_start process_start after_second after_process_entry inside in_process after_entry after_tree at_node first_denial
table_missing_fetch = leads_by (with_words ((0x11_2008, directory 0x7_f000 9) ∷ (0x10_23f8, 0) ∷ []) tables) (ask_of 0x20_0000 Fetch) (Fault (HypInstStorage 0x4002_0000 0x7_f000)) refl

-- table use without the right to read: bits 36 and 46 (access_for, granted)
table_read_load : Leads (with_words ((0x10_2020, leaf_with 0x181 0x11_4000) ∷ []) tables) (ask_of 0x1_0014 Load) (Fault (HypDataStorage 0x1_0014 0x802_0000 0x4000))
unfolding place_of part_start process_start after_second after_process_entry inside in_process after_entry after_tree at_node first_denial
table_read_load = leads_by (with_words ((0x10_2020, leaf_with 0x181 0x11_4000) ∷ []) tables) (ask_of 0x1_0014 Load) (Fault (HypDataStorage 0x1_0014 0x802_0000 0x4000)) refl

-- table use of a fetch is a load: it wants the right to read, not that to execute (access_for)
table_read_fetch : Leads (with_words ((0x10_2020, leaf_with 0x181 0x11_4000) ∷ []) tables) (ask_of 0x1_0014 Fetch) (Fault (HypInstStorage 0x802_0000 0x4000))
unfolding place_of part_start process_start after_second after_process_entry inside in_process after_entry after_tree at_node first_denial
table_read_fetch = leads_by (with_words ((0x10_2020, leaf_with 0x181 0x11_4000) ∷ []) tables) (ask_of 0x1_0014 Fetch) (Fault (HypInstStorage 0x802_0000 0x4000)) refl

-- table use of a store (access_for)
table_read_store : Leads (with_words ((0x10_2020, leaf_with 0x181 0x11_4000) ∷ []) tables) (ask_of 0x1_0014 Store) (Fault (HypDataStorage 0x1_0014 0xa02_0000 0x4000))
unfolding place_of part_start process_start after_second after_process_entry inside in_process after_entry after_tree at_node first_denial
table_read_store = leads_by (with_words ((0x10_2020, leaf_with 0x181 0x11_4000) ∷ []) tables) (ask_of 0x1_0014 Store) (Fault (HypDataStorage 0x1_0014 0xa02_0000 0x4000)) refl

-- a store through a table whose page may only be read and is not marked as changed (access_for)
table_use_is_a_load : Leads (with_words ((0x10_2020, leaf_with 0x104 0x11_4000) ∷ []) tables) (ask_of 0x1_0014 Store) (Page 0x12_0014)
unfolding place_of part_start process_start after_second after_process_entry inside in_process after_entry after_tree at_node first_denial
table_use_is_a_load = leads_by (with_words ((0x10_2020, leaf_with 0x104 0x11_4000) ∷ []) tables) (ask_of 0x1_0014 Store) (Page 0x12_0014) refl

-- a fetch through a table whose page may not be executed (access_for)
table_use_is_no_fetch : Leads (with_words ((0x10_2020, leaf_with 0x104 0x11_4000) ∷ []) tables) (ask_of 0x1_0014 Fetch) (Page 0x12_0014)
unfolding place_of part_start process_start after_second after_process_entry inside in_process after_entry after_tree at_node first_denial
table_use_is_no_fetch = leads_by (with_words ((0x10_2020, leaf_with 0x104 0x11_4000) ∷ []) tables) (ask_of 0x1_0014 Fetch) (Page 0x12_0014) refl

-- the partition table has 256 entries: bit 33 without 46, guest page 0 (process_start)
no_partition : Leads tables (record (ask_of 0x1_0014 Load) { lpid = 256 }) (Fault (HypDataStorage 0x1_0014 0x4000_0000 0))
unfolding place_of part_start process_start after_second after_process_entry inside in_process after_entry after_tree at_node first_denial
no_partition = leads_by tables (record (ask_of 0x1_0014 Load) { lpid = 256 }) (Fault (HypDataStorage 0x1_0014 0x4000_0000 0)) refl

-- with no reading (process_start)
no_partition_readings : length (rows_of tables (record (ask_of 0x1_0014 Load) { lpid = 256 })) ≡ 0
unfolding place_of part_start process_start after_second after_process_entry inside in_process after_entry after_tree at_node first_denial
no_partition_readings = refl

-- a guest real ask of such a partition has its own guest page (part_start)
no_partition_guest : Leads tables (record (guest_ask 0x1_0014 Load) { lpid = 256 }) (Fault (HypDataStorage 0x1_0014 0x4000_0000 0x1_0000))
unfolding place_of part_start process_start after_second after_process_entry inside in_process after_entry after_tree at_node first_denial
no_partition_guest = leads_by tables (record (guest_ask 0x1_0014 Load) { lpid = 256 }) (Fault (HypDataStorage 0x1_0014 0x4000_0000 0x1_0000)) refl

-- a partition with hashed tables stops the machine (after_entry)
hashed_partition : Leads (with_words ((0x2_0010, 0x10_000a) ∷ []) tables) (guest_ask 0x1_0014 Load) (Stop HashedPartition 1)
unfolding place_of part_start process_start after_second after_process_entry inside in_process after_entry after_tree at_node first_denial
hashed_partition = leads_by (with_words ((0x2_0010, 0x10_000a) ∷ []) tables) (guest_ask 0x1_0014 Load) (Stop HashedPartition 1) refl

-- a table beyond storage stops the machine (EndsAt, IsGap)
no_storage : Leads (with_words ((0x2_0010, 0x8000_0000_0100_000a) ∷ []) tables) (guest_ask 0x1_0014 Load) (Stop NoStorage 0x100_0000)
unfolding place_of part_start process_start after_second after_process_entry inside in_process after_entry after_tree at_node first_denial
no_storage = leads_by (with_words ((0x2_0010, 0x8000_0000_0100_000a) ∷ []) tables) (guest_ask 0x1_0014 Load) (Stop NoStorage 0x100_0000) (refl, refl)

-- a partition's root of 17 bits: bit 44 (at_node)
partition_root_wide : Leads (with_words ((0x2_0010, 0x8000_0000_0010_0011) ∷ []) tables) (guest_ask 0x1_0014 Load) (Fault (HypDataStorage 0x1_0014 0x8_0000 0x1_0000))
unfolding place_of part_start process_start after_second after_process_entry inside in_process after_entry after_tree at_node first_denial
partition_root_wide = leads_by (with_words ((0x2_0010, 0x8000_0000_0010_0011) ∷ []) tables) (guest_ask 0x1_0014 Load) (Fault (HypDataStorage 0x1_0014 0x8_0000 0x1_0000)) refl

-- a partition's tree of 55 bits, though it has a page of 1 GiB: bit 44 (after_entry)
partition_root_unsupported : Leads (with_words ((0x2_0010, 0xe000_0000_0010_0010) ∷ (0x10_0000, directory 0x10_2000 9) ∷ (0x10_2000, leaf 0) ∷ []) tables) (guest_ask 0x14 Load) (Fault (HypDataStorage 0x14 0x8_0000 0))
unfolding place_of part_start process_start after_second after_process_entry inside in_process after_entry after_tree at_node first_denial
partition_root_unsupported = leads_by (with_words ((0x2_0010, 0xe000_0000_0010_0010) ∷ (0x10_0000, directory 0x10_2000 9) ∷ (0x10_2000, leaf 0) ∷ []) tables) (guest_ask 0x14 Load) (Fault (HypDataStorage 0x14 0x8_0000 0)) refl
