-- A walk that begins with what is kept, by computation; each line says which definitions it exercises.
use Rattle.std.proofs.Common.{◌≡◌, ℕ, ◌/◌, List, [], ◌∷◌, length, map, get_or, refl, Option, Some, None, true}
use Rattle.std.specs.Prelude.{if◌then◌else◌, ◌==◌}
use Rattle.walk_laws.proofs.ExampleWalks.{rows_of}
use Rattle.walk_laws.proofs.ExampleTables.{tables, leaf, ask_of}
use Rattle.journal_core.specs.PartitionWalk.{part_start, after_entry, after_tree, at_node}
use Rattle.journal_core.specs.Rights.{first_denial}
use Rattle.journal_core.specs.Places.{place_of}
use Rattle.journal_core.specs.Walk.{inside, in_process, after_second, after_process_entry, process_start}
use Rattle.journal_core.specs.Standing.{key_of, fill_reads}
use Rattle.journal_core.specs.Resumed.{KeptAnswers, Resumed, readings}
use Rattle.journal_core.specs.PartResumed.{PartResumed}
use Rattle.journal_core.specs.Fills.{fills_of, new_rows}
use Rattle.journal_core.specs.declared.rows.Role.TheVariants.{Pate, ProcessLeaf, PartLeaf}
use Rattle.journal_core.specs.declared.rows.ReadRow.{ReadRow}
use Rattle.journal_core.specs.declared.rows.Key.{Key}
use Rattle.journal_core.specs.declared.rows.KeyKind.{KeyKind}
use Rattle.journal_core.specs.declared.rows.KeyKind.TheVariants.{Translation, GuestPage, ProcessDir, PartDir}
use Rattle.journal_core.specs.declared.rows.FillRow.{FillRow}
use Rattle.journal_core.specs.declared.asks.Ask.{Ask}
use Rattle.journal_core.specs.declared.asks.AccessKind.TheVariants.{Load, Fetch}
use Rattle.journal_core.specs.declared.walks.PartResult.TheVariants.{Leaf}
use Rattle.journal_core.specs.declared.walks.NestResult.TheVariants.{Page}
use Rattle.journal_core.specs.declared.walks.TrailItem.{TrailItem}
use Rattle.journal_core.specs.declared.walks.TrailItem.TheVariants.{Old, New}

-- The journal after a fetch of page 5 in step 7: its sixteen readings, and its nine fills. Fill 1 is the partition's directory
-- that leaves 21 bits, fill 5 the process's, and fill 6 the guest page of the process's second table.
abbrev fetch : Ask
fetch = ask_of 0x5000 Fetch

abbrev reads : List ReadRow
reads = rows_of tables fetch

abbrev known_directory : KeyKind → Option ℕ
known_directory Translation = None
known_directory GuestPage = None
known_directory ProcessDir = Some 5
known_directory PartDir = Some 1

abbrev known : KeptAnswers
known = record {
  reads = reads;
  fills = fills_of 0 7 fetch [] 0 (map New reads);
  directory = λ kind lpid pid sought. known_directory kind;
  page = λ lpid gra. if gra / 0x1000 == 4 then Some 6 else None;
}

abbrev blank : ReadRow
blank = record { role = Pate; lpid = 0; pid = 0; sought = 0; level = 0; left = 0; at = 0; value = 0; moment = 0 }

abbrev row : ℕ → ReadRow
row i = get_or reads i blank

-- a load of page 16 in step 9, and the two words that it reads anew: the process's leaf, and the partition's of the result
abbrev load : Ask
load = ask_of 0x1_0014 Load

abbrev leaf_reading : ReadRow
leaf_reading = record { role = ProcessLeaf; lpid = 1; pid = 1; sought = 0x1_0014; level = 2; left = 12; at = 0x11_4080; value = leaf 0x1_0000; moment = 9 }

abbrev page_reading : ReadRow
page_reading = record { role = PartLeaf; lpid = 1; pid = 0; sought = 0x1_0014; level = 2; left = 12; at = 0x10_2080; value = leaf 0x12_0000; moment = 9 }

-- the nine readings of the process's directory, the three of the guest page of its table, the new leaf, the two of the
-- partition's directory, and the new leaf of the page
abbrev items : List TrailItem
items = Old 0 ∷ Old 1 ∷ Old 2 ∷ Old 3 ∷ Old 4 ∷ Old 5 ∷ Old 6 ∷ Old 7 ∷ Old 8 ∷ Old 9 ∷ Old 10 ∷ Old 11 ∷ New leaf_reading ∷ Old 1 ∷ Old 2 ∷ New page_reading ∷ []

-- the walk that begins with what is kept takes these, and ends in the page (Resumed, owed_at, due, kept_reads)
resumed_page : Resumed tables 9 known load items (Page 0x12_0014)
unfolding place_of part_start process_start after_second after_process_entry inside in_process after_entry after_tree at_node first_denial
resumed_page = (
  1 ∷ 2 ∷ 3 ∷ 4 ∷ 5 ∷ 6 ∷ 7 ∷ 8 ∷ [],
  row 0,
  refl,
  refl,
  record { same_role = refl; same_lpid = refl; same_pid = refl; same_level = refl; same_left = refl; same_at = refl },
  (
    2 ∷ 3 ∷ 4 ∷ 5 ∷ 6 ∷ 7 ∷ 8 ∷ [],
    row 1,
    refl,
    refl,
    record { same_role = refl; same_lpid = refl; same_pid = refl; same_sought = refl; same_level = refl; same_left = refl; same_at = refl },
    (
      3 ∷ 4 ∷ 5 ∷ 6 ∷ 7 ∷ 8 ∷ [],
      row 2,
      refl,
      refl,
      record { same_role = refl; same_lpid = refl; same_pid = refl; same_sought = refl; same_level = refl; same_left = refl; same_at = refl },
      (
        4 ∷ 5 ∷ 6 ∷ 7 ∷ 8 ∷ [],
        row 3,
        refl,
        refl,
        record { same_role = refl; same_lpid = refl; same_pid = refl; same_sought = refl; same_level = refl; same_left = refl; same_at = refl },
        (
          5 ∷ 6 ∷ 7 ∷ 8 ∷ [],
          row 4,
          refl,
          refl,
          record { same_role = refl; same_lpid = refl; same_pid = refl; same_sought = refl; same_level = refl; same_left = refl; same_at = refl },
          (
            6 ∷ 7 ∷ 8 ∷ [],
            row 5,
            refl,
            refl,
            record { same_role = refl; same_lpid = refl; same_pid = refl; same_sought = refl; same_level = refl; same_left = refl; same_at = refl },
            (
              7 ∷ 8 ∷ [],
              row 6,
              refl,
              refl,
              record { same_role = refl; same_lpid = refl; same_pid = refl; same_sought = refl; same_level = refl; same_left = refl; same_at = refl },
              (
                8 ∷ [],
                row 7,
                refl,
                refl,
                record { same_role = refl; same_lpid = refl; same_pid = refl; same_sought = refl; same_level = refl; same_left = refl; same_at = refl },
                (
                  [],
                  row 8,
                  refl,
                  refl,
                  record { same_role = refl; same_lpid = refl; same_pid = refl; same_sought = refl; same_level = refl; same_left = refl; same_at = refl },
                  (
                    10 ∷ 11 ∷ [],
                    row 9,
                    refl,
                    refl,
                    record { same_role = refl; same_lpid = refl; same_pid = refl; same_sought = refl; same_level = refl; same_left = refl; same_at = refl },
                    (
                      11 ∷ [],
                      row 10,
                      refl,
                      refl,
                      record { same_role = refl; same_lpid = refl; same_pid = refl; same_sought = refl; same_level = refl; same_left = refl; same_at = refl },
                      (
                        [],
                        row 11,
                        refl,
                        refl,
                        record { same_role = refl; same_lpid = refl; same_pid = refl; same_sought = refl; same_level = refl; same_left = refl; same_at = refl },
                        (
                          refl,
                          record { same_role = refl; same_lpid = refl; same_pid = refl; same_sought = refl; same_level = refl; same_left = refl; same_at = refl },
                          record { stands = refl; same_moment = refl; same_sought = refl },
                          (
                            2 ∷ [],
                            row 1,
                            refl,
                            refl,
                            record { same_role = refl; same_lpid = refl; same_pid = refl; same_sought = refl; same_level = refl; same_left = refl; same_at = refl },
                            (
                              [],
                              row 2,
                              refl,
                              refl,
                              record { same_role = refl; same_lpid = refl; same_pid = refl; same_sought = refl; same_level = refl; same_left = refl; same_at = refl },
                              (
                                refl,
                                record { same_role = refl; same_lpid = refl; same_pid = refl; same_sought = refl; same_level = refl; same_left = refl; same_at = refl },
                                record { stands = refl; same_moment = refl; same_sought = refl },
                                (refl, refl),
                              ),
                            ),
                          ),
                        ),
                      ),
                    ),
                  ),
                ),
              ),
            ),
          ),
        ),
      ),
    ),
  ),
)

-- its last part is the walk of guest 0x1_0014 that begins with the partition's directory, and reads the leaf anew (PartResumed,
-- kept_for, PartFreshFrom)
resumed_directory : PartResumed tables 9 known 0x2_0000 1 0x1_0014 (Old 1 ∷ Old 2 ∷ New page_reading ∷ []) (Leaf 0x12_0000 12 0 7 true true)
unfolding place_of part_start process_start after_second after_process_entry inside in_process after_entry after_tree at_node first_denial
resumed_directory = record {
  taken = row 1 ∷ row 2 ∷ [];
  rs = page_reading ∷ [];
  items_are = refl;
  named = (refl, (refl, tt));
  follows = (
    record { same_role = refl; same_lpid = refl; same_pid = refl; same_sought = refl; same_level = refl; same_left = refl; same_at = refl },
    (record { same_role = refl; same_lpid = refl; same_pid = refl; same_sought = refl; same_level = refl; same_left = refl; same_at = refl }, tt),
  );
  rest = record {
    follows = (record { same_role = refl; same_lpid = refl; same_pid = refl; same_sought = refl; same_level = refl; same_left = refl; same_at = refl }, tt);
    new = (record { stands = refl; same_moment = refl; same_sought = refl }, tt);
    ends = refl;
  };
}

-- and the part before it, of the process's table, takes its guest page, and reads nothing (PartResumed, kept_reads)
resumed_guest_page : PartResumed tables 9 known 0x2_0000 1 0x4080 (Old 9 ∷ Old 10 ∷ Old 11 ∷ []) (Leaf 0x11_4000 12 0 7 true true)
unfolding place_of part_start process_start after_second after_process_entry inside in_process after_entry after_tree at_node first_denial
resumed_guest_page = record {
  taken = row 9 ∷ row 10 ∷ row 11 ∷ [];
  rs = [];
  items_are = refl;
  named = (refl, (refl, (refl, tt)));
  follows = (
    record { same_role = refl; same_lpid = refl; same_pid = refl; same_sought = refl; same_level = refl; same_left = refl; same_at = refl },
    (record { same_role = refl; same_lpid = refl; same_pid = refl; same_sought = refl; same_level = refl; same_left = refl; same_at = refl }, (record { same_role = refl; same_lpid = refl; same_pid = refl; same_sought = refl; same_level = refl; same_left = refl; same_at = refl }, tt)),
  );
  rest = record { follows = tt; new = tt; ends = refl };
}

-- it adds two readings (new_rows)
resumed_new : new_rows items ≡ leaf_reading ∷ page_reading ∷ []
resumed_new = refl

-- what a fill is found by, the level that it carries, and the numbers of its readings
record Said : Type 0 where
  key : Key
  level : ℕ
  numbers : List ℕ

abbrev said : Key → ℕ → List ℕ → Said
said key level numbers = record { key = key; level = level; numbers = numbers }

-- and two fills, the guest page's and its own: keys that old readings found get none (fills_of, first_found)
resumed_fills : map (λ (f : FillRow). said f.key f.level (fill_reads f)) (fills_of 0 9 load reads 16 items) ≡
    said (key_of GuestPage 1 0 12 0x1_0014) 2 (1 ∷ 2 ∷ 17 ∷ [])
    ∷ said (key_of Translation 1 1 12 0x1_0014) 2 (0 ∷ 1 ∷ 2 ∷ 3 ∷ 4 ∷ 5 ∷ 6 ∷ 7 ∷ 8 ∷ 9 ∷ 10 ∷ 11 ∷ 16 ∷ 1 ∷ 2 ∷ 17 ∷ []) ∷ []
unfolding place_of part_start process_start after_second after_process_entry inside in_process after_entry after_tree at_node first_denial
resumed_fills = refl

-- its readings are sixteen, old and new (readings)
resumed_readings : length (readings reads items) ≡ 16
unfolding place_of part_start process_start after_second after_process_entry inside in_process after_entry after_tree at_node first_denial
resumed_readings = refl
