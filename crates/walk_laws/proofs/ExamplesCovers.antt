-- What invalidations cover, by computation; each line says which definitions it exercises.
use Rattle.std.proofs.Common.{◌≡◌, ℕ, ◌<◌, ◌≤◌, List, [], ◌∷◌, true, false, refl, arith}
use Rattle.journal_core.specs.Covers.{covers, done_covers, reaches, ends_reading, IsCurrent}
use Rattle.journal_core.specs.declared.rows.Role.{Role}
use Rattle.journal_core.specs.declared.rows.Role.TheVariants.{Pate, Prte, ProcessDir, ProcessLeaf, PartLeaf}
use Rattle.journal_core.specs.declared.rows.ReadRow.{ReadRow}
use Rattle.journal_core.specs.declared.rows.Inval.{Inval}
use Rattle.journal_core.specs.declared.rows.Done.TheVariants.{Global, Local, Ptcr}
use Rattle.journal_core.specs.declared.rows.DoneRow.{DoneRow}

-- a reading made in step 3: its role, partition, process, the address that it sought and how many bits it leaves
abbrev reading : Role → ℕ → ℕ → ℕ → ℕ → ReadRow
reading role lpid pid sought left = record { role = role; lpid = lpid; pid = pid; sought = sought; level = 1; left = left; at = 0; value = 0; moment = 3 }

-- the leaf of the page at 0x1_0000 of process 1 of partition 1
abbrev small_leaf : ReadRow
small_leaf = reading ProcessLeaf 1 1 0x1_0014 12

-- an invalidation for process tables (true) or partition tables (false), of partition 1 and process 1
abbrev process_op : ℕ → ℕ → ℕ → ℕ → Inval
process_op ric is page bits = record { ric = ric; prs = true; is = is; lpid = 1; pid = 1; page = page; bits = bits }

abbrev partition_op : ℕ → ℕ → ℕ → ℕ → Inval
partition_op ric is page bits = record { ric = ric; prs = false; is = is; lpid = 1; pid = 1; page = page; bits = bits }

abbrev op_of : Inval → ℕ → ℕ → Inval
op_of op lpid pid = record op { lpid = lpid; pid = pid }

-- a leaf, the page's owner, its size and its address (covers)
its_page : covers (process_op 0 0 0x1_0000 12) (small_leaf) ≡ true
unfolding covers
its_page = refl

-- another page (of_page)
another_page : covers (process_op 0 0 0x1_1000 12) (small_leaf) ≡ false
unfolding covers
another_page = refl

-- another process (of_owner)
another_process : covers (op_of (process_op 0 0 0x1_0000 12) 1 2) (small_leaf) ≡ false
unfolding covers
another_process = refl

-- another partition (of_owner)
another_partition : covers (op_of (process_op 0 0 0x1_0000 12) 2 1) (small_leaf) ≡ false
unfolding covers
another_partition = refl

-- an invalidation of 4 KiB against a page of 2 MiB in which it lies (of_page)
small_against_large : covers (process_op 0 0 0x21_0000 12) (reading ProcessLeaf 1 1 0x21_0000 21) ≡ false
unfolding covers
small_against_large = refl

-- and against one whose number over its own size is the same (of_page)
small_against_same_number : covers (process_op 0 0 0x1000 12) (reading ProcessLeaf 1 1 0x20_0000 21) ≡ false
unfolding covers
small_against_same_number = refl

-- an invalidation of 2 MiB from any page in it (of_page)
large_against_large : covers (process_op 0 0 0x21_0000 21) (reading ProcessLeaf 1 1 0x20_5000 21) ≡ true
unfolding covers
large_against_large = refl

-- an invalidation of 2 MiB against a page of 4 KiB in it (of_page)
large_against_small : covers (process_op 0 0 0 21) (small_leaf) ≡ false
unfolding covers
large_against_small = refl

-- an invalidation with no size covers no leaf (of_page)
no_size : covers (process_op 0 0 0x1_0000 0) (small_leaf) ≡ false
unfolding covers
no_size = refl

-- scope: everything of partitions, everywhere, is no process's leaf (in_scope)
partition_scope_no_process : covers (partition_op 2 3 0x1_0000 12) (small_leaf) ≡ false
unfolding covers
partition_scope_no_process = refl

-- scope: everything of processes, everywhere, is no partition's leaf (in_scope)
process_scope_no_partition : covers (process_op 2 3 0x1_0000 12) (reading PartLeaf 1 0 0x1_0014 12) ≡ false
unfolding covers
process_scope_no_partition = refl

-- scope: everything of partitions, everywhere (in_scope)
partition_scope : covers (partition_op 2 3 0x1_0000 12) (reading PartLeaf 1 0 0x1_0014 12) ≡ true
unfolding covers
partition_scope = refl

-- kind: RIC 0 is of leaves alone (of_kind)
leaves_no_directory : covers (process_op 0 3 0x1_0000 12) (reading ProcessDir 1 1 0x1_0014 21) ≡ false
unfolding covers
leaves_no_directory = refl

-- kind: RIC 1 is of directories alone (of_kind)
directories_no_leaf : covers (process_op 1 3 0x1_0000 12) (small_leaf) ≡ false
unfolding covers
directories_no_leaf = refl

-- kind: RIC 1 covers directories (of_kind)
directories : covers (process_op 1 3 0x1_0000 12) (reading ProcessDir 1 1 0x1_0014 21) ≡ true
unfolding covers
directories = refl

-- kind: RIC 1 is of no process entry (of_kind)
directories_no_entry : covers (process_op 1 3 0x1_0000 12) (reading Prte 1 1 0x1_0014 31) ≡ false
unfolding covers
directories_no_entry = refl

-- kind: RIC 2 covers leaves (of_kind)
everything_leaf : covers (process_op 2 3 0x1_0000 12) (small_leaf) ≡ true
unfolding covers
everything_leaf = refl

-- kind: RIC 2 covers directories (of_kind)
everything_directory : covers (process_op 2 3 0x1_0000 12) (reading ProcessDir 1 1 0x1_0014 21) ≡ true
unfolding covers
everything_directory = refl

-- kind: RIC 2 covers process entries (of_kind)
everything_process_entry : covers (process_op 2 3 0x1_0000 12) (reading Prte 1 1 0x1_0014 31) ≡ true
unfolding covers
everything_process_entry = refl

-- kind: RIC 2 covers partition entries (of_kind)
everything_partition_entry : covers (partition_op 2 3 0x1_0000 12) (reading Pate 1 0 0x1_0014 31) ≡ true
unfolding covers
everything_partition_entry = refl

-- place: IS 3 is every partition and process (at_place)
everywhere : covers (op_of (process_op 2 3 0x1_0000 12) 5 6) (small_leaf) ≡ true
unfolding covers
everywhere = refl

-- place: IS 2 is a partition, whatever the process (at_place)
of_a_partition : covers (op_of (process_op 2 2 0x1_0000 12) 1 6) (small_leaf) ≡ true
unfolding covers
of_a_partition = refl

-- place: IS 2 of another partition (at_place)
of_no_partition : covers (op_of (process_op 2 2 0x1_0000 12) 2 1) (small_leaf) ≡ false
unfolding covers
of_no_partition = refl

-- place: IS 1 is a partition and a process (at_place)
of_a_process : covers (process_op 2 1 0x1_0000 12) (small_leaf) ≡ true
unfolding covers
of_a_process = refl

-- place: IS 1 of another process (at_place)
of_no_process : covers (op_of (process_op 2 1 0x1_0000 12) 1 2) (small_leaf) ≡ false
unfolding covers
of_no_process = refl

-- place: IS 0 with RIC 2 is no page, but all of a process (at_place)
all_of_a_process : covers (process_op 2 0 0 0) (small_leaf) ≡ true
unfolding covers
all_of_a_process = refl

-- place: of another process (at_place)
all_of_no_process : covers (op_of (process_op 2 0 0 0) 1 2) (small_leaf) ≡ false
unfolding covers
all_of_no_process = refl

-- place: for partition tables all of a partition, whatever the process (of_owner)
all_of_a_partition : covers (op_of (partition_op 2 0 0 0) 1 9) (reading PartLeaf 1 0 0x1_0014 12) ≡ true
unfolding covers
all_of_a_partition = refl

-- place: a partition's leaf has no process to compare (of_owner)
guest_page : covers (op_of (partition_op 0 0 0x1_0000 12) 1 9) (reading PartLeaf 1 0 0x1_0014 12) ≡ true
unfolding covers
guest_page = refl

-- a change of the partition table covers every reading, and reaches its own thread alone (done_covers, reaches)
ptcr_covers : done_covers Ptcr small_leaf ≡ true
ptcr_covers = refl

ptcr_elsewhere : reaches (record { step = 5; thread = 1; what = Ptcr }) 0 ≡ false
ptcr_elsewhere = refl

-- a local completion reaches its own thread, a global one all (reaches)
local_here : reaches (record { step = 5; thread = 1; what = Local (process_op 0 0 0x1_0000 12) }) 1 ≡ true
local_here = refl

local_elsewhere : reaches (record { step = 5; thread = 1; what = Local (process_op 0 0 0x1_0000 12) }) 0 ≡ false
local_elsewhere = refl

global_elsewhere : reaches (record { step = 5; thread = 1; what = Global (process_op 0 0 0x1_0000 12) }) 0 ≡ true
global_elsewhere = refl

-- a completion of the step that made the reading ends its use, one of the step before does not (ends_reading)
same_step_ends : ends_reading 0 small_leaf (record { step = 3; thread = 1; what = Global (process_op 0 0 0x1_0000 12) }) ≡ true
unfolding ends_reading covers
same_step_ends = refl

earlier_ends_not : ends_reading 0 small_leaf (record { step = 2; thread = 1; what = Global (process_op 0 0 0x1_0000 12) }) ≡ false
unfolding ends_reading covers
earlier_ends_not = refl

-- completions of this page's invalidation in a step
abbrev completed : ℕ → List DoneRow
completed step = record { step = step; thread = 1; what = Global (process_op 0 0 0x1_0000 12) } ∷ []

never_below : (n : ℕ) → n < n → ⊥
never_below n below = omega arith

false_true : true ≡ false → ⊥
false_true e = cc

-- the reading, made in step 3, is current in the step itself that completes the invalidation (IsCurrent.kept)
current_in_step : IsCurrent (completed 5) 0 5 small_leaf
current_in_step = record { made = omega arith; kept = (λ below. absurd (never_below 5 below), tt) }

-- and not in the step after (IsCurrent.kept)
ended_after_step : IsCurrent (completed 5) 0 6 small_leaf → ⊥
unfolding ends_reading covers
ended_after_step h = false_true (h.kept.0 (omega arith))

-- an invalidation from before the reading does not count (IsCurrent.kept, ends_reading)
current_past_earlier : IsCurrent (completed 2) 0 9 small_leaf
unfolding ends_reading covers
current_past_earlier = record { made = omega arith; kept = (λ below. refl, tt) }

-- a reading is not current before it was made (IsCurrent.made)
not_made_yet : IsCurrent [] 0 2 small_leaf → ⊥
not_made_yet h = (let made : 3 ≤ 2 = h.made in omega (arith, made))
