-- What an invalidation covers, and which readings are current (Power ISA, Book III, translation lookaside buffer
-- invalidation; the table of lines is this machine's own).
use Rattle.std.specs.Prelude.{◌≡◌, ℕ, ◌/◌, ◌^◌, ◌<◌, ◌≤◌, List, Bool, true, false, not, ◌&&◌, ◌||◌, ◌==◌, nat_le, if◌then◌else◌}
use Rattle.std.specs.List.{AllByRecursion}
use Rattle.journal_core.specs.declared.rows.Role.{Role}
use Rattle.journal_core.specs.declared.rows.Role.TheVariants.{Pate, Prte, ProcessDir, ProcessLeaf, PartDir, PartLeaf}
use Rattle.journal_core.specs.declared.rows.ReadRow.{ReadRow}
use Rattle.journal_core.specs.declared.rows.Inval.{Inval}
use Rattle.journal_core.specs.declared.rows.Done.{Done}
use Rattle.journal_core.specs.declared.rows.Done.TheVariants.{Global, Local, Ptcr}
use Rattle.journal_core.specs.declared.rows.DoneRow.{DoneRow}

-- a table of a process; the others are a partition's
abbrev pub is_process_role : Role → Bool
is_process_role Pate = false
is_process_role PartDir = false
is_process_role PartLeaf = false
is_process_role Prte = true
is_process_role ProcessDir = true
is_process_role ProcessLeaf = true

abbrev pub is_leaf_role : Role → Bool
is_leaf_role Pate = false
is_leaf_role PartDir = false
is_leaf_role PartLeaf = true
is_leaf_role Prte = false
is_leaf_role ProcessDir = false
is_leaf_role ProcessLeaf = true

abbrev pub is_directory_role : Role → Bool
is_directory_role Pate = false
is_directory_role PartDir = true
is_directory_role PartLeaf = false
is_directory_role Prte = false
is_directory_role ProcessDir = true
is_directory_role ProcessLeaf = false

-- scope: with PRS the tables of processes, else those of partitions
abbrev pub in_scope : Inval → ReadRow → Bool
in_scope op r = if op.prs then is_process_role r.role else not (is_process_role r.role)

-- kind: RIC 0 leaves, RIC 1 directories, RIC 2 everything
abbrev pub of_kind : Inval → ReadRow → Bool
of_kind op r = if op.ric == 0 then is_leaf_role r.role else if op.ric == 1 then is_directory_role r.role else true

abbrev pub of_partition : Inval → ReadRow → Bool
of_partition op r = op.lpid == r.lpid

abbrev pub of_process : Inval → ReadRow → Bool
of_process op r = of_partition op r && (op.pid == r.pid)

-- with PRS of the process, else of the partition
abbrev pub of_owner : Inval → ReadRow → Bool
of_owner op r = if op.prs then of_process op r else of_partition op r

-- of this page, which has this size
abbrev pub of_page : Inval → ReadRow → Bool
of_page op r = (r.left == op.bits) && (op.page / 2 ^ op.bits == r.sought / 2 ^ op.bits)

-- place: IS 3 everywhere, IS 2 the partition, IS 1 the process, IS 0 the owner, and for leaves alone one page
abbrev pub at_place : Inval → ReadRow → Bool
at_place op r =
    if op.is == 3 then true
    else if op.is == 2 then of_partition op r
    else if op.is == 1 then of_process op r
    else of_owner op r && (not (op.ric == 0) || of_page op r)

-- an invalidation covers a reading: scope, kind and place hold
unfoldable pub covers : Inval → ReadRow → Bool
covers op r = in_scope op r && (of_kind op r && at_place op r)

-- a completed operation covers a reading; a change of the partition table covers every one
abbrev pub done_covers : Done → ReadRow → Bool
done_covers (Global op) r = covers op r
done_covers (Local op) r = covers op r
done_covers Ptcr r = true

abbrev pub is_global : Done → Bool
is_global (Global op) = true
is_global (Local op) = false
is_global Ptcr = false

-- a completion reaches all threads, or that of its step alone
abbrev pub reaches : DoneRow → ℕ → Bool
reaches d t = is_global d.what || (d.thread == t)

-- a completion ends the use of a reading for a thread: it reaches the thread, covers the reading, and came no sooner
unfoldable pub ends_reading : ℕ → ReadRow → DoneRow → Bool
ends_reading t r d = nat_le r.moment d.step && (reaches d t && done_covers d.what r)

-- a reading is current for thread t at n: it was made by then, and no completion of a step before n ends it
pub record IsCurrent (dones : List DoneRow) (t n : ℕ) (r : ReadRow) : Type 0 where
  pub made : r.moment ≤ n
  pub kept : AllByRecursion (λ d. (d.step < n) → ends_reading t r d ≡ false) dones

-- no completion of a step from n to m - 1 ends the use of a reading for thread t
abbrev pub NoneEnds : List DoneRow → ℕ → ℕ → ℕ → ReadRow → Type 0
NoneEnds dones t n m r = AllByRecursion (λ d. n ≤ d.step → d.step < m → ends_reading t r d ≡ false) dones
