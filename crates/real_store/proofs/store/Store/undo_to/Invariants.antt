use Rattle.std.proofs.Common.{◌≡◌, ◌≤◌, ℕ, List, length, take}
use Rattle.journal_core.specs.Past.{Fits, writes_before}
use Rattle.real_store.proofs.store.Store.undo_to.Given as goal

-- the rows up to `left` still fit, and the others are taken back
abbrev pub invariant-loop-left : goal.invariant-loop-left
invariant-loop-left l = record {
  within : l.left ≤ length l.journal.rows.writes;
  fits : (first : List ℕ) → Fits first l.journal.rows.writes l.fn.self.ram → Fits first (take l.left l.journal.rows.writes) l.self.ram;
  late : writes_before l.moment l.journal.rows.writes ≡ writes_before l.moment (take l.left l.journal.rows.writes);
}

abbrev pub decreases-loop-left : goal.decreases-loop-left
decreases-loop-left l = l.left
