-- A journal after an answer goes on from the one before it.
use Rattle.std.proofs.Common.{ℕ, [], ap, sym, ◌∙◌, append-nil}
use Rattle.journal_core.specs.Rows.{JournalView}
use Rattle.journal_core.specs.Translating.{GoesOn, OnlyAdds}

-- reads and fills alone came, so no completion did
pub goes_on : (old new : JournalView) (n : ℕ) → OnlyAdds old new → GoesOn n old.rows new.rows
goes_on old new n h = record {
  more_reads = h.reads;
  more_fills = h.fills;
  more_dones = [];
  reads = ap (λ (j : JournalView). j.rows.reads) h.rows;
  fills = ap (λ (j : JournalView). j.rows.fills) h.rows;
  dones = ap (λ (j : JournalView). j.rows.dones) h.rows ∙ sym (append-nil old.rows.dones);
  later = tt;
}
