-- The fills that are left when a journal is cut name readings that are left.
use Rattle.std.proofs.Common.{ℕ, ◌<◌, ◌≤◌, List, [], ◌∷◌, arith}
use Rattle.std.specs.List.{AllByRecursion}
use Rattle.journal_core.specs.declared.rows.ReadRow.{ReadRow}
use Rattle.journal_core.specs.declared.rows.FillRow.{FillRow}
use Rattle.journal_core.specs.Steps.{InOrder, rows_below}
use Rattle.journal_core.specs.Standing.{fill_reads, AreRows, IsNamed, AreNamed, AreShort}
use Rattle.journal_core.proofs.CutLemmas.{get_cut, all_cut}

rows_cut : (high n m : ℕ) (reads : List ReadRow) (is : List ℕ) (rs : List ReadRow) → InOrder (λ (r : ReadRow). r.moment) 0 high reads → m < n → AllByRecursion (λ (r : ReadRow). r.moment ≤ m) rs → AreRows reads is rs → AreRows (rows_below (λ (r : ReadRow). r.moment) n reads) is rs
rows_cut high n m reads [] [] order below made named = tt
rows_cut high n m reads [] (r ∷ rs) order below made named = absurd named
rows_cut high n m reads (i ∷ is) [] order below made named = absurd named
rows_cut high n m reads (i ∷ is) (r ∷ rs) order below made named =
    (get_cut (λ (x : ReadRow). x.moment) 0 high n reads i r order named.0 (omega (arith, below, made.0)), rows_cut high n m reads is rs order below made.1 named.1)

pub named_cut : (high n : ℕ) (reads : List ReadRow) (fills : List FillRow) → InOrder (λ (r : ReadRow). r.moment) 0 high reads → AreNamed reads fills → AreNamed (rows_below (λ (r : ReadRow). r.moment) n reads) (rows_below (λ (f : FillRow). f.moment) n fills)
named_cut high n reads fills order named =
    all_cut (IsNamed reads) (IsNamed (rows_below (λ (r : ReadRow). r.moment) n reads)) (λ (f : FillRow). f.moment) n fills
    (λ f below is. record { readings = is.readings; named = rows_cut high n f.moment reads (fill_reads f) is.readings order below is.made is.named; made = is.made })
    named

pub short_cut : (n : ℕ) (fills : List FillRow) → AreShort fills → AreShort (rows_below (λ (f : FillRow). f.moment) n fills)
short_cut n fills short = all_cut (λ (f : FillRow). f.count ≤ 36) (λ (f : FillRow). f.count ≤ 36) (λ (f : FillRow). f.moment) n fills (λ f below few. few) short
