use Rattle.std.proofs.Common.{◌≡◌, ℕ, ◌-◌, ◌+◌, List, length, take, slice_get, Some, sym, ap, ◌∙◌, arith}
use Rattle.std.specs.Option.{option_copied}
use Rattle.journal_core.specs.Past.{Fits, writes_before}
use Rattle.journal_core.proofs.UndoLemmas.{Fits-within, Fits-back, take-write, writes_before-last, writes_before-early}
use Rattle.real_store.proofs.FitsLemmas.{Fits-size}
use Rattle.real_store.proofs.store.Store.undo_to.Goals as goal

-- where the first row that stays was met
pub returns-then-row-moment : goal.returns-then-row-moment
returns-then-row-moment c =
    let rows = c.args.journal.now.rows.writes in
    let is : slice_get rows (c.loop-left.left - 1) ≡ Some c.in-Some.row.now = sym c.write.ensures ∙ ap option_copied c.in-Some.is in
    let early = writes_before-early c.args.moment (length c.args.journal.now.rows.steps + 1) rows c.loop-left.left c.in-Some.row.now c.loop-left-test.true is c.if-row-moment.true c.rows_are_dated.ensures.writes in
    let kept : (first : List ℕ) → Fits first rows c.args.self.now.ram → Fits first (writes_before c.args.moment rows) c.loop-left.self.ram =
    λ first fits. rw (c.loop-left.invariant.late, early) (c.loop-left.invariant.fits first fits) in
    record { ram = λ first fits. (kept first fits).last; fits = kept }

pub undo-requires : goal.undo-requires
undo-requires c =
    let rows = c.args.journal.now.rows.writes in
    let is : slice_get rows (c.loop-left.left - 1) ≡ Some c.in-Some.row.now = sym c.write.ensures ∙ ap option_copied c.in-Some.is in
    let split = take-write rows c.loop-left.left c.in-Some.row.now c.loop-left-test.true is in
    let fits = rw split at (c.loop-left.invariant.fits c.requires.0 c.requires.1) in
    record {
      within = Fits-within c.requires.0 (take (c.loop-left.left - 1) rows) c.in-Some.row.now c.loop-left.self.ram fits;
      size = Fits-size c.requires.0 (take (c.loop-left.left - 1) rows) c.in-Some.row.now c.loop-left.self.ram fits;
    }

pub loop-left-preserved : goal.loop-left-preserved
loop-left-preserved c =
    let rows = c.args.journal.now.rows.writes in
    let is : slice_get rows (c.loop-left.left - 1) ≡ Some c.in-Some.row.now = sym c.write.ensures ∙ ap option_copied c.in-Some.is in
    let split = take-write rows c.loop-left.left c.in-Some.row.now c.loop-left-test.true is in
    record {
      within = omega arith;
      fits = λ first fits. rw c.undo.ensures (Fits-back first (take (c.loop-left.left - 1) rows) c.in-Some.row.now c.loop-left.self.ram (rw split at (c.loop-left.invariant.fits first fits)));
      late = c.loop-left.invariant.late ∙ (rw split (writes_before-last c.args.moment (take (c.loop-left.left - 1) rows) c.in-Some.row.now c.if-row-moment.false));
    }

pub returns : goal.returns
unfolding writes_before
returns c =
    let none : c.loop-left.left ≡ 0 = omega arith in
    let rows = c.args.journal.now.rows.writes in
    let late = rw none at c.loop-left.invariant.late in
    let kept : (first : List ℕ) → Fits first rows c.args.self.now.ram → Fits first (writes_before c.args.moment rows) c.loop-left.self.ram =
    λ first fits. let fits' = rw none at (c.loop-left.invariant.fits first fits) in rw late fits' in
    record { ram = λ first fits. (kept first fits).last; fits = kept }
