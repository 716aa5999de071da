use Rattle.std.proofs.Common.{◌≤◌, ◌+◌, length, inl, inr}
use Rattle.std.proofs.lemmas.Bool.{cases_lt}
use Rattle.real_store.proofs.tests.store_in_a_step.Goals as goal

pub returns-in-Ok-clause-fits : goal.returns-in-Ok-clause-fits
returns-in-Ok-clause-fits g c =
    let ram = c.args.store.now.ram in
    let within : c.args.at + c.args.size ≤ length ram = elim (cases_lt (length ram) (c.args.at + c.args.size)) [ inl out ↦ absurd (let never = c.in-Ok.ensures.refused.1 out in cc) | inr inside ↦ inside ] in
    let right = c.storing_keeps_fitting.ensures.right ram c.counts-counts.result.steps 0 c.args.at c.args.size c.args.value c.requires.some c.requires.most within c.requires.value in
    let fits = c.storing_keeps_fitting.ensures.fits c.requires.fits.0 c.args.journal.now.rows.writes ram _ c.requires.fits.1 right in
    (c.requires.fits.0, rw (c.push_step.ensures.row, c.in-Ok.ensures.row, c.in-Ok.ensures.ram) fits)
