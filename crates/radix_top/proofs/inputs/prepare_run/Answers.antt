use Rattle.std.proofs.lemmas.Result.{err_from_is_err_and}
use Rattle.radix_top.proofs.Refusals.{schedule_fails, guests_fail, ready_run}
use Rattle.radix_top.proofs.inputs.prepare_run.Goals as goal

pub returns-in_err-schedule-clause-err : goal.returns-in_err-schedule-clause-err
returns-in_err-schedule-clause-err g c =
    let p = err_from_is_err_and c.from_residual-in_err-schedule.result c.from_residual-in_err-schedule.ensures.1 in
    rw (p.1, p.2) (schedule_fails (g.F.Files.told c.args.files.now) (g.F.Files.told c.read_image.new.files) (g.F.Files.faults c.args.files.now) (g.F.Files.faults c.read_image.new.files) (g.F.Files.faults c.read_plan.new.files) (g.F.Files.last c.read_plan.new.files)
    c.args.words.now c.args.count c.args.options c.in_ok-image.image _ c.in_ok-image.ensures.same c.in_ok-image.ensures.counts c.in_ok-image.ensures.ok.1 c.in_err-schedule.ensures.err)

pub returns-in_err-read_guests-clause-err : goal.returns-in_err-read_guests-clause-err
returns-in_err-read_guests-clause-err g c =
    let p = err_from_is_err_and c.from_residual-in_err-read_guests.result c.from_residual-in_err-read_guests.ensures.1 in
    rw (p.1, p.2) (guests_fail (g.F.Files.told c.args.files.now) (g.F.Files.told c.read_image.new.files) (g.F.Files.told c.read_plan.new.files) (g.F.Files.faults c.args.files.now) (g.F.Files.faults c.read_image.new.files) (g.F.Files.faults c.read_plan.new.files) (g.F.Files.faults c.read_guests.new.files) (g.F.Files.last c.read_guests.new.files)
    c.args.words.now c.args.count c.args.options c.as_slice.result.now c.in_ok-image.image c.in_ok-schedule.schedule _ c.as_slice.ensures c.in_ok-image.ensures.same c.in_ok-schedule.ensures.same c.in_ok-image.ensures.counts c.in_ok-schedule.ensures.counts c.in_ok-image.ensures.ok.1 c.in_ok-schedule.ensures.ok.1 c.in_err-read_guests.ensures.err)

pub returns-clause-ok : goal.returns-clause-ok
returns-clause-ok g c =
    ready_run (g.F.Files.told c.args.files.now) (g.F.Files.told c.read_image.new.files) (g.F.Files.told c.read_plan.new.files) (g.F.Files.faults c.args.files.now) (g.F.Files.faults c.read_plan.new.files) (g.F.Files.faults c.read_guests.new.files) (g.F.Files.last c.read_guests.new.files)
    c.args.words.now c.args.count c.args.options c.as_slice.result.now c.in_ok-image.image c.in_ok-schedule.schedule c.new-guests.result c.read_guests.new.guests c.as_slice.ensures c.in_ok-image.ensures.same c.in_ok-schedule.ensures.same c.requires.command c.requires.few c.in_ok-image.ensures.ok.1 c.in_ok-schedule.ensures.ok.1 c.in_ok-schedule.ensures.one
    c.new-guests.ensures c.in_ok-read_guests.ensures.ok (c.in_ok-read_guests.ensures.last _ c.in_ok-schedule.ensures.ok.0)
