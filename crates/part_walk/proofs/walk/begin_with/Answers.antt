use Rattle.std.proofs.Common.{sym, ◌∙◌}
use Rattle.walk_laws.proofs.KeptPart.{directory_begins_part, page_begins_part}
use Rattle.part_walk.proofs.PartTakes.{can_take, takes_page, takes_directory}
use Rattle.part_walk.proofs.walk.begin_with.Goals as goal

pub take_fill-requires-clause-fill : goal.take_fill-requires-clause-fill
take_fill-requires-clause-fill g c =
    can_take c.args.journal.now.rows c.args.ptcr c.args.lpid c.args.gra c.in-Some.i (page_begins_part c.args.journal.now c.args.thread c.args.ptcr c.args.lpid c.args.gra c.in-Some.i
    (g.met.C.Kept.page_stands c.args.kept.now c.args.journal.now c.args.thread c.args.ptcr c.args.lpid c.args.gra c.in-Some.i c.requires.thread c.requires.quiet c.requires.fits (sym c.in-Some.ensures)))

pub returns-in-Some-clause-begins : goal.returns-in-Some-clause-begins
returns-in-Some-clause-begins g c =
    takes_page c.args.journal.now.rows (g.C.Kept.directory_of c.args.kept.now c.args.journal.now c.args.thread) (g.C.Kept.page_of c.args.kept.now c.args.journal.now c.args.thread) c.args.ptcr c.args.lpid c.args.gra c.in-Some.i c.take_fill.result c.args.trail.now c.take_fill.new.trail
    (sym c.in-Some.ensures) c.take_fill.ensures.takes

pub take_fill-requires-in-Some-directory-clause-fill : goal.take_fill-requires-in-Some-directory-clause-fill
take_fill-requires-in-Some-directory-clause-fill g c =
    can_take c.args.journal.now.rows c.args.ptcr c.args.lpid c.args.gra c.in-Some-directory.i (directory_begins_part c.args.journal.now c.args.thread c.args.ptcr c.args.lpid c.args.gra c.in-Some-directory.i
    (g.met.C.Kept.directory_stands c.args.kept.now c.args.journal.now c.args.thread c.args.ptcr _ c.args.lpid 0 c.args.gra c.in-Some-directory.i tt c.requires.thread c.requires.quiet c.requires.fits (sym c.in-Some-directory.ensures)))

pub returns-in-Some-directory-clause-begins : goal.returns-in-Some-directory-clause-begins
returns-in-Some-directory-clause-begins g c =
    takes_directory c.args.journal.now.rows (g.C.Kept.directory_of c.args.kept.now c.args.journal.now c.args.thread) (g.C.Kept.page_of c.args.kept.now c.args.journal.now c.args.thread) c.args.ptcr c.args.lpid c.args.gra c.in-Some-directory.i c.take_fill-in-Some-directory.result c.args.trail.now c.take_fill-in-Some-directory.new.trail
    (sym c.guest_page.ensures ∙ c.in_default.is) (sym c.in-Some-directory.ensures) c.take_fill-in-Some-directory.ensures.takes
