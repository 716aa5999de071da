use Rattle.translator.proofs.LookLemmas.{looked, none_stands, none_serves, serves, is_there}
use Rattle.translator.proofs.lists.Lists.look.Goals as goal

pub returns-in-Some-page_of_fill : goal.returns-in-Some-page_of_fill
returns-in-Some-page_of_fill c =
    serves c.args.journal.now c.args.thread c.args.ask.now c.args.key.now c.in-Some.i c.in-Some-fill.fill.now c.in-Some-page_of_fill.real c.requires.key
    (looked c.args.self.now c.args.journal.now c.requires.fits.0 c.args.thread c.args.ask.now c.args.key.now _ c.requires.fits.1 c.requires.thread c.fills_are_named.ensures.named c.rows_are_dated.ensures c.requires.quiet c.requires.key c.in-Some.ensures)
    c.in-Some-fill.ensures c.in-Some-page_of_fill.ensures

pub returns-in-None-page_of_fill : goal.returns-in-None-page_of_fill
returns-in-None-page_of_fill c =
    none_serves c.args.journal.now c.args.thread c.args.ask.now c.args.key.now c.in-Some.i c.in-Some-fill.fill.now c.requires.key
    (looked c.args.self.now c.args.journal.now c.requires.fits.0 c.args.thread c.args.ask.now c.args.key.now _ c.requires.fits.1 c.requires.thread c.fills_are_named.ensures.named c.rows_are_dated.ensures c.requires.quiet c.requires.key c.in-Some.ensures)
    c.in-Some-fill.ensures c.in-None-page_of_fill.ensures

pub returns-in-None-fill : goal.returns-in-None-fill
returns-in-None-fill c =
    absurd (is_there c.args.journal.now c.args.thread c.args.key.now c.in-Some.i
    (looked c.args.self.now c.args.journal.now c.requires.fits.0 c.args.thread c.args.ask.now c.args.key.now _ c.requires.fits.1 c.requires.thread c.fills_are_named.ensures.named c.rows_are_dated.ensures c.requires.quiet c.requires.key c.in-Some.ensures)
    c.in-None-fill.ensures)

pub returns-in-None : goal.returns-in-None
returns-in-None c =
    none_stands c.args.journal.now c.args.thread c.args.ask.now c.args.key.now c.requires.key
    (looked c.args.self.now c.args.journal.now c.requires.fits.0 c.args.thread c.args.ask.now c.args.key.now _ c.requires.fits.1 c.requires.thread c.fills_are_named.ensures.named c.rows_are_dated.ensures c.requires.quiet c.requires.key c.in-None.ensures)
