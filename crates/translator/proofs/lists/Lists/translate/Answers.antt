use Rattle.walk_rows.proofs.FreshLemmas.{adds_nothing}
use Rattle.translator.proofs.ChosenLemmas.{chosen_answers}
use Rattle.translator.proofs.lists.Lists.translate.Goals as goal

pub returns-in-Real-clause-adds : goal.returns-in-Real-clause-adds
returns-in-Real-clause-adds g c = adds_nothing c.args.journal.now

pub returns-clause-answer : goal.returns-clause-answer
returns-clause-answer g c = λ past now stood.
    chosen_answers past c.args.self.now c.args.journal.now c.answer.new.journal c.args.thread c.args.moment c.args.ask.now c.answer.result c.requires.fits.0 c.requires.moment c.requires.thread c.requires.fits.1 c.requires.fits.2 c.fills_are_named.ensures.named c.requires.quiet c.answer.ensures.adds stood
    (c.answer.ensures.chosen (past c.args.moment) now)
