use Rattle.walk_rows.proofs.FreshLemmas.{adds_nothing}
use Rattle.translator.proofs.ChosenLemmas.{walk_chosen, hit_chosen}
use Rattle.translator.proofs.lists.Lists.answer.Goals as goal

pub returns-in-Some-clause-adds : goal.returns-in-Some-clause-adds
returns-in-Some-clause-adds g c = adds_nothing c.args.journal.now

pub returns-in-Some-clause-chosen : goal.returns-in-Some-clause-chosen
returns-in-Some-clause-chosen g c = λ word stands. hit_chosen word c.args.journal.now c.args.thread c.args.moment c.args.ask.now c.in-Some.fill c.in-Some.real c.requires.moment c.requires.translated c.in-Some.ensures

pub returns-in-None-clause-chosen : goal.returns-in-None-clause-chosen
returns-in-None-clause-chosen g c = λ word stands.
    walk_chosen word c.args.journal.now c.walk.new.journal c.args.thread c.args.moment c.args.ask.now c.walk.result c.requires.moment c.fills_are_named.ensures.named c.walk.ensures.adds c.in-None.ensures (c.walk.ensures.chosen word stands)
