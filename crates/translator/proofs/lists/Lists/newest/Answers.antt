use Rattle.std.proofs.Common.{length, sym, subst}
use Rattle.journal_core.specs.Turns.{next_turn}
use Rattle.journal_core.specs.Standing.{IsStandingKey}
use Rattle.translator.proofs.LookLemmas.{look_stands}
use Rattle.translator.proofs.lists.Lists.newest.Goals as goal

pub returns : goal.returns
returns c = λ j values fits named dated quiet.
    subst (IsStandingKey (next_turn j c.args.thread) (length j.rows.fills) c.args.key.now) (sym c.find.ensures) (look_stands c.args.self.now j values c.args.thread c.args.key.now fits c.requires.thread named dated quiet c.requires.kind)
