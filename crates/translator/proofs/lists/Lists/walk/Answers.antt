use Rattle.std.proofs.Common.{arith, sym, subst, refl}
use Rattle.journal_core.specs.Past.{word_in}
use Rattle.translator.specs.declared.lists.Lists.{Lists}
use Rattle.translator.specs.Fits.{Fits}
use Rattle.translator.proofs.NewFill.{answer_fits}
use Rattle.translator.proofs.lists.Lists.walk.Goals as goal

pub returns-clause-fits : goal.returns-clause-fits
returns-clause-fits g c = λ values value fits.
    let word = word_in (g.R.TableReader.ram c.args.reader.now) in
    subst (λ (s : Lists). Fits s c.fresh_answer-found.new.journal values) (sym c.keep.ensures)
    (answer_fits word c.args.self.now c.args.journal.now c.fresh_answer-found.new.journal c.args.thread c.args.moment c.args.ask.now c.args.key values (omega arith) (omega arith) c.requires.moment c.requires.quiet c.fills_are_named.ensures.named value c.requires.translated c.requires.key
    c.fresh_answer-found.ensures.adds c.fresh_answer-found.result (c.fresh_answer-found.ensures.chosen word (λ at. refl)) fits)
