use Rattle.std.proofs.Common.{◌≡◌, [], ◌∷◌, ap, sym, ◌∙◌, subst}
use Rattle.journal_core.specs.declared.asks.Ask.{Ask}
use Rattle.storage_ops.specs.Parts.{listed_second}
use Rattle.storage_ops.specs.Reaching as reaching
use Rattle.storage_ops.specs.Answering.{IsAnswered}
use Rattle.storage_ops.proofs.AnsweringLemmas.{answered_once, answered_twice, reached_once, reached_twice, quiet_stays}
use Rattle.storage_ops.proofs.answering.translate_parts.Goals as goal

-- src/answering.rt:74:17
pub returns-in-None-clause-answered : goal.returns-in-None-clause-answered
returns-in-None-clause-answered g c =
    let asks : reaching.reached (reaching.asks_for c.args.thread.now c.args.kind (c.args.parts.now.first ∷ listed_second c.args.parts.now.second)) (c.translate-first.result ∷ []) ≡ c.ask_of-ask.result ∷ [] =
    reached_once c.args.thread.now c.args.kind c.args.parts.now.first c.args.parts.now.second c.translate-first.result (sym c.next_part.ensures ∙ c.in-None.is) ∙ ap (λ (a : Ask). a ∷ []) (sym c.ask_of-ask.ensures) in
    subst (λ xs. IsAnswered g.T.Translate.chooses 2 c.args.number (g.R.TableReader.ram c.args.reader.now) xs c.args.journal.now c.translate-first.new.journal (c.translate-first.result ∷ [])) (sym asks)
    (answered_once g.T.Translate.chooses c.args.number c.args.moment (g.R.TableReader.ram c.args.reader.now) c.ask_of-ask.result c.args.journal.now c.translate-first.new.journal c.translate-first.result c.requires.moment c.translate-first.ensures.adds c.translate-first.ensures.answer c.translate-first.ensures.chosen)

-- src/answering.rt:78:9
pub translate-second-requires-clause-quiet : goal.translate-second-requires-clause-quiet
translate-second-requires-clause-quiet g c = quiet_stays c.args.journal.now c.translate-first.new.journal c.translate-first.ensures.adds c.requires.quiet

-- src/answering.rt:50:1
pub returns-clause-answered : goal.returns-clause-answered
returns-clause-answered g c =
    let asks : reaching.reached (reaching.asks_for c.args.thread.now c.args.kind (c.args.parts.now.first ∷ listed_second c.args.parts.now.second)) (c.translate-first.result ∷ c.translate-second.result ∷ []) ≡ c.ask_of-ask.result ∷ c.ask_of-ask-2.result ∷ [] =
    reached_twice c.args.thread.now c.args.kind c.args.parts.now.first c.in-Some.part c.args.parts.now.second c.translate-first.result c.translate-second.result (sym c.next_part.ensures ∙ c.in-Some.is)
    ∙ (ap (λ (a : Ask). a ∷ reaching.ask_of c.args.thread.now c.args.kind c.in-Some.part.at ∷ []) (sym c.ask_of-ask.ensures) ∙ ap (λ (a : Ask). c.ask_of-ask.result ∷ a ∷ []) (sym c.ask_of-ask-2.ensures)) in
    subst (λ xs. IsAnswered g.T.Translate.chooses 2 c.args.number (g.R.TableReader.ram c.args.reader.now) xs c.args.journal.now c.translate-second.new.journal (c.translate-first.result ∷ c.translate-second.result ∷ [])) (sym asks)
    (answered_twice g.T.Translate.chooses c.args.number c.args.moment (g.R.TableReader.ram c.args.reader.now) c.ask_of-ask.result c.ask_of-ask-2.result c.args.journal.now c.translate-first.new.journal c.translate-second.new.journal c.translate-first.result c.translate-second.result c.requires.moment g.met.T.Translate.chosen_stays c.fills_are_named.ensures.named
    c.translate-first.ensures.adds c.translate-first.ensures.answer c.translate-first.ensures.chosen c.translate-second.ensures.adds c.translate-second.ensures.answer c.translate-second.ensures.chosen)
