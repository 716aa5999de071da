use Rattle.std.proofs.Common.{◌+◌, ◌-◌, ◌∙◌, List, length, take, drop, sym, ap, refl}
use Rattle.radix_top.specs.Words.{Text, options_of}
use Rattle.radix_top.proofs.CutWords.{trace_read, walks_read, guest_read}
use Rattle.radix_top.proofs.command.+read_options.Goals as goal

pub returns-then-asks_for_trace : goal.returns-then-asks_for_trace
returns-then-asks_for_trace t c =
    c.read_options.ensures ∙ ap (λ o. options_of (c.args.place + 1) o (take (length c.args.words.now - 1) (drop 1 c.args.words.now))) c.with_trace.ensures
    ∙ trace_read c.args.place c.args.before c.args.words.now c.word-item.result c.in-len1-up.len_at_least c.word-item.is (sym c.asks_for_trace.ensures ∙ c.if-asks_for_trace.true)

pub returns-then-asks_for_walks : goal.returns-then-asks_for_walks
returns-then-asks_for_walks t c =
    c.read_options-then-asks_for_walks.ensures ∙ ap (λ o. options_of (c.args.place + 1) o (take (length c.args.words.now - 1) (drop 1 c.args.words.now))) c.with_walks.ensures
    ∙ walks_read c.args.place c.args.before c.args.words.now c.word-item.result c.in-len1-up.len_at_least c.word-item.is
    (sym c.asks_for_trace.ensures ∙ c.if-asks_for_trace.false) (sym c.asks_for_walks.ensures ∙ c.if-asks_for_walks.true)

pub returns-in-Some : goal.returns-in-Some
returns-in-Some t c =
    let rest : List Text = take (length c.args.words.now - 1) (drop 1 c.args.words.now) in
    c.read_options-in-Some.ensures ∙ ap (λ o. options_of (c.args.place + 2) o (take (length rest - 1) (drop 1 rest))) c.with_guest.ensures
    ∙ guest_read c.args.place c.args.before c.args.words.now rest c.word-item.result c.value-item.result c.in-Some.guest c.in-len1-up.len_at_least c.word-item.is refl c.in-len1-up-rest.len_at_least c.value-item.is
    (sym c.asks_for_trace.ensures ∙ c.if-asks_for_trace.false) (sym c.asks_for_walks.ensures ∙ c.if-asks_for_walks.false) (sym c.announces_guest.ensures ∙ c.if-announces_guest.true) (sym c.read_guest.ensures ∙ c.in-Some.is)
