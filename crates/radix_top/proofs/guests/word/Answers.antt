use Rattle.std.proofs.Common.{sym, ◌∙◌}
use Rattle.radix_top.proofs.Files.{word_at-get}
use Rattle.radix_top.proofs.guests.word.Goals as goal

pub returns : goal.returns
returns c = c.as_str.ensures.value ∙ sym (word_at-get c.args.words.now c.args.place c.index-words-place.result c.requires c.index-words-place.is)
