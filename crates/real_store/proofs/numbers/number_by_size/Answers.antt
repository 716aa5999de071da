use Rattle.std.proofs.Common.{◌≡◌, length, arith}
use Rattle.real_store.proofs.NumberLemmas.{two_words}
use Rattle.real_store.proofs.numbers.number_by_size.Goals as goal

pub returns-in-len8-clause-value : goal.returns-in-len8-clause-value
returns-in-len8-clause-value c =
    let eight : length c.args.bytes.now ≡ 8 = omega arith in
    rw (c.word_of-in-len8.ensures.value, c.word_of-in-len8-2.ensures.value) (two_words c.args.bytes.now eight)
