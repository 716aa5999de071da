use Rattle.ppc_decode.proofs.Whole.{decoded_again}
use Rattle.ppc_decode.proofs.encoder.decoded_words_encode.Goals as goal

pub returns : goal.returns
returns c = λ word i e. decoded_again word i e
