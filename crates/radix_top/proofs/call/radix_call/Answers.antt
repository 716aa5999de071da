use Rattle.radix_top.proofs.LawsLemmas.{accepted, accepted_source, accepted_image, sure_files, sure_sink}
use Rattle.radix_top.proofs.call.radix_call.Goals as goal

pub returns-clause-complete : goal.returns-clause-complete
returns-clause-complete g c = λ a. accepted _ _ _ _ _ _ _ _ _ _ _ _ a c.answer_call.ensures.answer

pub returns-clause-assembles : goal.returns-clause-assembles
returns-clause-assembles g c = λ a. accepted_source _ _ _ _ _ _ _ _ _ _ _ _ a c.answer_call.ensures.answer

pub returns-clause-lists : goal.returns-clause-lists
returns-clause-lists g c = λ a. accepted_image _ _ _ _ _ _ _ _ _ _ _ _ a c.answer_call.ensures.answer

pub returns-clause-sure_files : goal.returns-clause-sure_files
returns-clause-sure_files g c = λ zero. sure_files _ _ _ _ _ _ _ _ _ _ _ _ zero c.answer_call.ensures.answer

pub returns-clause-sure_sink : goal.returns-clause-sure_sink
returns-clause-sure_sink g c = λ zero. sure_sink _ _ _ _ _ _ _ _ _ _ _ _ zero c.answer_call.ensures.answer
