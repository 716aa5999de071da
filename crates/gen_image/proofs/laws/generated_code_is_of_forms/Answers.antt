use Rattle.gen_image.proofs.LawLemmas.{code_means_forms}
use Rattle.gen_image.proofs.laws.generated_code_is_of_forms.Goals as goal

pub returns : goal.returns
returns c = code_means_forms
