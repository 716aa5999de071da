use Rattle.gen_image.proofs.LawLemmas.{image_fits}
use Rattle.gen_image.proofs.laws.generated_images_lie_in_ram.Goals as goal

pub returns : goal.returns
returns c = image_fits
