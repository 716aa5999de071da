use Rattle.elf_image.proofs.OneImage.{one_image, one_fault, image_or_fault}
use Rattle.elf_image.proofs.laws.a_file_means_one_image_or_one_fault.Goals as goal

pub returns : goal.returns
returns c = record { image = one_image; fault = one_fault; either = image_or_fault }
