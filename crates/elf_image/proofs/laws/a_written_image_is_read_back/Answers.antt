use Rattle.elf_image.proofs.RoundTrip.{reads_back}
use Rattle.elf_image.proofs.laws.a_written_image_is_read_back.Goals as goal

pub returns : goal.returns
returns c = reads_back
