use Rattle.elf_image.proofs.RoundTrip.{length-written, length-written-twelve}
use Rattle.elf_image.proofs.laws.a_written_file_has_its_headers_and_bytes.Goals as goal

pub returns : goal.returns
returns c = record { length = length-written; of_twelve = length-written-twelve }
