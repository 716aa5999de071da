use Rattle.elf_image.proofs.ReadSegments.{read_segments_apart, bad_place_names}
use Rattle.elf_image.proofs.laws.segments_of_a_file_are_apart.Goals as goal

pub returns : goal.returns
returns c = record { apart = read_segments_apart; bad = bad_place_names }
