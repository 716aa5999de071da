use Rattle.elf_image.proofs.RamLemmas.{lie_in_ram}
use Rattle.elf_image.proofs.laws.loaded_ranges_lie_in_ram.Goals as goal

pub returns : goal.returns
returns c = lie_in_ram
