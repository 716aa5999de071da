-- The image of a file, and what a reader of files answers.
use Rattle.std.specs.Prelude.{◌≡◌, ℕ, List, Result, Ok, Err}
use Rattle.elf_image.specs.declared.image.Image.{Image}
use Rattle.elf_image.specs.declared.fault.ElfFault.{ElfFault}
use Rattle.elf_image.specs.declared.fault.ElfFault.TheVariants as faults
use Rattle.elf_image.specs.Parts.{image_parts}
use Rattle.elf_image.specs.Grammar.{image_of}

-- the bytes are a file of this image
abbrev pub IsImage : List ℕ → Image → Type 0
IsImage bytes image = image_of bytes ≡ Ok (image_parts image)

-- what a fault says of the bytes: that it is their first, but of want of memory nothing
abbrev pub IsImageFault : List ℕ → ElfFault → Type 0
IsImageFault bytes faults.Memory = Unit {0}
IsImageFault bytes fault = image_of bytes ≡ Err fault

-- what reading the bytes says
abbrev pub Reads : List ℕ → Result Image ElfFault → Type 0
Reads bytes (Ok image) = IsImage bytes image
Reads bytes (Err fault) = IsImageFault bytes fault
