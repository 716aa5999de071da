-- Laws of generated images.
use Rattle.std.specs.Prelude.{◌≡◌, ℕ, List, [], length, Some, None, slice_get}
use Rattle.ppc_ops.specs.declared.insn.Insn.{Insn}
use Rattle.ppc_ops.specs.Forms.{IsForm}
use Rattle.word_decoder.specs.declared.decoded.Decoded.TheVariants.{Form}
use Rattle.word_decoder.specs.Decode.{decoded_of}
use Rattle.ppc_decode.specs.Encode.{word_for}
use Rattle.elf_image.specs.declared.image.Image.{Image}
use Rattle.elf_image.specs.Parts.{image_parts}
use Rattle.elf_image.specs.Places.{bad_place_of}
use Rattle.gen_image.specs.Draws.{first_draws, second_draws}
use Rattle.gen_image.specs.Code.{handler, beginning, guest_code}
use Rattle.gen_image.specs.Generated.{generated, IsSize}

-- A generated image has seven segments, which lie in 16 MiB of RAM and are apart.
abbrev pub GeneratedFits : Type 0
GeneratedFits =
    (image : Image) (seed size : ℕ) → image_parts image ≡ generated seed size → IsSize size →
    (length image.segments ≡ 7) × (bad_place_of image [] 16 ≡ None)

-- each instruction of a list is a form, and its word means that form
abbrev pub MeansForms : List Insn → Type 0
MeansForms code = (k : ℕ) (i : Insn) → slice_get code k ≡ Some i → IsForm i × (decoded_of (word_for i) ≡ Form i)

-- The code of a generated image is of forms.
abbrev pub GeneratedCodeMeansForms : Type 0
GeneratedCodeMeansForms =
    MeansForms handler × MeansForms beginning ×
    ((seed size : ℕ) → IsSize size → MeansForms (guest_code (first_draws seed size)) × MeansForms (guest_code (second_draws seed size)))
