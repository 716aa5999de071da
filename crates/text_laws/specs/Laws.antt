-- Laws of the text of instructions.
use Rattle.std.specs.Prelude.{◌≡◌, ◌<◌, ◌^◌, ℕ, List, true, Some, bit_and}
use Rattle.ppc_ops.specs.declared.insn.Insn.{Insn}
use Rattle.ppc_ops.specs.Forms.{IsForm}
use Rattle.word_decoder.specs.declared.decoded.Decoded.{Decoded}
use Rattle.word_decoder.specs.declared.decoded.Decoded.TheVariants.{Form}
use Rattle.word_decoder.specs.Decode.{decoded_of}
use Rattle.ppc_decode.specs.Encode.{word_for, used_of}
use Rattle.operand_texts.specs.declared.mnemonic.Mnemonic.{Mnemonic}
use Rattle.operand_texts.specs.Mnemonics.{takes_marks}
use Rattle.asm_places.specs.Names.{Definition}
use Rattle.asm_places.specs.declared.places.Places.{Places}
use Rattle.asm_contents.specs.declared.content.Content.TheVariants as contents
use Rattle.ppc_disasm.specs.Texts.{mnemonic_text, insn_text}
use Rattle.ppc_disasm.specs.Words.{word_text}
use Rattle.text_laws.specs.Reading.{text_content}

-- The text of a form puts the form's word into memory, wherever it stands, and whatever the names of its source are.
abbrev pub TextsAssemble : Type 0
TextsAssemble = (names : List Definition) (places : Places) (i : Insn) → IsForm i → text_content names places (insn_text i) ≡ Some (contents.Word (word_for i))

-- two forms have two texts
abbrev pub TextsDiffer : Type 0
TextsDiffer = (i j : Insn) → IsForm i → IsForm j → insn_text i ≡ insn_text j → i ≡ j

-- two operations, or one with different marks, have two names
abbrev pub NamesDiffer : Type 0
NamesDiffer = (m n : Mnemonic) → takes_marks m ≡ true → takes_marks n ≡ true → mnemonic_text m ≡ mnemonic_text n → m ≡ n

-- a word without the bits that are ignored in the form that it means
abbrev pub without_ignored : ℕ → Decoded → ℕ
without_ignored word (Form i) = bit_and word (used_of i)
without_ignored word other = word

-- The text of a word puts the word into memory, with 0 in the bits that its form ignores.
abbrev pub WordsAssemble : Type 0
WordsAssemble =
    (names : List Definition) (places : Places) (word : ℕ) → word < 2 ^ 32 →
    text_content names places (word_text word) ≡ Some (contents.Word (without_ignored word (decoded_of word)))
