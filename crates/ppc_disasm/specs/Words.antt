-- The text of any word.
use Rattle.std.specs.Prelude.{ℕ, List, ◌++◌, codes}
use Rattle.line_text.specs.Text.{hex}
use Rattle.word_decoder.specs.declared.decoded.Decoded.{Decoded}
use Rattle.word_decoder.specs.declared.decoded.Decoded.TheVariants.{Form}
use Rattle.word_decoder.specs.Decode.{decoded_of}
use Rattle.ppc_disasm.specs.Texts.{insn_text}

-- the text of a word that means this: that of the form, or a directive with the word where it means none
abbrev pub decoded_text : ℕ → Decoded → List ℕ
decoded_text word (Form i) = insn_text i
decoded_text word other = codes ".word 0x" ++ hex 8 word

-- the text of a word, as the assembler reads it
unfoldable pub word_text : ℕ → List ℕ
word_text word = decoded_text word (decoded_of word)
