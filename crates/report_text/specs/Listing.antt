-- The listing of an image: the words of its segments, as text.
use Rattle.std.specs.Prelude.{ℕ, ◌+◌, ◌*◌, ◌/◌, List, ◌++◌, codes, length, map, flat_map}
use Rattle.std.specs.List.{range_with_len}
use Rattle.line_text.specs.Text.{hex, end_of_line, text_of}
use Rattle.ppc_disasm.specs.Words.{word_text}
use Rattle.elf_image.specs.declared.segment.Segment.{Segment}
use Rattle.elf_image.specs.declared.image.Image.{Image}
use Rattle.elf_image.specs.Fields.{word_at}

-- the line of a word: its address, its digits and its text
abbrev pub listed_word : ℕ → ℕ → List ℕ
listed_word at word = hex 16 at ++ codes " " ++ hex 8 word ++ codes " " ++ word_text word ++ end_of_line

-- the line of the word of a segment's bytes that has so many before it
abbrev pub segment_line : Segment → ℕ → List ℕ
segment_line s k = listed_word (s.at + 4 * k) (word_at s.bytes (4 * k))

-- The lines of the whole words of a segment's bytes; one to three bytes behind them have no line, and nor have the zeros up to
-- the segment's size.
abbrev pub segment_lines : Segment → List (List ℕ)
segment_lines s = map (segment_line s) (range_with_len 0 (length s.bytes / 4))

-- the lines of all segments, in the order of the image
unfoldable pub listing : Image → List ℕ
listing image = text_of (flat_map segment_lines image.segments)
