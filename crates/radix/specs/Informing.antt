-- Words that ask about the program itself.
use Rattle.std.specs.Prelude.{List, [], ◌∷◌, Option, Some, None, if◌then◌else◌, codes}
use Rattle.radix_top.specs.Words.{Text, is_word}
use Rattle.radix.specs.declared.information.Information.{Information}
use Rattle.radix.specs.declared.information.Information.TheVariants.{Help, Version}

-- by one word
abbrev pub information_of_word : Text → Option Information
information_of_word w =
    if is_word w (codes "--help") then Some Help else if is_word w (codes "--version") then Some Version else None

-- by a command line: the word stands alone
abbrev pub information_of : List Text → Option Information
information_of [] = None
information_of (w ∷ []) = information_of_word w
information_of (w ∷ v ∷ ws) = None
