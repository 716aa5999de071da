-- Names of operations with their marks.
use Rattle.std.specs.Prelude.{ℕ, List, [], ◌∷◌, codes, true, false, Option, Some, None, option_and_then, ◌==◌, if◌then◌else◌}
use Rattle.std.specs.Str.{bytes_eq}
use Rattle.ppc_ops.specs.declared.op.Op.{Op}
use Rattle.ppc_ops.specs.Table.{operations, name_of}
use Rattle.operand_texts.specs.declared.mnemonic.Mnemonic.{Mnemonic}
use Rattle.operand_texts.specs.Mnemonics.{marked, takes_marks}

-- An operation with the marks that stand behind its name: `o` for the overflow bits and then `.` for the record in CR,
-- or `l` for the link and then `a` for an absolute target.
abbrev pub with_marks : Op → List ℕ → Option Mnemonic
with_marks op marks =
    if bytes_eq marks [] then Some (marked op false false false false)
    else if bytes_eq marks (codes "o") then Some (marked op true false false false)
    else if bytes_eq marks (codes ".") then Some (marked op false true false false)
    else if bytes_eq marks (codes "o.") then Some (marked op true true false false)
    else if bytes_eq marks (codes "l") then Some (marked op false false true false)
    else if bytes_eq marks (codes "a") then Some (marked op false false false true)
    else if bytes_eq marks (codes "la") then Some (marked op false false true true)
    else None

abbrev pub where_taken : Mnemonic → Option Mnemonic
where_taken m = if takes_marks m then Some m else None

-- what stands behind a front of a word
abbrev pub behind_front : List ℕ → List ℕ → Option (List ℕ)
behind_front [] word = Some word
behind_front (f ∷ fs) [] = None
behind_front (f ∷ fs) (b ∷ bs) = if f == b then behind_front fs bs else None

-- the word as the name of an operation with marks that it has
abbrev pub as_name_of : Op → List ℕ → Option Mnemonic
as_name_of op word = option_and_then where_taken (option_and_then (with_marks op) (behind_front (name_of op) word))

abbrev pub first_of : Option Mnemonic → Option Mnemonic → Option Mnemonic
first_of (Some m) other = Some m
first_of None other = other

abbrev pub name_among : List Op → List ℕ → Option Mnemonic
name_among [] word = None
name_among (op ∷ ops) word = first_of (as_name_of op word) (name_among ops word)

-- all operations, in the order of the table; a name of its own, since the list is long
unfoldable pub all_operations : List Op
all_operations = operations

-- the operation and the marks that a word names
abbrev pub mnemonic_of : List ℕ → Option Mnemonic
mnemonic_of word = name_among all_operations word
