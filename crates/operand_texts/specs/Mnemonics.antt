-- Names of operations with their marks.
use Rattle.std.specs.Prelude.{Bool, false, not, ◌&&◌, ◌||◌}
use Rattle.ppc_ops.specs.declared.op.Op.{Op}
use Rattle.operand_texts.specs.declared.mnemonic.Mnemonic.{Mnemonic}
use Rattle.operand_texts.specs.Marks.{takes_overflow, takes_record, takes_link, takes_absolute}

-- an operation with the marks of its name
abbrev pub marked : Op → Bool → Bool → Bool → Bool → Mnemonic
marked op oe rc lk aa = record { op = op; oe = oe; rc = rc; lk = lk; aa = aa }

-- an operation without marks
abbrev pub unmarked : Op → Mnemonic
unmarked op = marked op false false false false

-- the operation's name takes the marks
abbrev pub takes_marks : Mnemonic → Bool
takes_marks m =
    (not m.oe || takes_overflow m.op) && (not m.rc || takes_record m.op) && (not m.lk || takes_link m.op) && (not m.aa || takes_absolute m.op)
