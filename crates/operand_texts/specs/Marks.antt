-- Written by tools/make_tables.py from docs/INSTRUCTIONS.md.
-- Which marks an operation's name takes: those of the fields of its layout.
use Rattle.std.specs.Prelude.{Bool, true, false}
use Rattle.ppc_ops.specs.declared.op.Op.{Op}
use Rattle.ppc_ops.specs.declared.insn.Layout.{Layout}
use Rattle.ppc_ops.specs.declared.insn.Layout.TheVariants as layout
use Rattle.ppc_ops.specs.Table.{layout_of}

-- the forms of the layout have the field oe
abbrev pub has_overflow : Layout → Bool
has_overflow layout.Arith = true
has_overflow other = false

-- the name takes o, which asks for the overflow bits
abbrev pub takes_overflow : Op → Bool
takes_overflow op = has_overflow (layout_of op)

-- the forms of the layout have the field rc
abbrev pub has_record : Layout → Bool
has_record layout.Arith = true
has_record layout.MulHigh = true
has_record layout.Logic = true
has_record layout.Unary = true
has_record layout.ShiftImm = true
has_record layout.RotWord = true
has_record layout.RotDouble = true
has_record other = false

-- the name takes ., which asks for CR0
abbrev pub takes_record : Op → Bool
takes_record op = has_record (layout_of op)

-- the forms of the layout have the field lk
abbrev pub has_link : Layout → Bool
has_link layout.Jump = true
has_link layout.Branch = true
has_link layout.BranchReg = true
has_link other = false

-- the name takes l, which puts the next address into LR
abbrev pub takes_link : Op → Bool
takes_link op = has_link (layout_of op)

-- the forms of the layout have the field aa
abbrev pub has_absolute : Layout → Bool
has_absolute layout.Jump = true
has_absolute layout.Branch = true
has_absolute other = false

-- the name takes a, which makes the target the address itself
abbrev pub takes_absolute : Op → Bool
takes_absolute op = has_absolute (layout_of op)
