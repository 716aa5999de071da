use Rattle.std.proofs.Common.{◌-◌, ◌^◌, ◌∙◌, length, sym, subst, arith}
use Rattle.asm_places.specs.Ranges.{most_zeros}
use Rattle.asm_places.specs.Keeping.{AddsOptional}
use Rattle.asm_places.proofs.Room.{end_small, label-new, line-adds}
use Rattle.asm_places.proofs.pass.place_line.Goals as goal

pub add_label-requires-clause-new : goal.add_label-requires-clause-new
add_label-requires-clause-new c = label-new c.args.number c.in-Some-read_line.line c.args.places.now (sym c.fault_of.ensures ∙ c.in-None-fault_of.is)

pub add_label-requires-clause-small : goal.add_label-requires-clause-small
add_label-requires-clause-small c =
    end_small (2 ^ 64 - 1 - most_zeros - 8 - length c.args.bytes.now) c.args.places.now.segments (omega arith) c.requires.sizes

pub returns-in-None-fault_of-clause-room : goal.returns-in-None-fault_of-clause-room
returns-in-None-fault_of-clause-room c =
    subst (AddsOptional c.in-Some-read_line.line.statement) (sym c.in_ok-add_label-in-None-fault_of.ensures)
    (line-adds c.args.number c.args.bytes.now c.in-Some.pieces c.in-Some-read_line.line c.args.places.now c.requires
    (sym c.of_line.ensures ∙ c.in-Some.is) (sym c.read_line.ensures ∙ c.in-Some-read_line.is) (sym c.fault_of.ensures ∙ c.in-None-fault_of.is))
