use Rattle.std.proofs.Common.{◌≡◌, ◌-◌, ◌^◌, ◌≤◌, ◌+◌, length, ap, sym, subst, ◌∙◌, arith}
use Rattle.asm_places.specs.Ranges.{most_zeros}
use Rattle.asm_places.specs.Keeping.{text_size}
use Rattle.asm_places.proofs.Room.{at_most, end_small, width_few}
use Rattle.asm_places.proofs.places.Places.add_statement.Goals as goal

pub base-base-requires : goal.base-base-requires
base-base-requires c = end_small (2 ^ 64 - 1 - most_zeros - text_size c.args.statement) c.args.self.now.segments (omega arith) c.requires.sizes

pub worth-requires : goal.worth-requires
worth-requires c = end_small (2 ^ 64 - 1 - most_zeros - text_size c.args.statement) c.args.self.now.segments (omega arith) c.requires.sizes

pub worth-requires-in-Space : goal.worth-requires-in-Space
worth-requires-in-Space c = end_small (2 ^ 64 - 1 - most_zeros - text_size c.args.statement) c.args.self.now.segments (omega arith) c.requires.sizes

pub worth-requires-in-Align : goal.worth-requires-in-Align
worth-requires-in-Align c = end_small (2 ^ 64 - 1 - most_zeros - text_size c.args.statement) c.args.self.now.segments (omega arith) c.requires.sizes

pub grow-requires : goal.grow-requires
grow-requires c =
    let few : c.width_size.result ≤ 8 = subst (λ n. n ≤ 8) (sym c.width_size.ensures) (width_few c.in-Data.width) in
    at_most (2 ^ 64 - 1 - most_zeros - text_size c.args.statement) (18446744073709551615 - c.width_size.result) c.args.self.now.segments (omega arith) c.requires.sizes

pub grow-requires-in-Ascii : goal.grow-requires-in-Ascii
grow-requires-in-Ascii c =
    let size : text_size c.args.statement ≡ length c.bytes-in-Ascii.result.now = ap text_size c.in-Ascii.is ∙ ap length (sym c.bytes-in-Ascii.ensures) in
    at_most (2 ^ 64 - 1 - most_zeros - text_size c.args.statement) (18446744073709551615 - length c.bytes-in-Ascii.result.now) c.args.self.now.segments (omega arith) c.requires.sizes

pub grow-requires-in-Instruction : goal.grow-requires-in-Instruction
grow-requires-in-Instruction c = at_most (2 ^ 64 - 1 - most_zeros - text_size c.args.statement) 18446744073709551611 c.args.self.now.segments (omega arith) c.requires.sizes

pub add_zeros-requires-clause-room : goal.add_zeros-requires-clause-room
add_zeros-requires-clause-room c =
    let most : c.args.self.now.zeros + c.settled_space-count.result ≤ most_zeros = c.settled_space-count.ensures.most in
    at_most (2 ^ 64 - 1 - most_zeros - text_size c.args.statement) (18446744073709551615 - c.settled_space-count.result) c.args.self.now.segments (omega arith) c.requires.sizes

pub add_zeros-requires-in-Align-clause-room : goal.add_zeros-requires-in-Align-clause-room
add_zeros-requires-in-Align-clause-room c =
    let most : c.args.self.now.zeros + c.settled_padding-count.result ≤ most_zeros = c.settled_padding-count.ensures.most in
    at_most (2 ^ 64 - 1 - most_zeros - text_size c.args.statement) (18446744073709551615 - c.settled_padding-count.result) c.args.self.now.segments (omega arith) c.requires.sizes
