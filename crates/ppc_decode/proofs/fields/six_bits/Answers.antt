use Rattle.std.proofs.Common.{◌+◌, ◌-◌, ◌*◌, ◌/◌, ◌%◌, ◌^◌, ◌<◌, arith}
use Rattle.std.proofs.lemmas.Nat.{pow_below, shl_below}
use Rattle.ppc_decode.proofs.fields.six_bits.Goals as goal

pub place-requires-2-clause-fits : goal.place-requires-2-clause-fits
place-requires-2-clause-fits c =
    let a : c.args.value % 32 * 2 ^ (31 - c.args.last) < 2 ^ (5 + (31 - c.args.last)) = shl_below (c.args.value % 32) 5 (31 - c.args.last) (omega arith) in
    let b : 2 ^ (5 + (31 - c.args.last)) < 2 ^ 27 = pow_below (5 + (31 - c.args.last)) 27 (omega arith) in
    omega arith

pub overflow_add-result : goal.overflow_add-result
overflow_add-result c =
    let a : c.args.value % 32 * 2 ^ (31 - c.args.last) < 2 ^ (5 + (31 - c.args.last)) = shl_below (c.args.value % 32) 5 (31 - c.args.last) (omega arith) in
    let b : 2 ^ (5 + (31 - c.args.last)) < 2 ^ 27 = pow_below (5 + (31 - c.args.last)) 27 (omega arith) in
    let d : c.args.value / 32 * 2 ^ (31 - c.args.high) < 2 ^ (1 + (31 - c.args.high)) = shl_below (c.args.value / 32) 1 (31 - c.args.high) (omega arith) in
    let e : 2 ^ (1 + (31 - c.args.high)) < 2 ^ 28 = pow_below (1 + (31 - c.args.high)) 28 (omega arith) in
    omega arith
