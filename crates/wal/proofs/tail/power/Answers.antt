use Rattle.std.proofs.Common.{◌≡◌, ◌*◌, ◌%◌, ◌^◌, ◌<◌, arith}
use Rattle.std.proofs.lemmas.Nat.{one_shl, pow_below}
use Rattle.wal.proofs.tail.power.Goals as goal

pub returns : goal.returns
returns c =
    let k : c.args.exp < 64 = omega arith in
    let v : (1 * 2 ^ c.args.exp) % 2 ^ 64 ≡ 2 ^ c.args.exp = one_shl c.args.exp 64 k in
    let b : 2 ^ c.args.exp < 2 ^ 48 = pow_below c.args.exp 48 c.requires in
    record { value = v; bound = omega arith }
