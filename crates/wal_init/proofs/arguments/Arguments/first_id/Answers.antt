use Rattle.std.proofs.Common.{arith}
use Rattle.std.proofs.lemmas.Result.{err_from_is_err_and}
use Rattle.wal.proofs.Tailing.{tails_reach}
use Rattle.wal_init.proofs.Beginning.{tail_refused}
use Rattle.wal_init.proofs.arguments.Arguments.first_id.Goals as goal

pub overflow_add-tail : goal.overflow_add-tail
overflow_add-tail g c = let r = tails_reach _ _ _ _ c.in_ok-tail.ensures in omega (arith, r.below)

pub returns-in_err-tail-clause-begins : goal.returns-in_err-tail-clause-begins
returns-in_err-tail-clause-begins g c =
    let p = err_from_is_err_and c.from_residual.result c.from_residual.ensures.1 in
    rw (p.1, p.2) (tail_refused _ _ c.args.self.now.manifest c.args.self.now.id.number _ c.if-self-after.false c.in_err-tail.ensures)
