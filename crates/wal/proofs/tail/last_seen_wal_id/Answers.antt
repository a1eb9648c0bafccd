use Rattle.std.proofs.Common.{◌^◌, ◌<◌, arith}
use Rattle.wal.proofs.Answering.{rounds_below, halved_below}
use Rattle.wal.proofs.tail.last_seen_wal_id.Goals as goal

pub overflow_add-result : goal.overflow_add-result
overflow_add-result g c =
    let m = g.S.Store.means in
    let e : c.in_ok-absent.absent < 48 = rounds_below (m c.args.store.now) (m c.first_absent.new.store) c.args.start c.in_ok-absent.absent c.in_ok-absent.asked c.in_ok-absent.ensures in
    let o : c.in_ok-offset.offset < 2 ^ 48 = halved_below (m c.first_absent.new.store) (m c.halve.new.store) c.args.start c.in_ok-absent.absent c.in_ok-offset.offset c.in_ok-offset.halvings e c.in_ok-offset.ensures in
    omega arith
