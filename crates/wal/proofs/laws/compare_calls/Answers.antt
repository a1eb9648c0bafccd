use Rattle.std.proofs.Common.{Ok, sym, ap, ◌∙◌}
use Rattle.std.proofs.lemmas.Bool.{eq-eqb}
use Rattle.wal.proofs.Tailing.{tails_reach}
use Rattle.wal.proofs.laws.compare_calls.Goals as goal

pub returns : goal.returns
returns g c =
    let k = c.in_ok-id in
    let t = tails_reach (g.S.Store.means c.args.store.now) (g.S.Store.means c.last_seen_wal_id.new.store) c.args.start (k.id, k.heads) k.ensures in
    record { probe = Ok (k.id, k.heads); tail = k.ensures; says = ap Ok (eq-eqb k.heads c.head_calls.result (t.cost ∙ sym c.head_calls.ensures)) }
