use Rattle.std.proofs.Common.{◌≡◌, ℕ, ◌*◌, ◌^◌, ◌<◌, true, false, get_or, Ok}
use Rattle.wal.specs.Tails.{behind}
use Rattle.wal.specs.Asking.{Same}
use Rattle.wal.proofs.tail.Start.first_absent.Given as goal

abbrev pub invariant-loop-j : goal.invariant-loop-j
invariant-loop-j g l = (k : ℕ) → k < l.j → get_or l.answer-items k (Ok false) ≡ Ok true

abbrev pub invariant-loop-round : goal.invariant-loop-round
invariant-loop-round g l =
    let m = g.S.Store.means in
    Same (m l.initial.store) (m l.store)
    × ((k : ℕ) → k < 8 * l.round → behind (m l.initial.store).held l.self.id (2 ^ k) ≡ true)
