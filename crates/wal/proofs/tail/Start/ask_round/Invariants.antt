use Rattle.std.proofs.Common.{◌≡◌, ℕ, ◌+◌, ◌^◌, ◌<◌, false, length, get_or, Ok}
use Rattle.wal.specs.Asking.{Same, Tells}
use Rattle.wal.proofs.tail.Start.ask_round.Given as goal

abbrev pub invariant-loop-j : goal.invariant-loop-j
invariant-loop-j g l =
    let m = g.S.Store.means in
    (length l.answer-items ≡ 8)
    × Same (m l.initial.store) (m l.store)
    × ((k : ℕ) → k < l.j → Tells (m l.initial.store) (l.self.id + 2 ^ (l.exp + k)) (get_or l.answer-items k (Ok false)))
