use Rattle.std.proofs.lemmas.Result.{err_from_is_err_and}
use Rattle.wal_replay.proofs.Taking.{unread, spoiled, file_taken}
use Rattle.wal_replay.proofs.replay.WalReplayIterator.take_file.Goals as goal

pub returns-in_err-len : goal.returns-in_err-len
returns-in_err-len g c =
    let p = err_from_is_err_and c.from_residual.result c.from_residual.ensures.1 in
    rw (p.1, p.2, ← c.self.view_is) (unread _ _ _ _ c.in-Some.front c.take_front.new.self c.in-Some.ensures.taken _ _ c.requires _ _ c.in_err-len.ensures)

pub returns-in_err-seen : goal.returns-in_err-seen
returns-in_err-seen g c =
    let p = err_from_is_err_and c.from_residual-in_err-seen.result c.from_residual-in_err-seen.ensures.1 in
    rw (p.1, p.2, ← c.self.view_is) (spoiled _ _ _ _ c.in-Some.front c.take_front.new.self c.in-Some.ensures.taken _ _ c.requires _ _ _ c.in_ok-len.ensures _ c.in_err-seen.ensures)

pub returns : goal.returns
returns g c = rw (← c.self.view_is) (file_taken _ _ _ _ c.in-Some.front c.take_front.new.self c.in-Some.ensures.taken _ _ c.requires _ _ _ c.in_ok-len.ensures _ c.in_ok-seen.seen c.in_ok-seen.ensures c.note.ensures)
