use Rattle.wal.proofs.Telling.{told_apart}
use Rattle.wal.proofs.Tailing.{one_tail, tails_reach, runs_are_found, nothing_is_found}
use Rattle.wal.proofs.laws.tail_stands.Goals as goal

pub returns : goal.returns
returns c = record {
  apart = told_apart;
  one = one_tail;
  reach = tails_reach;
  runs = runs_are_found;
  nothing = nothing_is_found;
}
