use Rattle.wal_init.proofs.Outcomes.{one_opening}
use Rattle.wal_init.proofs.Covering.{covered}
use Rattle.wal_init.proofs.Windows.{one_arrival, one_taking}
use Rattle.wal_init.proofs.Standing.{stands, granted_free, stays, leaves}
use Rattle.wal_init.proofs.laws.opening_stands.Goals as goal

pub returns : goal.returns
returns c = record {
  one_opening = one_opening;
  one_arrival = one_arrival;
  one_taking = one_taking;
  granted = stands;
  covered = covered;
  free = granted_free;
  stay = stays;
  refused = leaves;
}
