use Rattle.store.proofs.Outcomes.{one_put, one_head, one_read, created, stays, leaves}
use Rattle.store.proofs.laws.store_stands.Goals as goal

pub returns : goal.returns
returns c = record {
  one_put = one_put;
  one_head = one_head;
  one_read = one_read;
  granted = created;
  stay = stays;
  refused = leaves;
}
