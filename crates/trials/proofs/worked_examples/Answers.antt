use Rattle.trials.proofs.Rows.{sizes, damage}
use Rattle.trials.proofs.Tails.{tails}
use Rattle.trials.proofs.worked_examples.Goals as goal

pub returns : goal.returns
returns c = record { rows = sizes; damage = damage; tails = tails }
