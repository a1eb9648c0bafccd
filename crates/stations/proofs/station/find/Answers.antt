use Rattle.std.proofs.Common.{rules}
use borrow.Author.Tests.{tests}
use Rattle.std.proofs.lemmas.Iterator.{IsFirst-from_position, YieldsList-from_slice}
use Rattle.stations.proofs.Naming.{Has, Lacks, found}
use Rattle.stations.proofs.station.find.Goals as goal

pub returns : goal.returns
returns c =
    let w = c.args.name.now in
    found c.args.stations.now w c.position.result (IsFirst-from_position _ _ _ (Has w) (Lacks w) c.position.ensures.ran (YieldsList-from_slice c.args.stations.now cc) (λ x q k. search (rules, tests)) (λ x q k. search (rules, tests)))
