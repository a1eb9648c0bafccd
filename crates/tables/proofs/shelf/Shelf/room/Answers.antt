use Rattle.std.proofs.Common.{refl}
use Rattle.tables.proofs.Shelves.{listed}
use Rattle.tables.proofs.shelf.Shelf.room.Goals as goal

pub returns : goal.returns
returns c = record { puts = refl; bytes = refl; listed = listed c.args.self.now }
