use Rattle.std.proofs.Common.{sym, ◌∙◌}
use Rattle.tables.proofs.Shelves.{listed, long}
use Rattle.tables.proofs.shelf.Shelf.metadata.Goals as goal

pub returns : goal.returns
returns c =
    let s = c.args.self.now in
    record { count = c.len.ensures ∙ s.ranks.ok.0 ∙ sym (long s); size = s.kept.sized; listed = listed s }
