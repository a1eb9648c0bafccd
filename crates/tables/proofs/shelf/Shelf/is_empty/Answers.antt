use Rattle.std.proofs.Common.{eqb, sym, ap, ◌∙◌}
use Rattle.tables.proofs.Shelves.{listed, long}
use Rattle.tables.proofs.shelf.Shelf.is_empty.Goals as goal

pub returns : goal.returns
returns c =
    let s = c.args.self.now in
    record { answer = c.is_empty.ensures ∙ ap (λ n. eqb n 0) (s.ranks.ok.0 ∙ sym (long s)); listed = listed s }
