use Rattle.std.proofs.Common.{◌≡◌, true, is_ok, vec_items, ◌∙◌}
use Rattle.std.proofs.lemmas.Bool.{cond-true}
use Rattle.store.proofs.Inserting.{extents_inserted}
use Rattle.store.proofs.index.Index.insert.Goals as goal

pub returns-clause-finds : goal.returns-clause-finds
returns-clause-finds c =
    let ok : is_ok c.insert.result ≡ true = c.insert.ensures.succeeds c.requires.reserved in
    extents_inserted (vec_items c.args.self.now.extents) (vec_items c.insert.new.self) c.args.extent c.args.n (c.insert.ensures.items ∙ cond-true _ _ _ ok) c.requires.absent.nowhere
