use Rattle.std.proofs.Common.{vec_items, sym, ◌∙◌}
use Rattle.loader.proofs.PutLaws.{cut_back, all_listed}
use Rattle.loader.proofs.listing.list.Goals as goal

pub returns-then-is_err : goal.returns-then-is_err
returns-then-is_err g c =
    cut_back (g.T.Table.means c.args.table.now).order (vec_items c.args.out.now) _ _ c.len-len.result c.append_rows-done.result (sym c.is_err.ensures.value ∙ c.if-is_err.true) (c.len-len.ensures ∙ c.args.out.now.ok.0) c.append_rows-done.ensures c.truncate.ensures.items

pub returns-else-is_err : goal.returns-else-is_err
returns-else-is_err g c = all_listed (g.T.Table.means c.args.table.now).order (vec_items c.args.out.now) _ c.append_rows-done.result (sym c.is_err.ensures.value ∙ c.if-is_err.false) c.append_rows-done.ensures
