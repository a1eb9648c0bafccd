use Rattle.std.proofs.Common.{◌<◌, ◌++◌, length, take, vec_items, ap, ◌∙◌, arith}
use Rattle.std.specs.List.{flat_map}
use Rattle.std.proofs.lemmas.List.{take_all}
use Rattle.std.proofs.lemmas.Result.{err_from_is_err_and}
use Rattle.rows.specs.Lines.{line}
use Rattle.rows.specs.Entries.{row_of}
use Rattle.loader.proofs.PutLaws.{list_more}
use Rattle.loader.proofs.listing.append_rows.Goals as goal

pub loop-i-preserved : goal.loop-i-preserved
loop-i-preserved g c =
    let order = (g.T.Table.means c.args.table.now).order in
    let l : c.loop-i.i < length order = omega (arith, c.metadata-count.ensures.count) in
    list_more order c.loop-i.i (row_of c.lend.result) (vec_items c.args.out.now) (vec_items c.loop-i.out) (vec_items c.write_row.new.out) l
    (c.lend.ensures ∙ c.nth.ensures.row l) c.loop-i.invariant c.in_ok-write_row.ensures

pub returns-in_err-write_row : goal.returns-in_err-write_row
returns-in_err-write_row g c =
    let order = (g.T.Table.means c.args.table.now).order in
    let p = err_from_is_err_and c.from_residual.result c.from_residual.ensures.1 in
    rw p.1 (flat_map line (take c.loop-i.i order), c.in_err-write_row.ensures ∙ c.loop-i.invariant)

pub returns : goal.returns
returns g c =
    let order = (g.T.Table.means c.args.table.now).order in
    c.loop-i.invariant ∙ ap (λ x. vec_items c.args.out.now ++ flat_map line x) (take_all c.loop-i.i order (omega (arith, c.metadata-count.ensures.count)))
