use Rattle.std.proofs.Common.{◌++◌, vec_items, ap, ◌∙◌}
use Rattle.rows.specs.Lines.{line}
use Rattle.row_text.proofs.CopyLaws.{copied_more}
use Rattle.row_text.proofs.again.append_rows.Goals as goal

pub loop-row-preserved : goal.loop-row-preserved
loop-row-preserved c =
    let handed = rw c.in-Some.is at c.in_ok-row.ensures.answer in
    let row = rw c.in-Some.is at c.in_ok-row.ensures.row in (
      ap (λ x. x.now) c.next_row.ensures.text ∙ c.loop-row.invariant.0,
      copied_more c.args.text.now c.loop-row.reader.text.now _ _ _ _ _ _ c.loop-row.invariant.0 c.loop-row.invariant.1 handed (c.in_ok-write_row.ensures ∙ ap (λ r. vec_items c.loop-row.out ++ line r) row),
    )
