use Rattle.std.proofs.Common.{sym, ◌∙◌}
use Rattle.row_text.proofs.CopyLaws.{cut_back}
use Rattle.row_text.proofs.again.rewrite.Goals as goal

pub returns-then-is_err : goal.returns-then-is_err
returns-then-is_err c =
    cut_back _ _ _ _ c.len-len.result c.append_rows-done.result (sym c.is_err.ensures.value ∙ c.if-is_err.true) (c.len-len.ensures ∙ c.args.out.now.ok.0) c.append_rows-done.ensures c.truncate.ensures.items
