use Rattle.std.proofs.Common.{◌==◌, ◌∙◌, rules, tests}
use Rattle.std.proofs.lemmas.Iterator.{YieldsList-from_slice}
use Rattle.std.proofs.lemmas.Iterator.Consumers.{YieldsList-from_filter, count_from_yields_List}
use Rattle.rows.proofs.ReadLaws.{length-filter-ends}
use Rattle.rows.proofs.reader.calls.line_ends.Goals as goal

pub returns-clause-value : goal.returns-clause-value
returns-clause-value c =
    count_from_yields_List c.filter.result _ c.count.ensures.ran (YieldsList-from_filter _ (λ b. b == 10) (YieldsList-from_slice c.args.text.now cc) c.filter.ensures.closure (λ x r q k. search (rules, tests)))
    ∙ length-filter-ends c.args.text.now
