use Rattle.std.proofs.Common.{sym, ap, ◌∙◌, subst}
use Rattle.std.specs.Fmt.{HasWritten}
use Rattle.answers.proofs.Refused.{check_told}
use Rattle.answers.specs.Answers.{verdict}
use Rattle.answers.proofs.answer.VerdictDisplay.fmt.Goals as goal

pub returns-in-Err-clause-writes : goal.returns-in-Err-clause-writes
returns-in-Err-clause-writes g c = λ plain ok.
    let told = check_told c.in-Err.fault c.from.result c.from.ensures in
    subst (λ bs. HasWritten g.W.Write.write_str_gives c.args.f.now bs c.write-in-Err.new.self) (told ∙ ap verdict (sym c.in-Err.is)) (c.write-in-Err.ensures.writes plain ok)
