use Rattle.std.proofs.Common.{subst}
use Rattle.std.specs.Fmt.{HasWritten}
use Rattle.answers.proofs.Refused.{store_told}
use Rattle.answers.proofs.answer.RefusedDisplay.fmt.Goals as goal

pub returns-clause-writes : goal.returns-clause-writes
returns-clause-writes g c = λ plain ok.
    subst (λ bs. HasWritten g.W.Write.write_str_gives c.args.f.now bs c.write.new.self) (store_told c.args.self.now.0 c.from.result c.from.ensures) (c.write.ensures.writes plain ok)
