use Rattle.std.proofs.Common.{sym, refl, ◌∙◌, arith, rules}
use Rattle.script.proofs.Lining.{lines_first}
use Rattle.script.proofs.Reading.{found, passed}
use Rattle.script.proofs.script.Script.call_line.Goals as goal

pub returns-then-not-is_idle : goal.returns-then-not-is_idle
returns-then-not-is_idle c =
    let took = c.in-Some.ensures in
    let f = found _ _ _ (lines_first _ _ _ took.0) (search rules) in
    (sym c.loop-bytes.invariant.0 ∙ f.0, omega (arith, took.1, c.loop-bytes.invariant.1, f.1), refl)

pub loop-bytes-preserved : goal.loop-bytes-preserved
loop-bytes-preserved c =
    let took = c.in-Some.ensures in
    let p = passed _ _ _ (lines_first _ _ _ took.0) (search rules) in
    (sym p.0 ∙ c.loop-bytes.invariant.0, omega (arith, took.1, c.loop-bytes.invariant.1, p.1))
