use Rattle.std.proofs.Common.{◌≡◌, ◌+◌, ◌^◌, ◌<◌, ◌≤◌, length, take, decimal, sym, ap, ◌∙◌, arith}
use Rattle.std.proofs.lemmas.List.{take_all}
use Rattle.std.specs.Str.Parse.{digits_value}
use Rattle.script.proofs.Numbers.{value_step, value_front, spelt_back}
use Rattle.script.proofs.number.number.Goals as goal

pub returns-in_default : goal.returns-in_default
returns-in_default c =
    let numeral = c.if-not-is_numeral.ensures in
    let word = c.args.word.now in
    let i = c.loop-b.b-index in
    let lt : i < length word = omega arith in
    let step = value_step word i c.loop-b.n lt (numeral.2 i lt) c.loop-b.invariant.0 in
    let large : 2 ^ 64 ≤ digits_value 10 (take (i + 1) word) = omega (arith, step, c.in_default.ensures) in
    (numeral, omega (arith, large, value_front word (i + 1)))

pub loop-b-preserved : goal.loop-b-preserved
loop-b-preserved c =
    let numeral = c.if-not-is_numeral.ensures in
    let word = c.args.word.now in
    let i = c.loop-b.b-index in
    let lt : i < length word = omega arith in
    let step = value_step word i c.loop-b.n lt (numeral.2 i lt) c.loop-b.invariant.0 in
    let more = c.in-Some.ensures in
    (more.1 ∙ sym step, omega (arith, more.0, more.1))

pub returns : goal.returns
returns c =
    let numeral = c.if-not-is_numeral.ensures in
    let word = c.args.word.now in
    let whole : c.loop-b.n ≡ digits_value 10 word = c.loop-b.invariant.0 ∙ ap (digits_value 10) (take_all c.loop-b.b-index word (omega arith)) in
    let small : digits_value 10 word < 2 ^ 64 = omega (arith, whole, c.loop-b.invariant.1) in
    (sym (ap decimal whole ∙ spelt_back word numeral small), c.loop-b.invariant.1)
