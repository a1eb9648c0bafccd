use Rattle.std.proofs.Common.{ℕ, ◌+◌, ◌-◌, ◌/◌, ◌<◌, length, vec_items, sym, ap, ◌∙◌, arith}
use Rattle.store.proofs.Searching.{id_of, present, absent}
use Rattle.store.proofs.index.Index.locate.Goals as goal

pub returns-then-found-id : goal.returns-then-found-id
returns-then-found-id c =
    let es = vec_items c.args.self.now.extents in
    let middle : ℕ = c.loop-low.low + (c.loop-low.high - c.loop-low.low) / 2 in
    let within : middle < length es = omega (arith, c.loop-low.invariant.1, c.loop-low-test.true) in
    present es c.args.self.now.ordered c.args.id middle c.index.result.now within (sym (ap id_of c.index.ensures) ∙ c.if-found-id.true)

pub returns : goal.returns
returns c =
    absent (vec_items c.args.self.now.extents) c.args.id c.loop-low.low
    record { bound = omega (arith, c.loop-low.invariant.1); smaller = c.loop-low.invariant.2; greater = λ k d a b. c.loop-low.invariant.3 k d (omega arith) b }
