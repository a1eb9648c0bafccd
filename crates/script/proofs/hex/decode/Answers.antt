use Rattle.std.proofs.Common.{ℕ, List, ◌++◌, length, length-append, ap, ◌∙◌, arith}
use Rattle.std.specs.Slice.Iter.{chunks_exact_rest}
use Rattle.script.proofs.Pairs.{pairs_more, pairs_all}
use Rattle.script.specs.Hexadecimal.{pairs}
use Rattle.script.proofs.hex.decode.Goals as goal

pub loop-pair-preserved : goal.loop-pair-preserved
loop-pair-preserved c =
    let went = c.in-Some.ensures.steps in
    record {
      size = went.0 ∙ c.loop-pair.invariant.size;
      whole = ap (λ (bs : List ℕ). pairs bs ++ chunks_exact_rest c.next.new.self) c.push_reserved.ensures.items ∙ pairs_more c.args.digits.now c.loop-pair.bytes.items (chunks_exact_rest c.loop-pair.pair-iterator) (chunks_exact_rest c.next.new.self) c.in-Some.pair.now c.worth.result c.worth-in-loop-pair.result c.worth-in-loop-pair.ensures.small c.worth.ensures.same c.worth-in-loop-pair.ensures.same (went.1.1 ∙ c.loop-pair.invariant.size) went.1.0 c.loop-pair.invariant.whole;
      room = omega (arith, c.loop-pair.invariant.room, c.push_reserved.ensures.len, c.push_reserved.ensures.capacity, ap length went.1.0, length-append c.in-Some.pair.now (chunks_exact_rest c.next.new.self), went.1.1, c.loop-pair.invariant.size);
    }

pub returns : goal.returns
returns c =
    let went = c.in-None.ensures.steps in
    pairs_all c.args.digits.now c.loop-pair.bytes.items _ c.loop-pair.invariant.whole (omega (arith, went.1.0, c.loop-pair.invariant.size)) c.if-not-is_paired.ensures.0
