use Rattle.std.proofs.Common.{◌≡◌, ℕ, ◌+◌, ◌*◌, ◌^◌, false, sym, refl, inl, inr, arith}
use Rattle.wal.specs.Tails.{behind}
use Rattle.wal.proofs.Keeping.{same_trans, carried}
use Rattle.wal.proofs.Running.{first_is, first_reaches}
use Rattle.wal.proofs.Rounding.{is_there, is_cut, more_there}
use Rattle.wal.proofs.tail.Start.first_absent.Goals as goal

pub returns : goal.returns
returns g c =
    let p = behind (g.S.Store.means c.args.store.now).held c.args.self.id in
    record {
      same = c.loop-round.invariant.0;
      answer = inr (inl (refl, first_is p 48 (omega arith) (λ k h. c.loop-round.invariant.1 k (omega arith)) (λ h. absurd (omega arith))));
    }

pub loop-round-preserved : goal.loop-round-preserved
loop-round-preserved g c = (
  same_trans _ _ _ c.loop-round.invariant.0 c.ask_round-answers.ensures.same,
  λ k h.
      more_there _ _ _ c.args.self.id (8 * c.loop-round.round) c.ask_round-answers.result c.loop-round.invariant.0 c.ask_round-answers.ensures 8 (omega arith)
      c.loop-round.invariant.1
      (λ i l. c.loop-j.invariant i (omega arith))
      k
      (omega arith),
)

pub returns-in_err-answer : goal.returns-in_err-answer
returns-in_err-answer g c =
    let a = g.S.Store.means c.args.store.now in
    let p = behind a.held c.args.self.id in
    let exp : ℕ = 8 * c.loop-round.round in
    let j = c.loop-j.j in
    let cut = is_cut a _ _ c.args.self.id exp c.ask_round-answers.result c.loop-round.invariant.0 c.ask_round-answers.ensures j c.in_err-answer.field-0.0 c.loop-j-test.true c.in_err-answer.was in
    let there = more_there a _ _ c.args.self.id exp c.ask_round-answers.result c.loop-round.invariant.0 c.ask_round-answers.ensures j (omega arith) c.loop-round.invariant.1 c.loop-j.invariant in
    record {
      same = same_trans _ _ _ c.loop-round.invariant.0 c.ask_round-answers.ensures.same;
      answer = inr (inr (record {
        unsteady = cut.0;
        exp = exp + j;
        reached = first_reaches p (exp + j) (omega arith) there;
        below = omega arith;
        is = carried c.from_residual.result c.in_err-answer.field-0.0 _ c.from_residual.ensures.1 cut.1;
      }));
    }

pub returns-2 : goal.returns-2
returns-2 g c =
    let a = g.S.Store.means c.args.store.now in
    let p = behind a.held c.args.self.id in
    let exp : ℕ = 8 * c.loop-round.round in
    let j = c.loop-j.j in
    let off : p (2 ^ (exp + j)) ≡ false = is_there a _ _ c.args.self.id exp c.ask_round-answers.result c.loop-round.invariant.0 c.ask_round-answers.ensures j c.in_ok-answer.field-0 false c.loop-j-test.true c.in_ok-answer.was c.if-not-branch.true in
    let there = more_there a _ _ c.args.self.id exp c.ask_round-answers.result c.loop-round.invariant.0 c.ask_round-answers.ensures j (omega arith) c.loop-round.invariant.1 c.loop-j.invariant in
    record {
      same = same_trans _ _ _ c.loop-round.invariant.0 c.ask_round-answers.ensures.same;
      answer = inl (
        (exp + j, exp + 8),
        refl,
        record {
          is = sym (first_is p (exp + j) (omega arith) there (λ h. off));
          below = omega arith;
          asked = omega arith;
        },
      );
    }
