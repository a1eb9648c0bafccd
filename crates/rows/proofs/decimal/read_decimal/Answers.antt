use Rattle.std.proofs.Common.{◌≡◌, ◌+◌, length, sym, subst, arith}
use Rattle.std.proofs.lemmas.List.{take_rest}
use Rattle.rows.proofs.Damages.{stuck_at, stuck_here}
use Rattle.rows.proofs.DecimalLaws.{SoFar, begins, stuck, step, done}
use Rattle.rows.proofs.decimal.read_decimal.Goals as goal
use Rattle.rows.proofs.decimal.read_decimal.Goals.{else-b-eq9-via-then-b-eq9+else-i-gt0, else-b-eq9-via-else-b-eq9}

pub loop-i-init : goal.loop-i-init
loop-i-init c = begins _ _ c.requires.low c.requires.top (omega arith)

pub returns-then-i-gt0 : goal.returns-then-i-gt0
returns-then-i-gt0 c =
    rw (take_rest c.args.text.now (c.loop-i.i + 1)) (done _ _ c.requires.low c.requires.top (omega arith) _ _ _ c.loop-i.invariant (omega arith) (omega arith) (omega arith) (omega arith))

pub returns-in_default : goal.returns-in_default
returns-in_default c =
    stuck_here _ _ _ (stuck _ _ c.requires.low c.requires.top (omega arith) _ _ _ c.loop-i.invariant (omega arith)
    (λ lt nine pos. elim c.else-b-eq9.branch [ else-b-eq9-via-then-b-eq9+else-i-gt0 w ↦ omega arith | else-b-eq9-via-else-b-eq9 w ↦ w.if-b-eq9.false nine ])
    (λ lt. c.in_default.ensures))

pub loop-i-preserved : goal.loop-i-preserved
loop-i-preserved c =
    let told = c.in-Some.ensures in
    subst (SoFar _ _ _) (sym told.1) (step _ _ c.requires.low c.requires.top (omega arith) _ _ _ c.loop-i.invariant (omega arith) (omega arith) told.0)

pub returns : goal.returns
returns c =
    let e : c.loop-i.i ≡ length c.args.text.now = omega arith in
    stuck_at _ _ _ _ (omega arith) (stuck _ _ c.requires.low c.requires.top (omega arith) _ _ _ c.loop-i.invariant (omega arith) (λ lt. absurd (omega arith)) (λ lt. absurd (omega arith)))
