use Rattle.std.proofs.Common.{◌≡◌, ◌-◌, length, get_or, take, drop, ap, ◌∙◌, arith}
use Rattle.std.proofs.lemmas.List.{take_rest}
use Rattle.rows.proofs.Lists.{here}
use Rattle.rows.proofs.Damages.{stuck_at, stuck_here}
use Rattle.rows.proofs.KindLaws.{first_bad, second_bad}
use Rattle.rows.proofs.kind.read_kind.Goals as goal
use Rattle.rows.proofs.kind.read_kind.Goals.{in_default-rest-via-then-rest-lt1, in_default-rest-via-else-rest-lt1+in_default-1}

pub returns-in_default : goal.returns-in_default
returns-in_default c = stuck_at _ _ _ 0 (omega arith) (first_bad c.args.text.now (λ lt. absurd (omega arith)))

pub returns-in_default-try_from : goal.returns-in_default-try_from
returns-in_default-try_from c = stuck_at _ _ _ 0 (omega arith) (first_bad c.args.text.now (λ lt k e. c.in_default-try_from.ensures.1 k e))

pub returns-in_default-rest : goal.returns-in_default-rest
returns-in_default-rest c =
    let t = c.args.text.now in
    let next : get_or (take (length t - 1) (drop 1 t)) 0 0 ≡ get_or t 1 0 = ap (λ l. get_or l 0 0) (take_rest t 1) ∙ here t 1 in
    stuck_here _ t 1 (second_bad _ _ (omega arith) c.in-Ok.ensures (λ lt nine. elim c.in_default-rest.branch [ in_default-rest-via-then-rest-lt1 w ↦ grind (arith, lt) | in_default-rest-via-else-rest-lt1+in_default-1 w ↦ grind (arith, next, nine) ]))
