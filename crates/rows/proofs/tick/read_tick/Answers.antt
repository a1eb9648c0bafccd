use Rattle.std.proofs.Common.{◌≡◌, get_or, drop, subst, arith}
use Rattle.std.proofs.lemmas.List.{take_rest, get_or_past}
use Rattle.std.proofs.lemmas.Result.{err_from_is_err_and}
use Rattle.rows.specs.Grammar.{Lang, StuckAt}
use Rattle.rows.proofs.Lists.{here}
use Rattle.rows.proofs.TickLaws.{Minus, plain_stuck, minus_stuck}
use Rattle.rows.proofs.tick.read_tick.Goals as goal
use Rattle.rows.proofs.tick.read_tick.Goals.{then-text-lt2+in-45-1, else-text-lt2+in-45+in_default-1, in_default-via-then-text-lt1, in_default-via-else-text-lt1+then-text-lt2+in_default-1, in_default-via-else-text-lt1+else-text-lt2+in_default-1}

pub returns-in_err-n-in-45-2 : goal.returns-in_err-n-in-45-2
returns-in_err-n-in-45-2 c =
    let t = c.args.text.now in
    let p = err_from_is_err_and c.from_residual.result c.from_residual.ensures.1 in
    let d = subst (λ l. StuckAt (Lang Minus) l c.in_err-n-in-45-2.field-0.0.now) (take_rest t 1) c.in_err-n-in-45-2.ensures in
    let second : get_or (drop 1 t) 0 0 ≡ get_or t 1 0 = here t 1 in
    rw (p.1, p.2) (minus_stuck t _
    (grind arith)
    (grind arith)
    (λ f. grind (arith, second, get_or_past t 1 0))
    d)

pub returns-in_err-n-in_default : goal.returns-in_err-n-in_default
returns-in_err-n-in_default c =
    let t = c.args.text.now in
    let p = err_from_is_err_and c.from_residual-in_err-n-in_default.result c.from_residual-in_err-n-in_default.ensures.1 in
    rw (p.1, p.2) (plain_stuck t _ (λ f. grind (arith, f, get_or_past t 0 0)) c.in_err-n-in_default.ensures)
