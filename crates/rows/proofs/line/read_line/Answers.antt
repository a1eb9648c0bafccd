use Rattle.std.proofs.Common.{subst}
use Rattle.std.proofs.lemmas.Result.{err_from_is_err_and}
use Rattle.rows.specs.Grammar.{Lang, FrontOf, StuckAt}
use Rattle.rows.specs.Fields.{HexField}
use Rattle.rows.proofs.RestLaws.{stuck_number, stuck_kind, stuck_created, stuck_expires, stuck_key, stuck_value, front_line}
use Rattle.rows.proofs.line.read_line.Goals as goal

pub returns-in_err-seq : goal.returns-in_err-seq
returns-in_err-seq c =
    let p = err_from_is_err_and c.from_residual.result c.from_residual.ensures.1 in
    rw (p.1, p.2) (stuck_number c.args.text.now _ c.in_err-seq.ensures)

pub returns-in_err-kind : goal.returns-in_err-kind
returns-in_err-kind c =
    let p = err_from_is_err_and c.from_residual-in_err-kind.result c.from_residual-in_err-kind.ensures.1 in
    rw (p.1, p.2) (stuck_kind c.args.text.now _ _ _ c.in_ok-seq.ensures c.in_err-kind.ensures)

pub returns-in_err-create_ts : goal.returns-in_err-create_ts
returns-in_err-create_ts c =
    let p = err_from_is_err_and c.from_residual-in_err-create_ts.result c.from_residual-in_err-create_ts.ensures.1 in
    rw (p.1, p.2) (stuck_created c.args.text.now _ _ _ c.in_ok-seq.ensures _ _ c.in_ok-kind.ensures c.in_err-create_ts.ensures)

pub returns-in_err-expire_ts : goal.returns-in_err-expire_ts
returns-in_err-expire_ts c =
    let p = err_from_is_err_and c.from_residual-in_err-expire_ts.result c.from_residual-in_err-expire_ts.ensures.1 in
    rw (p.1, p.2) (stuck_expires c.args.text.now _ _ _ c.in_ok-seq.ensures _ _ c.in_ok-kind.ensures _ _ c.in_ok-create_ts.ensures c.in_err-expire_ts.ensures)

pub returns-in_err-key : goal.returns-in_err-key
returns-in_err-key c =
    let p = err_from_is_err_and c.from_residual-in_err-key.result c.from_residual-in_err-key.ensures.1 in
    rw (p.1, p.2) (stuck_key c.args.text.now _ _ _ c.in_ok-seq.ensures _ _ c.in_ok-kind.ensures _ _ c.in_ok-create_ts.ensures _ _ c.in_ok-expire_ts.ensures c.in_err-key.ensures)

pub returns-in_err-digits : goal.returns-in_err-digits
returns-in_err-digits c =
    let p = err_from_is_err_and c.from_residual-in_err-digits.result c.from_residual-in_err-digits.ensures.1 in
    let d = subst (λ n. StuckAt (Lang (HexField n 10)) c.in_ok-key.rest.now c.in_err-digits.field-0.0.now) c.most_digits.ensures.value c.in_err-digits.ensures in
    rw (p.1, p.2) (stuck_value c.args.text.now _ _ _ c.in_ok-seq.ensures _ _ c.in_ok-kind.ensures _ _ c.in_ok-create_ts.ensures _ _ c.in_ok-expire_ts.ensures _ _ c.in_ok-key.ensures d)

pub returns : goal.returns
returns c =
    let v = subst (λ n. FrontOf (HexField n 10) c.in_ok-key.rest.now c.in_ok-digits.digits.now c.in_ok-digits.rest.now) c.most_digits.ensures.value c.in_ok-digits.ensures in
    let whole = front_line c.args.text.now _ _ _ c.in_ok-seq.ensures _ _ c.in_ok-kind.ensures _ _ c.in_ok-create_ts.ensures _ _ c.in_ok-expire_ts.ensures _ _ c.in_ok-key.ensures _ v in
    rw (c.new.ensures.kind, c.new.ensures.whole v.field.hex.1) whole
