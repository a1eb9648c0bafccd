use Rattle.std.proofs.Common.{◌≡◌, ◌+◌, length, Ok, Err, refl, ap, ◌∙◌, subst, inl, inr, arith}
use Rattle.std.proofs.lemmas.Result.{err_from_is_err_and}
use Rattle.rows.specs.Lines.{line}
use Rattle.rows.specs.Reading.{Advances, Reported, row_under}
use Rattle.rows.proofs.TextLaws.{line_bytes}
use Rattle.mem_table.specs.Calls.{Put}
use Rattle.loader.proofs.PutLaws.{SoFar, put_more, put_none, put_all}
use Rattle.loader.proofs.loading.put_rows.Given.{Over}
use Rattle.loader.proofs.loading.put_rows.Goals as goal

pub returns-in_err-advance : goal.returns-in_err-advance
returns-in_err-advance g c =
    let p = err_from_is_err_and c.from_residual.result c.from_residual.ensures.1 in
    let s = c.loop-table.invariant.1 in
    let d = c.in_err-advance.field-0.0 in
    let told = subst (λ l. Reported l c.loop-table.reader.place d) c.loop-table.invariant.0 c.in_err-advance.ensures.answer.0 in
    rw (p.1, p.2) (inl record { damage = d; text = told s.rows s.text; says = refl })

-- the rows with the one that was just put
stepped : (g : Over) (c : goal.In_ok-put g)
    → SoFar c.args.text.now (g.T.Table.means c.args.table.now).held (g.T.Table.means c.put.new.self).held c.advance.new.self.place
    × (c.advance.new.self.place ≡ c.loop-table.reader.place + length (line (row_under c.advance.new.self)))
stepped g c =
    let m = g.T.Table.means in
    let r = row_under c.advance.new.self in
    let w : Put (m c.loop-table.table) (m c.put.new.self) r (Ok tt) = rw (c.row.ensures, c.in_ok-put.was) at c.put.ensures in
    put_more c.args.text.now c.loop-table.reader.text.now _ _ _ _ _ (row_under c.loop-table.reader) _ c.in_ok-advance.field-0 c.loop-table.invariant.0 c.if-branch.true c.loop-table.invariant.1 c.in_ok-advance.ensures.answer w

same_text : (g : Over) (c : goal.In_ok-put g) → c.advance.new.self.text.now ≡ c.args.text.now
same_text g c = ap (λ x. x.now) c.advance.ensures.text ∙ c.loop-table.invariant.0

pub loop-table-smaller : goal.loop-table-smaller
loop-table-smaller g c =
    let h = stepped g c in
    omega (arith, h.1, ap length (same_text g c), c.advance.new.self.stands, line_bytes (row_under c.advance.new.self))

pub loop-table-preserved : goal.loop-table-preserved
loop-table-preserved g c = (same_text g c, (stepped g c).0)

pub returns-in_err-put : goal.returns-in_err-put
returns-in_err-put g c =
    let m = g.T.Table.means in
    let p = err_from_is_err_and c.from_residual-in_err-put.result c.from_residual-in_err-put.ensures.1 in
    let f = c.in_err-put.field-0.0 in
    let r = row_under c.advance.new.self in
    let w : Put (m c.loop-table.table) (m c.put.new.self) r (Err f) = rw (c.row.ensures, c.in_err-put.was) at c.put.ensures in
    rw (p.1, p.2)
    (inr (put_none c.args.text.now c.loop-table.reader.text.now _ _ _ _ _ (row_under c.loop-table.reader) _ c.in_ok-advance.field-0 c.loop-table.invariant.0 c.if-branch.true c.loop-table.invariant.1 c.in_ok-advance.ensures.answer f w))

pub returns : goal.returns
returns g c =
    let a = subst (λ b. Advances c.loop-table.reader.text.now c.loop-table.reader.place c.advance.new.self.place (row_under c.loop-table.reader) (row_under c.advance.new.self) (Ok b)) c.if-branch.false c.in_ok-advance.ensures.answer in
    put_all _ _ _ _ (omega (arith, a.0, ap length c.loop-table.invariant.0)) c.loop-table.invariant.1
