use Rattle.std.proofs.Common.{◌≡◌, ◌+◌, ◌≤◌, length, sym, ap, ◌∙◌, subst, arith}
use Rattle.rows.specs.Reading.{Handed, row_under}
use Rattle.rows.specs.Sizes.{size}
use Rattle.rows.proofs.SeenLaws.{Seen, seen_more, size_le}
use Rattle.rows.proofs.TextLaws.{line_bytes}
use Rattle.row_text.proofs.text.read_text.Goals as goal

pub loop-row-preserved : goal.loop-row-preserved
loop-row-preserved c =
    let t = c.args.text.now in
    let r = row_under c.next_row.new.self in
    let same : c.next_row.new.self.text.now ≡ c.args.text.now = ap (λ x. x.now) c.next_row.ensures.text ∙ c.loop-row.invariant.0 in
    let handed = rw c.in-Some.is at c.in_ok-row.ensures.answer in
    let h = subst (λ l. Handed l c.loop-row.reader.place c.next_row.new.self.place r) c.loop-row.invariant.0 handed in
    let row = rw c.in-Some.is at c.in_ok-row.ensures.row in
    let e : size r ≡ c.estimated_size.result = sym (c.estimated_size.ensures ∙ ap size row) in
    let within = subst (λ l. c.next_row.new.self.place ≤ length l) same c.next_row.new.self.stands in (
      same,
      subst (λ n. Seen size t 0 c.next_row.new.self.place (c.loop-row.rows + 1) (c.loop-row.size + n)) e (seen_more size t 0 c.loop-row.reader.place c.loop-row.rows c.loop-row.size c.next_row.new.self.place r c.loop-row.invariant.1 h within),
      omega (arith, h.place, line_bytes r, c.loop-row.invariant.2),
      omega (arith, h.place, e, size_le r, c.loop-row.invariant.3),
    )
