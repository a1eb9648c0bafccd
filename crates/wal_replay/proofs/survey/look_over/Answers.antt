use Rattle.std.proofs.Common.{◌≡◌, ◌+◌, List, length, sym, ap, ◌∙◌, subst, arith, w64, to_z, of_z}
use Rattle.std.proofs.lemmas.Result.{err_from_is_err_and}
use Rattle.std.proofs.lemmas.Int.{to_z-of_z}
use Rattle.rows.specs.Lines.{line, TextOf}
use Rattle.rows.specs.Rows.{Row}
use Rattle.rows.specs.Reading.{row_under}
use Rattle.rows.proofs.TextLaws.{line_bytes}
use Rattle.wal_replay.specs.declared.survey.Survey.{Survey}
use Rattle.wal_replay.specs.Texts.{see, surveyed}
use Rattle.wal_replay.proofs.SurveyLaws.{unseen, Looked, looked_more, looked_all}
use Rattle.wal_replay.proofs.TextLaws.{damage_here, moves_in}
use Rattle.wal_replay.proofs.survey.look_over.Goals as goal

pub returns-in_err-look_ahead : goal.returns-in_err-look_ahead
returns-in_err-look_ahead c =
    let p = err_from_is_err_and c.from_residual.result c.from_residual.ensures.1 in
    rw (p.1, p.2) (damage_here _ _ _ _ c.new-reader.ensures.text c.new-reader.ensures.place c.in_err-look_ahead.ensures.answer)

-- the rows with the one that was just read
stepped : (c : goal.After-see-seen) → Looked c.args.text.now c.args.watermark (unseen (to_z w64 (of_z w64 c.args.last_tick)) c.args.last_seq) c.see-seen.result c.more.new.reader.place × (c.more.new.reader.place ≡ c.loop-reader.reader.place + length (line (row_under c.more.new.reader)))
stepped c =
    let m = moves_in c.args.text.now _ _ _ (row_under c.more.new.reader) _ c.loop-reader.invariant.0 c.more.ensures.moves in
    let h = looked_more c.args.text.now c.args.watermark _ c.loop-reader.seen _ _ (row_under c.more.new.reader) _ c.loop-reader-test.true c.loop-reader.invariant.1 m in
    let e : see c.args.watermark c.loop-reader.seen (row_under c.more.new.reader) ≡ c.see-seen.result = sym (c.see-seen.ensures ∙ ap (see c.args.watermark c.loop-reader.seen) c.row.ensures) in
    (subst (λ (s : Survey). Looked c.args.text.now c.args.watermark (unseen (to_z w64 (of_z w64 c.args.last_tick)) c.args.last_seq) s c.more.new.reader.place) e h.0, h.1)

same_text : (c : goal.After-see-seen) → c.more.new.reader.text.now ≡ c.args.text.now
same_text c = ap (λ x. x.now) c.more.ensures.text ∙ c.loop-reader.invariant.0

pub loop-reader-smaller : goal.loop-reader-smaller
loop-reader-smaller c =
    omega (arith, (stepped c).1, ap length (same_text c), c.more.new.reader.stands, line_bytes (row_under c.more.new.reader))

pub loop-reader-preserved : goal.loop-reader-preserved
loop-reader-preserved c = (same_text c, (stepped c).0)

pub returns : goal.returns
returns c =
    let m = moves_in c.args.text.now _ _ _ (row_under c.more.new.reader) _ c.loop-reader.invariant.0 c.more.ensures.moves in
    let k = looked_all c.args.text.now c.args.watermark (to_z w64 (of_z w64 c.args.last_tick)) c.args.last_seq c.loop-reader.seen _ _ (row_under c.more.new.reader) _ c.loop-reader-test.false c.loop-reader.invariant.1 m in
    subst (λ z. (rows : List Row) × TextOf rows c.args.text.now × (c.loop-reader.seen ≡ surveyed c.args.watermark z c.args.last_seq rows)) (to_z-of_z w64 c.args.last_tick c.ranges.last_tick) k
