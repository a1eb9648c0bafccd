use Rattle.std.proofs.Common.{◌≡◌, ◌+◌, ◌-◌, ◌++◌, length, sym, refl, subst, arith}
use Rattle.rows.specs.Entries.{row_of}
use Rattle.rows.specs.Sizes.{weight}
use Rattle.rows.proofs.Damages.{field_at, damage_in, left_within, from_place}
use Rattle.rows.proofs.LineLaws.{line_some}
use Rattle.rows.proofs.ReadLaws.{handed, reported, few_ends}
use Rattle.rows.proofs.SeenLaws.{Seen, seen_more, seen_all, seen_end, weight_le}
use Rattle.rows.proofs.reader.Reader.look_ahead.Goals as goal

pub loop-guard-smaller : goal.loop-guard-smaller
loop-guard-smaller c =
    let f = (field_at c.args.self.now.text.now c.loop-guard.guard.place.now _ (from_place _ _ (omega arith)) _ _ _ c.in-Ok.ensures).0 in
    omega (arith, line_some _ _ _ _ f, f.within)

pub loop-guard-preserved : goal.loop-guard-preserved
loop-guard-preserved c =
    let t = c.args.self.now.text.now in
    let f = (field_at t c.loop-guard.guard.place.now _ (from_place _ _ (omega arith)) _ _ _ c.in-Ok.ensures).0 in
    let r = row_of c.in-Ok.row in
    let q = length t - length c.in-Ok.rest.now in
    let h = handed t c.loop-guard.guard.place.now _ r f in
    let w : weight (row_of c.in-Ok.row) ≡ c.weight-bytes.result = sym c.weight-bytes.ensures in (
      subst (λ n. Seen weight t c.args.self.now.place q (c.loop-guard.rows + 1) (c.loop-guard.bytes + n)) w
          (seen_more weight t c.args.self.now.place c.loop-guard.guard.place.now c.loop-guard.rows c.loop-guard.bytes _ r c.loop-guard.invariant.0 h f.within),
      omega (arith, w, weight_le r, h.place, c.loop-guard.invariant.1),
    )

pub damage_at-requires : goal.damage_at-requires
damage_at-requires c =
    let from = from_place c.args.self.now.text.now c.loop-guard.guard.place.now (omega arith) in
    let d = damage_in _ _ _ from _ _ c.in-Err.ensures in
    record { within = left_within _ _ _ from _ _ c.in-Err.ensures; fits = omega (arith, few_ends _ _ _ (omega arith) d) }

pub returns-in-Err : goal.returns-in-Err
returns-in-Err c =
    let d = damage_in c.args.self.now.text.now c.loop-guard.guard.place.now _ (from_place _ _ (omega arith)) _ _ c.in-Err.ensures in
    let told = reported _ _ _ c.damage_at.result (omega arith) d c.damage_at.ensures.place c.damage_at.ensures.line in
    record {
      text = refl;
      place = c.drop-guard.ensures;
      row = refl;
      answer = λ before h. told (before ++ c.loop-guard.invariant.0.rows) (seen_all _ _ _ _ _ _ before c.loop-guard.invariant.0 h);
    }

pub returns : goal.returns
returns c =
    let g = c.loop-guard.invariant.0 in
    record {
      text = refl;
      place = c.drop-guard-2.ensures;
      row = refl;
      answer = record { rows = g.rows; text = seen_end _ _ _ _ _ _ (omega arith) g; count = g.count; bytes = g.sum };
    }
