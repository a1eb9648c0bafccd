use Rattle.std.proofs.Common.{◌≡◌, length, refl, arith}
use Rattle.rows.proofs.Damages.{field_at, damage_in, left_within, from_place}
use Rattle.rows.specs.Entries.{row_of}
use Rattle.rows.proofs.ReadLaws.{handed, key_in, value_in, read_back, back_damaged, back_end, reported, few_ends}
use Rattle.rows.proofs.reader.Reader.next_row.Goals as goal

pub returns-then-self-text : goal.returns-then-self-text
returns-then-self-text c =
    let end : c.args.self.now.place ≡ length c.args.self.now.text.now = omega arith in
    record { text = refl; answer = (end, refl, refl); row = tt; back = λ w rest v e. absurd (back_end _ _ w rest end e) }

pub damage_at-requires : goal.damage_at-requires
damage_at-requires c =
    let self = c.args.self.now in
    let d = damage_in self.text.now self.place _ (from_place _ _ self.stands) _ _ c.in-Err.ensures in
    record { within = left_within self.text.now self.place _ (from_place _ _ self.stands) _ _ c.in-Err.ensures; fits = omega (arith, few_ends _ _ _ (omega arith) d) }

pub invariant_of-self : goal.invariant_of-self
invariant_of-self c =
    let self = c.args.self.now in
    let f = (field_at self.text.now self.place _ (from_place _ _ self.stands) _ _ _ c.in-Ok.ensures).0 in
    let h = handed _ _ _ (row_of c.in-Ok.row) f in
    record { stands = omega arith; key_part = ∣ key_in _ _ _ _ h ∣₁; value_part = ∣ value_in _ _ _ _ h ∣₁ }

pub returns-in-Ok : goal.returns-in-Ok
returns-in-Ok c =
    let self = c.args.self.now in
    let f = (field_at self.text.now self.place _ (from_place _ _ self.stands) _ _ _ c.in-Ok.ensures).0 in
    record { text = refl; answer = handed _ _ _ _ f; row = refl; back = λ w rest v e. (refl, read_back _ _ _ _ w rest f v e) }

pub returns-in-Err : goal.returns-in-Err
returns-in-Err c =
    let self = c.args.self.now in
    let d = damage_in self.text.now self.place _ (from_place _ _ self.stands) _ _ c.in-Err.ensures in
    record {
      text = refl;
      answer = (reported _ _ _ _ (omega arith) d c.damage_at.ensures.place c.damage_at.ensures.line, refl, refl);
      row = tt;
      back = λ w rest v e. absurd (back_damaged _ _ _ w rest d v e);
    }
