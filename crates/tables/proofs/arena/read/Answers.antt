use Rattle.std.proofs.Common.{◌+◌, ◌-◌, take, drop, sym, subst, arith}
use Rattle.rows.specs.declared.types.Kind.{Kind}
use Rattle.rows.specs.Rows.{Hex, room, kind_of, digits_of}
use Rattle.tables.proofs.Texts.{cut_hex}
use Rattle.tables.proofs.arena.read.Goals as goal

pub invariant_of-result : goal.invariant_of-result
invariant_of-result c =
    let s = c.args.slot in
    let l = c.requires.lies in
    let text = c.args.text.now in
    let most = room s.kind in
    let at = s.start + s.key_len in
    let cut = take (at + s.value_len - at) (drop at text) in
    let key = cut_hex text s.start (at - s.start) 128 c.requires.digits (omega (arith, l.placed)) (omega (arith, l.keyed.0)) (omega (arith, l.keyed.1)) in
    let value : Hex most cut = cut_hex text at (at + s.value_len - at) most c.requires.digits (omega (arith, l.placed)) (omega (arith, l.valued.0)) (omega (arith, l.valued.1)) in
    let of-kind : Hex (room (kind_of c.new.result)) cut = subst (λ (k : Kind). Hex (room k) cut) (sym c.new.ensures.kind) value in
    let held : Hex (room (kind_of c.new.result)) (digits_of c.new.result) = subst (Hex (room (kind_of c.new.result))) (sym (c.new.ensures.whole value.1)) of-kind in
    record { number = l.marked.0; created = l.marked.1; expires = l.marked.2; key_digits = key; value_digits = held }
