use Rattle.std.proofs.Common.{◌≡◌, ℕ, List, length, get_or, vec_items, sym, ap, ◌∙◌, subst, arith}
use Rattle.std.proofs.lemmas.List.{get_or_default}
use Rattle.tables.specs.declared.slot.Slot.{Slot}
use Rattle.tables.specs.Slots.{Digits, Lies, no_slot, row_at}
use Rattle.tables.proofs.Standing.{standing_at}
use Rattle.tables.proofs.Shelves.{long, rank_is, sound_at}
use Rattle.tables.proofs.shelf.Shelf.row_at.Goals as goal
use Rattle.tables.proofs.shelf.Shelf.row_at.Goals.{After-from, After-as_slice}

pub index-requires : goal.index-requires
index-requires c = let s = c.args.self.now in omega (arith, long s, s.ranks.ok.0, c.requires)

number : (c : After-from) → c.from.result ≡ get_or (vec_items c.args.self.now.ranks) c.args.i 0
number c = c.from.ensures ∙ rank_is c.args.self.now c.args.i c.index.result.now c.index.ensures c.requires

pub index-slot-requires : goal.index-slot-requires
index-slot-requires c =
    let s = c.args.self.now in
    omega (arith, number (goal.at.index-slot-requires c).After-from, s.kept.inside c.args.i (omega (arith, long s, c.requires)), s.slots.ok.0)

-- the slot of the row
the_slot : (c : After-as_slice) → c.index-slot.result.now ≡ get_or (vec_items c.args.self.now.slots) (get_or (vec_items c.args.self.now.ranks) c.args.i 0) no_slot
the_slot c =
    let s = c.args.self.now in
    let n = number (goal.at.After-as_slice c).After-from in
    let l = s.kept.inside c.args.i (omega (arith, long s, c.requires)) in
    c.index-slot.ensures ∙ get_or_default (vec_items s.slots) c.from.result c.index-slot.result.now no_slot (omega (arith, n, l)) ∙ ap (λ k. get_or (vec_items s.slots) k no_slot) n

pub read-requires : goal.read-requires
read-requires c =
    let s = c.args.self.now in
    let v = c.as_slice.ensures.value in
    let lies : Lies (length (vec_items s.text)) c.index-slot.result.now = subst (λ (q : Slot). Lies (length (vec_items s.text)) q) (sym (the_slot (goal.at.read-requires c).After-as_slice)) (sound_at s c.args.i (omega (arith, long s, c.requires))) in
    record {
      digits = subst Digits (sym v) s.kept.digits;
      lies = subst (λ (t : List ℕ). Lies (length t) c.index-slot.result.now) (sym v) lies;
    }

pub returns : goal.returns
returns c =
    let s = c.args.self.now in
    c.read.ensures ∙ ap (λ t. row_at t c.index-slot.result.now) c.as_slice.ensures.value ∙ ap (row_at (vec_items s.text)) (the_slot (goal.at.returns c).After-as_slice)
    ∙ sym (standing_at (vec_items s.text) (vec_items s.slots) (vec_items s.ranks) c.args.i (omega (arith, long s, c.requires)))
