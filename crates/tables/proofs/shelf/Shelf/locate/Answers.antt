use Rattle.std.proofs.Common.{ℕ, ◌+◌, ◌-◌, ◌/◌, ◌<◌, length, get_or, vec_items, slice_get, sym, ap, ◌∙◌, arith}
use Rattle.std.proofs.lemmas.List.{get_or_default}
use Rattle.std.proofs.lemmas.Option.{slice_get-get_or}
use Rattle.mem_table.specs.Order.{no_row}
use Rattle.tables.specs.Ranks.{rank_of}
use Rattle.tables.specs.Slots.{no_slot, stands}
use Rattle.tables.specs.Shelves.{order_of}
use Rattle.tables.proofs.Ahead.{Stands, from_rank, stands_at_less, stands_at_equal, stands_at_greater}
use Rattle.tables.proofs.Ordered.{front_more, back_more}
use Rattle.tables.proofs.Shelves.{long}
use Rattle.tables.proofs.Standing.{standing_at}
use Rattle.tables.proofs.shelf.Shelf.locate.Goals as goal
use Rattle.tables.proofs.shelf.Shelf.locate.Goals.{After-stand}

abbrev middle : (c : After-stand) → ℕ
middle c = c.loop-low.low + (c.loop-low.high - c.loop-low.low) / 2

within : (c : After-stand) → middle c < length (order_of c.args.self.now)
within c = omega (arith, c.loop-low.invariant.1, c.loop-low-test.true)

inner : (c : After-stand) → middle c < length (vec_items c.args.self.now.ranks)
inner c = omega (arith, within c, long c.args.self.now)

-- the answer says how the row in the middle stands
stood : (c : After-stand) → Stands (get_or (order_of c.args.self.now) (middle c) no_row) c.args.key.now c.args.seq c.stand.result
stood c =
    let s = c.args.self.now in
    let e = c.index.ensures ∙ get_or_default (vec_items s.ranks) (middle c) c.index.result.now 0 (inner c) in
    from_rank (get_or (order_of s) (middle c) no_row) c.args.key.now c.args.seq _
    (c.stand.ensures
    ∙ ap (λ n. stands (vec_items s.text) (slice_get (vec_items s.slots) n) c.args.key.now c.args.seq) e
    ∙ ap (λ o. stands (vec_items s.text) o c.args.key.now c.args.seq) (slice_get-get_or (vec_items s.slots) (get_or (vec_items s.ranks) (middle c) 0) no_slot (s.kept.inside (middle c) (inner c)))
    ∙ ap (λ r. rank_of r.key r.seq c.args.key.now c.args.seq) (sym (standing_at (vec_items s.text) (vec_items s.slots) (vec_items s.ranks) (middle c) (inner c))))

pub returns-in-Equal-clause-there : goal.returns-in-Equal-clause-there
returns-in-Equal-clause-there c =
    let d = (goal.at.returns-in-Equal-clause-there c).After-stand in
    let h = stands_at_equal (get_or (order_of c.args.self.now) (middle d) no_row) c.args.key.now c.args.seq _ (stood d) c.in-Equal.is in
    record { bound = within d; key = h.0; seq = h.1 }

pub loop-low-preserved-in-Less : goal.loop-low-preserved-in-Less
loop-low-preserved-in-Less c =
    let d = (goal.at.loop-low-preserved-in-Less c).After-stand in
    let s = c.args.self.now in
    let h = stands_at_less (get_or (order_of s) (middle d) no_row) c.args.key.now c.args.seq _ (stood d) c.in-Less.is in
    (omega arith, c.loop-low.invariant.1, front_more (order_of s) s.kept.ordered c.args.key.now c.args.seq (middle d) (within d) h, c.loop-low.invariant.3)

pub loop-low-preserved : goal.loop-low-preserved
loop-low-preserved c =
    let d = (goal.at.loop-low-preserved c).After-stand in
    let s = c.args.self.now in
    let h = stands_at_greater (get_or (order_of s) (middle d) no_row) c.args.key.now c.args.seq _ (stood d) c.in-Greater.is in
    (omega arith, omega (arith, within d), c.loop-low.invariant.2, back_more (order_of s) s.kept.ordered c.args.key.now c.args.seq (middle d) (within d) h)
