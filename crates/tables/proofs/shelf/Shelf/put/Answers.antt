use Rattle.std.proofs.Common.{◌≡◌, ℕ, ◌+◌, ◌-◌, ◌*◌, ◌<◌, ◌≤◌, true, false, length, get_or, set, vec_items, vec_len, vec_capacity, is_ok, Ok, Err, Result, sym, refl, ap, ◌∙◌, arith, rules}
use Rattle.std.proofs.lemmas.Bool.{OnTrue_from, cond-true}
use Rattle.std.proofs.lemmas.Result.{IfOk-at_ok, IfErr-at_err}
use Rattle.rows.specs.Entries.{row_of}
use Rattle.rows.specs.Sizes.{size, weight}
use Rattle.mem_table.specs.Order.{no_row}
use Rattle.mem_table.specs.Calls.{lacks}
use Rattle.mem_table.proofs.Room.{has_room}
use Rattle.tables.specs.Ranks.{At, Between}
use Rattle.tables.specs.Shelves.{holds, order_of}
use Rattle.tables.proofs.Landing.{Landed, comes_last, spare_left, inserts, overwrites, supersedes}
use Rattle.tables.proofs.Members.{came_in}
use Rattle.tables.proofs.Puts.{put_taken, put_refused}
use Rattle.tables.proofs.Shelves.{long, rank_is, size_bound, size_within}
use Rattle.tables.proofs.shelf.Shelf.put.Goals as goal
use Rattle.tables.proofs.shelf.Shelf.put.Goals.{After-lacks, After-estimated_size, After-index_mut, After-push_reserved, After-push_reserved-in-Err}

pub returns-then-lacks-clause-put : goal.returns-then-lacks-clause-put
returns-then-lacks-clause-put c = put_refused c.args.self.now (row_of c.args.row) (sym c.lacks.ensures ∙ c.if-lacks.true)

-- there is room
room : (c : After-estimated_size) → lacks (holds c.args.self.now) (row_of c.args.row) ≡ false
room c = sym c.lacks.ensures ∙ c.if-lacks.false

-- the row that goes, if there is one
there : (c : After-estimated_size) (i : ℕ) → c.locate-place.result ≡ Ok i → At (order_of c.args.self.now) (row_of c.args.row).key (row_of c.args.row).seq i
there c i e = IfOk-at_ok (At (order_of c.args.self.now) (row_of c.args.row).key (row_of c.args.row).seq) e c.locate-place.ensures.there

gone-there : (c : After-estimated_size) (i : ℕ) → c.locate-place.result ≡ Ok i → c.map_or-gone.result ≡ size (get_or (order_of c.args.self.now) i no_row)
gone-there c i e = search rules

gone-none : (c : After-estimated_size) (i : ℕ) → c.locate-place.result ≡ Err i → c.map_or-gone.result ≡ 0
gone-none c i e = search rules

gone-within : (c : After-estimated_size) (p : Result ℕ ℕ) → c.locate-place.result ≡ p → c.map_or-gone.result ≤ c.args.self.now.size + size (row_of c.args.row)
gone-within c (Ok i) e = omega (arith, gone-there c i e, size_within c.args.self.now (row_of c.args.row) i (there c i e).bound)
gone-within c (Err i) e = omega (arith, gone-none c i e)

pub overflow_add-self : goal.overflow_add-self
overflow_add-self c =
    let r = room (goal.at.overflow_add-self c).After-estimated_size in
    omega (arith, size_bound c.args.self.now c.args.row r, c.estimated_size.ensures)

pub overflow_sub-self-3 : goal.overflow_sub-self-3
overflow_sub-self-3 c = omega (arith, gone-within (goal.at.overflow_sub-self-3 c).After-estimated_size _ refl, c.estimated_size.ensures)

pub index_mut-requires : goal.index_mut-requires
index_mut-requires c =
    let s = c.args.self.now in
    let at = there (goal.at.index_mut-requires c).After-estimated_size c.in-Ok.i c.in-Ok.is in
    let n = rank_is s c.in-Ok.i c.index.result.now c.index.ensures at.bound in
    omega (arith, n, c.from-n.ensures, s.kept.inside c.in-Ok.i (omega (arith, at.bound, long s)), s.slots.ok.0)

-- the bytes that are left, and the size without the row that goes
left : (c : After-estimated_size) → c.args.self.now.bytes - c.weight.result ≡ c.args.self.now.bytes - weight (row_of c.args.row)
left c = ap (λ n. c.args.self.now.bytes - n) c.weight.ensures

less : (c : After-estimated_size) (i : ℕ) → c.locate-place.result ≡ Ok i
    → c.args.self.now.size + c.estimated_size.result - c.map_or-gone.result + size (get_or (order_of c.args.self.now) i no_row) ≡ c.args.self.now.size + size (row_of c.args.row)
less c i e = omega (arith, gone-there c i e, gone-within c _ refl, c.estimated_size.ensures)

-- the parts of a shelf, with the row in the slot of another, in a new slot for another's, and between others
overwritten : (c : After-index_mut) → Landed c.args.self.now (row_of c.args.row) (vec_items c.store-slot.new.text) (set (vec_items c.args.self.now.slots) c.from-n.result c.store-slot.result) (vec_items c.args.self.now.ranks) (c.args.self.now.puts - 1) (c.args.self.now.bytes - c.weight.result) (c.args.self.now.size + c.estimated_size.result - c.map_or-gone.result)
overwritten c =
    let s = c.args.self.now in
    let d = (goal.at.After-index_mut c).After-estimated_size in
    let at = there d c.in-Ok.i c.in-Ok.is in
    let n = c.from-n.ensures ∙ rank_is s c.in-Ok.i c.index.result.now c.index.ensures at.bound in
    overwrites s c.args.row (room d) (vec_items c.store-slot.new.text) c.store-slot.ensures.items c.store-slot.result c.store-slot.ensures.lies c.store-slot.ensures.row _ _ _ _ _
    refl (left d) c.in-Ok.i at (less d c.in-Ok.i c.in-Ok.is) (ap (λ q. set (vec_items s.slots) q c.store-slot.result) n) refl

superseded : (c : After-push_reserved) → Landed c.args.self.now (row_of c.args.row) (vec_items c.store-slot.new.text) (vec_items c.push_reserved.new.self) (set (vec_items c.args.self.now.ranks) c.in-Ok-2.i c.len.result) (c.args.self.now.puts - 1) (c.args.self.now.bytes - c.weight.result) (c.args.self.now.size + c.estimated_size.result - c.map_or-gone.result)
superseded c =
    let s = c.args.self.now in
    let d = (goal.at.After-push_reserved c).After-estimated_size in
    let at = there d c.in-Ok-2.i c.in-Ok-2.is in
    supersedes s c.args.row (room d) (vec_items c.store-slot.new.text) c.store-slot.ensures.items c.store-slot.result c.store-slot.ensures.lies c.store-slot.ensures.row _ _ _ _ _
    refl (left d) c.in-Ok-2.i at (less d c.in-Ok-2.i c.in-Ok-2.is) c.push_reserved.ensures.items (ap (set (vec_items s.ranks) c.in-Ok-2.i) (c.len.ensures ∙ s.slots.ok.0))

-- a rank was reserved
free : (c : After-push_reserved-in-Err) → vec_len c.args.self.now.ranks < vec_capacity c.args.self.now.ranks
free c =
    let s = c.args.self.now in
    omega (arith, s.ranks_spare, (has_room (holds s) (row_of c.args.row) (room (goal.at.After-push_reserved-in-Err c).After-estimated_size)).0)

inserted-ok : (c : After-push_reserved-in-Err) → is_ok c.insert.result ≡ true
inserted-ok c = c.insert.ensures.succeeds (free c)

inserted : (c : After-push_reserved-in-Err) → Landed c.args.self.now (row_of c.args.row) (vec_items c.store-slot.new.text) (vec_items c.push_reserved-in-Err.new.self) (vec_items c.insert.new.self) (c.args.self.now.puts - 1) (c.args.self.now.bytes - c.weight.result) (c.args.self.now.size + c.estimated_size.result - c.map_or-gone.result)
inserted c =
    let s = c.args.self.now in
    let d = (goal.at.After-push_reserved-in-Err c).After-estimated_size in
    let ks = came_in (vec_items s.ranks) _ c.in-Err.i c.len-in-Err.result (length (vec_items s.slots)) (is_ok c.insert.result) c.insert.ensures.items (inserted-ok c) (c.len-in-Err.ensures ∙ s.slots.ok.0) in
    inserts s c.args.row (room d) _ c.store-slot.ensures.items c.store-slot.result c.store-slot.ensures.lies c.store-slot.ensures.row _ _ _ _ _
    refl (left d) c.in-Err.i (IfErr-at_err (Between (order_of s) (row_of c.args.row).key (row_of c.args.row).seq) c.in-Err.is c.locate-place.ensures.gap) c.push_reserved-in-Err.ensures.items ks
    (omega (arith, gone-none d c.in-Err.i c.in-Err.is, c.estimated_size.ensures))

-- the text has room for what is left
spare : (c : After-estimated_size) → vec_len c.store-slot.new.text + 2 * (c.args.self.now.bytes - c.weight.result) ≤ vec_capacity c.store-slot.new.text
spare c =
    let t = c.store-slot.new.text in
    spare_left c.args.self.now c.args.row (room c) (vec_items t) (vec_len t) (vec_capacity t) _ t.ok.0 c.store-slot.ensures.items c.store-slot.ensures.capacity (left c)

pub invariant_of-self : goal.invariant_of-self
invariant_of-self c =
    let s = c.args.self.now in
    record {
      spare = spare (goal.at.invariant_of-self c).After-estimated_size;
      slots_spare = omega (arith, s.slots_spare);
      ranks_spare = omega (arith, s.ranks_spare);
      kept = (overwritten (goal.at.invariant_of-self c).After-index_mut).kept;
    }

pub invariant_of-self-in-Ok-2 : goal.invariant_of-self-in-Ok-2
invariant_of-self-in-Ok-2 c =
    let s = c.args.self.now in
    let d = (goal.at.invariant_of-self-in-Ok-2 c).After-estimated_size in
    let some = (has_room (holds s) (row_of c.args.row) (room d)).0 in
    record {
      spare = spare d;
      slots_spare = omega (arith, c.push_reserved.ensures.len, c.push_reserved.ensures.capacity, s.slots_spare, some);
      ranks_spare = omega (arith, s.ranks_spare);
      kept = (superseded (goal.at.invariant_of-self-in-Ok-2 c).After-push_reserved).kept;
    }

pub invariant_of-self-in-Err : goal.invariant_of-self-in-Err
invariant_of-self-in-Err c =
    let s = c.args.self.now in
    let e = (goal.at.invariant_of-self-in-Err c).After-push_reserved-in-Err in
    let d = (goal.at.invariant_of-self-in-Err c).After-estimated_size in
    let some = (has_room (holds s) (row_of c.args.row) (room d)).0 in
    record {
      spare = spare d;
      slots_spare = omega (arith, c.push_reserved-in-Err.ensures.len, c.push_reserved-in-Err.ensures.capacity, s.slots_spare, some);
      ranks_spare = omega (arith, c.insert.ensures.len ∙ cond-true _ _ _ (inserted-ok e), (c.insert.ensures.in_place (free e)).1.0, s.ranks_spare, some);
      kept = (inserted e).kept;
    }

pub returns-in-Ok-clause-put : goal.returns-in-Ok-clause-put
returns-in-Ok-clause-put c = put_taken (room (goal.at.returns-in-Ok-clause-put c).After-estimated_size) (overwritten (goal.at.returns-in-Ok-clause-put c).After-index_mut)

pub returns-in-Ok-2-clause-put : goal.returns-in-Ok-2-clause-put
returns-in-Ok-2-clause-put c = put_taken (room (goal.at.returns-in-Ok-2-clause-put c).After-estimated_size) (superseded (goal.at.returns-in-Ok-2-clause-put c).After-push_reserved)

pub returns-in-Err-clause-put : goal.returns-in-Err-clause-put
returns-in-Err-clause-put c = put_taken (room (goal.at.returns-in-Err-clause-put c).After-estimated_size) (inserted (goal.at.returns-in-Err-clause-put c).After-push_reserved-in-Err)

pub returns-in-Ok-2-clause-log : goal.returns-in-Ok-2-clause-log
returns-in-Ok-2-clause-log c =
    OnTrue_from _ _ (λ _. comes_last c.args.self.now c.args.row (vec_items c.store-slot.new.text) c.store-slot.ensures.items c.store-slot.result c.store-slot.ensures.row (vec_items c.push_reserved.new.self) c.push_reserved.ensures.items)

pub returns-in-Err-clause-log : goal.returns-in-Err-clause-log
returns-in-Err-clause-log c =
    OnTrue_from _ _ (λ _. comes_last c.args.self.now c.args.row (vec_items c.store-slot.new.text) c.store-slot.ensures.items c.store-slot.result c.store-slot.ensures.row (vec_items c.push_reserved-in-Err.new.self) c.push_reserved-in-Err.ensures.items)
