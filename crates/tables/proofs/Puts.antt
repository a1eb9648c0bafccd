-- A put on a shelf, with room for the row and without.
use Rattle.std.proofs.Common.{◌≡◌, ℕ, true, false, List, Ok, Err, refl, sym, ◌∙◌}
use Rattle.std.proofs.lemmas.Bool.{both_ways, cond-true, cond-false}
use Rattle.rows.specs.Rows.{Row}
use Rattle.tables.specs.declared.shelf.Shelf.{Shelf}
use Rattle.tables.specs.declared.slot.Slot.{Slot}
use Rattle.mem_table.specs.declared.fault.TableFault.TheVariants.{NoRoom}
use Rattle.mem_table.specs.Calls.{Put, lacks}
use Rattle.tables.specs.Shelves.{holds, shelf_means}
use Rattle.tables.proofs.Landing.{Landed}
use Rattle.tables.proofs.Shelves.{meaning, kept_listed, listed}

pub put_taken : {s : Shelf} {r : Row} {text : List ℕ} {slots : List Slot} {ranks : List ℕ} {puts bytes sum : ℕ} → lacks (holds s) r ≡ false → Landed s r text slots ranks puts bytes sum
    → Put (shelf_means s) (meaning text slots ranks puts bytes) r (Ok tt)
put_taken {s = s} h l = record {
  answer = sym (cond-false _ _ _ h);
  held = l.held ∙ sym (cond-false _ _ _ h);
  order = λ t. absurd (both_ways _ h t);
  listed_before = listed s;
  listed = kept_listed l.kept;
}

pub put_refused : (s : Shelf) (r : Row) → lacks (holds s) r ≡ true → Put (shelf_means s) (shelf_means s) r (Err (NoRoom r.seq))
put_refused s r h = record {
  answer = sym (cond-true _ _ _ h);
  held = sym (cond-true _ _ _ h);
  order = λ _. refl;
  listed_before = listed s;
  listed = listed s;
}
