use Rattle.std.proofs.Common.{◌≡◌, ℕ, ◌-◌, true, List, length, is_ok, vec_items, vec_len, Option, refl, ap, ◌∙◌, arith}
use Rattle.std.proofs.lemmas.Bool.{cond-true}
use Rattle.store.specs.Meaning.{Held}
use Rattle.store.proofs.Growing.{files_grown}
use Rattle.store.proofs.memory.MemoryStore.add.Goals as goal

-- the bytes of the new file find the memory that is reserved for them, so the files grow by one
pub returns : goal.returns
returns c =
    let s = c.args.self.now in
    let more = c.extend_from_slice in
    let ok : is_ok more.result ≡ true = more.ensures.succeeds (omega (arith, s.spare, c.requires.room)) in
    let appended = more.ensures.items ∙ cond-true _ _ _ ok in
    let p = files_grown (vec_items s.index.extents) (vec_items c.insert.new.self.extents) _ c.insert.ensures.finds (vec_items s.text) (vec_items more.new.self) c.args.text.now (vec_len s.text) s.inside s.text.ok.0 c.len-start.ensures refl appended in
    let H : (ℕ → Option (List ℕ)) → Held = λ f. record { files = f; places = s.places - 1; bytes = s.bytes - length c.args.text.now } in
    ap H p
