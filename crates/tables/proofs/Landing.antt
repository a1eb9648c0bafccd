-- A row put on a shelf.
use Rattle.std.proofs.Common.{◌≡◌, ℕ, ◌+◌, ◌-◌, ◌*◌, ◌<◌, ◌≤◌, false, List, [], ◌∷◌, ◌++◌, map, length, get_or, set, vec_items, vec_capacity, Option, sym, refl, ap, ◌∙◌, subst, arith, length-append}
use Rattle.std.specs.List.{insert}
use Rattle.rows.specs.declared.entry.RowEntry.{RowEntry}
use Rattle.rows.specs.Entries.{row_of}
use Rattle.rows.specs.Rows.{Row}
use Rattle.rows.specs.Sizes.{weight, size}
use Rattle.tables.specs.declared.shelf.Shelf.{Shelf}
use Rattle.tables.specs.declared.slot.Slot.{Slot}
use Rattle.mem_table.specs.Calls.{lacks}
use Rattle.mem_table.specs.Meaning.{Held, lookup, added}
use Rattle.mem_table.specs.Order.{no_row}
use Rattle.tables.specs.Ranks.{At, Between}
use Rattle.tables.specs.Slots.{no_slot, row_at, standing, Lies, Kept}
use Rattle.tables.specs.Shelves.{holds, order_of, rows_of}
use Rattle.tables.proofs.Placing.{After, after_insert, after_supersede, after_overwrite}
use Rattle.mem_table.proofs.Room.{has_room}
use Rattle.tables.proofs.Texts.{digits_twice, row_kept}
use Rattle.tables.proofs.Members.{map_same}
use Rattle.std.proofs.lemmas.List.{map-append}

-- the parts of a shelf with row r put on shelf s, and what they hold
pub record Landed (s : Shelf) (r : Row) (text : List ℕ) (slots : List Slot) (ranks : List ℕ) (puts bytes sum : ℕ) : Type 0 where
  pub kept : Kept text slots ranks puts bytes sum
  pub held : ◌≡◌ {A = Held} (record { rows = lookup (standing text slots ranks); puts = puts; bytes = bytes }) (added (holds s) r)

-- the text has room for the bytes that are left
pub spare_left : (s : Shelf) (e : RowEntry) → lacks (holds s) (row_of e) ≡ false → (text : List ℕ) (n cap bytes : ℕ) → n ≡ length text → text ≡ vec_items s.text ++ ((row_of e).key ++ (row_of e).value)
    → vec_capacity s.text ≤ cap → bytes ≡ s.bytes - weight (row_of e) → n + 2 * bytes ≤ cap
spare_left s e room text n cap bytes long grown more is =
    let a = ap length grown ∙ length-append (vec_items s.text) ((row_of e).key ++ (row_of e).value) in
    omega (arith, a, digits_twice e, s.text.ok.0, s.spare, (has_room (holds s) (row_of e) room).1)

-- a row in a new slot comes behind all others
pub comes_last : (s : Shelf) (e : RowEntry) (text : List ℕ) → text ≡ vec_items s.text ++ ((row_of e).key ++ (row_of e).value) → (slot : Slot) → row_at text slot ≡ row_of e
    → (slots : List Slot) → slots ≡ vec_items s.slots ++ slot ∷ [] → map (row_at text) slots ≡ rows_of s ++ row_of e ∷ []
comes_last s e text grown slot is slots pushed =
    let same : map (row_at text) (vec_items s.slots) ≡ rows_of s =
    map_same no_slot (row_at text) (row_at (vec_items s.text)) (vec_items s.slots)
    (λ i l. ap (λ t. row_at t (get_or (vec_items s.slots) i no_slot)) grown ∙ row_kept (vec_items s.text) ((row_of e).key ++ (row_of e).value) (get_or (vec_items s.slots) i no_slot) (s.kept.sound i l).placed) in
    ap (map (row_at text)) pushed ∙ map-append (row_at text) (vec_items s.slots) (slot ∷ []) ∙ ap (λ xs. xs ++ row_at text slot ∷ []) same ∙ ap (λ r. rows_of s ++ r ∷ []) is

module _ (s : Shelf) (e : RowEntry) (room : lacks (holds s) (row_of e) ≡ false)
    (text : List ℕ) (grown : text ≡ vec_items s.text ++ ((row_of e).key ++ (row_of e).value))
    (slot : Slot) (lies : Lies (length text) slot) (is : row_at text slot ≡ row_of e)
    (slots : List Slot) (ranks : List ℕ) (puts bytes sum : ℕ) (less-puts : puts ≡ s.puts - 1) (left : bytes ≡ s.bytes - weight (row_of e)) where
  some : 0 < s.puts
  some = (has_room (holds s) (row_of e) room).0

  enough : weight (row_of e) ≤ s.bytes
  enough = (has_room (holds s) (row_of e) room).1

  abbrev Then : List Slot → List ℕ → ℕ → Type 0
  Then = After (vec_items s.text) (vec_items s.slots) (vec_items s.ranks) s.puts s.bytes s.size s.kept e some enough text grown slot lies is

  landed : (ss : List Slot) (ks : List ℕ) (m : ℕ) → slots ≡ ss → ranks ≡ ks → sum ≡ m → Then ss ks m → Landed s (row_of e) text slots ranks puts bytes sum
  landed ss ks m p q r a =
      let b : Then slots ranks sum = subst (λ (x : List Slot). Then x ranks sum) (sym p) (subst (λ (x : List ℕ). Then ss x sum) (sym q) (subst (Then ss ks) (sym r) a)) in
      let H : (List ℕ → ℕ → Option Row) → ℕ → ℕ → Held = λ f m n. record { rows = f; puts = m; bytes = n } in
      record {
        kept = subst (λ (m : ℕ). Kept text slots ranks m bytes sum) (sym less-puts) (subst (λ (n : ℕ). Kept text slots ranks (s.puts - 1) n sum) (sym left) b.kept);
        held = ap (λ f. H f puts bytes) b.found ∙ ap (λ m. H (added (holds s) (row_of e)).rows m bytes) less-puts ∙ ap (H (added (holds s) (row_of e)).rows (s.puts - 1)) left;
      }

  pub inserts : (i : ℕ) → Between (order_of s) (row_of e).key (row_of e).seq i
      → slots ≡ vec_items s.slots ++ slot ∷ [] → ranks ≡ insert (vec_items s.ranks) i (length (vec_items s.slots)) → sum ≡ s.size + size (row_of e)
      → Landed s (row_of e) text slots ranks puts bytes sum
  inserts i gap p q r =
      landed _ _ _ p q r (after_insert (vec_items s.text) (vec_items s.slots) (vec_items s.ranks) s.puts s.bytes s.size s.kept e some enough text grown slot lies is i gap)

  module _ (i : ℕ) (at : At (order_of s) (row_of e).key (row_of e).seq i) (less : sum + size (get_or (order_of s) i no_row) ≡ s.size + size (row_of e)) where
    pub supersedes : slots ≡ vec_items s.slots ++ slot ∷ [] → ranks ≡ set (vec_items s.ranks) i (length (vec_items s.slots)) → Landed s (row_of e) text slots ranks puts bytes sum
    supersedes p q =
        landed _ _ _ p q refl (after_supersede (vec_items s.text) (vec_items s.slots) (vec_items s.ranks) s.puts s.bytes s.size s.kept e some enough text grown slot lies is i at sum less)

    pub overwrites : slots ≡ set (vec_items s.slots) (get_or (vec_items s.ranks) i 0) slot → ranks ≡ vec_items s.ranks → Landed s (row_of e) text slots ranks puts bytes sum
    overwrites p q =
        landed _ _ _ p q refl (after_overwrite (vec_items s.text) (vec_items s.slots) (vec_items s.ranks) s.puts s.bytes s.size s.kept e some enough text grown slot lies is i at sum less)
