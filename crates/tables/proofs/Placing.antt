-- A row put among those that stand.
use Rattle.std.proofs.Common.{◌≡◌, ℕ, ◌+◌, ◌-◌, ◌*◌, ◌<◌, ◌≤◌, List, [], ◌∷◌, ◌++◌, length, get_or, set, sym, refl, ap, ◌∙◌, subst, inl, inr, arith, length-append, length-set}
use Rattle.std.specs.List.{insert}
use Rattle.std.proofs.lemmas.List.{same_lists, map-set, get_or-set_same, get_or-set_other, get_or_append_left, get_or_push, get_or_default}
use Rattle.std.proofs.lemmas.List.Edits.{length-insert}
use Rattle.std.proofs.lemmas.Bool.{cases_eq, cases_order}
use Rattle.rows.specs.declared.entry.RowEntry.{RowEntry}
use Rattle.rows.specs.Entries.{row_of}
use Rattle.rows.specs.Rows.{Row}
use Rattle.rows.specs.Sizes.{weight, size, total}
use Rattle.tables.specs.declared.slot.Slot.{Slot}
use Rattle.mem_table.specs.Order.{no_row}
use Rattle.tables.specs.Ranks.{At, Between}
use Rattle.mem_table.specs.Meaning.{lookup, with_row}
use Rattle.tables.specs.Slots.{no_slot, row_at, standing, Lies, Digits, Each, Inside, Kept}
use Rattle.tables.proofs.Members.{map_same, map_inserted, each_set, each_push, inside_set, inside_inserted, inside_more, lies_more}
use Rattle.tables.proofs.Ordered.{Laid, apart, laid_over, laid_between}
use Rattle.tables.proofs.Standing.{standing_length, standing_at}
use Rattle.tables.proofs.Texts.{row_kept, more_digits, digits_twice}
use Rattle.tables.proofs.Totals.{total_set, total_inserted}

-- rows that stand in slots, and a row whose digits the text has grown by
module _ (text : List ℕ) (slots : List Slot) (ranks : List ℕ) (puts bytes sum : ℕ) (k : Kept text slots ranks puts bytes sum)
    (e : RowEntry) (some : 0 < puts) (room : weight (row_of e) ≤ bytes)
    (text' : List ℕ) (grown : text' ≡ text ++ ((row_of e).key ++ (row_of e).value))
    (slot : Slot) (lies : Lies (length text') slot) (is : row_at text' slot ≡ row_of e) where
  longer : length text' ≡ length text + 2 * weight (row_of e)
  longer = ap length grown ∙ length-append text ((row_of e).key ++ (row_of e).value) ∙ ap (λ n. length text + n) (digits_twice e)

  -- a slot has the row it had
  stays : (i : ℕ) → i < length ranks → row_at text' (get_or slots (get_or ranks i 0) no_slot) ≡ row_at text (get_or slots (get_or ranks i 0) no_slot)
  stays i l =
      ap (λ t. row_at t (get_or slots (get_or ranks i 0) no_slot)) grown
      ∙ row_kept text ((row_of e).key ++ (row_of e).value) (get_or slots (get_or ranks i 0) no_slot) (k.sound (get_or ranks i 0) (k.inside i l)).placed

  sound : Each (Lies (length text')) slots
  sound i l = lies_more (length text) (length text') (get_or slots i no_slot) (omega (arith, longer)) (k.sound i l)

  -- what holds after a row was laid
  pub record After (slots' : List Slot) (ranks' : List ℕ) (sum' : ℕ) : Type 0 where
    pub kept : Kept text' slots' ranks' (puts - 1) (bytes - weight (row_of e)) sum'
    pub found : lookup (standing text' slots' ranks') ≡ with_row (lookup (standing text slots ranks)) (row_of e)

  after : (slots' : List Slot) (ranks' : List ℕ) (sum' : ℕ) → length slots' ≤ length slots + 1 → length ranks' ≤ length slots' → Inside ranks' (length slots') → Each (Lies (length text')) slots'
      → Laid (standing text slots ranks) (standing text' slots' ranks') (row_of e) → sum' ≡ total size (standing text' slots' ranks') → After slots' ranks' sum'
  after slots' ranks' sum' few fewer inside each laid sized = record {
    kept = record {
      counted = omega (arith, k.counted);
      limited = omega (arith, k.limited, longer);
      fewer = fewer;
      inside = inside;
      digits = subst Digits (sym grown) (more_digits text e k.digits);
      sound = each;
      ordered = laid.ascends;
      weighed = omega (arith, k.weighed, laid.weighs, longer);
      sized = sized;
    };
    found = laid.found;
  }

  abbrev rs : List Row
  rs = standing text slots ranks

  -- a slot that comes last
  abbrev pushed : List Slot
  pushed = slots ++ slot ∷ []

  pushed_length : length pushed ≡ length slots + 1
  pushed_length = length-append slots (slot ∷ [])

  pushed_same : standing text' pushed ranks ≡ rs
  pushed_same =
      map_same 0 (λ j. row_at text' (get_or pushed j no_slot)) (λ j. row_at text (get_or slots j no_slot)) ranks
      (λ i l. ap (row_at text') (get_or_append_left slots (slot ∷ []) no_slot (get_or ranks i 0) (k.inside i l)) ∙ stays i l)

  newest : row_at text' (get_or pushed (length slots) no_slot) ≡ row_of e
  newest = ap (row_at text') (get_or_push slots slot no_slot (length slots) refl) ∙ is

  -- the row comes between others, in a slot of its own
  pub after_insert : (i : ℕ) → Between rs (row_of e).key (row_of e).seq i → After pushed (insert ranks i (length slots)) (sum + size (row_of e))
  after_insert i gap =
      let n = length slots in
      let long = standing_length text slots ranks in
      let b : i ≤ length ranks = omega (arith, gap.bound) in
      let now-is : standing text' pushed (insert ranks i n) ≡ insert rs i (row_of e) =
      map_inserted (λ j. row_at text' (get_or pushed j no_slot)) ranks i n ∙ ap (λ xs. insert xs i (row_at text' (get_or pushed n no_slot))) pushed_same ∙ ap (insert rs i) newest in
      let sized : sum + size (row_of e) ≡ total size (standing text' pushed (insert ranks i n)) =
      ap (λ m. m + size (row_of e)) k.sized ∙ sym (total_inserted size rs i (row_of e)) ∙ ap (total size) (sym now-is) in
      after pushed (insert ranks i n) (sum + size (row_of e)) (omega (arith, pushed_length)) (omega (arith, pushed_length, length-insert ranks i n b, k.fewer))
      (inside_inserted ranks i n (length pushed) b (inside_more ranks n (length pushed) (omega (arith, pushed_length)) k.inside) (omega (arith, pushed_length)))
      (each_push (Lies (length text')) slots slot sound lies)
      (subst (λ (xs : List Row). Laid rs xs (row_of e)) (sym now-is) (laid_between rs k.ordered (row_of e) i gap))
      sized

  module _ (i : ℕ) (at : At rs (row_of e).key (row_of e).seq i) (sum' : ℕ) (less : sum' + size (get_or rs i no_row) ≡ sum + size (row_of e)) where
    bound : i < length ranks
    bound = omega (arith, at.bound, standing_length text slots ranks)

    resized : (xs : List Row) → xs ≡ set rs i (row_of e) → sum' ≡ total size xs
    resized xs f = let t = total_set size rs i (row_of e) at.bound in let u = ap (total size) f in omega (arith, k.sized)

    relaid : (xs : List Row) → xs ≡ set rs i (row_of e) → Laid rs xs (row_of e)
    relaid xs f = subst (λ (ys : List Row). Laid rs ys (row_of e)) (sym f) (laid_over rs k.ordered (row_of e) i at)

    -- the row takes the place of another, in a slot of its own
    pub after_supersede : After pushed (set ranks i (length slots)) sum'
    after_supersede =
        let n = length slots in
        let now-is : standing text' pushed (set ranks i n) ≡ set rs i (row_of e) =
        map-set (λ j. row_at text' (get_or pushed j no_slot)) ranks i n ∙ ap (λ xs. set xs i (row_at text' (get_or pushed n no_slot))) pushed_same ∙ ap (set rs i) newest in
        after pushed (set ranks i n) sum' (omega (arith, pushed_length)) (omega (arith, pushed_length, length-set ranks i n, k.fewer))
        (inside_set ranks i n (length pushed) (inside_more ranks n (length pushed) (omega (arith, pushed_length)) k.inside) (omega (arith, pushed_length)))
        (each_push (Lies (length text')) slots slot sound lies) (relaid _ now-is) (resized _ now-is)

    -- no other row stands in the slot of this one
    alone : (j : ℕ) → j < length ranks → (j ≡ i → ⊥) → get_or ranks j 0 ≡ get_or ranks i 0 → ⊥
    alone j l ne same =
        let long = standing_length text slots ranks in
        let f : get_or rs j no_row ≡ get_or rs i no_row = standing_at text slots ranks j l ∙ ap (λ q. row_at text (get_or slots q no_slot)) same ∙ sym (standing_at text slots ranks i bound) in
        let p : (get_or rs j no_row).key ≡ (get_or rs i no_row).key = ap (λ (r : Row). r.key) f in
        let q : (get_or rs j no_row).seq ≡ (get_or rs i no_row).seq = ap (λ (r : Row). r.seq) f in
        elim (cases_order j i) [
          | inl h ↦ ne h
          | inr o ↦ elim o [ inl h ↦ apart rs k.ordered j i h at.bound (p, q) | inr h ↦ apart rs k.ordered i j h (omega arith) (sym p, sym q) ]
        ]

    -- the row takes the place of another, in its slot
    pub after_overwrite : After (set slots (get_or ranks i 0) slot) ranks sum'
    after_overwrite =
        let spot = get_or ranks i 0 in
        let slots' = set slots spot slot in
        let long = standing_length text slots ranks in
        let long' = standing_length text' slots' ranks in
        let now-is : standing text' slots' ranks ≡ set rs i (row_of e) =
        same_lists (standing text' slots' ranks) (set rs i (row_of e)) (omega (arith, length-set rs i (row_of e)))
        (λ j d l. (
        let lj : j < length ranks = omega arith in
        let start = get_or_default (standing text' slots' ranks) j d no_row l ∙ standing_at text' slots' ranks j lj in
        let end = get_or_default (set rs i (row_of e)) j no_row d (omega (arith, length-set rs i (row_of e))) in
        elim (cases_eq j i) [
          | inl h ↦ start ∙ ap (λ m. row_at text' (get_or slots' (get_or ranks m 0) no_slot)) h ∙ ap (row_at text') (get_or-set_same slots spot slot no_slot (k.inside i bound)) ∙ is
              ∙ sym (ap (λ m. get_or (set rs i (row_of e)) m no_row) h ∙ get_or-set_same rs i (row_of e) no_row at.bound) ∙ end
          | inr h ↦ start ∙ ap (row_at text') (get_or-set_other slots spot (get_or ranks j 0) slot no_slot (alone j lj h)) ∙ stays j lj
              ∙ sym (standing_at text slots ranks j lj) ∙ sym (get_or-set_other rs i j (row_of e) no_row h) ∙ end
        ])) in
        after slots' ranks sum' (omega (arith, length-set slots spot slot)) (omega (arith, length-set slots spot slot, k.fewer))
        (inside_more ranks (length slots) (length slots') (omega (arith, length-set slots spot slot)) k.inside)
        (each_set (Lies (length text')) slots spot slot sound lies) (relaid _ now-is) (resized _ now-is)
