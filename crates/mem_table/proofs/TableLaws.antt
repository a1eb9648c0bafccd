-- The laws of tables.
use Rattle.std.proofs.Common.{◌≡◌, ℕ, ◌≤◌, false, ltb, List, [], ◌∷◌, length, Some, Ok, Err, Result, sym, refl, ap, ◌∙◌, inl, inr, arith}
use Rattle.std.proofs.lemmas.Bool.{cases_Bool, cond-true, cond-false, or_from, le-ltb}
use Rattle.rows.specs.Rows.{Row}
use Rattle.rows.specs.Sizes.{weight, total}
use Rattle.mem_table.specs.declared.fault.TableFault.{TableFault}
use Rattle.mem_table.specs.declared.fault.TableFault.TheVariants.{NoRoom}
use Rattle.causes.specs.Said.{Said, granted, refused}
use Rattle.mem_table.specs.Said.{said}
use Rattle.mem_table.specs.Meaning.{Held, added}
use Rattle.mem_table.specs.Calls.{Fit, lacks, put_says, put_leaves}
use Rattle.mem_table.specs.Laws.{OnePut, LastStands, ExactRoom}
use Rattle.mem_table.proofs.Keys.{has_own}
use Rattle.mem_table.proofs.Room.{has_room}

-- an answer is known by what it says
same_answer : (r s : Result (Unit {0}) TableFault) → said r ≡ said s → r ≡ s
same_answer (Ok a) (Ok b) e = refl
same_answer (Ok a) (Err (NoRoom n)) e = let z : ◌≡◌ {A = ℕ} 0 3 = ap (λ (x : Said). x.number) e in absurd (omega arith)
same_answer (Err (NoRoom n)) (Ok b) e = let z : ◌≡◌ {A = ℕ} 3 0 = ap (λ (x : Said). x.number) e in absurd (omega arith)
same_answer (Err (NoRoom n)) (Err (NoRoom m)) e = let z : n ∷ [] ≡ m ∷ [] = ap (λ (x : Said). x.values) e in (cc)

pub one_put : OnePut
one_put before a b row r s p q = (same_answer r s (p.answer ∙ sym q.answer), p.held ∙ sym q.held)

-- a put that is granted had room
pub had_room : (h : Held) (r : Row) → put_says h r ≡ granted [] → lacks h r ≡ false
had_room h r e =
    elim (cases_Bool (lacks h r)) [
      | inl t ↦ (
          let f : refused 3 (r.seq ∷ []) ≡ granted [] = sym (cond-true (lacks h r) (refused 3 (r.seq ∷ [])) (granted []) t) ∙ e in
          let z : ◌≡◌ {A = ℕ} 3 0 = ap (λ (x : Said). x.number) f in
          absurd (omega arith))
      | inr t ↦ t
    ]

left : (h : Held) (r : Row) → lacks h r ≡ false → put_leaves h r ≡ added h r
left h r t = cond-false (lacks h r) h (added h r) t

pub last_stands : LastStands
last_stands before after row p =
    let t = had_room before.held row (sym p.answer) in
    let e : after.held ≡ added before.held row = p.held ∙ left before.held row t in (
      ap (λ (h : Held). h.rows row.key row.seq) e ∙ cond-true _ (Some row) (before.held.rows row.key row.seq) (has_own row row.key row.seq refl refl),
      λ k n f. ap (λ (h : Held). h.rows k n) e ∙ cond-false _ (Some row) (before.held.rows k n) f,
    )

fits : (h : Held) (rs : List Row) → length rs ≤ h.puts → total weight rs ≤ h.bytes → Fit h rs
fits h [] a b = tt
fits h (r ∷ rs) a b =
    let t : lacks h r ≡ false = or_from (ltb h.puts 1) (ltb h.bytes (weight r)) (le-ltb h.puts 1 (omega arith)) (le-ltb h.bytes (weight r) (omega arith)) in
    (t, fits (added h r) rs (omega arith) (omega arith))

needed : (h : Held) (rs : List Row) → Fit h rs → (length rs ≤ h.puts) × (total weight rs ≤ h.bytes)
needed h [] a = (omega arith, omega arith)
needed h (r ∷ rs) a =
    let room = has_room h r a.0 in
    let rest = needed (added h r) rs a.1 in
    (omega (arith, room.0, rest.0), omega (arith, room.1, rest.1))

pub exact_room : ExactRoom
exact_room h rs = (λ p. fits h rs p.0 p.1, needed h rs)
