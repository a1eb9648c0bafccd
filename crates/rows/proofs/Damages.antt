-- Damage, from what was read so far.
use Rattle.std.proofs.Common.{◌≡◌, ℕ, ◌+◌, ◌-◌, ◌<◌, ◌≤◌, List, [], ◌++◌, length, get_or, take, drop, sym, refl, ap, ◌∙◌, subst, ⊎_elim, append_assoc, arith, length-drop, length-append}
use Rattle.std.proofs.lemmas.List.{take-take, take_all, take_at, drop_at, take-append-drop, take_rest, length-take, get_or_append_left, get_or-take}
use Rattle.std.proofs.str.Laws.{order}
use Rattle.rows.specs.Lines.{Viable}
use Rattle.rows.specs.Grammar.{Damaged, FieldAt, DamageAt, FrontOf, StuckAt}
use Rattle.rows.proofs.Lists.{part, take_split, drop_on}

-- where nothing of L has ended up to i, nothing has ended at all
pub damaged : (L : List ℕ → Type 0) (t : List ℕ) (i : ℕ) → i ≤ length t → Viable L (take i t) → (i < length t → Viable L (take (i + 1) t) → ⊥) → ((m : ℕ) → L (take m (take i t)) → ⊥) → Damaged L t i
damaged L t i within v stuck before =
    record {
      longest = record { within = within; shared = v; stops = stuck };
      none = λ m l.
          ⊎_elim
          (λ lt. ⊎_elim
          (λ inside. stuck inside (drop (i + 1) (take m t), subst L (take_split t (i + 1) m (omega arith)) l))
          (λ past. before m (subst L (ap (take m) (sym (take_all i t past))) l))
          (order i (length t)))
          (λ le. before m (subst L (sym (take-take m i t le)) l))
          (order i m);
    }

pub none_begins : {L : List ℕ → Type 0} {t : List ℕ} {n : ℕ} → Damaged L t n → (x u : List ℕ) → t ≡ x ++ u → L x → ⊥
none_begins {L = L} d x u e l = d.none (length x) (subst L (sym (ap (take (length x)) e ∙ take_at x u (length x) refl)) l)

-- where each text of M begins with one of L, and each of L can be gone on with to one of M
pub lift : {L M : List ℕ → Type 0} {t : List ℕ} {n : ℕ} → ((w : List ℕ) → M w → (x : List ℕ) × (y : List ℕ) × L x × (w ≡ x ++ y)) → ((x : List ℕ) → L x → Viable M x) → Damaged L t n → Damaged M t n
lift {L = L} {M = M} {t = t} {n = n} begins on d =
    record {
      longest = record {
        within = d.longest.within;
        shared = (
            let v = d.longest.shared in
            let u = on _ v.1 in
            (v.0 ++ u.0, subst M (append_assoc (take n t) v.0 u.0) u.1));
        stops = λ lt v.
            let b = begins _ v.1 in
            ⊎_elim
            (λ h. d.longest.stops lt (h.0, subst L h.1 b.2))
            (λ h. none_begins d b.0 (h.0 ++ drop (n + 1) t) (sym (take-append-drop (n + 1) t) ∙ ap (λ l. l ++ drop (n + 1) t) h.1 ∙ append_assoc b.0 h.0 (drop (n + 1) t)) b.2)
            (part b.0 (take (n + 1) t) b.1 v.0 (sym b.3));
      };
      none = λ m l.
          let b = begins _ l in
          none_begins d b.0 (b.1 ++ drop m t) (sym (take-append-drop m t) ∙ ap (λ l. l ++ drop m t) b.3 ∙ append_assoc b.0 b.1 (drop m t)) b.2;
    }

-- where the first byte of t decides that a text of M is one of L
pub choice : {L M : List ℕ → Type 0} (t : List ℕ) (n : ℕ) → ((w : List ℕ) → M w → get_or w 0 0 ≡ get_or t 0 0 → L w) → (M [] → ⊥) → ((w : List ℕ) → L w → M w) → Damaged L t n → Damaged M t n
choice {L = L} {M = M} t n only some on d =
    record {
      longest = record {
        within = d.longest.within;
        shared = (d.longest.shared.0, on _ d.longest.shared.1);
        stops = λ lt v.
            let long : 0 < length (take (n + 1) t) = omega (arith, length-take (n + 1) t) in
            d.longest.stops lt (v.0, only _ v.1 (get_or_append_left (take (n + 1) t) v.0 0 0 long ∙ get_or-take (n + 1) t 0 0 (omega arith)));
      };
      none = λ m l.
          ⊎_elim
          (λ pos. d.none m (only _ l (get_or-take m t 0 0 pos)))
          (λ none. let z : m ≡ 0 = omega arith in some (subst M (ap (λ k. take k t) z) l))
          (order 0 m);
    }

-- the same said by what is left of t from i on
pub stuck_at : (L : List ℕ → Type 0) (t left : List ℕ) (i : ℕ) → length left + i ≡ length t → Damaged L t i → StuckAt L t left
stuck_at L t left i long d =
    let s : i ≡ length t - length left = omega arith in
    record { within = omega arith; damage = subst (Damaged L t) s d }

pub stuck_here : (L : List ℕ → Type 0) (t : List ℕ) (i : ℕ) → Damaged L t i → StuckAt L t (take (length t - i) (drop i t))
stuck_here L t i d = stuck_at L t _ i (omega (arith, d.longest.within, ap length (take_rest t i), length-drop i t)) d

-- r is the text t from place i on
pub record From (t : List ℕ) (i : ℕ) (r : List ℕ) : Type 0 where
  pub within : i ≤ length t
  pub rest : drop i t ≡ r

-- what a reader says of such a rest, by places of t
module _ (t : List ℕ) (i : ℕ) (r : List ℕ) (from : From t i r) where
  long : length t ≡ i + length r
  long = omega (arith, from.within, length-drop i t, ap length from.rest)

  pub field_at : {A : Type 0} (F : A → List ℕ → Type 0) (a : A) (rest : List ℕ) → FrontOf F r a rest → FieldAt F t i a (length t - length rest) × From t (length t - length rest) rest
  field_at F a rest f =
      let sum : length r ≡ length f.fore + length rest = ap length f.whole ∙ simp length-append refl in
      let n : length t - length rest - i ≡ length f.fore = omega (arith, long, sum) in
      let le : i ≤ length t - length rest = omega (arith, long, sum) in
      let whole : drop i t ≡ f.fore ++ rest = from.rest ∙ f.whole in
      let fore : take (length t - length rest - i) (drop i t) ≡ f.fore = ap (take (length t - length rest - i)) whole ∙ take_at f.fore rest _ (sym n) in (
        record { after = le; within = omega arith; field = subst (F a) (sym fore) f.field },
        record { within = omega arith; rest = sym (drop_on t i (length t - length rest) le) ∙ ap (drop (length t - length rest - i)) whole ∙ drop_at f.fore rest _ (sym n) },
      )

  pub damage_in : (L : List ℕ → Type 0) (left : List ℕ) → StuckAt L r left → DamageAt L t i (length t - length left)
  damage_in L left d =
      let n : length r - length left ≡ length t - length left - i = omega (arith, long, d.within) in
      record {
        after = omega (arith, long, d.within);
        within = omega arith;
        damage = subst (λ l. Damaged L l (length t - length left - i)) (sym from.rest) (subst (Damaged L r) n d.damage);
      }

  pub left_within : (L : List ℕ → Type 0) (left : List ℕ) → StuckAt L r left → length left ≤ length t
  left_within L left d = omega (arith, long, d.within)

pub from_start : (t : List ℕ) → From t 0 t
from_start t = record { within = omega arith; rest = refl }

pub from_place : (t : List ℕ) (i : ℕ) → i ≤ length t → From t i (take (length t - i) (drop i t))
from_place t i le = record { within = le; rest = sym (take_rest t i) }

-- and of damage in the whole of t
pub stuck_from : (L : List ℕ → Type 0) (t left : List ℕ) → DamageAt L t 0 (length t - length left) → length left ≤ length t → StuckAt L t left
stuck_from L t left d le =
    let s : length t - length left - 0 ≡ length t - length left = omega arith in
    record { within = le; damage = subst (Damaged L t) s d.damage }

pub front_from : {A : Type 0} (F : A → List ℕ → Type 0) (t : List ℕ) (a : A) (rest : List ℕ) → FieldAt F t 0 a (length t - length rest) → From t (length t - length rest) rest → FrontOf F t a rest
front_from F t a rest f from =
    record { fore = _; field = f.field; whole = sym (take-append-drop (length t - length rest - 0) t) ∙ (ap (λ l. take (length t - length rest - 0) t ++ l) (ap (λ k. drop k t) z ∙ from.rest)) }
  where
    z : length t - length rest - 0 ≡ length t - length rest
    z = omega arith
