-- The outcomes of a store's calls.
use Rattle.std.proofs.Common.{◌≡◌, ℕ, Bool, true, cond, eqb, List, get_or, Ok, Err, Result, sym, refl, ap, ◌∙◌, ⊎_elim, arith, rules}
use Rattle.store.specs.declared.fault.StoreFault.{StoreFault}
use Rattle.store.specs.declared.fault.StoreFault.TheVariants.{Exists, Missing, NoRoom, TooLong, Short, Unavailable}
use Rattle.causes.specs.Said.{Said}
use Rattle.store.specs.Said.{fault, said, said_length}
use Rattle.store.specs.Meaning.{Meaning, Held}
use Rattle.store.specs.Calls.{put_says, put_leaves, Put, OwnFault}
use Rattle.store.specs.Laws.{OnePut, OneHead, OneRead, GrantedPutsCreate, FilesStay, RefusedPutsLeave}

-- the fault of a number and its value
fault_of : ℕ → ℕ → StoreFault
fault_of n v =
    cond (eqb n 1) (Exists v)
    (cond (eqb n 2) (Missing v)
    (cond (eqb n 3) (NoRoom v)
    (cond (eqb n 4) (TooLong v)
    (cond (eqb n 5) (Short v)
    (Unavailable v)))))

-- an answer is known by what it says, and by the value that a granted one has
told : {A : Type 0} → A → Said → Result A StoreFault
told a s = cond (eqb s.number 0) (Ok a) (Err (fault_of s.number (get_or s.values 0 0)))

told_fault : {A : Type 0} (a : A) (f : StoreFault) → told a (fault f) ≡ Err f
unfolding told fault_of
told_fault a (Exists id) = refl
told_fault a (Missing id) = refl
told_fault a (NoRoom id) = refl
told_fault a (TooLong id) = refl
told_fault a (Short n) = refl
told_fault a (Unavailable id) = refl

told_back : (r : Result (Unit {0}) StoreFault) → told tt (said r) ≡ r
unfolding told
told_back (Ok u) = refl
told_back (Err f) = told_fault tt f

told_length : Said → Result ℕ StoreFault
told_length s = told (get_or s.values 0 0) s

told_length_back : (r : Result ℕ StoreFault) → told_length (said_length r) ≡ r
unfolding told told_length
told_length_back (Ok n) = refl
told_length_back (Err f) = told_fault (get_or (fault f).values 0 0) f

-- two answers that say the same are the same
pub said_once : (r s : Result (Unit {0}) StoreFault) → said r ≡ said s → r ≡ s
said_once r s e = sym (told_back r) ∙ ap (told tt) e ∙ told_back s

pub said_length_once : (r s : Result ℕ StoreFault) → said_length r ≡ said_length s → r ≡ s
said_length_once r s e = sym (told_length_back r) ∙ ap told_length e ∙ told_length_back s

same_meaning : (x y : Meaning) → x.held ≡ y.held → x.steady ≡ y.steady → x ≡ y
same_meaning x y p q = let f : Held → Bool → Meaning = λ h b. record { held = h; steady = b } in ap (λ h. f h x.steady) p ∙ ap (f y.held) q

-- a steady store is not unavailable
never : (before : Meaning) (id : ℕ) (s : Said) → before.steady ≡ true → OwnFault before id s → ⊥
never before id s e u = let z : ◌≡◌ {A = ℕ} 0 1 = let q = sym e ∙ u.unsteady in cc in omega arith

module _ (before after : Meaning) (id : ℕ) (text : List ℕ) (r : Result (Unit {0}) StoreFault) (st : before.steady ≡ true) where
  exact_put : Put before after id text r → (said r ≡ put_says before.held id text) × (after.held ≡ put_leaves before.held id text)
  exact_put p = ⊎_elim (λ a. a) (λ u. absurd (never before id (said r) st u.0)) p.answer

pub one_put : OnePut
one_put before x y id text r s st p q =
    let a = exact_put before x id text r st p in
    let b = exact_put before y id text s st q in
    (said_once r s (a.0 ∙ sym b.0), same_meaning x y (a.1 ∙ sym b.1) (p.steady st ∙ sym (q.steady st)))

pub one_head : OneHead
one_head before x y id r s st p q =
    let none = never before id in
    let a = ⊎_elim (λ a. a.0) (λ u. absurd (none (said_length r) st u)) p.answer in
    let b = ⊎_elim (λ a. a.0) (λ u. absurd (none (said_length s) st u)) q.answer in
    (said_length_once r s (a ∙ sym b), same_meaning x y (p.held ∙ sym q.held) (p.steady st ∙ sym (q.steady st)))

pub one_read : OneRead
one_read before x y id buffer u v r s st p q =
    let none = never before id in
    let a = ⊎_elim (λ a. a) (λ k. absurd (none (said_length r) st k.0)) p.answer in
    let b = ⊎_elim (λ a. a) (λ k. absurd (none (said_length s) st k.0)) q.answer in
    (said_length_once r s (a.0 ∙ sym b.0), same_meaning x y (p.held ∙ sym q.held) (p.steady st ∙ sym (q.steady st)), a.1 ∙ sym b.1)

pub created : GrantedPutsCreate
created before after id text p = search rules

pub stays : FilesStay
stays before after id text r p k old e = search rules

pub leaves : RefusedPutsLeave
leaves before after id text f p = search rules
