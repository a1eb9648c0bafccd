-- A store that holds the same answers a later call as it would have answered at first.
use Rattle.std.proofs.Common.{◌≡◌, ℕ, Bool, true, false, is_some, IsErrAnd, Ok, Err, Result, sym, refl, ap, ◌∙◌, inl, inr}
use Rattle.std.proofs.lemmas.Result.{err_from_is_err_and}
use Rattle.store.specs.declared.fault.StoreFault.{StoreFault}
use Rattle.store.specs.declared.fault.StoreFault.TheVariants.{Unavailable}
use Rattle.store.specs.Meaning.{Held, Meaning}
use Rattle.wal.specs.declared.fault.WalFault.{WalFault}
use Rattle.wal.specs.declared.fault.WalFault.TheVariants.{Store}
use Rattle.wal.specs.Asking.{Tells, Same}

pub same_refl : (a : Meaning) → Same a a
same_refl a = record { steady = λ h. h; held = refl }

pub same_trans : (a b c : Meaning) → Same a b → Same b c → Same a c
same_trans a b c p q = record { steady = λ h. q.steady (p.steady h); held = q.held ∙ p.held }

unsteady_from : (x y : Bool) → (x ≡ true → y ≡ true) → y ≡ false → x ≡ false
unsteady_from false y f h = refl
unsteady_from true y f h = sym (f refl) ∙ h

pub unsteady_back : (a b : Meaning) → Same a b → b.steady ≡ false → a.steady ≡ false
unsteady_back a b p h = unsteady_from a.steady b.steady p.steady h

pub tells_back : (a b : Meaning) (id : ℕ) (r : Result Bool StoreFault) → Same a b → Tells b id r → Tells a id r
tells_back a b id r p t =
    elim t [
      | inl e ↦ inl (e ∙ ap (λ (h : Held). Ok (is_some (h.files id))) p.held)
      | inr e ↦ inr (unsteady_back a b p e.0, e.1)
    ]

pub tells_ok : (m : Meaning) (id : ℕ) (r : Result Bool StoreFault) (b v : Bool) → Tells m id r → r ≡ Ok b → b ≡ v → is_some (m.held.files id) ≡ v
tells_ok m id r b v t q s = elim t [ inl e ↦ cc | inr e ↦ (let w : r ≡ Err (Unavailable id) = e.1 in cc) ]

pub tells_err : (m : Meaning) (id : ℕ) (r : Result Bool StoreFault) (f : StoreFault) → Tells m id r → r ≡ Err f → (m.steady ≡ false) × (f ≡ Unavailable id)
tells_err m id r f t q = elim t [ inl e ↦ (cc, cc) | inr e ↦ (e.0, (let w : r ≡ Err (Unavailable id) = e.1 in cc)) ]

pub pair_is : (a b x y : ℕ) → a ≡ x → b ≡ y → ◌≡◌ {A = Result (ℕ × ℕ) WalFault} (Ok (a, b)) (Ok (x, y))
pair_is a b x y p q = λ i. Ok (p i, q i)

-- a store's fault that `?` has carried up
pub carried : (r : Result (ℕ × ℕ) WalFault) (f g : StoreFault) → IsErrAnd r (λ y. y ≡ Store f) → f ≡ g → r ≡ Err (Store g)
carried r f g e q = let p = err_from_is_err_and r e in p.1 ∙ ap Err (p.2 ∙ ap Store q)
