-- The kept answers of a round, told of the store before all rounds.
use Rattle.std.proofs.Common.{◌≡◌, ℕ, ◌+◌, ◌-◌, ◌^◌, ◌<◌, ◌≤◌, Bool, true, false, List, get_or, Ok, Err, Result, refl, ap, ◌∙◌, inl, inr, arith}
use Rattle.std.proofs.lemmas.Bool.{cases_lt}
use Rattle.store.specs.declared.fault.StoreFault.{StoreFault}
use Rattle.store.specs.declared.fault.StoreFault.TheVariants.{Unavailable}
use Rattle.store.specs.Meaning.{Meaning}
use Rattle.wal.specs.Tails.{behind}
use Rattle.wal.specs.Asking.{Tells, Same, Round}
use Rattle.wal.proofs.Keeping.{tells_back, tells_ok, tells_err}

module _ (a b c : Meaning) (start exp : ℕ) (rs : List (Result Bool StoreFault)) (s : Same a b) (r : Round b c start exp rs) where
  told : (j : ℕ) → j < 8 → Tells a (start + 2 ^ (exp + j)) (get_or rs j (Ok false))
  told j l = tells_back a b (start + 2 ^ (exp + j)) (get_or rs j (Ok false)) s (r.each j l)

  pub is_there : (j : ℕ) (b v : Bool) → j < 8 → get_or rs j (Ok false) ≡ Ok b → b ≡ v → behind a.held start (2 ^ (exp + j)) ≡ v
  is_there j b v l e q = tells_ok a (start + 2 ^ (exp + j)) (get_or rs j (Ok false)) b v (told j l) e q

  pub is_cut : (j : ℕ) (f : StoreFault) → j < 8 → get_or rs j (Ok false) ≡ Err f → (a.steady ≡ false) × (f ≡ Unavailable (start + 2 ^ (exp + j)))
  is_cut j f l e = tells_err a (start + 2 ^ (exp + j)) (get_or rs j (Ok false)) f (told j l) e

  pub more_there : (n : ℕ) → n ≤ 8 → ((k : ℕ) → k < exp → behind a.held start (2 ^ k) ≡ true)
      → ((j : ℕ) → j < n → get_or rs j (Ok false) ≡ Ok true) → (k : ℕ) → k < exp + n → behind a.held start (2 ^ k) ≡ true
  more_there n w old t k h =
      elim (cases_lt k exp) [
        | inl lo ↦ old k lo
        | inr hi ↦
            let u : k - exp < 8 = omega arith in
            let v : k - exp < n = omega arith in
            let e : k ≡ exp + (k - exp) = omega arith in
            ap (λ (i : ℕ). behind a.held start (2 ^ i)) e ∙ is_there (k - exp) true true u (t (k - exp) v) refl
      ]
