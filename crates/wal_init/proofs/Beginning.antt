-- A fence that is put after the id to begin at was asked for.
use Rattle.std.proofs.Common.{◌≡◌, ℕ, ◌≤◌, Bool, true, false, cond, eqb, ◌⊎◌, [], ◌∷◌, Err, sym, ap, ◌∙◌, subst, inl, inr, ⊎_elim, arith}
use Rattle.std.proofs.lemmas.Bool.{both_ways, false_from_ne_true, cond-false, le-ltb}
use Rattle.causes.specs.Said.{Said, granted}
use Rattle.store.specs.Meaning.{Held, Meaning}
use Rattle.store.specs.Calls.{OwnFault, put_leaves}
use Rattle.wal.specs.declared.fault.WalFault.{WalFault}
use Rattle.wal.specs.Said.{fault}
use Rattle.wal.specs.Tails.{tail_says, Tail}
use Rattle.wal_init.specs.declared.record.ManifestRecord.{ManifestRecord}
use Rattle.wal_init.specs.declared.record.Options.{Options}
use Rattle.wal_init.specs.Fences.{Tried, Stops, fence_says, Fenced}
use Rattle.wal_init.specs.WriterInit.{first_says, past_tail, begin_says, Begins, Begun, Opened}
use Rattle.wal_init.proofs.Outcomes.{never_zero}

abbrev pub number_of : Said → ℕ
number_of s = s.number

-- a store that is unsteady later was unsteady before
pub was_unsteady : (a b : Bool) → (a ≡ true → b ≡ true) → b ≡ false → a ≡ false
was_unsteady a b up f = false_from_ne_true a (λ t. both_ways b f (up t))

-- what is held counts, and not which of two stores holds it
module _ (a b c : Meaning) (start : ℕ) (s : Said) (same : b.held ≡ a.held) (up : a.steady ≡ true → b.steady ≡ true) where
  pub fenced_before : Fenced b c start s → Fenced a c start s
  fenced_before f =
      let P : Held → Type 0 = λ h. Tried h start f.id in
      let Q : Held → Type 0 = λ h. Stops h start f.id × (s ≡ fence_says h start f.id) × (c.held ≡ put_leaves h f.id []) in
      let R : Held → Type 0 = λ h. (c.held ≡ h) ⊎ (c.held ≡ put_leaves h f.id []) in
      record {
        steady = λ t. f.steady (up t);
        id = f.id;
        tried = subst P same f.tried;
        answer = ⊎_elim (λ (x : Q b.held). inl (subst Q same x)) (λ (x : OwnFault b f.id s × R b.held). inr (record { unsteady = was_unsteady a.steady b.steady up x.0.unsteady; says = x.0.says }, subst R same x.1)) f.answer;
      }

module _ (a b c : Meaning) (m : ManifestRecord) (id : ℕ) (o : Options) (start : ℕ) (s : Said) where
  pub begun : first_says m id o ≡ granted [] → Begins a b m id (granted (start ∷ [])) → Fenced b c start s → Begun a c m id o s
  begun e w f = record {
    start = start;
    begins = ap (λ x. cond (eqb (number_of x) 0) (begin_says a.held m id) x) e
        ∙ ⊎_elim (λ q. sym q) (λ u. (let z : 0 ≡ 6 = ap number_of u.cut.says in absurd (omega arith))) w.answer;
    fenced = fenced_before a b c start s w.held w.steady f;
  }

module _ (a b c : Meaning) (m : ManifestRecord) (id : ℕ) (o : Options) (start : ℕ) (f : WalFault) where
  pub refused_fence : first_says m id o ≡ granted [] → Begins a b m id (granted (start ∷ [])) → Fenced b c start (fault f) → Opened a c m id o (Err f)
  refused_fence e w q = record { steady = λ t. q.steady (w.steady t); outcome = inr (begun a b c m id o start (fault f) e w q); carries = tt }

-- arguments against which nothing stands
pub no_cause : (m : ManifestRecord) (id : ℕ) (o : Options) → first_says m id o ≡ granted [] → eqb (first_says m id o).number 0 ≡ false → ⊥
no_cause m id o e f = let q : eqb (number_of (first_says m id o)) 0 ≡ true = ap (λ s. eqb (number_of s) 0) e in both_ways (eqb (first_says m id o).number 0) f q

-- what stands against a tail stands against the id to begin at
pub tail_refused : (before after : Meaning) (m : ManifestRecord) (id : ℕ) (f : WalFault) → id ≤ m.replay_after_wal_id → Tail before after m.replay_after_wal_id (Err f) → Begins before after m id (fault f)
tail_refused before after m id f l t =
    let says : fault f ≡ tail_says before.held m.replay_after_wal_id → fault f ≡ begin_says before.held m id = λ q. sym (cond-false _ _ _ (le-ltb m.replay_after_wal_id id l) ∙ ap past_tail (sym q) ∙ cond-false _ _ _ (never_zero f)) in
    record { steady = t.steady; held = t.held; answer = ⊎_elim (λ q. inl (says q)) (λ u. inr (record { covered = l; cut = u })) t.answer }
