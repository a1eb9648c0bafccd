-- An opening whose id the record covers.
use Rattle.std.proofs.Common.{◌≡◌, ℕ, ◌+◌, ◌^◌, ◌<◌, ◌≤◌, true, false, eqb, ltb, [], ◌∷◌, is_some, sym, refl, ap, ◌∙◌, inl, ⊎_elim, arith}
use Rattle.std.proofs.lemmas.Bool.{cases_Bool, cases_lt, both_ways, cond_both, cond-true, cond-false, le-ltb}
use Rattle.causes.specs.Said.{Said, refused, granted}
use Rattle.store.specs.Meaning.{Held, Meaning}
use Rattle.wal.specs.Probes.{first_absent, offset_of, calls}
use Rattle.wal.specs.Tails.{behind, found, tail_says}
use Rattle.wal.proofs.Tailing.{tails_reach}
use Rattle.wal_init.specs.declared.record.ManifestRecord.{ManifestRecord}
use Rattle.wal_init.specs.declared.record.Options.{Options}
use Rattle.wal_init.specs.WriterInit.{id_says, first_says, past_tail, begin_says, start_says}
use Rattle.wal_init.specs.Laws.{CoveredIdsTakeOne}
use Rattle.wal_init.proofs.Beginning.{number_of}
use Rattle.wal_init.proofs.Outcomes.{first_of}
use Rattle.wal_init.proofs.Standing.{stands}

-- no file is right behind a tail
free_behind : (before : Meaning) (start t c : ℕ) → tail_says before.held start ≡ granted (t ∷ c ∷ []) → is_some (before.held.files (t + 1)) ≡ false
free_behind before start t c e = (tails_reach before before start (t, c) (record { steady = λ s. s; held = refl; answer = inl (sym e) })).next

-- one more than a tail has no file
module _ (before : Meaning) (start n : ℕ) where
  abbrev Free : Said → Type 0
  Free s = past_tail s ≡ granted (n ∷ []) → tail_says before.held start ≡ s → is_some (before.held.files n) ≡ false

  next_id : (k : ℕ) → id_says k ≡ granted (n ∷ []) → k ≡ n
  next_id k =
      cond_both (ltb (2 ^ 62) k) (refused 14 (k ∷ [])) (granted (k ∷ [])) (λ s. s ≡ granted (n ∷ []) → k ≡ n)
      (λ _ e. (let z : 14 ≡ 0 = ap number_of e in absurd (omega arith)))
      (λ _ e. ap first_of e)

  past : past_tail (tail_says before.held start) ≡ granted (n ∷ []) → is_some (before.held.files n) ≡ false
  past e =
      let h = before.held in
      let p = behind h start in
      let t = start + offset_of p (first_absent p) in
      cond_both (ltb (2 ^ 62) start) (refused 14 (start ∷ [])) (found h start (first_absent p)) Free
      (λ _ x _. (let z : 14 ≡ 0 = ap number_of x in absurd (omega arith)))
      (λ _. cond_both (eqb (first_absent p) 48) (refused 13 (start ∷ [])) (granted (t ∷ calls (first_absent p) ∷ [])) Free
      (λ _ x _. (let z : 13 ≡ 0 = ap number_of x in absurd (omega arith)))
      (λ _ x q. ap (λ k. is_some (h.files k)) (sym (next_id (t + 1) x)) ∙ free_behind before start t (calls (first_absent p)) q))
      e refl

-- where the record covers the id given, the one to begin at is behind the tail
from_tail : (h : Held) (m : ManifestRecord) (id : ℕ) (o : Options) (start : ℕ) → start_says h m id o ≡ granted (start ∷ []) → id ≤ m.replay_after_wal_id → past_tail (tail_says h m.replay_after_wal_id) ≡ granted (start ∷ [])
from_tail h m id o start e l =
    let g : begin_says h m id ≡ past_tail (tail_says h m.replay_after_wal_id) = cond-false _ _ _ (le-ltb m.replay_after_wal_id id l) in
    ⊎_elim
    (λ (t : eqb (first_says m id o).number 0 ≡ true). sym g ∙ sym (cond-true _ (begin_says h m id) (first_says m id o) t) ∙ e)
    (λ (f : eqb (first_says m id o).number 0 ≡ false).
    absurd (both_ways (eqb (first_says m id o).number 0) f (ap (λ (s : Said). eqb s.number 0) (sym (cond-false _ (begin_says h m id) (first_says m id o) f) ∙ e))))
    (cases_Bool (eqb (first_says m id o).number 0))

pub covered : CoveredIdsTakeOne
covered before after m id o g p l =
    let w = stands before after m id o g p in
    let free = past before m.replay_after_wal_id w.start (from_tail before.held m id o w.start w.begins l) in
    ⊎_elim
    (λ (b : w.start < g.fence). absurd (both_ways (is_some (before.held.files w.start)) free (w.met w.start (omega arith) b)))
    (λ (b : g.fence ≤ w.start). omega (arith, w.from, w.attempts))
    (cases_lt w.start g.fence)
