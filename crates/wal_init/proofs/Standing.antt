-- What an opening leaves in its store.
use Rattle.std.proofs.Common.{◌≡◌, ℕ, ◌+◌, ◌-◌, ◌<◌, true, false, cond, eqb, ltb, ◌⊎◌, List, [], ◌∷◌, is_some, Some, None, Option, sym, refl, ap, ◌∙◌, subst, inl, inr, ⊎_elim, arith}
use Rattle.std.proofs.lemmas.Bool.{cases_Bool, both_ways, cond_both, cond-true, cond-false, lt-ltb, le-ltb, eqb-true, eq-eqb, or_from}
use Rattle.causes.specs.Said.{Said, refused, granted}
use Rattle.store.specs.Meaning.{Held, Meaning, added}
use Rattle.store.specs.Calls.{put_says, put_leaves, lacks}
use Rattle.wal.specs.Said.{fault}
use Rattle.wal_init.specs.declared.record.ManifestRecord.{ManifestRecord}
use Rattle.wal_init.specs.declared.record.Options.{Options}
use Rattle.wal_init.specs.Fences.{Tried, spent, settled, fence_says, Fenced}
use Rattle.wal_init.specs.WriterInit.{said_grant, first_says, begin_says, start_says}
use Rattle.wal_init.specs.Laws.{GrantedOpeningsFence, FreeIdsAreGranted, FilesStay, RefusedOpeningsLeave}
use Rattle.wal_init.proofs.Beginning.{number_of}
use Rattle.wal_init.proofs.Outcomes.{never, never_zero, one_stop, turned, apart, first_of, second_of}

pub none_where_not : {A : Type 0} (o : Option A) → is_some o ≡ false → o ≡ None
none_where_not None e = refl
none_where_not (Some x) e = absurd (both_ways true e refl)

-- the put of a fence: the id has a file, there is no room, or the file is added
module _ (h : Held) (id : ℕ) where
  pub taken : is_some (h.files id) ≡ true → put_says h id [] ≡ refused 1 (id ∷ [])
  taken e = cond-true _ _ _ e

  pub crowded : is_some (h.files id) ≡ false → lacks h 0 ≡ true → put_says h id [] ≡ refused 3 (id ∷ [])
  crowded e l = cond-false _ _ _ e ∙ cond-true _ _ _ l

  pub lands : is_some (h.files id) ≡ false → lacks h 0 ≡ false → put_says h id [] ≡ granted []
  lands e l = cond-false _ _ _ e ∙ cond-false _ _ _ l

  abbrev kept_where : Said → Held
  kept_where s = cond (eqb s.number 0) (added h id []) h

  -- what is said where the last put stood, with what it leaves
  ways : (P : Said → Held → Type 0) → (is_some (h.files id) ≡ true → P (refused 1 (id ∷ [])) h) → (is_some (h.files id) ≡ false → P (refused 3 (id ∷ [])) h) → (is_some (h.files id) ≡ false → P (granted []) (added h id [])) → P (put_says h id []) (put_leaves h id [])
  ways P a b c =
      ⊎_elim
      (λ (e : is_some (h.files id) ≡ true). subst (λ s. P s (kept_where s)) (sym (taken e)) (a e))
      (λ (e : is_some (h.files id) ≡ false).
      ⊎_elim
      (λ (l : lacks h 0 ≡ true). subst (λ s. P s (kept_where s)) (sym (crowded e l)) (b e))
      (λ (l : lacks h 0 ≡ false). subst (λ s. P s (kept_where s)) (sym (lands e l)) (c e))
      (cases_Bool (lacks h 0)))
      (cases_Bool (is_some (h.files id)))

  leaves_files : (k : ℕ) (old : List ℕ) → h.files k ≡ Some old → (put_leaves h id []).files k ≡ Some old
  leaves_files k old e =
      ways (λ _ x. x.files k ≡ Some old) (λ _. e) (λ _. e)
      (λ f. cond_both (eqb k id) (Some []) (h.files k) (λ x. x ≡ Some old)
      (λ t. absurd (both_ways (is_some (h.files id)) f (ap (λ n. is_some (h.files n)) (sym (eqb-true k id t)) ∙ ap is_some e)))
      (λ _. e))

fenced_stay : (before after : Meaning) (start : ℕ) (s : Said) → Fenced before after start s → (k : ℕ) (old : List ℕ) → before.held.files k ≡ Some old → after.held.files k ≡ Some old
fenced_stay before after start s w k old e =
    let put : after.held ≡ put_leaves before.held w.id [] → after.held.files k ≡ Some old = λ q. ap (λ (h : Held). h.files k) q ∙ leaves_files before.held w.id k old e in
    ⊎_elim (λ a. put a.2) (λ u. ⊎_elim (λ (q : after.held ≡ before.held). ap (λ (h : Held). h.files k) q ∙ e) put u.1) w.answer

pub stays : FilesStay
stays before after m id o r p k old e =
    ⊎_elim (λ a. ap (λ (h : Held). h.files k) a.held ∙ e) (λ b. fenced_stay before after b.start (said_grant r) b.fenced k old e) p.outcome

pub leaves : RefusedOpeningsLeave
leaves before after m id o f p =
    ⊎_elim (λ a. inl a.held)
    (λ b. ⊎_elim
    (λ a. (let w = b.fenced in ways before.held w.id (λ s x. fault f ≡ settled b.start w.id s → after.held ≡ x → (after.held ≡ before.held) ⊎ ((fault f).number ≡ 6))
    (λ _ e q. inl q) (λ _ e q. inl q) (λ _ e q. absurd (both_ways (eqb (fault f).number 0) (never_zero f) (ap (λ (s : Said). eqb s.number 0) e))) a.1 a.2))
    (λ u. inr (ap number_of u.0.says))
    b.fenced.answer)
    p.outcome

-- a fence that is granted landed at the first free id
module _ (before after : Meaning) (start f n : ℕ) (w : Fenced before after start (granted (f ∷ n ∷ []))) where
  pub record Landed : Type 0 where
    pub at : f ≡ w.id
    pub absent : before.held.files w.id ≡ None
    pub present : after.held.files w.id ≡ Some []
    pub count : n + start ≡ w.id + 1

  not_spent : granted (f ∷ n ∷ []) ≡ spent start w.id → ⊥
  not_spent =
      cond_both (eqb w.id (start + 4095)) (refused 15 (w.id ∷ [])) (refused 14 ((w.id + 1) ∷ [])) (λ s. granted (f ∷ n ∷ []) ≡ s → ⊥)
      (λ _ e. (let z : 0 ≡ 15 = ap number_of e in omega arith))
      (λ _ e. (let z : 0 ≡ 14 = ap number_of e in omega arith))

  pub landed : Landed
  landed =
      let h = before.held in
      let id = w.id in
      ⊎_elim
      (λ a. ways h id (λ s x. granted (f ∷ n ∷ []) ≡ settled start id s → after.held ≡ x → Landed)
      (λ _ e q. absurd (not_spent e))
      (λ _ e q. (let z : 0 ≡ 3 = ap number_of e in absurd (omega arith)))
      (λ c e q. (let k : n ≡ id - start + 1 = ap second_of e in let b = w.tried.from in record {
        at = ap first_of e;
        absent = none_where_not (h.files id) c;
        present = ap (λ (x : Held). x.files id) q ∙ cond-true (eqb id id) (Some []) (h.files id) (eq-eqb id id refl);
        count = omega arith;
      }))
      a.1 a.2)
      (λ u. (let z : 0 ≡ 6 = ap number_of u.0.says in absurd (omega arith)))
      w.answer

-- where the record does not cover the id given, it is the one to begin at
from_given : (h : Held) (m : ManifestRecord) (id : ℕ) (o : Options) (start : ℕ) → start_says h m id o ≡ granted (start ∷ []) → m.replay_after_wal_id < id → start ≡ id
from_given h m id o start e l =
    let g : begin_says h m id ≡ granted (id ∷ []) = cond-true _ _ _ (lt-ltb m.replay_after_wal_id id l) in
    ⊎_elim
    (λ (t : eqb (first_says m id o).number 0 ≡ true). ap first_of (sym e ∙ cond-true _ (begin_says h m id) (first_says m id o) t ∙ g))
    (λ (f : eqb (first_says m id o).number 0 ≡ false).
    absurd (both_ways (eqb (first_says m id o).number 0) f (ap (λ (s : Said). eqb s.number 0) (sym (cond-false _ (begin_says h m id) (first_says m id o) f) ∙ e))))
    (cases_Bool (eqb (first_says m id o).number 0))

pub stands : GrantedOpeningsFence
stands before after m id o g p =
    ⊎_elim
    (λ a. absurd (both_ways true a.cause refl))
    (λ b. (let w = b.fenced in let l = landed before after b.start g.fence g.attempts w in let at = l.at in record {
      start = b.start;
      begins = b.begins;
      given = from_given before.held m id o b.start b.begins;
      from = omega (arith, w.tried.from);
      met = λ k x y. w.tried.met k x (omega arith);
      absent = ap before.held.files at ∙ l.absent;
      present = ap after.held.files at ∙ l.present;
      attempts = omega (arith, l.count);
    }))
    p.outcome

-- the start of an opening that the record does not cover
starts_given : (h : Held) (m : ManifestRecord) (id : ℕ) (o : Options) → first_says m id o ≡ granted [] → m.replay_after_wal_id < id → start_says h m id o ≡ granted (id ∷ [])
starts_given h m id o e l =
    ap (λ s. cond (eqb (number_of s) 0) (begin_says h m id) s) e ∙ cond-true _ _ _ (lt-ltb m.replay_after_wal_id id l)

-- a fence that is put from an id on lands at the first free one
at_free : (before after : Meaning) (start free : ℕ) (s : Said) → before.steady ≡ true → Fenced before after start s → Tried before.held start free → before.held.files free ≡ None → 0 < before.held.places → s ≡ granted (free ∷ (free - start + 1) ∷ [])
at_free before after start free s st w t e room =
    let h = before.held in
    ⊎_elim
    (λ a. (let i : w.id ≡ free = one_stop h start w.id free w.tried a.0 t (inl e) in
    let l : lacks h 0 ≡ false = or_from (ltb h.places 1) (ltb h.bytes 0) (le-ltb h.places 1 (omega arith)) (le-ltb h.bytes 0 (omega arith)) in
    a.1 ∙ ap (fence_says h start) i ∙ ap (settled start free) (lands h free (ap is_some e) l)))
    (λ u. absurd (never before st u.0.unsteady))
    w.answer

pub granted_free : FreeIdsAreGranted
granted_free before after m id o r free p st e l t none room =
    let s = starts_given before.held m id o e l in
    ⊎_elim
    (λ a. absurd (apart before.held m id o (said_grant r) id a.cause (turned before after m id o (said_grant r) st a) s))
    (λ b. (let i : b.start ≡ id = ap first_of (sym b.begins ∙ s) in at_free before after id free (said_grant r) st (subst (λ k. Fenced before after k (said_grant r)) i b.fenced) t none room))
    p.outcome
