-- The outcomes of an opening.
use Rattle.std.proofs.Common.{◌≡◌, ℕ, ◌<◌, Bool, true, false, eqb, ◌⊎◌, [], ◌∷◌, get_or, is_some, None, Ok, Err, Result, sym, refl, ap, ◌∙◌, subst, ⊎_elim, arith}
use Rattle.std.proofs.lemmas.Bool.{cases_order, both_ways}
use Rattle.causes.specs.Said.{Said, granted}
use Rattle.store.specs.Meaning.{Held, Meaning}
use Rattle.store.specs.Calls.{put_leaves}
use Rattle.wal.specs.declared.fault.WalFault.{WalFault}
use Rattle.wal.specs.declared.fault.WalFault.TheVariants.{Store, Fenced, WalTruncated, Closed, DataError, InternalError, InvalidSSTBatchSize, InvalidDBState, IdsSpent, Attempts, OutOfOrder, WriterFull, Busy, TicketsSpent, NotReplayed, BlockSize}
use Rattle.store.specs.declared.fault.StoreFault.TheVariants.{Exists, Missing, NoRoom, TooLong, Short, Unavailable}
use Rattle.wal.specs.Said.{fault}
use Rattle.wal.proofs.Telling.{told_apart}
use Rattle.wal_init.specs.declared.record.ManifestRecord.{ManifestRecord}
use Rattle.wal_init.specs.declared.record.Options.{Options}
use Rattle.wal_init.specs.declared.grant.Grant.{Grant}
use Rattle.wal_init.specs.Fences.{reach, Tried, Stops, fence_says}
use Rattle.wal_init.specs.Fences as fences
use Rattle.wal_init.specs.WriterInit.{said_grant, start_says, TurnedAway, Begun, Carries}
use Rattle.wal_init.specs.Laws.{Alike, OneOpening}

-- a steady store has no fault of its own
pub never : (before : Meaning) → before.steady ≡ true → before.steady ≡ false → ⊥
never before t f = both_ways before.steady f t

pub same_meaning : (x y : Meaning) → x.held ≡ y.held → x.steady ≡ y.steady → x ≡ y
same_meaning x y p q = let f : Held → Bool → Meaning = λ h b. record { held = h; steady = b } in ap (λ h. f h x.steady) p ∙ ap (f y.held) q

-- no cause has the number 0
pub never_zero : (f : WalFault) → eqb (fault f).number 0 ≡ false
never_zero (Store (Exists id)) = refl
never_zero (Store (Missing id)) = refl
never_zero (Store (NoRoom id)) = refl
never_zero (Store (TooLong id)) = refl
never_zero (Store (Short n)) = refl
never_zero (Store (Unavailable id)) = refl
never_zero (Fenced id) = refl
never_zero (WalTruncated id) = refl
never_zero Closed = refl
never_zero (DataError file line place) = refl
never_zero (InternalError id least greatest) = refl
never_zero (InvalidSSTBatchSize window) = refl
never_zero (InvalidDBState start) = refl
never_zero (IdsSpent id) = refl
never_zero (Attempts id) = refl
never_zero (OutOfOrder line) = refl
never_zero (WriterFull over) = refl
never_zero (Busy tickets requests) = refl
never_zero TicketsSpent = refl
never_zero (NotReplayed fence) = refl
never_zero (BlockSize size) = refl

-- the trying does not pass the id where it stops
not_past : (h : Held) (start i j : ℕ) → Tried h start i → Stops h start i → Tried h start j → i < j → ⊥
not_past h start i j t s u l =
    ⊎_elim
    (λ (e : h.files i ≡ None). both_ways (is_some (h.files i)) (ap is_some e) (u.met i t.from l))
    (λ (e : i ≡ reach start). (let w = u.within in omega arith))
    s

pub one_stop : (h : Held) (start i j : ℕ) → Tried h start i → Stops h start i → Tried h start j → Stops h start j → i ≡ j
one_stop h start i j t s u v =
    ⊎_elim (λ e. e) (⊎_elim (λ (l : i < j). absurd (not_past h start i j t s u l)) (λ (l : j < i). absurd (not_past h start j i u v t l))) (cases_order i j)

module _ (before x y : Meaning) (start : ℕ) (s t : Said) (st : before.steady ≡ true) (p : fences.Fenced before x start s) (q : fences.Fenced before y start t) where
  abbrev Exact : (after : Meaning) → ℕ → Said → Type 0
  Exact after id r = Stops before.held start id × (r ≡ fence_says before.held start id) × (after.held ≡ put_leaves before.held id [])

  one_fence : (s ≡ t) × (x.held ≡ y.held)
  one_fence =
      let h = before.held in
      let a : Exact x p.id s = ⊎_elim (λ e. e) (λ u. absurd (never before st u.0.unsteady)) p.answer in
      let b : Exact y q.id t = ⊎_elim (λ e. e) (λ u. absurd (never before st u.0.unsteady)) q.answer in
      let i : p.id ≡ q.id = one_stop h start p.id q.id p.tried a.0 q.tried b.0 in
      (a.1 ∙ ap (fence_says h start) i ∙ sym b.1, a.2 ∙ ap (λ k. put_leaves h k []) i ∙ sym b.2)

-- an opening that was turned away put no fence
pub turned : (before after : Meaning) (m : ManifestRecord) (id : ℕ) (o : Options) (s : Said) → before.steady ≡ true → TurnedAway before after m id o s → s ≡ start_says before.held m id o
turned before after m id o s st w = ⊎_elim (λ e. e) (λ u. absurd (never before st u.1.cut.unsteady)) w.answer

pub apart : (h : Held) (m : ManifestRecord) (id : ℕ) (o : Options) (s : Said) (start : ℕ) → eqb s.number 0 ≡ false → s ≡ start_says h m id o → start_says h m id o ≡ granted (start ∷ []) → ⊥
apart h m id o s start f e g = both_ways (eqb s.number 0) f (ap (λ (r : Said). eqb r.number 0) (e ∙ g))

abbrev pub first_of : Said → ℕ
first_of s = get_or s.values 0 0

module _ (before x y : Meaning) (m : ManifestRecord) (id : ℕ) (o : Options) (s t : Said) (st : before.steady ≡ true) where
  one_outcome : TurnedAway before x m id o s ⊎ Begun before x m id o s → TurnedAway before y m id o t ⊎ Begun before y m id o t → (s ≡ t) × (x.held ≡ y.held)
  one_outcome =
      ⊎_elim
      (λ a. ⊎_elim
      (λ b. (turned before x m id o s st a ∙ sym (turned before y m id o t st b), a.held ∙ sym b.held))
      (λ b. absurd (apart before.held m id o s b.start a.cause (turned before x m id o s st a) b.begins)))
      (λ a. ⊎_elim
      (λ b. absurd (apart before.held m id o t a.start b.cause (turned before y m id o t st b) a.begins))
      (λ b. (let i : a.start ≡ b.start = ap first_of (sym a.begins ∙ b.begins) in one_fence before x y b.start s t st (subst (λ k. fences.Fenced before x k s) i a.fenced) b.fenced)))

abbrev pub second_of : Said → ℕ
second_of s = get_or s.values 1 0

-- answers that say the same, of what the same openings were given
module _ (m : ManifestRecord) (o : Options) where
  alike : (r s : Result Grant WalFault) → said_grant r ≡ said_grant s → Carries m o r → Carries m o s → Alike r s
  alike (Ok g) (Ok h) e c d =
      let f : g.fence ≡ h.fence = ap first_of e in
      let p : g.manifest ≡ h.manifest = c.0 ∙ sym d.0 in
      let q : g.options ≡ h.options = c.1 ∙ sym d.1 in
      let b : g.block.bytes ≡ h.block.bytes = c.2 ∙ sym d.2 in
      (ap second_of e, cc)
  alike (Ok g) (Err f) e c d = both_ways (eqb (fault f).number 0) (never_zero f) (ap (λ (s : Said). eqb s.number 0) (sym e))
  alike (Err f) (Ok g) e c d = both_ways (eqb (fault f).number 0) (never_zero f) (ap (λ (s : Said). eqb s.number 0) e)
  alike (Err f) (Err g) e c d = told_apart f g e

pub one_opening : OneOpening
one_opening before x y m id o r s st p q =
    let w = one_outcome before x y m id o (said_grant r) (said_grant s) st p.outcome q.outcome in
    (alike m o r s w.0 p.carries q.carries, same_meaning x y w.1 (p.steady st ∙ sym (q.steady st)))
