-- One file more of a call.
use Rattle.std.proofs.Common.{◌≡◌, ℕ, ◌+◌, ◌<◌, ◌≤◌, Bool, true, false, ltb, List, [], ◌∷◌, ◌++◌, length, is_some, Some, None, Ok, Err, Option, sym, refl, ap, ◌∙◌, subst, inl, inr, arith, MatchOption}
use Rattle.std.proofs.lemmas.List.{append-nil, append_assoc}
use Rattle.std.proofs.lemmas.Bool.{both_ways, cond-false, le-ltb}
use Rattle.causes.specs.Said.{Said, granted}
use Rattle.rows.specs.Rows.{Row}
use Rattle.store.specs.Meaning as store
use Rattle.store.specs.Meaning.{Held as Stored}
use Rattle.store.specs.Calls.{read_leaves}
use Rattle.mem_table.specs.Meaning as table
use Rattle.mem_table.specs.Meaning.{Held, Listed, added, all_added}
use Rattle.wal_replay.specs.declared.fault.ReplayFault.{ReplayFault}
use Rattle.wal_replay.specs.declared.replay.ReplayedMemtable.{ReplayedMemtable}
use Rattle.wal_replay.specs.Said.{fault}
use Rattle.wal_replay.specs.Rows.{kept}
use Rattle.wal_replay.specs.Texts.{Filled}
use Rattle.wal_replay.specs.Replays.{Meaning, front, fence, watermark, moved, past, handed}
use Rattle.wal_replay.specs.Files.{Files, Fair, Refuses, Takes, Taken}
use Rattle.wal_replay.specs.Next.{Answer, told, wanted, after, over, is_ripe, some, Whole, closed, closing, Reading, Idle, Next, at_once, Weighed}
use Rattle.wal_init.proofs.Beginning.{was_unsteady}
use Rattle.wal_replay.proofs.Standing.{weighs}

-- puts behind puts
pub added_append : (h : Held) (xs ys : List Row) → all_added h (xs ++ ys) ≡ all_added (all_added h xs) ys
added_append h [] ys = refl
added_append h (x ∷ xs) ys = added_append (added h x) xs ys

pub wanted_append : (w : ℕ) (xs ys : List (List Row)) → wanted w (xs ++ ys) ≡ wanted w xs ++ wanted w ys
wanted_append w [] ys = refl
wanted_append w (x ∷ xs) ys = ap (λ l. kept w x ++ l) (wanted_append w xs ys) ∙ sym (append_assoc (kept w x) (wanted w xs) (wanted w ys))

pub wanted_more : (w : ℕ) (xs : List (List Row)) (rows : List Row) → wanted w (xs ++ (rows ∷ [])) ≡ wanted w xs ++ kept w rows
wanted_more w xs rows = wanted_append w xs (rows ∷ []) ∙ ap (λ l. wanted w xs ++ l) (append-nil (kept w rows))

pub after_append : (m : Meaning) (xs ys : List (List Row)) → after m (xs ++ ys) ≡ after (after m xs) ys
after_append m [] ys = refl
after_append m (x ∷ xs) ys = after_append (past m x) xs ys

-- reading changes no option, record or fence
pub after_watermark : (m : Meaning) (given : List (List Row)) → watermark (after m given) ≡ watermark m
after_watermark m [] = refl
after_watermark m (x ∷ xs) = after_watermark (past m x) xs

pub after_ripe : (m : Meaning) (given : List (List Row)) (put : List Row) → is_ripe (after m given) put ≡ is_ripe m put
after_ripe m [] put = refl
after_ripe m (x ∷ xs) put = after_ripe (past m x) xs put

pub after_fence : (m : Meaning) (given : List (List Row)) → fence (after m given) ≡ fence m
after_fence m [] = refl
after_fence m (x ∷ xs) = after_fence (past m x) xs

pub after_front : (m : Meaning) (given : List (List Row)) → front (after m given) ≡ front m + length given
after_front m [] = omega arith
after_front m (x ∷ xs) = let e = after_front (past m x) xs in omega (arith, e)

pub over_more : (F : Files) (m : Meaning) (given : List (List Row)) (rows : List Row) (b : List ℕ) → over F (front m) (given ++ (rows ∷ [])) b ≡ read_leaves (F (front (after m given))) (over F (front m) given b)
over_more F m [] rows b = refl
over_more F m (x ∷ xs) rows b = over_more F (past m x) xs rows (read_leaves (F (front m)) b)

some_more : (given : List (List Row)) (rows : List Row) → some (given ++ (rows ∷ [])) ≡ true
some_more [] rows = refl
some_more (x ∷ xs) rows = refl

pub whole_more : (F : Files) (h : Held) (m : Meaning) (put : List Row) (given : List (List Row)) (rows : List Row) → Whole F h m put given
    → is_ripe (after m given) (put ++ wanted (watermark m) given) ≡ false → Fair F (after m given) (all_added h (put ++ wanted (watermark m) given)) rows → Whole F h m put (given ++ (rows ∷ []))
whole_more F h m put [] rows w r f =
    let e = append-nil put in
    (ap (is_ripe m) (sym e) ∙ r, subst (λ (l : List Row). Fair F m (all_added h l) rows) e f, tt)
whole_more F h m put (x ∷ xs) rows w r f =
    let e : put ++ (kept (watermark m) x ++ wanted (watermark m) xs) ≡ (put ++ kept (watermark m) x) ++ wanted (watermark m) xs = sym (append_assoc put (kept (watermark m) x) (wanted (watermark m) xs)) in
    (w.0, w.1, whole_more F h (past m x) (put ++ kept (watermark m) x) xs rows w.2 (ap (is_ripe (after (past m x) xs)) (sym e) ∙ r) (subst (λ (l : List Row). Fair F (after (past m x) xs) (all_added h l) rows) e f))

-- what a loop over the files has done so far
pub record SoFar (s s' : store.Meaning) (m m' : Meaning) (t t' : table.Meaning) (b b' : List ℕ) (any : Bool) : Type 0 where
  pub given : List (List Row)
  pub steady : s.steady ≡ true → s'.steady ≡ true
  pub held : s'.held ≡ s.held
  pub whole : Whole s.held.files t.held m [] given
  pub unripe : is_ripe (after m given) (wanted (watermark m) given) ≡ false
  pub state : m' ≡ after m given
  pub table : t'.held ≡ all_added t.held (wanted (watermark m) given)
  pub unput : wanted (watermark m) given ≡ [] → t' ≡ t
  pub listed_before : Listed t
  pub listed : Listed t'
  pub empty : t.order ≡ []
  pub buffer : b' ≡ over s.held.files (front m) given b
  pub begun : any ≡ some given

pub none_so_far : (s : store.Meaning) (m : Meaning) (t : table.Meaning) (b : List ℕ) → Listed t → t.order ≡ [] → SoFar s s m m t t b b false
none_so_far s m t b l e = record {
  given = [];
  steady = λ x. x;
  held = refl;
  whole = tt;
  unripe = refl;
  state = refl;
  table = refl;
  unput = λ _. refl;
  listed_before = l;
  listed = l;
  empty = e;
  buffer = refl;
  begun = refl;
}

nil_left : (xs ys : List Row) → xs ++ ys ≡ [] → xs ≡ []
nil_left [] ys e = refl
nil_left (x ∷ xs) ys e = let l = ap length e in absurd (omega (arith, l))

nil_right : (xs ys : List Row) → xs ++ ys ≡ [] → ys ≡ []
nil_right [] ys e = e
nil_right (x ∷ xs) ys e = let l = ap length e in absurd (omega (arith, l))

-- the same file, by other names
takes_at : (f g : Files) (m m₁ m₂ : Meaning) (t t₂ : table.Meaning) (b b₁ b₂ : List ℕ) (rows : List Row) → g ≡ f → m₁ ≡ m → b₁ ≡ b → Takes g m₁ m₂ t t₂ b₁ b₂ rows → Takes f m m₂ t t₂ b b₂ rows
takes_at f g m m₁ m₂ t t₂ b b₁ b₂ rows i j l x =
    subst (λ (y : Files). Takes y m m₂ t t₂ b b₂ rows) i (subst (λ (y : Meaning). Takes g y m₂ t t₂ b b₂ rows) j (subst (λ (y : List ℕ). Takes g m₁ m₂ t t₂ y b₂ rows) l x))

refuses_at : (a c : Bool) (f g : Files) (m m₁ : Meaning) (h h₁ : Held) (b b₁ b₂ : List ℕ) (e : Said) → (a ≡ true → c ≡ true) → g ≡ f → m₁ ≡ m → h₁ ≡ h → b₁ ≡ b → Refuses c g m₁ h₁ b₁ b₂ e → Refuses a f m h b b₂ e
refuses_at a c f g m m₁ h h₁ b b₁ b₂ e q i j k l x =
    let y : Refuses c f m h b b₂ e =
    subst (λ (y : Files). Refuses c y m h b b₂ e) i (subst (λ (y : Meaning). Refuses c g y h b b₂ e) j (subst (λ (y : Held). Refuses c g m₁ y b b₂ e) k (subst (λ (y : List ℕ). Refuses c g m₁ h₁ y b₂ e) l x))) in
    elim y [ inl p ↦ inl p | inr p ↦ elim p [ inl z ↦ inr (inl (z.0, was_unsteady a c q z.1, z.2, z.3)) | inr z ↦ inr (inr z) ] ]

module _ (s s₁ : store.Meaning) (m m₁ : Meaning) (t t₁ : table.Meaning) (b b₁ : List ℕ) (any : Bool) (h : SoFar s s₁ m m₁ t t₁ b b₁ any) where
  files_at : s₁.held.files ≡ s.held.files
  files_at = ap (λ (x : Stored). x.files) h.held

  abbrev w : ℕ
  w = watermark m

  module _ (s₂ : store.Meaning) (m₂ : Meaning) (t₂ : table.Meaning) (b₂ : List ℕ) where
    module _ (went : Bool) (is : went ≡ true) (got : Taken s₁ s₂ m₁ m₂ t₁ t₂ b₁ b₂ (Ok went)) where
      abbrev k : Taken s₁ s₂ m₁ m₂ t₁ t₂ b₁ b₂ (Ok true)
      k = subst (λ (x : Bool). Taken s₁ s₂ m₁ m₂ t₁ t₂ b₁ b₂ (Ok x)) is got

      abbrev rows : List Row
      rows = k.outcome.0

      takes : Takes s.held.files (after m h.given) m₂ t₁ t₂ (over s.held.files (front m) h.given b) b₂ rows
      takes = takes_at _ _ _ _ _ _ _ _ _ _ _ files_at h.state h.buffer k.outcome.1

      abbrev on : List (List Row)
      on = h.given ++ (rows ∷ [])

      state_on : m₂ ≡ after m on
      state_on = takes.state ∙ sym (after_append m h.given (rows ∷ []))

      put_on : wanted w on ≡ wanted w h.given ++ kept w rows
      put_on = wanted_more w h.given rows

      filled : Filled w t₁ t₂ rows
      filled = subst (λ i. Filled i t₁ t₂ rows) (after_watermark m h.given) takes.table

      table_on : t₂.held ≡ all_added t.held (wanted w on)
      table_on =
          filled.held ∙ ap (λ (x : Held). all_added x (kept w rows)) h.table ∙ sym (added_append t.held (wanted w h.given) (kept w rows))
          ∙ ap (all_added t.held) (sym put_on)

      unput_on : wanted w on ≡ [] → t₂ ≡ t
      unput_on e =
          let z = sym put_on ∙ e in
          filled.unput (nil_right (wanted w h.given) (kept w rows) z) ∙ h.unput (nil_left (wanted w h.given) (kept w rows) z)

      fair_on : Fair s.held.files (after m h.given) (all_added t.held (wanted w h.given)) rows
      fair_on = subst (λ (x : Held). Fair s.held.files (after m h.given) x rows) h.table takes.fair

      whole_on : Whole s.held.files t.held m [] on
      whole_on = whole_more s.held.files t.held m [] h.given rows h.whole h.unripe fair_on

      buffer_on : b₂ ≡ over s.held.files (front m) on b
      buffer_on = takes.buffer ∙ sym (over_more s.held.files m h.given rows b)

      ripe_on : (r : Bool) → Weighed m₂ t₂ r → is_ripe (after m on) (wanted w on) ≡ r
      ripe_on r x =
          ap (λ (y : Meaning). is_ripe y (wanted w on)) (sym state_on)
          ∙ sym (weighs t t₂ (wanted w on) h.listed_before x.listed h.empty table_on m₂.opening.options.max_memtable_bytes m₂.opening.block) ∙ sym x.answer

      -- one file more, and the table is not ripe
      pub one_more : (r : Bool) → Weighed m₂ t₂ r → r ≡ false → SoFar s s₂ m m₂ t t₂ b b₂ true
      one_more r x e = record {
        given = on;
        steady = λ i. k.steady (h.steady i);
        held = k.held ∙ h.held;
        whole = whole_on;
        unripe = ripe_on r x ∙ e;
        state = state_on;
        table = table_on;
        unput = unput_on;
        listed_before = h.listed_before;
        listed = x.listed;
        empty = h.empty;
        buffer = buffer_on;
        begun = sym (some_more h.given rows);
      }

      -- the table is ripe
      pub cut : (r : Bool) → Weighed m₂ t₂ r → r ≡ true → (a : ReplayedMemtable) → a ≡ handed m₂ → Reading s s₂ m m₂ t t₂ b b₂ (Ok (Some a))
      cut r x e a q = (
        on,
        None,
        record {
          steady = λ i. k.steady (h.steady i);
          held = k.held ∙ h.held;
          whole = whole_on;
          because = (ripe_on r x ∙ e, buffer_on);
          state = state_on;
          table = table_on;
          unput = unput_on;
          listed_before = h.listed_before;
          listed = x.listed;
          answer = ap (λ (y : ReplayedMemtable). told (Ok (Some y))) (q ∙ ap handed state_on);
        },
      )

    -- the file is refused
    pub refused : (f : ReplayFault) (m₃ : Meaning) (r : Answer) → Taken s₁ s₂ m₁ m₂ t₁ t₂ b₁ b₂ (Err f) → m₃ ≡ closed any m₂ (fault f) → told r ≡ closing any m₂ (fault f) → Reading s s₂ m m₃ t t₂ b b₂ r
    refused f m₃ r k e q =
        let z : m₂ ≡ moved (after m h.given) = k.outcome.1 ∙ ap moved h.state in (
          h.given,
          Some (fault f),
          record {
            steady = λ i. k.steady (h.steady i);
            held = k.held ∙ h.held;
            whole = h.whole;
            because = (
              h.unripe,
              inr (
                subst (λ (x : Meaning). front x ≤ fence x) h.state k.outcome.0,
                refuses_at _ _ _ _ _ _ _ _ _ _ _ (fault f) h.steady files_at h.state h.table h.buffer k.outcome.3,
              ),
            );
            state = e ∙ ap (λ (x : Meaning). closed any x (fault f)) z ∙ ap (λ i. closed i (after m h.given) (fault f)) h.begun;
            table = ap (λ (x : table.Meaning). x.held) k.outcome.2 ∙ h.table;
            unput = λ i. k.outcome.2 ∙ h.unput i;
            listed_before = h.listed_before;
            listed = subst Listed (sym k.outcome.2) h.listed;
            answer = q ∙ ap (λ (x : Meaning). closing any x (fault f)) z ∙ ap (λ i. closing i (after m h.given) (fault f)) h.begun;
          },
        )

    -- the fence is read
    pub ended : (went : Bool) → went ≡ false → (m₃ : Meaning) (r : Answer) → Taken s₁ s₂ m₁ m₂ t₁ t₂ b₁ b₂ (Ok went) → m₃ ≡ closed any m₂ (granted []) → told r ≡ closing any m₂ (granted []) → Reading s s₂ m m₃ t t₂ b b₂ r
    ended went is m₃ r got e q =
        let k = subst (λ (x : Bool). Taken s₁ s₂ m₁ m₂ t₁ t₂ b₁ b₂ (Ok x)) is got in
        let z : m₂ ≡ after m h.given = k.outcome.1 ∙ h.state in (
          h.given,
          Some (granted []),
          record {
            steady = λ i. k.steady (h.steady i);
            held = k.held ∙ h.held;
            whole = h.whole;
            because = (h.unripe, inl (subst (λ (x : Meaning). fence x < front x) h.state k.outcome.0, refl, k.outcome.3 ∙ h.buffer));
            state = e ∙ ap (λ (x : Meaning). closed any x (granted [])) z ∙ ap (λ i. closed i (after m h.given) (granted [])) h.begun;
            table = ap (λ (x : table.Meaning). x.held) k.outcome.2 ∙ h.table;
            unput = λ i. k.outcome.2 ∙ h.unput i;
            listed_before = h.listed_before;
            listed = subst Listed (sym k.outcome.2) h.listed;
            answer = q ∙ ap (λ (x : Meaning). closing any x (granted [])) z ∙ ap (λ i. closing i (after m h.given) (granted [])) h.begun;
          },
        )

-- with a long buffer, an empty table and nothing that stands, a call reads
pub no_answer : (m : Meaning) (t : table.Meaning) (b : List ℕ) → 16384 ≤ length b → length t.order ≡ 0 → m.standing ≡ None → at_once m t b ≡ None
no_answer m t b long empty waits =
    cond-false {A = Option Said} (ltb (length b) 16384) _ _ (le-ltb (length b) 16384 long)
    ∙ cond-false {A = Option Said} (ltb 0 (length t.order)) _ _ (le-ltb 0 (length t.order) (omega arith)) ∙ waits

pub reads_on : (s s' : store.Meaning) (m m' : Meaning) (t t' : table.Meaning) (b b' : List ℕ) (r : Answer) → at_once m t b ≡ None → Reading s s' m m' t t' b b' r → Next s s' m m' t t' b b' r
reads_on s s' m m' t t' b b' r e x = record { call = subst (λ (o : Option Said). MatchOption o (Reading s s' m m' t t' b b' r) (Idle s s' m m' t t' b b' r)) (sym e) x }

pub not_some : (o : Option Said) → o ≡ None → is_some o ≡ true → ⊥
not_some o e f = both_ways (is_some o) (ap is_some e) f
