-- A file that was asked for, read and put is a file taken.
use Rattle.std.proofs.Common.{◌≡◌, ℕ, ◌-◌, ◌≤◌, Bool, true, false, cond, ◌||◌, ltb, List, [], ◌∷◌, length, take, ℤ, Some, Ok, Err, Result, MatchResult, sym, refl, ap, ◌∙◌, subst, inr, arith}
use Rattle.std.proofs.lemmas.Bool.{cond-false, or_parts, ltb-false}
use Rattle.causes.specs.Said.{Said, refused, granted}
use Rattle.rows.specs.declared.types.Damage.{Damage}
use Rattle.rows.specs.Rows.{Row}
use Rattle.rows.specs.Sizes.{weight, total}
use Rattle.mem_table.specs.Meaning as table
use Rattle.mem_table.specs.Meaning.{Held, Listed}
use Rattle.mem_table.specs.Calls.{Fit}
use Rattle.mem_table.proofs.TableLaws.{exact_room}
use Rattle.wal_replay.specs.declared.survey.Survey.{Survey}
use Rattle.wal_replay.specs.Said.{fault}
use Rattle.wal_replay.specs.Rows.{kept, span, crowds}
use Rattle.wal_replay.specs.Texts.{surveyed, Surveyed, Roomy, Puts, Filled}
use Rattle.store.specs.Meaning as store
use Rattle.store.specs.Calls.{read_leaves}
use Rattle.wal.specs.declared.fault.WalFault.{WalFault}
use Rattle.wal_init.specs.Opening as opening
use Rattle.wal_init.specs.declared.window.Front.{Front}
use Rattle.wal_replay.specs.declared.fault.ReplayFault.{ReplayFault}
use Rattle.wal_replay.specs.declared.fault.ReplayFault.TheVariants.{Wal}
use Rattle.wal_replay.specs.Replays.{Meaning, front, watermark, with_opening, moved}
use Rattle.wal_replay.specs.Files.{disorder, full, or_else, Against, RoomChecked, TextTaken, Fetched, Taken, passed}
use Rattle.wal_init.proofs.Beginning.{number_of}
use Rattle.wal_replay.proofs.TextLaws.{text_unique}
use Rattle.wal_replay.proofs.Fetching.{within, id_is, moved_is, held_all, steady_all, fetch_refused, Got, fetch_got}

-- where nothing is refused, the test was false
pub not_full : (b : Bool) (id : ℕ) → granted [] ≡ cond b (refused 22 (id ∷ [])) (granted []) → b ≡ false
not_full true id e = let z : ◌≡◌ {A = ℕ} 0 22 = ap number_of e in absurd (omega arith)
not_full false id e = refl

-- rows that do not crowd a table fit it, and those that fit do not crowd it
pub fits_in : (h : Held) (rows : List Row) → crowds h rows ≡ false → Fit h rows
fits_in h rows e =
    let p = or_parts (ltb h.puts (length rows)) (ltb h.bytes (total weight rows)) e in
    (exact_room h rows).0 (ltb-false h.puts _ p.0, ltb-false h.bytes _ p.1)

-- a text that was looked over and found sound, where its damage would be told as a fault
module _ (text : List ℕ) (w : ℕ) (tick : ℤ) (seq : ℕ) where
  pub sound_look : (r : Result Survey Damage) (s : Survey) → MatchResult r (λ (x : Survey). ◌≡◌ {A = Result Survey WalFault} (Ok s) (Ok x)) (λ e. ⊥) → Surveyed text w tick seq r → Surveyed text w tick seq (Ok s)
  sound_look (Ok x) s e saw = let p : x ≡ s = cc in subst (λ (y : Survey). Surveyed text w tick seq (Ok y)) p saw
  sound_look (Err d) s e saw = absurd e

module _ (id : ℕ) (m : Meaning) (t : table.Meaning) (text : List ℕ) (s : Survey) (w : ℕ) (at : w ≡ watermark m) (tick : ℤ) (then : tick ≡ m.latest_tick) (seq : ℕ) (so : seq ≡ m.latest_seq) (saw : Surveyed text w tick seq (Ok s)) (room : RoomChecked t id s.count s.bytes (granted [])) where
  uncrowded : crowds t.held (kept w saw.0) ≡ false
  uncrowded =
      ap (λ (x : Survey). ltb t.held.puts x.count || ltb t.held.bytes x.bytes) (sym saw.2)
      ∙ not_full (ltb t.held.puts s.count || ltb t.held.bytes s.bytes) id room.says

  pub has_room : Roomy w t.held text
  has_room = (saw.0, saw.1, fits_in t.held (kept w saw.0) uncrowded)

  pub text_taken : (t' : table.Meaning) → granted [] ≡ disorder id m.greatest s.span → Puts w t t' text → TextTaken id m t t' text (Ok s)
  text_taken t' order puts =
      let rows = saw.0 in
      let d : disorder id m.greatest (span rows) ≡ granted [] = ap (λ (x : Survey). disorder id m.greatest x.span) (sym saw.2) ∙ sym order in
      let f : full id t.held (kept w rows) ≡ granted [] = cond-false {A = Said} _ _ _ uncrowded in
      let same : puts.0 ≡ rows = text_unique puts.0 rows text puts.1 saw.1 in (
        rows,
        saw.1,
        ap (λ x. or_else x (full id t.held (kept (watermark m) rows))) d ∙ ap (λ k. full id t.held (kept k rows)) (sym at) ∙ f,
        saw.2 ∙ ap (λ z. surveyed w z seq rows) then ∙ ap (λ n. surveyed w m.latest_tick n rows) so ∙ ap (λ k. surveyed k m.latest_tick m.latest_seq rows) at,
        subst (λ k. Filled k t t' rows) at (subst (λ (xs : List Row). Filled w t t' xs) same puts.2),
      )

module _ (s s₁ s₂ : store.Meaning) (m : Meaning) (asked : Front) (o : opening.Meaning) (taken : opening.Taken s s₁ m.opening o (Some asked)) (b b' : List ℕ) (long : 16384 ≤ length b) where
  -- the file is missing, or the store has its own fault
  pub unread : (t : table.Meaning) (g : WalFault) → Fetched s₁ s₂ asked b b' (Err g) → Taken s s₂ m (with_opening m o) t t b b' (Err (Wal g))
  unread t g f = record {
    steady = steady_all s s₁ s₂ m asked o taken b b' (Err g) f;
    held = held_all s s₁ s₂ m asked o taken b b' (Err g) f;
    outcome = (within s s₁ s₂ m asked o taken, moved_is s s₁ s₂ m asked o taken, refl, fetch_refused s s₁ s₂ m asked o taken b b' long g t.held f);
  }

  module _ (t t' : table.Meaning) (len : ℕ) (f : Fetched s₁ s₂ asked b b' (Ok len)) where
    got : Got s s₁ s₂ m asked o taken b b' long len
    got = fetch_got s s₁ s₂ m asked o taken b b' long len f

    -- what was done with the text was done with the file
    of_file : (r : Result Survey ReplayFault) → TextTaken asked.wal_id (with_opening m o) t t' (take (len - 0) b') r → TextTaken (front m) m t t' got.text r
    of_file r x =
        same r
        (subst (λ k. TextTaken k (moved m) t t' got.text r) (id_is s s₁ s₂ m asked o taken)
        (subst (λ (y : Meaning). TextTaken asked.wal_id y t t' got.text r) (moved_is s s₁ s₂ m asked o taken)
        (subst (λ (l : List ℕ). TextTaken asked.wal_id (with_opening m o) t t' l r) got.here x)))
      where
        same : (r : Result Survey ReplayFault) → TextTaken (front m) (moved m) t t' got.text r → TextTaken (front m) m t t' got.text r
        same (Ok y) z = z
        same (Err y) z = z

    -- something stands against the text
    pub spoiled : (g : ReplayFault) → TextTaken asked.wal_id (with_opening m o) t t' (take (len - 0) b') (Err g) → Taken s s₂ m (with_opening m o) t t' b b' (Err g)
    spoiled g x =
        let y = of_file (Err g) x in
        record {
          steady = steady_all s s₁ s₂ m asked o taken b b' (Ok len) f;
          held = held_all s s₁ s₂ m asked o taken b b' (Ok len) f;
          outcome = (within s s₁ s₂ m asked o taken, moved_is s s₁ s₂ m asked o taken, y.1, inr (inr (got.slot, subst (λ z. Against z m t.held b b' (fault g)) (sym got.file) (y.0, got.left))));
        }

    -- the file is taken whole
    pub file_taken : (m' : Meaning) (seen : Survey) → TextTaken asked.wal_id (with_opening m o) t t' (take (len - 0) b') (Ok seen) → m' ≡ passed (with_opening m o) asked.wal_id seen → Taken s s₂ m m' t t' b b' (Ok true)
    file_taken m' seen x e =
        let y = of_file (Ok seen) x in
        let rows = y.0 in
        record {
          steady = steady_all s s₁ s₂ m asked o taken b b' (Ok len) f;
          held = held_all s s₁ s₂ m asked o taken b b' (Ok len) f;
          outcome = (
            rows,
            record {
              fair = record { within = within s s₁ s₂ m asked o taken; slot = got.slot; text = got.text; file = got.file; lines = y.1; sound = y.2 };
              state = e ∙ ap (λ (z : Meaning). passed z asked.wal_id seen) (moved_is s s₁ s₂ m asked o taken) ∙ ap (λ k. passed (moved m) k seen) (id_is s s₁ s₂ m asked o taken) ∙ ap (λ (z : Survey). passed (moved m) (front m) z) y.3;
              table = y.4;
              buffer = got.left ∙ ap (λ z. read_leaves z b) (sym got.file);
            },
          );
        }
