-- What a replay is in contracts, and what becomes of it file by file.
use Rattle.std.specs.Prelude.{◌≡◌, ℕ, max, Bool, true, false, cond, List, ℤ, Some, None, Option, ◌==◌}
use Rattle.std.specs.Option.{unwrap_or}
use Rattle.causes.specs.Said.{Said}
use Rattle.rows.specs.Rows.{Row}
use Rattle.store.specs.Meaning as store
use Rattle.wal_init.specs.Opening as opening
use Rattle.wal_init.specs.Windows.{moved_on, slot_at}
use Rattle.wal_init.specs.declared.slot.SlotState.{SlotState}
use Rattle.wal_replay.specs.declared.replay.ReplayedMemtable.{ReplayedMemtable}
use Rattle.wal_replay.specs.Rows.{kept, span, latest_tick, latest_seq}

pub record Meaning : Type 0 where
  pub opening : opening.Meaning
  -- what a table is handed out with: the last tick and number, and the last file read without fault
  pub latest_tick : ℤ
  pub latest_seq : ℕ
  pub last_wal : ℕ
  -- the greatest number of the last file that had rows
  pub greatest : Option ℕ
  -- the greatest number read at all, and at least the record's
  pub floor : ℕ
  -- what every later call says: the end, which is no refusal, or a fault
  pub standing : Option Said
  -- a call said the end
  pub ended : Bool

-- a replay of which nothing was read
abbrev pub begun : opening.Meaning → Meaning
begun o = record {
  opening = o;
  latest_tick = o.manifest.last_l0_clock_tick;
  latest_seq = o.manifest.last_l0_seq;
  last_wal = o.manifest.replay_after_wal_id;
  greatest = None;
  floor = o.manifest.last_l0_seq;
  standing = None;
  ended = false;
}

-- the next id to read, the last one, and the answer that the next one's slot keeps
abbrev pub front : Meaning → ℕ
front m = m.opening.window.next

abbrev pub fence : Meaning → ℕ
fence m = m.opening.window.end

abbrev pub first_slot : Meaning → SlotState
first_slot m = slot_at m.opening.window 0

-- rows at or below it are skipped
abbrev pub watermark : Meaning → ℕ
watermark m = unwrap_or m.opening.options.min_seq m.opening.manifest.last_l0_seq

-- the greatest number, with those of a file
abbrev pub raised_to : Option ℕ → Option (ℕ × ℕ) → Option ℕ
raised_to g None = g
raised_to g (Some p) = Some p.1

abbrev pub topped : ℕ → Option (ℕ × ℕ) → ℕ
topped n None = n
topped n (Some p) = max n p.1

-- the same replay with another opening
abbrev pub with_opening : Meaning → opening.Meaning → Meaning
with_opening m o = record { opening = o; latest_tick = m.latest_tick; latest_seq = m.latest_seq; last_wal = m.last_wal; greatest = m.greatest; floor = m.floor; standing = m.standing; ended = m.ended }

-- the front is taken
abbrev pub moved : Meaning → Meaning
moved m = with_opening m (opening.with_window m.opening (moved_on m.opening.window))

-- a file is read, and these were its rows
abbrev pub read : Meaning → ℕ → List Row → Meaning
read m id rows = record {
  opening = m.opening;
  latest_tick = latest_tick m.latest_tick (kept (watermark m) rows);
  latest_seq = latest_seq m.latest_seq (kept (watermark m) rows);
  last_wal = id;
  greatest = raised_to m.greatest (span rows);
  floor = topped m.floor (span rows);
  standing = m.standing;
  ended = m.ended;
}

-- the replay past the file at the front
abbrev pub past : Meaning → List Row → Meaning
past m rows = read (moved m) (front m) rows

-- an end or a fault is met: it stands, and no slots are left
abbrev pub stood : Meaning → Said → Meaning
stood m s = record { opening = opening.ended m.opening; latest_tick = m.latest_tick; latest_seq = m.latest_seq; last_wal = m.last_wal; greatest = m.greatest; floor = m.floor; standing = Some s; ended = m.ended }

-- a call says the end, which has no cause, or a refusal
abbrev pub heard : Meaning → Said → Meaning
heard m s = record { opening = m.opening; latest_tick = m.latest_tick; latest_seq = m.latest_seq; last_wal = m.last_wal; greatest = m.greatest; floor = m.floor; standing = m.standing; ended = cond (s.number == 0) true m.ended }

-- what goes with a table that is handed out
abbrev pub handed : Meaning → ReplayedMemtable
handed m = record { last_tick = m.latest_tick; last_seq = m.latest_seq; last_wal_id = m.last_wal }

-- `arrive`: an arrival at the window, and nothing else changes
pub record Arrived (s s' : store.Meaning) (m m' : Meaning) (k : ℕ) (r : Bool) : Type 0 where
  pub opening : opening.Arrived s s' m.opening m'.opening k r
  pub rest : m' ≡ with_opening m m'.opening
