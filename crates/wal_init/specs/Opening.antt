-- What an opening is in contracts, and what each of its calls does.
use Rattle.std.specs.Prelude.{◌≡◌, ℕ, ◌+◌, Bool, Option}
use Rattle.store.specs.Meaning as store
use Rattle.wal_init.specs.declared.record.ManifestRecord.{ManifestRecord}
use Rattle.wal_init.specs.declared.record.Options.{Options}
use Rattle.wal_init.specs.declared.grant.Grant.{Grant}
use Rattle.wal_init.specs.declared.window.Front.{Front}
use Rattle.wal_init.specs.Windows.{Windowed, begun, over, unasked, Arrives, Takes}

pub record Meaning : Type 0 where
  -- what it was opened with
  pub manifest : ManifestRecord
  pub options : Options
  pub block : ℕ
  -- the files that are read next, of which the fence is the last
  pub window : Windowed

-- the opening of a grant: the ids from behind the record's up to the fence, of which no file was asked for
abbrev pub opened : Grant → Meaning
opened g = record {
  manifest = g.manifest;
  options = g.options;
  block = g.block.bytes;
  window = begun (g.manifest.replay_after_wal_id + 1) g.fence g.options.sst_batch_size;
}

-- the same opening with another window
abbrev pub with_window : Meaning → Windowed → Meaning
with_window m w = record { manifest = m.manifest; options = m.options; block = m.block; window = w }

-- an opening with nothing left to read
abbrev pub ended : Meaning → Meaning
ended m = with_window m (over m.window)

-- the id of its fence
abbrev pub fence_of : Meaning → ℕ
fence_of m = m.window.end

-- there is a slot so far behind the front, and it was not asked
abbrev pub unasked_at : Meaning → ℕ → Bool
unasked_at m k = unasked m.window k

pub record Arrived (s s' : store.Meaning) (m m' : Meaning) (k : ℕ) (r : Bool) : Type 0 where
  pub window : Arrives s s' m.window m'.window k r
  pub rest : m' ≡ with_window m m'.window

pub record Taken (s s' : store.Meaning) (m m' : Meaning) (r : Option Front) : Type 0 where
  pub window : Takes s s' m.window m'.window r
  pub rest : m' ≡ with_window m m'.window
