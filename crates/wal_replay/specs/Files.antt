-- One file of a replay: what stands against it, and what taking it leaves.
use Rattle.std.specs.Prelude.{◌≡◌, ℕ, ◌<◌, ◌≤◌, Bool, true, false, cond, ◌||◌, ◌⊎◌, List, [], ◌∷◌, length, Some, None, Ok, Err, Option, Result, ◌==◌, nat_le, nat_lt}
use Rattle.causes.specs.Said.{Said, refused, granted}
use Rattle.rows.specs.declared.types.Damage.{Damage}
use Rattle.rows.specs.Rows.{Row}
use Rattle.rows.specs.Lines.{TextOf, DamagedText}
use Rattle.store.specs.Meaning as store
use Rattle.store.specs.Meaning.{WithinLimit}
use Rattle.store.specs.Calls.{read_leaves}
use Rattle.store.specs.declared.fault.StoreFault.{StoreFault}
use Rattle.store.specs.declared.fault.StoreFault.TheVariants as store-fault
use Rattle.mem_table.specs.Meaning as table
use Rattle.mem_table.specs.Meaning.{Held, Listed, all_added}
use Rattle.wal.specs.declared.fault.WalFault.{WalFault}
use Rattle.wal.specs.Said as wal-said
use Rattle.wal_init.specs.declared.slot.SlotState.{SlotState}
use Rattle.wal_init.specs.declared.slot.SlotState.TheVariants.{Waiting, Arrived, Refused}
use Rattle.wal_init.specs.declared.window.Front.{Front}
use Rattle.wal_replay.specs.declared.fault.ReplayFault.{ReplayFault}
use Rattle.wal_replay.specs.declared.survey.Survey.{Survey}
use Rattle.wal_replay.specs.Said.{fault}
use Rattle.wal_replay.specs.Rows.{kept, span, crowds}
use Rattle.wal_replay.specs.Texts.{surveyed, Filled}
use Rattle.wal_replay.specs.Replays.{Meaning, front, fence, first_slot, watermark, raised_to, topped, moved, past}

abbrev pub Files : Type 0
Files = ℕ → Option (List ℕ)

-- what a replay says of a store's refusal: a file that is missing is the journal cut off
abbrev pub met : StoreFault → Said
met (store-fault.Exists id) = refused 1 (id ∷ [])
met (store-fault.Missing id) = refused 8 (id ∷ [])
met (store-fault.NoRoom id) = refused 3 (id ∷ [])
met (store-fault.TooLong id) = refused 4 (id ∷ [])
met (store-fault.Short n) = refused 5 (n ∷ [])
met (store-fault.Unavailable id) = refused 6 (id ∷ [])

abbrev pub met_length : Result ℕ StoreFault → Said
met_length (Ok n) = granted (n ∷ [])
met_length (Err f) = met f

-- what `read` says of a file, in these words
abbrev pub read_met : Option (List ℕ) → ℕ → ℕ → Said
read_met None id n = refused 8 (id ∷ [])
read_met (Some text) id n = cond (nat_lt n (length text)) (refused 5 (length text ∷ [])) (granted (length text ∷ []))

abbrev pub said_length : Result ℕ WalFault → Said
said_length (Ok n) = granted (n ∷ [])
said_length (Err f) = wal-said.fault f

-- the refusal that a slot keeps
abbrev pub refusal : SlotState → Option StoreFault
refusal Waiting = None
refusal (Arrived n) = None
refusal (Refused f) = Some f

-- the first of two causes
abbrev pub or_else : Said → Said → Said
or_else s t = cond (s.number == 0) t s

-- of files that have rows, the least number is not above the greatest of the one before
abbrev pub disorder : ℕ → Option ℕ → Option (ℕ × ℕ) → Said
disorder id None s = granted []
disorder id (Some g) None = granted []
disorder id (Some g) (Some p) = cond (nat_le p.0 g) (refused 11 (id ∷ p.0 ∷ g ∷ [])) (granted [])

abbrev pub said_order : Result (Unit {0}) WalFault → Said
said_order (Ok u) = granted []
said_order (Err f) = wal-said.fault f

-- so many rows and bytes need more than the table has left
pub record RoomChecked (t : table.Meaning) (id count bytes : ℕ) (s : Said) : Type 0 where
  pub says : s ≡ cond (nat_lt t.held.puts count || nat_lt t.held.bytes bytes) (refused 22 (id ∷ [])) (granted [])
  pub listed : Listed t

-- the rows above the watermark need more than the table has left
abbrev pub full : ℕ → Held → List Row → Said
full id h rows = cond (crowds h rows) (refused 22 (id ∷ [])) (granted [])

-- what stands against the rows of a file: their order, then the table's room
abbrev pub flaw : ℕ → Meaning → Held → List Row → Said
flaw id m h rows = or_else (disorder id m.greatest (span rows)) (full id h (kept (watermark m) rows))

-- what stands against a text: damage, then its rows
abbrev pub Spoils : ℕ → Meaning → Held → List ℕ → Said → Type 0
Spoils id m h text s =
    ((d : Damage) × DamagedText text d × (s ≡ refused 10 (id ∷ d.line ∷ d.place ∷ [])))
    ⊎ ((rows : List Row) × TextOf rows text × (s ≡ flaw id m h rows) × ((s.number == 0) ≡ false))

-- what stands against a file, and the buffer that is left: that it is missing, or its text
abbrev pub Against : Option (List ℕ) → Meaning → Held → List ℕ → List ℕ → Said → Type 0
Against None m h b b' s = (s ≡ refused 8 (front m ∷ [])) × (b' ≡ b)
Against (Some text) m h b b' s = Spoils (front m) m h text s × (b' ≡ read_leaves (Some text) b)

-- why the file at the front is refused: its slot keeps a refusal; the store's own fault, which only an unsteady store has; or the file
abbrev pub Refuses : Bool → Files → Meaning → Held → List ℕ → List ℕ → Said → Type 0
Refuses steady files m h b b' s =
    ((f : StoreFault) × (refusal (first_slot m) ≡ Some f) × (s ≡ met f) × (b' ≡ b))
    ⊎ ((refusal (first_slot m) ≡ None) × (steady ≡ false) × (s ≡ refused 6 (front m ∷ [])) × (b' ≡ b))
    ⊎ ((refusal (first_slot m) ≡ None) × Against (files (front m)) m h b b' s)

-- the file at the front has these rows, and nothing stands against it
pub record Fair (files : Files) (m : Meaning) (h : Held) (rows : List Row) : Type 0 where
  pub within : front m ≤ fence m
  pub slot : refusal (first_slot m) ≡ None
  pub text : List ℕ
  pub file : files (front m) ≡ Some text
  pub lines : TextOf rows text
  pub sound : flaw (front m) m h rows ≡ granted []

-- the file at the front is taken whole
pub record Takes (files : Files) (m m' : Meaning) (t t' : table.Meaning) (b b' : List ℕ) (rows : List Row) : Type 0 where
  pub fair : Fair files m t.held rows
  pub state : m' ≡ past m rows
  pub table : Filled (watermark m) t t' rows
  pub buffer : b' ≡ read_leaves (files (front m)) b

-- there is none, it is taken whole, or it is refused
abbrev pub Outcome : store.Meaning → Meaning → Meaning → table.Meaning → table.Meaning → List ℕ → List ℕ → Result Bool ReplayFault → Type 0
Outcome s m m' t t' b b' (Ok false) = (fence m < front m) × (m' ≡ m) × (t' ≡ t) × (b' ≡ b)
Outcome s m m' t t' b b' (Ok true) = (rows : List Row) × Takes s.held.files m m' t t' b b' rows
Outcome s m m' t t' b b' (Err f) =
    (front m ≤ fence m) × (m' ≡ moved m) × (t' ≡ t) × Refuses s.steady s.held.files m t.held b b' (fault f)

pub record Taken (s s' : store.Meaning) (m m' : Meaning) (t t' : table.Meaning) (b b' : List ℕ) (r : Result Bool ReplayFault) : Type 0 where
  pub steady : s.steady ≡ true → s'.steady ≡ true
  pub held : s'.held ≡ s.held
  pub outcome : Outcome s m m' t t' b b' r

-- a file is noted, by what was seen of it
abbrev pub passed : Meaning → ℕ → Survey → Meaning
passed m id s = record {
  opening = m.opening;
  latest_tick = s.last_tick;
  latest_seq = s.last_seq;
  last_wal = id;
  greatest = raised_to m.greatest s.span;
  floor = topped m.floor s.span;
  standing = m.standing;
  ended = m.ended;
}

-- a file's text put whole, or refused with the table as before
abbrev pub TextTaken : ℕ → Meaning → table.Meaning → table.Meaning → List ℕ → Result Survey ReplayFault → Type 0
TextTaken id m t t' text (Ok s) =
    (rows : List Row) × TextOf rows text × (flaw id m t.held rows ≡ granted []) × (s ≡ surveyed (watermark m) m.latest_tick m.latest_seq rows)
    × Filled (watermark m) t t' rows
TextTaken id m t t' text (Err f) = Spoils id m t.held text (fault f) × (t' ≡ t)

-- the refusal that the asking met, or what `read` says of the file
abbrev pub Fetches : store.Meaning → ℕ → Result ℕ StoreFault → List ℕ → List ℕ → Said → Type 0
Fetches s id (Err f) b b' r = (r ≡ met f) × (b' ≡ b)
Fetches s id (Ok n) b b' r =
    ((r ≡ read_met (s.held.files id) id (length b)) × (b' ≡ read_leaves (s.held.files id) b) × WithinLimit (s.held.files id))
    ⊎ ((s.steady ≡ false) × (r ≡ refused 6 (id ∷ [])) × (b' ≡ b))

-- a file that was asked for, read into the buffer
pub record Fetched (s s' : store.Meaning) (asked : Front) (b b' : List ℕ) (r : Result ℕ WalFault) : Type 0 where
  pub steady : s.steady ≡ true → s'.steady ≡ true
  pub held : s'.held ≡ s.held
  pub answer : Fetches s asked.wal_id asked.answer b b' (said_length r)
