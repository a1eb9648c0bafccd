-- A call of `next`: the files that it read, and why it stopped.
use Rattle.std.specs.Prelude.{◌≡◌, ℕ, ◌+◌, ◌<◌, ◌≤◌, Bool, true, false, cond, ◌⊎◌, List, [], ◌∷◌, ◌++◌, length, Some, None, Ok, Err, Option, Result, MatchOption, nat_lt}
use Rattle.std.specs.List.{flat_map}
use Rattle.causes.specs.Said.{Said, refused, granted}
use Rattle.rows.specs.Rows.{Row}
use Rattle.store.specs.Meaning as store
use Rattle.store.specs.Calls.{read_leaves}
use Rattle.mem_table.specs.Meaning as table
use Rattle.mem_table.specs.Meaning.{Held, Listed, all_added}
use Rattle.wal_replay.specs.declared.fault.ReplayFault.{ReplayFault}
use Rattle.wal_replay.specs.declared.replay.ReplayedMemtable.{ReplayedMemtable}
use Rattle.wal_replay.specs.Said.{fault}
use Rattle.wal_replay.specs.Rows.{kept, reaches, ripe}
use Rattle.wal_replay.specs.Replays.{Meaning, front, fence, watermark, past, stood, heard, handed}
use Rattle.wal_replay.specs.Files.{Files, Fair, Refuses}

abbrev pub Answer : Type 0
Answer = Result (Option ReplayedMemtable) ReplayFault

-- what an answer says: what a table is handed out with, or the end or a fault
pub record Told : Type 0 where
  pub table : Option ReplayedMemtable
  pub said : Said

abbrev pub told : Answer → Told
told (Ok o) = record { table = o; said = granted [] }
told (Err f) = record { table = None; said = fault f }

abbrev pub tells : Said → Told
tells s = record { table = None; said = s }

abbrev pub hands_out : Meaning → Told
hands_out m = record { table = Some (handed m); said = granted [] }

-- the rows above the watermark of some files, in order
abbrev pub wanted : ℕ → List (List Row) → List Row
wanted w given = flat_map (kept w) given

-- the replay after some files
abbrev pub after : Meaning → List (List Row) → Meaning
after m [] = m
after m (rows ∷ more) = after (past m rows) more

-- the buffer after n files, each over the one before
abbrev pub over : Files → ℕ → List (List Row) → List ℕ → List ℕ
over files id [] b = b
over files id (rows ∷ more) b = over files (id + 1) more (read_leaves (files id) b)

-- a table into which these rows were put is to be handed out
abbrev pub is_ripe : Meaning → List Row → Bool
is_ripe m put = ripe m.opening.options.max_memtable_bytes m.opening.block put

-- the next files have these rows, nothing stands against any of them, and the table is not ripe before the last
abbrev pub Whole : Files → Held → Meaning → List Row → List (List Row) → Type 0
Whole files h m put [] = Unit {0}
Whole files h m put (rows ∷ more) =
    (is_ripe m put ≡ false) × Fair files m (all_added h put) rows × Whole files h (past m rows) (put ++ kept (watermark m) rows) more

-- why a call stopped: the table is ripe, the fence is read, or the next file is refused
abbrev pub Because : Bool → Files → Meaning → Held → List Row → List ℕ → List ℕ → Option Said → Type 0
Because steady files m h put b b' None = (is_ripe m put ≡ true) × (b' ≡ b)
Because steady files m h put b b' (Some s) =
    (is_ripe m put ≡ false)
    × (((fence m < front m) × (s ≡ granted []) × (b' ≡ b)) ⊎ ((front m ≤ fence m) × Refuses steady files m h b b' s))

abbrev pub some : List (List Row) → Bool
some [] = false
some (rows ∷ more) = true

-- the replay left: what was met stands, and is said at once where no file was read
abbrev pub closed : Bool → Meaning → Said → Meaning
closed any m s = cond any (stood m s) (heard (stood m s) s)

abbrev pub left : List (List Row) → Meaning → Option Said → Meaning
left given m None = m
left given m (Some s) = closed (some given) m s

-- a call that read a file hands the table out, whatever it met then
abbrev pub closing : Bool → Meaning → Said → Told
closing any m s = cond any (hands_out m) (tells s)

abbrev pub says : List (List Row) → Meaning → Option Said → Told
says given m None = hands_out m
says given m (Some s) = closing (some given) m s

-- a call that read files with these rows, and then stopped
pub record Reads (s s' : store.Meaning) (m m' : Meaning) (t t' : table.Meaning) (b b' : List ℕ) (r : Answer) (given : List (List Row)) (why : Option Said) : Type 0 where
  pub steady : s.steady ≡ true → s'.steady ≡ true
  pub held : s'.held ≡ s.held
  pub whole : Whole s.held.files t.held m [] given
  pub because : Because s.steady s.held.files (after m given) (all_added t.held (wanted (watermark m) given)) (wanted (watermark m) given) (over s.held.files (front m) given b) b' why
  pub state : m' ≡ left given (after m given) why
  pub table : t'.held ≡ all_added t.held (wanted (watermark m) given)
  pub unput : wanted (watermark m) given ≡ [] → t' ≡ t
  pub listed_before : Listed t
  pub listed : Listed t'
  pub answer : told r ≡ says given (after m given) why

abbrev pub Reading : store.Meaning → store.Meaning → Meaning → Meaning → table.Meaning → table.Meaning → List ℕ → List ℕ → Answer → Type 0
Reading s s' m m' t t' b b' r = (given : List (List Row)) × (why : Option Said) × Reads s s' m m' t t' b b' r given why

-- what is said before any file is read: a buffer too short, a table in use, what stands
abbrev pub at_once : Meaning → table.Meaning → List ℕ → Option Said
at_once m t b =
    cond (nat_lt (length b) 16384) (Some (refused 5 (16384 ∷ [])))
    (cond (nat_lt 0 (length t.order)) (Some (refused 21 (length t.order ∷ []))) m.standing)

-- a call that reads nothing changes nothing, but notes that it said the end
pub record Idle (s s' : store.Meaning) (m m' : Meaning) (t t' : table.Meaning) (b b' : List ℕ) (r : Answer) (said : Said) : Type 0 where
  pub answer : told r ≡ tells said
  pub store : s' ≡ s
  pub state : m' ≡ heard m said
  pub table : t' ≡ t
  pub buffer : b' ≡ b

-- `next`: it answers at once and changes nothing, or it reads
pub record Next (s s' : store.Meaning) (m m' : Meaning) (t t' : table.Meaning) (b b' : List ℕ) (r : Answer) : Type 0 where
  pub call : MatchOption (at_once m t b) (Reading s s' m m' t t' b b' r) (Idle s s' m m' t t' b b' r)

-- whether a table has come to the size at which it is handed out
pub record Weighed (m : Meaning) (t : table.Meaning) (r : Bool) : Type 0 where
  pub answer : r ≡ reaches m.opening.options.max_memtable_bytes m.opening.block t.order
  pub listed : Listed t
