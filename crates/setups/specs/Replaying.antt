-- The next files of a replay read into a table, whose rows are then written out.
use Rattle.std.specs.Prelude.{◌≡◌, ℕ, List, [], length, Some, None, Ok, Err, Option, Result}
use Rattle.std.specs.List.{flat_map}
use Rattle.rows.specs.Lines.{line}
use Rattle.rows.specs.Sizes.{size, total}
use Rattle.store.specs.Meaning as store
use Rattle.mem_table.specs.Meaning as table
use Rattle.wal_replay.specs.declared.fault.ReplayFault.{ReplayFault}
use Rattle.wal_replay.specs.Next.{Answer, Next}
use Rattle.wal_replay.specs.Replays.{Meaning}
use Rattle.setups.specs.declared.replays.Handed.{Handed}

-- a table that is handed out has these rows, and their lines are written; an end or a fault writes none
abbrev pub Written : table.Meaning → List ℕ → Answer → Result (Option Handed) ReplayFault → Type 0
Written t out (Ok (Some last)) r = (r ≡ Ok (Some record { rows = length t.order; size = total size t.order; last = last })) × (out ≡ flat_map line t.order)
Written t out (Ok None) r = (r ≡ Ok None) × (out ≡ [])
Written t out (Err f) r = (r ≡ Err f) × (out ≡ [])

pub record Replaying (s s' : store.Meaning) (m m' : Meaning) (before : table.Meaning) (b b' out : List ℕ) (r : Result (Option Handed) ReplayFault) : Type 0 where
  pub after : table.Meaning
  pub answer : Answer
  pub next : Next s s' m m' before after b b' answer
  pub written : Written after out answer r
