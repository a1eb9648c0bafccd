-- The manifest's record, as a line gives it.
use Rattle.std.specs.Prelude.{◌≡◌, ℕ, ◌^◌, ◌<◌, ◌⊎◌, List, [], ◌∷◌, ℤ, Some, None, Ok, Err, Option, Result, ◌≢◌}
use Rattle.std.specs.Int.Signed.{mag}
use Rattle.std.specs.Fmt.{signed_decimal}
use Rattle.script.specs.declared.reason.Reason.TheVariants.{WrongWords, NotTick}
use Rattle.commands.specs.Arguments.{NumberIs}
use Rattle.store_setup.specs.declared.stop.Stop.{Stop}
use Rattle.store_setup.specs.declared.stop.Stop.TheVariants.{Script, NoMemory}
use Rattle.wal_init.specs.declared.record.ManifestRecord.{ManifestRecord}

-- the tick of 64 bits that is written so
abbrev pub TickOf : List ℕ → Option ℤ → Type 0
TickOf w (Some z) = w ≡ signed_decimal z
TickOf w None = (z : ℤ) → mag z < 2 ^ 63 → w ≢ signed_decimal z

-- an id, a number and a tick; the first that is none is the fault
abbrev pub Fields : List ℕ → List ℕ → List ℕ → Result ManifestRecord Stop → Type 0
Fields a b c (Ok m) = NumberIs a (Ok m.replay_after_wal_id) × NumberIs b (Ok m.last_l0_seq) × TickOf c (Some m.last_l0_clock_tick)
Fields a b c (Err (Script e)) =
    NumberIs a (Err e)
    ⊎ (((x : ℕ) × NumberIs a (Ok x) × NumberIs b (Err e))
    ⊎ ((x : ℕ) × (y : ℕ) × NumberIs a (Ok x) × NumberIs b (Ok y) × TickOf c None × (e ≡ NotTick)))
Fields a b c (Err NoMemory) = (x : ℕ) × (y : ℕ) × NumberIs a (Ok x) × NumberIs b (Ok y)

abbrev pub RecordOf : List (List ℕ) → Result ManifestRecord Stop → Type 0
RecordOf ws r =
    ((a : List ℕ) × (b : List ℕ) × (c : List ℕ) × (ws ≡ a ∷ b ∷ c ∷ []) × Fields a b c r)
    ⊎ (((a b c : List ℕ) → ws ≢ a ∷ b ∷ c ∷ []) × (r ≡ Err (Script WrongWords)))
