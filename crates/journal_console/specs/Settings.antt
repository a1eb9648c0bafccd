-- Lines that set values for later calls, and the store up.
use Rattle.std.specs.Prelude.{◌≡◌, ℕ, true, false, ◌⊎◌, List, Ok, Err, Result}
use Rattle.commands.specs.declared.command.TableKind.{TableKind}
use Rattle.commands.specs.declared.options.Options.{Options}
use Rattle.commands.specs.Settings.{Changed}
use Rattle.script.specs.declared.reason.Reason.TheVariants.{TooLate}
use Rattle.setups.specs.declared.settings.Settings.{Settings}
use Rattle.setups.specs.Records.{RecordOf}
use Rattle.store_setup.specs.declared.stop.Stop.{Stop}
use Rattle.store_setup.specs.declared.stop.Stop.TheVariants.{Script, NoMemory}
use Rattle.wal_init.specs.declared.record.ManifestRecord.{ManifestRecord}
use Rattle.journal_console.specs.declared.session.Session.{Session}
use Rattle.journal_console.specs.Sessions.{Same, Still}

-- nothing but the settings is changed
pub record Settled (s : Session) (x : Settings) (t : Session) : Type 0 where
  pub settings : t.settings ≡ x
  pub still : Still s t

abbrev pub with_options : Settings → Options → Settings
with_options s o = record { options = o; manifest = s.manifest; table = s.table; puts = s.puts; bytes = s.bytes }

abbrev pub with_manifest : Settings → ManifestRecord → Settings
with_manifest s m = record { options = s.options; manifest = m; table = s.table; puts = s.puts; bytes = s.bytes }

abbrev pub with_table : Settings → TableKind → ℕ → ℕ → Settings
with_table s k p b = record { options = s.options; manifest = s.manifest; table = k; puts = p; bytes = b }

-- `options`: the words change the options, or nothing
abbrev pub SetsOptions : Session → List (List ℕ) → Result (Unit {0}) Stop → Session → Type 0
SetsOptions s ws (Ok u) t = (o : Options) × Changed ws s.settings.options (Ok o) × Settled s (with_options s.settings o) t
SetsOptions s ws (Err (Script e)) t = Changed ws s.settings.options (Err e) × Same s t
SetsOptions s ws (Err NoMemory) t = ⊥

-- `table`
abbrev pub SetsTable : Session → TableKind → ℕ → ℕ → Session → Type 0
SetsTable s k p b t = Settled s (with_table s.settings k p b) t

-- `record`: before the first call
abbrev pub SetsRecord : Session → List (List ℕ) → Result (Unit {0}) Stop → Session → Type 0
SetsRecord s ws (Ok u) t = (s.setup.begun ≡ false) × ((m : ManifestRecord) × RecordOf ws (Ok m) × Settled s (with_manifest s.settings m) t)
SetsRecord s ws (Err (Script e)) t = (((s.setup.begun ≡ true) × (e ≡ TooLate)) ⊎ ((s.setup.begun ≡ false) × RecordOf ws (Err (Script e)))) × Same s t
SetsRecord s ws (Err NoMemory) t = (s.setup.begun ≡ false) × Same s t
