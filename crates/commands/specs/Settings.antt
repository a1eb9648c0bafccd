-- The options of a script.
use Rattle.std.specs.Prelude.{◌≡◌, ℕ, ◌⊎◌, List, [], ◌∷◌, ◌++◌, Some, None, Ok, Err, codes, Option, Result, ◌≢◌}
use Rattle.std.specs.Borrow.{Bor}
use Rattle.std.specs.Option.{unwrap_or}
use Rattle.script.specs.declared.reason.Reason.{Reason}
use Rattle.script.specs.declared.reason.Reason.TheVariants.{UnknownOption}
use Rattle.commands.specs.declared.options.Key.{Key}
use Rattle.commands.specs.declared.options.Key.TheVariants as key
use Rattle.commands.specs.declared.options.Options.{Options}
use Rattle.commands.specs.declared.options.Setting.{Setting}
use Rattle.commands.specs.Arguments.{NumberIs}

abbrev pub defaults : Options
defaults = record { sst_batch_size = 4; max_wal_bytes_size = 65536; max_memtable_bytes = 67108864; block_size = 4096; min_seq = None }

-- an option's name
abbrev pub key_name : Key → List ℕ
key_name key.SstBatchSize = codes "sst_batch_size"
key_name key.MaxWalBytesSize = codes "max_wal_bytes_size"
key_name key.MaxMemtableBytes = codes "max_memtable_bytes"
key_name key.BlockSize = codes "block_size"
key_name key.MinSeq = codes "min_seq"

-- the name, with the sign behind it
abbrev pub key_word : Key → List ℕ
key_word k = key_name k ++ codes "="

-- a word that begins with an option's name and the sign
abbrev pub Assigns : List ℕ → Result (Key × Bor (List ℕ)) Reason → Type 0
Assigns w (Ok a) = w ≡ key_word a.0 ++ a.1.now
Assigns w (Err e) = ((k : Key) (v : List ℕ) → w ≢ key_word k ++ v) × (e ≡ UnknownOption)

-- a number
abbrev pub Amount : List ℕ → Result (Option ℕ) Reason → Type 0
Amount v (Ok None) = ⊥
Amount v (Ok (Some n)) = NumberIs v (Ok n)
Amount v (Err e) = NumberIs v (Err e)

-- the value of an option: a number, or for the least number a minus, for none
abbrev pub ValueIs : Key → List ℕ → Result (Option ℕ) Reason → Type 0
ValueIs key.SstBatchSize v r = Amount v r
ValueIs key.MaxWalBytesSize v r = Amount v r
ValueIs key.MaxMemtableBytes v r = Amount v r
ValueIs key.BlockSize v r = Amount v r
ValueIs key.MinSeq v r = ((v ≡ codes "-") × (r ≡ Ok None)) ⊎ ((v ≢ codes "-") × Amount v r)

-- what a word sets: an option's name and its value
abbrev pub Sets : List ℕ → Result Setting Reason → Type 0
Sets w (Ok s) = (v : List ℕ) × (w ≡ key_word s.key ++ v) × ValueIs s.key v (Ok s.value)
Sets w (Err e) = (((k : Key) (v : List ℕ) → w ≢ key_word k ++ v) × (e ≡ UnknownOption))
    ⊎ ((k : Key) × (v : List ℕ) × (w ≡ key_word k ++ v) × ValueIs k v (Err e))

-- the options with one set
abbrev pub put : Options → Key → Option ℕ → Options
put o key.SstBatchSize v = record { sst_batch_size = unwrap_or v o.sst_batch_size; max_wal_bytes_size = o.max_wal_bytes_size; max_memtable_bytes = o.max_memtable_bytes; block_size = o.block_size; min_seq = o.min_seq }
put o key.MaxWalBytesSize v = record { sst_batch_size = o.sst_batch_size; max_wal_bytes_size = unwrap_or v o.max_wal_bytes_size; max_memtable_bytes = o.max_memtable_bytes; block_size = o.block_size; min_seq = o.min_seq }
put o key.MaxMemtableBytes v = record { sst_batch_size = o.sst_batch_size; max_wal_bytes_size = o.max_wal_bytes_size; max_memtable_bytes = unwrap_or v o.max_memtable_bytes; block_size = o.block_size; min_seq = o.min_seq }
put o key.BlockSize v = record { sst_batch_size = o.sst_batch_size; max_wal_bytes_size = o.max_wal_bytes_size; max_memtable_bytes = o.max_memtable_bytes; block_size = unwrap_or v o.block_size; min_seq = o.min_seq }
put o key.MinSeq v = record { sst_batch_size = o.sst_batch_size; max_wal_bytes_size = o.max_wal_bytes_size; max_memtable_bytes = o.max_memtable_bytes; block_size = o.block_size; min_seq = v }

abbrev pub with : Options → Setting → Options
with o s = put o s.key s.value

-- the words set options one after another, a later setting over an earlier one; the first that does not is the fault
abbrev pub Changed : List (List ℕ) → Options → Result Options Reason → Type 0
Changed [] o r = r ≡ Ok o
Changed (w ∷ ws) o r = ((s : Setting) × Sets w (Ok s) × Changed ws (with o s) r) ⊎ ((e : Reason) × Sets w (Err e) × (r ≡ Err e))
