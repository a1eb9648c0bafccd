-- The values that the lines of a script set for later calls.
use Rattle.std.specs.Prelude.{pos}
use Rattle.commands.specs.declared.command.TableKind.TheVariants.{Sorted}
use Rattle.commands.specs.Settings.{defaults}
use Rattle.setups.specs.declared.settings.Settings.{Settings}
use Rattle.wal_init.specs.declared.record.Options.{Options}

abbrev pub begin : Settings
begin = record {
  options = defaults;
  manifest = record { replay_after_wal_id = 0; last_l0_seq = 0; last_l0_clock_tick = pos 0 };
  table = Sorted;
  puts = 65536;
  bytes = 16777216;
}

-- the options as an opening takes them
abbrev pub opening_options : Settings → Options
opening_options s = record {
  sst_batch_size = s.options.sst_batch_size;
  max_wal_bytes_size = s.options.max_wal_bytes_size;
  max_memtable_bytes = s.options.max_memtable_bytes;
  block_size = s.options.block_size;
  min_seq = s.options.min_seq;
}
