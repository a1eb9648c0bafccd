-- What a store in memory means.
use Rattle.std.specs.Prelude.{vec_items}
use Rattle.store.specs.Meaning.{Held, Meaning, steady_store}
use Rattle.store.specs.Index.{files_in}
use Rattle.store.specs.declared.memory.MemoryStore.{MemoryStore}

abbrev pub memory_holds : MemoryStore → Held
memory_holds s = record {
  files = files_in (vec_items s.index.extents) (vec_items s.text);
  places = s.places;
  bytes = s.bytes;
}

abbrev pub memory_means : MemoryStore → Meaning
memory_means s = steady_store (memory_holds s)
