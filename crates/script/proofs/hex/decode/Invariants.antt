use Rattle.std.proofs.Common.{◌≡◌, ◌+◌, ◌/◌, ◌≤◌, ◌++◌, length, vec_items, vec_len, vec_capacity}
use Rattle.std.specs.Slice.Iter.{chunks_exact_rest, chunks_exact_size}
use Rattle.script.specs.Hexadecimal.{pairs}
use Rattle.script.proofs.hex.decode.Given as goal

abbrev pub invariant-loop-pair : goal.invariant-loop-pair
invariant-loop-pair l = record {
  size : chunks_exact_size l.pair-iterator ≡ 2;
  whole : pairs (vec_items l.bytes) ++ chunks_exact_rest l.pair-iterator ≡ l.digits;
  room : vec_len l.bytes + length (chunks_exact_rest l.pair-iterator) / 2 ≤ vec_capacity l.bytes;
}
