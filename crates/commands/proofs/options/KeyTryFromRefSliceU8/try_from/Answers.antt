use Rattle.std.proofs.Common.{codes, arith, rules}
use Rattle.std.proofs.lemmas.Slice.Eq.{text_from_reads}
use Rattle.commands.proofs.options.KeyTryFromRefSliceU8.try_from.Goals as goal

pub returns-in-109 : goal.returns-in-109
returns-in-109 c = text_from_reads c.args.name.now (codes "max_wal_bytes_size") (omega arith) (search rules)

pub returns-in-109-2 : goal.returns-in-109-2
returns-in-109-2 c = text_from_reads c.args.name.now (codes "max_memtable_bytes") (omega arith) (search rules)
