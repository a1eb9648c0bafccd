use Rattle.std.proofs.Common.{◌≡◌, ◌++◌, take, vec_items}
use Rattle.std.specs.List.{flat_map}
use Rattle.rows.specs.Lines.{line}
use Rattle.loader.proofs.listing.append_rows.Given as goal

abbrev pub invariant-loop-i : goal.invariant-loop-i
invariant-loop-i g l = vec_items l.out ≡ vec_items l.initial.out ++ flat_map line (take l.i (g.T.Table.means l.table).order)
