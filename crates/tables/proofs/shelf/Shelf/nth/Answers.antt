use Rattle.std.proofs.Common.{◌<◌, ◌≤◌, length, sym, refl, ◌∙◌, arith}
use Rattle.std.proofs.lemmas.Bool.{lt-ltb, le-ltb}
use Rattle.tables.specs.Shelves.{order_of}
use Rattle.tables.proofs.Shelves.{listed, long}
use Rattle.tables.proofs.shelf.Shelf.nth.Goals as goal

pub returns-then-i-len : goal.returns-then-i-len
returns-then-i-len c =
    let s = c.args.self.now in
    let past : length (order_of s) ≤ c.args.i = omega (arith, c.if-i-len.true, c.len.ensures, s.ranks.ok.0, long s) in
    record { answer = sym (le-ltb c.args.i (length (order_of s)) past); row = λ l. absurd (omega arith); none = λ _. refl; listed = listed s }

pub row_at-requires : goal.row_at-requires
row_at-requires c = let s = c.args.self.now in omega (arith, c.if-i-len.false, c.len.ensures, s.ranks.ok.0, long s)

pub returns : goal.returns
returns c =
    let s = c.args.self.now in
    let within : c.args.i < length (order_of s) = omega (arith, c.if-i-len.false, c.len.ensures, s.ranks.ok.0, long s) in
    record { answer = sym (lt-ltb c.args.i (length (order_of s)) within); row = λ _. c.fill.ensures ∙ c.row_at.ensures; none = λ l. absurd (omega arith); listed = listed s }
