use Rattle.std.proofs.Common.{◌≡◌, ℕ, List, ◌++◌, Some, Option, Bor, codes, ◌≢◌, subst}
use Rattle.std.specs.Option.{MatchOption}
use Rattle.std.proofs.lemmas.Slice.Eq.{strip_prefix_is}
use Rattle.std.proofs.lemmas.Bool.Decides.{Decides-eqb}
use Rattle.commands.proofs.options.assignment_of.Goals as goal

-- what stands behind a beginning that the word has
behind : (w p : List ℕ) (r : Option (Bor (List ℕ))) (v : Bor (List ℕ)) → MatchOption r ((rest : List ℕ) → w ≢ p ++ rest) (λ x. w ≡ p ++ x.now) → r ≡ Some v → w ≡ p ++ v.now
behind w p r v h e = subst (λ o. MatchOption o ((rest : List ℕ) → w ≢ p ++ rest) (λ x. w ≡ p ++ x.now)) e h

pub returns-in-Some-strip_prefix : goal.returns-in-Some-strip_prefix
returns-in-Some-strip_prefix c = behind c.args.word.now (codes "max_wal_bytes_size=") _ _ (strip_prefix_is Decides-eqb c.args.word.now (codes "max_wal_bytes_size=") _ c.strip_prefix-in_default.ensures.cases) c.in-Some-strip_prefix.is

pub returns-in-Some-strip_prefix-2 : goal.returns-in-Some-strip_prefix-2
returns-in-Some-strip_prefix-2 c = behind c.args.word.now (codes "max_memtable_bytes=") _ _ (strip_prefix_is Decides-eqb c.args.word.now (codes "max_memtable_bytes=") _ c.strip_prefix-in_default-strip_prefix.ensures.cases) c.in-Some-strip_prefix-2.is

pub returns-in-Some-strip_prefix-3 : goal.returns-in-Some-strip_prefix-3
returns-in-Some-strip_prefix-3 c = behind c.args.word.now (codes "block_size=") _ _ (strip_prefix_is Decides-eqb c.args.word.now (codes "block_size=") _ c.strip_prefix-in_default-strip_prefix-2.ensures.cases) c.in-Some-strip_prefix-3.is
