-- The rows of a table that was loaded.
use Rattle.std.proofs.Common.{◌≡◌, ℕ, true, false, List, [], ◌++◌, is_ok, Ok, Err, Result, ap, ◌∙◌}
use Rattle.std.specs.List.{flat_map}
use Rattle.std.proofs.lemmas.Bool.{true≢false, false≢true}
use Rattle.rows.specs.Lines.{line}
use Rattle.mem_table.specs.Meaning.{Meaning}
use Rattle.loader.specs.Loads.{Loads}
use Rattle.loader.specs.declared.fault.LoadFault.{LoadFault}
use Rattle.loader.specs.declared.loading.Loaded.{Loaded}
use Rattle.setups.specs.Loading.{Listing}

pub written : (before after : Meaning) (text clear out : List ℕ) (r : Result Loaded LoadFault) → is_ok r ≡ true → Loads text before after r → clear ≡ [] → out ≡ clear ++ flat_map line after.order → Listing before text out r
written before after text clear out (Ok x) e l c o = record { after = after; loads = l; lines = o ∙ ap (λ x. x ++ flat_map line after.order) c }
written before after text clear out (Err f) e l c o = absurd (false≢true e)

pub empty : (before after : Meaning) (text out : List ℕ) (r : Result Loaded LoadFault) → is_ok r ≡ false → Loads text before after r → out ≡ [] → Listing before text out r
empty before after text out (Ok x) e l c = absurd (true≢false e)
empty before after text out (Err f) e l c = record { after = after; loads = l; lines = c }
