use Rattle.std.proofs.Common.{◌≡◌, true, ◌++◌, drop, vec_items}
use Rattle.printing.specs.Pages.{paged}
use Rattle.printing.proofs.page.put_page.Given as goal

abbrev pub invariant-loop-b : goal.invariant-loop-b
invariant-loop-b l = vec_items l.out ++ paged l.fresh (drop l.b-index l.text) ≡ vec_items l.initial.out ++ paged true l.text
