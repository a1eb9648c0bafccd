use Rattle.std.proofs.Common.{sym, ◌∙◌}
use Rattle.setups.proofs.Listed.{written, empty}
use Rattle.setups.proofs.loads.load_into.Goals as goal

pub returns-in_ok-list : goal.returns-in_ok-list
returns-in_ok-list g c = written _ _ _ _ _ _ (sym c.is_ok.ensures.value ∙ c.if-is_ok.true) c.load-loaded.ensures c.clear.ensures.items c.in_ok-list.ensures

pub returns-else-is_ok : goal.returns-else-is_ok
returns-else-is_ok g c = empty _ _ _ _ _ (sym c.is_ok.ensures.value ∙ c.if-is_ok.false) c.load-loaded.ensures c.clear.ensures.items
