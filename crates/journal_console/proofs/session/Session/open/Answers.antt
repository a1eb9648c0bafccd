use Rattle.std.proofs.Common.{List, sym, refl, ◌∙◌, subst}
use Rattle.stations.specs.declared.station.Station.{Station}
use Rattle.stations.specs.Stations.{Finds}
use Rattle.journal_console.proofs.Journeys.{not_found, opened_on}
use Rattle.journal_console.proofs.session.Session.open.Goals as goal

pub returns : goal.returns
returns c =
    let found = subst (λ (xs : List Station). Finds xs c.args.word.now c.find.result) c.as_slice.ensures.value c.find.ensures in
    opened_on c.args.self.now _ c.grant-answer.new.self c.note.new.self c.args.word.now c.args.id c.grant-answer.result c.in_ok-name.name
    record { settings = refl; still = record { account = refl; setup = refl; stations = c.reserve.ensures.items } }
    (not_found _ _ _ (sym c.is_some.ensures ∙ c.if-is_some.false) found) c.in_ok-name.ensures c.grant-answer.ensures c.note.ensures
