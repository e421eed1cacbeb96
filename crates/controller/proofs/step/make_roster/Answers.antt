-- `controller::step::make_roster` meets its contract: the roster, and all other fields as they were, are the state of `make_roster`.
use Rattle.controller.specs.Laws.Rules.{kind_first}
use Rattle.controller.specs.Laws.State.{rules_give}
use Rattle.controller.specs.Laws.Work.Step.{roster_made}
use Rattle.controller.proofs.step.make_roster.Goals as goal

pub roster-state-requires-clause-kind : goal.roster-state-requires-clause-kind
roster-state-requires-clause-kind c = kind_first _ (rules_give _ c.requires.0.sound).early c.requires.1

pub returns : goal.returns
returns c = roster_made c.requires.0 _ c.requires.1 c.roster-state.ensures
