-- Each arm is the definition at its kind.
use Rattle.rules_tables.specs.Reference.{refers_ok, refers_as}
use Rattle.std.proofs.Common.{⊎_elim}
use Rattle.table_references.proofs.refers_ok.Goals as goal

pub returns-in-Element : goal.returns-in-Element
unfolding refers_ok refers_as
returns-in-Element c = rw (← c.requires.1, c.in-Element.is) c.initial_state.ensures

pub returns-in-Association : goal.returns-in-Association
unfolding refers_ok refers_as
returns-in-Association c = rw (← c.requires.1, c.in-Association.is) c.associates.ensures

pub returns-in-ChartState : goal.returns-in-ChartState
unfolding refers_ok refers_as
returns-in-ChartState c = rw (← c.requires.1, c.in-ChartState.is) c.of_basic.ensures

pub returns-in-Transition : goal.returns-in-Transition
unfolding refers_ok refers_as
returns-in-Transition c = rw (← c.requires.1, c.in-Transition.is) c.transits.ensures

pub returns-in-Action : goal.returns-in-Action
unfolding refers_ok refers_as
returns-in-Action c = rw (← c.requires.1, c.in-Action.is) c.acts.ensures

pub returns-in-Step : goal.returns-in-Step
unfolding refers_ok refers_as
returns-in-Step c = rw (← c.requires.1, c.in-Step.is) c.steps_to.ensures

pub returns-in-EventConnection : goal.returns-in-EventConnection
unfolding refers_ok refers_as
returns-in-EventConnection c = rw (← c.requires.1, c.in-EventConnection.is) c.connects_events.ensures

pub returns-in-DataConnection : goal.returns-in-DataConnection
unfolding refers_ok refers_as
returns-in-DataConnection c = rw (← c.requires.1, c.in-DataConnection.is) c.connects_data.ensures

pub returns-in-Zero : goal.returns-in-Zero
unfolding refers_ok refers_as
returns-in-Zero c =
    rw (← c.requires.1)
    (⊎_elim (λ e. rw e c.of_element.ensures) (⊎_elim (λ e. rw e c.of_element.ensures) (⊎_elim (λ e. rw e c.of_element.ensures) (λ e. rw e c.of_element.ensures))) c.in-Zero.is)
