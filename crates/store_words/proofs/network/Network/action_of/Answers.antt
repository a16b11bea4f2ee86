-- `action_of` meets its contract by that of `nth`.
use Rattle.rules_tables.specs.Actions.{action_of}
use borrow.Author.Tests.{ne_eqb}
use Rattle.store_words.proofs.network.Network.action_of.Goals as goal

pub returns-then-k-eq0 : goal.returns-then-k-eq0
unfolding action_of
returns-then-k-eq0 c = rw c.if-k-eq0.true

pub returns : goal.returns
unfolding action_of
returns c = rw (ne_eqb _ _ c.if-k-eq0.false, ← c.actions.ensures) c.nth.ensures
