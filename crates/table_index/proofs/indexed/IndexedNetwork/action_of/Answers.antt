-- `action_of` meets its contract. The invariant: j is where the search for the action with m of the state's actions before it leads.
use mathlib.Core.Path.{refl}
use native.Mathlib.Omega.{arith}
use borrow.Author.Rules.{rules}
use Rattle.rules_tables.specs.Actions.{action_of}
use Rattle.table_index.proofs.laws.Nth.{nth_first}
use Rattle.table_index.proofs.laws.Actions.{action_more, action_past, action_at}
use Rattle.table_index.proofs.indexed.IndexedNetwork.action_of.Goals as goal

pub returns-then-k-eq0 : goal.returns-then-k-eq0
unfolding action_of
returns-then-k-eq0 c = rw c.if-k-eq0.true

pub loop-j-init : goal.loop-j-init
loop-j-init c = (search rules, nth_first _ _ _ _ _ _ c.first_action-j.ensures)

pub loop-j-preserved : goal.loop-j-preserved
loop-j-preserved c = (search rules, action_more _ _ _ _ c.loop-j.invariant.1 (omega (arith, c.actions-n.ensures)) c.next_action-j.ensures)

pub returns-then-n-j : goal.returns-then-n-j
returns-then-n-j c = action_past _ _ _ _ c.if-k-eq0.false refl c.loop-j.invariant.0 c.loop-j.invariant.1 (omega (arith, c.actions-n.ensures))

pub returns-then-m-before : goal.returns-then-m-before
returns-then-m-before c = action_at _ _ _ _ c.if-k-eq0.false refl c.loop-j.invariant.0 c.loop-j.invariant.1 (omega (arith, c.actions-n.ensures)) c.if-m-before.true
