use mathlib.Core.Path.{◌≡◌}
use Prim.Native.Nat.{◌-◌, ◌≤◌}
use Rattle.rules_tables.specs.Ids.{first_action, actions}
use Rattle.rules_tables.specs.Owned.{any, nth}
use Rattle.table_index.specs.Leads.{or_end}
use Rattle.table_index.proofs.indexed.IndexedNetwork.action_of.Given as goal

abbrev pub invariant-loop-j : goal.invariant-loop-j
invariant-loop-j l = (l.m ≤ l.before) × (l.j ≡ or_end (actions l.self.net.shape) (nth l.self.net.table.now (first_action l.self.net.shape) (actions l.self.net.shape) any l.q l.m))

abbrev pub decreases-loop-j : goal.decreases-loop-j
decreases-loop-j l = l.before - l.m
