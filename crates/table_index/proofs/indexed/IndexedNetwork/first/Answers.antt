use native.Mathlib.Omega.{arith}
use Rattle.table_index.proofs.indexed.IndexedNetwork.first.Goals as goal

pub overflow_add-base : goal.overflow_add-base
overflow_add-base c = let h = c.requires.room in omega arith

pub offset_bounds-self-base : goal.offset_bounds-self-base
offset_bounds-self-base c = let h = c.requires.room in omega arith

pub bounds-self-base : goal.bounds-self-base
bounds-self-base c = let h = c.requires.room in omega arith

pub returns-then-owner-owners : goal.returns-then-owner-owners
returns-then-owner-owners c = rw c.from.ensures (c.requires.head c.if-owner-owners.true)

pub returns-else-owner-owners : goal.returns-else-owner-owners
returns-else-owner-owners c = c.requires.beyond c.if-owner-owners.false
