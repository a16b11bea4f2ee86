-- `next` meets its contract: where the walk stands is given, and the index tells what comes after.
use native.Mathlib.Omega.{arith}
use Rattle.table_index.proofs.walk.WalkIterator.next.Goals as goal

pub overflow_add-self : goal.overflow_add-self
overflow_add-self c = let h = c.args.self.now.walking.inside in omega arith

pub offset_bounds-self-self : goal.offset_bounds-self-self
offset_bounds-self-self c = let h = c.args.self.now.walking.inside in omega arith

pub bounds-self-self : goal.bounds-self-self
bounds-self-self c = let h = c.args.self.now.walking.inside in omega arith
