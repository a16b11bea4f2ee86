-- `place` meets its contract: in order the kind's start and the id beyond it (`located_start`), else what was put there (`located_put`).
use Rattle.table_frames.proofs.laws.Placed.{located_in, located_room, located_start, located_put}
use Rattle.std.proofs.Common.{rules, arith}
use Rattle.table_frames.proofs.frames.Frames.place.Goals as goal

pub overflow_add-p : goal.overflow_add-p
overflow_add-p c = let F = c.args.self.now in omega (arith, located_in _ _ _ _ _ F.kinds.starting c.number.ensures.1 c.number.ensures.0 c.requires)

pub offset_bounds-self-p : goal.offset_bounds-self-p
offset_bounds-self-p c = let F = c.args.self.now in omega (arith, located_room _ _ _ _ _ F.kinds.starting c.number.ensures.1 c.number.ensures.0 c.requires _ F.located (search rules))

pub bounds-self-p : goal.bounds-self-p
bounds-self-p c = let F = c.args.self.now in located_room _ _ _ _ _ F.kinds.starting c.number.ensures.1 c.number.ensures.0 c.requires _ F.located (search rules)

pub returns-then-is_empty : goal.returns-then-is_empty
returns-then-is_empty c = let F = c.args.self.now in located_start _ _ _ _ _ F.kinds.starting c.number.ensures.1 c.number.ensures.0 c.requires _ F.located (search rules)

pub returns-else-is_empty : goal.returns-else-is_empty
returns-else-is_empty c = let F = c.args.self.now in located_put _ _ _ _ _ F.kinds.starting c.number.ensures.1 c.number.ensures.0 c.requires _ F.located (search rules) _ (search rules)
