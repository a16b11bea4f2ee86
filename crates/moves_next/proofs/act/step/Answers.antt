-- `step` meets its contract: the step, and the running block after it, which the step leaves (`step_runs`).
use Rattle.moves_next.proofs.Turns.{stepped_on, stepped_untrue, step_runs}
use Rattle.moves_next.proofs.act.step.Goals as goal

pub put_stepped-requires : goal.put_stepped-requires
put_stepped-requires c = (step_runs _ _ _ _ _ c.one_step-u.ensures.0 c.requires.3, c.requires.1)

pub returns : goal.returns
returns c = (
  stepped_on _ _ _ _ _ _ _ c.step_frame.ensures.is c.since.ensures.0 c.one_step-u.ensures.0 c.put_stepped.ensures,
  stepped_untrue _ _ _ _ _ c.step_frame.ensures.is c.since.ensures.0 c.one_step-u.ensures.1,
)
