-- `go_idle` meets its contract: no owner, and a resting block.
use Rattle.rules_moves.specs.Chart.{go_idle}
use Rattle.moves_chart.proofs.go_idle.Goals as goal

pub returns : goal.returns
unfolding go_idle
returns c = rw (c.put_running.ensures, c.rest.ensures, c.put_owner.ensures)
