-- The worked session's log, computed: what happened, what was recorded, what was sampled and copied last. So the laws are no laws of an empty log.
use Rattle.std.specs.Prelude.{◌≡◌, refl, [], ◌∷◌}
use Rattle.rules_moves.specs.Connected.{runs}
use Rattle.rules_moves.specs.Associated.{joins_variable}
use Rattle.cases.specs.Claim.{everything}
use Rattle.rules_log.specs.Log.{fire_log, move_log, run_log, expire_log, advance_log, arrival_log}
use Rattle.rules_log.specs.Origin.{fresh, origin, last_sampled, last_copied, records_of}
use Rattle.cases_log.specs.Session.{table, shape, before, log, told}

-- the source's event is fired by the arrival and taken by the block; the block's event is fired on its account and taken by the sink
pub happened : told log ≡ (2 ∷ 0 ∷ 7 ∷ []) ∷ (1 ∷ 0 ∷ []) ∷ (2 ∷ 1 ∷ []) ∷ (1 ∷ 1 ∷ []) ∷ []
unfolding everything table before log runs joins_variable fire_log move_log run_log expire_log advance_log arrival_log
happened = refl

-- the record bears the birth of the arrival, 7, and the value 42
pub recorded : records_of table shape (fresh table shape) log ≡ 0 ∷ 2 ∷ 0 ∷ 1 ∷ 0 ∷ 0 ∷ 0 ∷ 7 ∷ 0 ∷ 0 ∷ 0 ∷ 10 ∷ 0 ∷ 0 ∷ 0 ∷ 10 ∷ 0 ∷ 0 ∷ 0 ∷ 42 ∷ []
unfolding everything table before log runs joins_variable fire_log move_log run_log expire_log advance_log arrival_log origin records_of
recorded = refl

-- the block sampled 21 and the sink 42; these were copied to their buffers
pub held : last_sampled table shape (fresh table shape) log 1 ∷ last_sampled table shape (fresh table shape) log 3 ∷ last_copied table shape (fresh table shape) log 0 1 ∷ last_copied table shape (fresh table shape) log 2 3 ∷ [] ≡ 21 ∷ 42 ∷ 21 ∷ 42 ∷ []
unfolding everything table before log runs joins_variable fire_log move_log run_log expire_log advance_log arrival_log last_sampled last_copied
held = refl
