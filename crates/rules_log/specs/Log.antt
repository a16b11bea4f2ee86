-- What happens in a sequence of calls since a load: each event taken and each event fired, in order, with the store at that moment. It is written down
-- beside the moves of document 01 and nowhere else.
use Rattle.std.specs.Prelude.{ℕ, zero, suc, List}
use Rattle.rules_walks.specs.Choose.{choose}
use Rattle.rules_walks.specs.First.{Sought, one, missing}
use Rattle.rules_walks.specs.Walk.{up_to}
use Rattle.rules_tables.specs.declared.Shape.{Shape}
use Rattle.rules_tables.specs.Ids.{elements, first_output, outputs, associations}
use Rattle.rules_store.specs.Word.{put_now}
use Rattle.rules_tables.specs.Owned.{any, nth}
use Rattle.rules_moves.specs.Take.{settled, fired_by}
use Rattle.rules_moves.specs.declared.Next.{Next}
use Rattle.rules_moves.specs.declared.Next.TheVariants.{Take, Change, Idle, Step, End, Back, Nothing}
use Rattle.rules_moves.specs.Act.{event_of}
use Rattle.rules_moves.specs.Next.{next_of}
use Rattle.rules_calls.specs.Run.{after}
use Rattle.rules_calls.specs.Calls.{expire, give}
use Rattle.rules_store.specs.Due.{due_at}

-- how an event is fired: it begins a chain, with this birth, or goes on the chain of the event that was taken last
pub data How : Type 0 where
  begins : ℕ → How
  goes_on : How

-- event input i is taken from store s; or event output o is fired, where the store is s: values are put or passed, no connection is walked yet
pub data Happening : Type 0 where
  takes : ℕ → List ℕ → Happening
  fires : ℕ → How → List ℕ → Happening

pub data Log : Type 0 where
  empty : Log
  more : Log → Happening → Log

-- the event output that was found, if any, is fired
unfoldable pub fire_log : Sought → How → List ℕ → Log → Log
fire_log (one o) how s l = more l (fires o how s)
fire_log missing how s l = l

-- one move: move 1 takes the event and then fires what that has it fire; move 5, "action's steps done: its event, if any, is fired"; the others take and fire nothing
unfoldable pub move_log : List ℕ → Shape → ℕ → Next → List ℕ → Log → Log
move_log T S time (Take i) s l = fire_log (fired_by T S i) goes_on (settled T S i time s) (more l (takes i s))
move_log T S time (Change j) s l = l
move_log T S time Idle s l = l
move_log T S time (Step j) s l = l
move_log T S time (End j) s l = fire_log (event_of T S j) goes_on s l
move_log T S time Back s l = l
move_log T S time Nothing s l = l

-- run: n moves
unfoldable pub run_log : List ℕ → Shape → ℕ → ℕ → List ℕ → Log → Log
run_log T S time zero s l = l
run_log T S time (suc n) s l = move_log T S time (next_of T S (after T S time n s)) (after T S time n s) (run_log T S time n s l)

-- advance: each delay that is due begins a chain; s is the store when its turn comes
unfoldable pub expire_log : List ℕ → Shape → ℕ → ℕ → List ℕ → Log → Log
expire_log T S t el s l = choose (due_at s t el) (fire_log (nth T (first_output S) (outputs S) any el 0) (begins t) s l) l

unfoldable pub advance_log : List ℕ → Shape → ℕ → List ℕ → Log → Log
advance_log T S t s l = up_to (λ (el : ℕ). expire_log T S t el (up_to (expire T S t) el (put_now t s))) (elements S) l

-- arrival: it begins a chain with its birth, once its values are put
unfoldable pub arrival_log : List ℕ → Shape → ℕ → ℕ → List ℕ → List ℕ → Log → Log
arrival_log T S o birth values s l = more l (fires o (begins birth) (up_to (give T S o values) (associations S) s))
