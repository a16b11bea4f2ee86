-- What a log says of a delay. "The standard's E_DELAY counts from the first START, and later ones before the output have no effect." It looks at the events taken
-- and fired, and of a store at now and DT where START was taken.
use Rattle.std.specs.Prelude.{ℕ, ◌+◌, List, eqb}
use Rattle.rules_walks.specs.Choose.{choose}
use Rattle.rules_tables.specs.declared.Shape.{Shape}
use Rattle.rules_store.specs.Word.{now_of}
use Rattle.rules_store.specs.Own.{Due}
use Rattle.rules_moves.specs.Partner.{input_owner, output_owner}
use Rattle.rules_moves.specs.Take.{dt_of, is_start, sampled}
use Rattle.rules_log.specs.Log.{takes, fires, Log, empty, more}

-- it runs until this time, or rests
pub data Timer : Type 0 where
  until : ℕ → Timer
  rests : Timer

-- a START that would have it run until t: the first one counts
unfoldable pub start_timer : ℕ → Timer → Timer
start_timer t rests = until t
start_timer t (until u) = until u

-- delay el: its START and its STOP, and its output, which it fires when its time has come
unfoldable pub timer : List ℕ → Shape → ℕ → Log → Timer
timer T S el empty = rests
timer T S el (more l (takes i s)) =
    choose (eqb (input_owner T S i) el)
    (choose (is_start T S el i) (start_timer (now_of s + dt_of T S el (sampled T S i s)) (timer T S el l)) rests)
    (timer T S el l)
timer T S el (more l (fires o how s)) = choose (eqb (output_owner T S o) el) rests (timer T S el l)

-- the due words of el in store s say so
abbrev pub Clocked : ℕ → Timer → List ℕ → Type 0
Clocked el (until t) s = Due el 1 t s
Clocked el rests s = Due el 0 0 s
