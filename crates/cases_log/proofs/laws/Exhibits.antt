-- Demand 3 on two sequences of calls that are exhibited: the worked session, and one with an interface, a delay and an event that is overwritten. So the laws are
-- met by something, their premises can be met, and what they then say is computed.
use Rattle.std.specs.Prelude.{◌≡◌, refl, List, [], ◌∷◌, ℕ, replicate}
use Rattle.std.proofs.Common.{sym, subst, arith}
use Rattle.rules_tables.specs.Judge.{accepted, judge}
use Rattle.rules_store.specs.Word.{overwritten}
use Rattle.rules_store.specs.Own.{Due}
use Rattle.rules_store.specs.Load.{loaded}
use Rattle.rules_moves.specs.Connected.{runs}
use Rattle.rules_moves.specs.Associated.{joins_variable}
use Rattle.rules_calls.specs.Run.{after}
use Rattle.rules_calls.specs.Calls.{arrived}
use Rattle.rules_log.specs.Log.{Log, empty, fire_log, move_log, run_log, expire_log, advance_log, arrival_log}
use Rattle.rules_log.specs.Origin.{born, fresh, Ordered, waits, current, origin, last_sampled, last_copied, records_of}
use Rattle.rules_log.specs.Sequence.{Since}
use Rattle.rules_log.specs.Timer.{Timer, until, start_timer, timer, Clocked}
use Rattle.laws_calls.proofs.laws.Demand3.{order, births, running_birth, input_values, buffers}
use Rattle.laws_calls.proofs.laws.Timers.{delay_due}
use Rattle.cases_tables.proofs.laws.Cases.{worked_right}
use Rattle.cases.specs.Claim.{everything}
use Rattle.cases_log.specs.Session.{table, shape, before}
use Rattle.cases_log.specs.Network.{frames, network, outline, ten, twice, due, fifteen, to_twice, to_fifteen, to_end}
use Rattle.cases_log.proofs.laws.Done.{loaded_since, advanced_since, arrived_since, ran_since}

-- every definition on the way, beside those of the calls
log_too : Unit {0}
unfolding everything table before frames network ten twice due fifteen runs joins_variable fire_log move_log run_log expire_log advance_log arrival_log
log_too = tt

-- ---- the worked session
worked_verdict : judge table ≡ accepted
unfolding table
worked_verdict = worked_right

abbrev zeros : List ℕ
zeros = replicate 39 0

worked_loaded : Since table (loaded table shape zeros) empty
unfolding log_too
worked_loaded = loaded_since table worked_verdict zeros refl

worked_advanced : Since table before (advance_log table shape 10 (loaded table shape zeros) empty)
unfolding log_too
worked_advanced = advanced_since table worked_verdict (loaded table shape zeros) empty worked_loaded 10 refl

abbrev ready : List ℕ
ready = arrived table shape 0 7 (21 ∷ []) before

abbrev to_ready : Log
to_ready = arrival_log table shape 0 7 (21 ∷ []) before (advance_log table shape 10 (loaded table shape zeros) empty)

worked_arrived : Since table ready to_ready
unfolding log_too
worked_arrived = arrived_since table worked_verdict before (advance_log table shape 10 (loaded table shape zeros) empty) worked_advanced 0 7 (21 ∷ []) refl

worked_ran : Since table (after table shape 10 9 ready) (run_log table shape 10 9 ready to_ready)
unfolding log_too
worked_ran = ran_since table worked_verdict ready to_ready worked_arrived 9 (replicate 20 0) 10 9 refl refl refl

-- after one move the block runs
worked_runs : Since table (after table shape 10 1 ready) (run_log table shape 10 1 ready to_ready)
unfolding log_too
worked_runs = ran_since table worked_verdict ready to_ready worked_arrived 1 (replicate 20 0) 10 1 refl refl refl

pub worked_order : Ordered shape (fresh table shape) (run_log table shape 10 9 ready to_ready)
worked_order = order table (after table shape 10 9 ready) (run_log table shape 10 9 ready to_ready) worked_ran

-- the event that waits after the arrival began its chain at 7; so did the event that the block runs
pub worked_waits : origin table shape (fresh table shape) to_ready (waits 0) ≡ born 7
unfolding log_too
worked_waits = births table ready to_ready worked_arrived 0 (omega arith) refl

pub worked_running : origin table shape (fresh table shape) (run_log table shape 10 1 ready to_ready) current ≡ born 7
unfolding log_too
worked_running = running_birth table (after table shape 10 1 ready) (run_log table shape 10 1 ready to_ready) worked_runs (λ z. let q : ◌≡◌ {A = ℕ} 1 0 = z in omega arith)

-- the block holds the 21 that it sampled, and the sink's buffer the 42 that was copied
pub worked_input : last_sampled table shape (fresh table shape) (run_log table shape 10 9 ready to_ready) 1 ≡ 21
unfolding log_too
worked_input = sym (input_values table (after table shape 10 9 ready) (run_log table shape 10 9 ready to_ready) worked_ran 1 (omega arith) refl)

pub worked_buffer : last_copied table shape (fresh table shape) (run_log table shape 10 9 ready to_ready) 2 3 ≡ 42
unfolding log_too
worked_buffer = sym (buffers table (after table shape 10 9 ready) (run_log table shape 10 9 ready to_ready) worked_ran 1 (omega arith))

-- ---- the network with an interface, a delay and an overwritten event
network_verdict : judge network ≡ accepted
unfolding log_too
network_verdict = refl

abbrev blank : List ℕ
blank = replicate 50 0

network_loaded : Since network (loaded network outline blank) empty
unfolding log_too
network_loaded = loaded_since network network_verdict blank refl

abbrev to_ten : Log
to_ten = advance_log network outline 10 (loaded network outline blank) empty

network_ten : Since network ten to_ten
unfolding log_too
network_ten = advanced_since network network_verdict (loaded network outline blank) empty network_loaded 10 refl

abbrev once : List ℕ
once = arrived network outline 0 3 (21 ∷ []) ten

network_once : Since network once (arrival_log network outline 0 3 (21 ∷ []) ten to_ten)
unfolding log_too
network_once = arrived_since network network_verdict ten to_ten network_ten 0 3 (21 ∷ []) refl

pub network_twice : Since network twice to_twice
unfolding log_too
network_twice = arrived_since network network_verdict once (arrival_log network outline 0 3 (21 ∷ []) ten to_ten) network_once 0 8 (22 ∷ []) refl

-- the second arrival has overwritten the first: the count is 1, and the event that waits is of the second chain
pub network_overwritten : overwritten twice ≡ 1
unfolding log_too
network_overwritten = refl

pub network_waits : origin network outline (fresh network outline) to_twice (waits 0) ≡ born 8
unfolding log_too
network_waits = births network twice to_twice network_twice 0 (omega arith) refl

network_due : Since network due (run_log network outline 10 3 twice to_twice)
unfolding log_too
network_due = ran_since network network_verdict twice to_twice network_twice 3 (replicate 20 0) 10 3 refl refl refl

-- START was taken at 10, and DT is 5: the delay runs until 15, and the store says so
pub network_runs : timer network outline 2 (run_log network outline 10 3 twice to_twice) ≡ until 15
unfolding log_too timer start_timer
network_runs = refl

pub network_is_due : Due 2 1 15 due
unfolding log_too
network_is_due = subst (λ (x : Timer). Clocked 2 x due) network_runs (delay_due network 2 (omega arith) refl due (run_log network outline 10 3 twice to_twice) network_due)

pub network_fifteen : Since network fifteen to_fifteen
unfolding log_too
network_fifteen = advanced_since network network_verdict due (run_log network outline 10 3 twice to_twice) network_due 15 refl

-- the delay has begun a chain of its own
pub network_delayed : origin network outline (fresh network outline) to_fifteen (waits 3) ≡ born 15
unfolding log_too
network_delayed = births network fifteen to_fifteen network_fifteen 3 (omega arith) refl

pub network_end : Since network (after network outline 15 1 fifteen) to_end
unfolding log_too
network_end = ran_since network network_verdict fifteen to_fifteen network_fifteen 1 (replicate 20 0) 15 1 refl refl refl

-- last updates 10, 10, 10 and 15
pub network_order : Ordered outline (fresh network outline) to_end
network_order = order network (after network outline 15 1 fifteen) to_end network_end

-- the sink holds the value that came through the interface, also after the delay's event, which carries nothing
pub network_input : last_sampled network outline (fresh network outline) to_end 4 ≡ 22
unfolding log_too
network_input = sym (input_values network (after network outline 15 1 fifteen) to_end network_end 4 (omega arith) refl)

-- its records: born 8 at the interface's event, and born 15 at the delay's
pub network_recorded : records_of network outline (fresh network outline) to_end
    ≡ 0 ∷ 3 ∷ 0 ∷ 3 ∷ 0 ∷ 0 ∷ 0 ∷ 8 ∷ 0 ∷ 0 ∷ 0 ∷ 10 ∷ 0 ∷ 0 ∷ 0 ∷ 10 ∷ 0 ∷ 0 ∷ 0 ∷ 22 ∷ 0 ∷ 3 ∷ 0 ∷ 3 ∷ 0 ∷ 0 ∷ 0 ∷ 15 ∷ 0 ∷ 0 ∷ 0 ∷ 15 ∷ 0 ∷ 0 ∷ 0 ∷ 15 ∷ 0 ∷ 0 ∷ 0 ∷ 22 ∷ []
unfolding log_too origin records_of
network_recorded = refl
