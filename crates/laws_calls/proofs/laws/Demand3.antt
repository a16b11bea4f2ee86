-- Demand 3, in the user's words. "Take any sequence of calls since the last accepted load, with one table and a store that only these calls write. Events are
-- taken in an order whose last-update times never fall. Every event waiting or put out bears the birth time of the arrival or delay that began its chain, a chain
-- passing from an event taken to those fired on its account. Every input variable holds what its buffer held when an event associated with it was last taken, and
-- every connected buffer holds what its source held when an event carrying that source was last fired; where there was none, its own start value."
use Rattle.std.specs.Prelude.{◌≡◌, List, ℕ, ◌<◌}
use Rattle.std.proofs.Common.{sym, ◌∙◌}
use Rattle.std.proofs.Math.Path.{ap}
use Rattle.std.proofs.Math.ListN.{length}
use Rattle.std.proofs.lemmas.List.Edits.{sets}
use Rattle.rules_walks.specs.Choose.{choose}
use Rattle.rules_tables.specs.Frame.{flag_at}
use Rattle.rules_tables.specs.declared.Shape.{Shape}
use Rattle.rules_tables.specs.Judge.{shape_of}
use Rattle.rules_tables.proofs.laws.Accepted.{accepted_means}
use Rattle.rules_tables.specs.Ids.{inputs, variables, links, variable_frame}
use Rattle.rules_store.specs.Word.{now_of, running_of, waiting, birth_of, value, buffer}
use Rattle.rules_tables.specs.Lawful.{source, destination}
use Rattle.rules_tables.proofs.laws.Lawful.{lawful}
use Rattle.rules_calls.specs.Run.{bytes}
use Rattle.rules_calls.specs.Answer.{kept_by, Answer}
use Rattle.rules_calls.specs.Public.{run_moves, count_by, RunCall}
use Rattle.rules_calls.proofs.laws.Public.{run_output_lem}
use Rattle.rules_calls.proofs.laws.Run.{bytes_fit}
use Rattle.rules_log.specs.Log.{Log, run_log}
use Rattle.rules_log.specs.Origin.{born, Begun, fresh, Ordered, waits, current, origin, last_sampled, last_copied, records_of}
use Rattle.laws_log.specs.Holds.{Holds}
use Rattle.laws_log.proofs.laws.Records.{run_records}
use Rattle.rules_log.specs.Sequence.{unless, log_run, Since}
use Rattle.laws_calls.proofs.laws.Lawfully.{lawfully, never_refused}
use Rattle.laws_calls.specs.Demand3.{PutOut}

module _ (T s : List ℕ) (l : Log) (calls : Since T s l) where
  abbrev S : Shape
  S = shape_of T

  abbrev B : Begun
  B = fresh T S

  holds : Holds T S B l s
  holds = (lawfully T s l calls).holds

  -- 1. "Events are taken in an order whose last-update times never fall."
  pub order : Ordered S B l
  order = holds.order.ordered

  -- 2. "Every event waiting .. bears the birth time of the arrival or delay that began its chain": so it has a chain
  pub births : (i : ℕ) → i < inputs S → waiting S s i ≡ 1 → origin T S B l (waits i) ≡ born (birth_of S s i)
  births i l w = sym (holds.births.waiting_born i l w)

  -- so does the event being run
  pub running_birth : ((running_of s).mode ≡ 0 → ⊥) → origin T S B l current ≡ born (running_of s).birth
  running_birth n = sym (holds.births.running_born n)

  -- and every event "put out": what a run writes, as many bytes as it tells, are the records of the events that sinks take in it, each with the birth of its chain
  pub put_out : (budget : ℕ) (out s' out' : List ℕ) (r : Answer) → RunCall T s budget out r s' out' → PutOut T B l (log_run T s budget out l) r out out'
  unfolding choose
  put_out budget out s' out' r c =
      let m = run_moves T s budget (length out) in
      let b = bytes T S (now_of s) m s in
      let v = (lawfully T s l calls).verdict in
      let q = never_refused T s l calls in
      record {
        written = b;
        fits = bytes_fit T S (now_of s) (length out) s budget;
        told = c.tells.bytes_are ∙ ap (λ (n : ℕ). length (bytes T S (now_of s) n s)) (c.tells.moves_are ∙ (λ i. count_by (v i) (q i) m));
        output = run_output_lem T s budget out c ∙ (λ i. kept_by (v i) (q i) out (sets out 0 b));
        records = ap (λ (n : ℕ). records_of T S B (unless n (run_log T S (now_of s) m s l) l)) q ∙ run_records T S B (lawful T (accepted_means T v)) s l m holds;
      }

  -- 3. "Every input variable holds what its buffer held when an event associated with it was last taken ..; where there was none, its own start value."
  pub input_values : (v : ℕ) → v < variables S → flag_at T (variable_frame S v) ≡ 0 → value S s v ≡ last_sampled T S B l v
  input_values = holds.input_law

  -- 4. ".. and every connected buffer holds what its source held when an event carrying that source was last fired; where there was none, its own start value."
  pub buffers : (j : ℕ) → j < links S → buffer S s (destination T S j) ≡ last_copied T S B l (source T S j) (destination T S j)
  buffers = holds.buffer_law
