-- Computed examples: an order that the law of order forbids, and one that it allows; and what a log says of chains, inputs, buffers, records and delays.
use Rattle.std.specs.Prelude.{◌≡◌, true, false, List, [], ◌∷◌, ◌++◌, ℕ, ◌+◌, ◌≤◌}
use Rattle.std.proofs.Math.Path.{refl, sym, ap}
use Rattle.std.proofs.Common.{◌∙◌, arith}
use borrow.Author.Tests.{eq-eqb}
use Rattle.rules_walks.specs.Choose.{choose}
use Rattle.rules_walks.proofs.laws.Choose.{choose_true, choose_false}
use Rattle.rules_tables.specs.declared.Shape.{Shape}
use Rattle.rules_store.specs.Layout.{input_at}
use Rattle.rules_store.specs.Word.{now_of, last_update, value, buffer}
use Rattle.rules_moves.specs.Associated.{associated}
use Rattle.rules_moves.specs.Carry.{voice_of, carries}
use Rattle.rules_moves.specs.Connected.{connected}
use Rattle.rules_moves.specs.Partner.{input_owner, output_owner}
use Rattle.rules_moves.specs.Record.{put_out}
use Rattle.rules_moves.specs.Take.{dt_of, is_start, sampled}
use Rattle.rules_calls.specs.Public.{AdvanceCall, ArrivalCall, RunCall}
use Rattle.rules_calls.specs.Answer.{Answer}
use Rattle.rules_log.specs.Log.{How, begins, goes_on, takes, fires, Log, empty, more}
use Rattle.rules_log.specs.Origin.{Event, waits, Chain, born, no_chain, birth_in, Begun, fresh, Ordered, origin, last_sampled, last_copied, records_of}
use Rattle.rules_log.specs.Timer.{Timer, until, rests, start_timer, timer}
use Rattle.rules_log.specs.Sequence.{unless, log_advance, log_arrival, log_run, Since, advances, arrives, runs}

-- a sink with two event inputs
abbrev shape : Shape
shape =
    record {
      elements_end = 1;
      inputs_end = 3;
      outputs_end = 3;
      variables_end = 3;
      associations_end = 3;
      states_end = 3;
      transitions_end = 3;
      actions_end = 3;
      steps_end = 3;
      connections_end = 3;
      links_end = 3;
    }

abbrev begun : Begun
begun = record { last = 0; chains = λ e. no_chain; values = λ v. 0; buffers = λ v. 0 }

-- a store in which event input 0 was last updated at 10, and event input 1 at 7
abbrev store : List ℕ
store = 10 ∷ 0 ∷ 0 ∷ 0 ∷ 0 ∷ 0 ∷ 0 ∷ 0 ∷ 0 ∷ 0 ∷ 0 ∷ 0 ∷ 0 ∷ 0 ∷ 0 ∷ 0 ∷ 0 ∷ 0 ∷ 0 ∷ 1 ∷ 0 ∷ 10 ∷ 1 ∷ 0 ∷ 7 ∷ []

-- 10 and then 7 is not in order; 7 and then 10 is
pub not_ordered : Ordered shape begun (more (more empty (takes 0 store)) (takes 1 store)) → ⊥
unfolding last_update input_at
not_ordered w = let q : 10 ≤ 7 = w.1 in omega arith

pub ordered : Ordered shape begun (more (more empty (takes 1 store)) (takes 0 store))
unfolding last_update input_at
ordered = ((tt, omega arith), omega arith)

-- ---- chains: an event output with birth t is connected to event input c, whose event has event output p fired, which is connected to event input d; that event
-- bears t
module _ (T : List ℕ) (S : Shape) (B : Begun) (l : Log) where
  pub chain_goes_on : (o c p d t : ℕ) (s s' s'' : List ℕ) → connected T S o c ≡ true → connected T S p d ≡ true
      → origin T S B (more (more (more l (fires o (begins t) s)) (takes c s')) (fires p goes_on s'')) (waits d) ≡ born t
  unfolding origin
  chain_goes_on o c p d t s s' s'' e f = choose_true (connected T S p d) _ _ f ∙ choose_true (connected T S o c) _ _ e

  -- and an event that waited is of its own chain still
  pub chain_stays : (o c t : ℕ) (s : List ℕ) → connected T S o c ≡ false → origin T S B (more l (fires o (begins t) s)) (waits c) ≡ origin T S B l (waits c)
  unfolding origin
  chain_stays o c t s e = choose_false (connected T S o c) _ _ e

  -- ---- an input is sampled with an event that is associated with it, and with no other
  pub sampled_with : (i v : ℕ) (s : List ℕ) → associated T S i v ≡ true → last_sampled T S B (more l (takes i s)) v ≡ buffer S s v
  unfolding last_sampled
  sampled_with i v s e = choose_true (associated T S i v) _ _ e

  pub not_sampled_with : (i v : ℕ) (s : List ℕ) → associated T S i v ≡ false → last_sampled T S B (more l (takes i s)) v ≡ last_sampled T S B l v
  unfolding last_sampled
  not_sampled_with i v s e = choose_false (associated T S i v) _ _ e

  -- ---- a value is copied with an event that carries it, and with no other
  pub copied_with : (o v d : ℕ) (how : How) (s : List ℕ) → carries T S (voice_of T S o) v ≡ true → last_copied T S B (more l (fires o how s)) v d ≡ value S s v
  unfolding last_copied
  copied_with o v d how s e = choose_true (carries T S (voice_of T S o) v) _ _ e

  pub not_copied_with : (o v d : ℕ) (how : How) (s : List ℕ) → carries T S (voice_of T S o) v ≡ false → last_copied T S B (more l (fires o how s)) v d ≡ last_copied T S B l v d
  unfolding last_copied
  not_copied_with o v d how s e = choose_false (carries T S (voice_of T S o) v) _ _ e

  -- ---- a record bears the birth of its event's chain, not its last update
  pub record_born : (o c t : ℕ) (s s' : List ℕ) → connected T S o c ≡ true
      → records_of T S B (more (more l (fires o (begins t) s)) (takes c s')) ≡ records_of T S B l ++ put_out T S c t (now_of s') s'
  unfolding records_of origin
  record_born o c t s s' e = ap (λ (q : Chain). records_of T S B l ++ put_out T S c (birth_in q) (now_of s') s') (choose_true (connected T S o c) (born t) _ e)

-- ---- a delay: of two STARTs the first counts; a START after STOP, and one after the output, is a first one
module _ (T : List ℕ) (S : Shape) (el i j o : ℕ) (l : Log) (s s' : List ℕ) (start : input_owner T S i ≡ el) (is-start : is_start T S el i ≡ true) where
  abbrev due_by : List ℕ → ℕ
  due_by x = now_of x + dt_of T S el (sampled T S i x)

  -- START, where the timer was so
  starts : (x : Log) (y : List ℕ) → timer T S el (more x (takes i y)) ≡ start_timer (due_by y) (timer T S el x)
  unfolding timer choose
  starts x y = rw (eq-eqb (input_owner T S i) el start, is-start) refl

  pub first_counts : timer T S el (more (more l (takes i s)) (takes i s')) ≡ timer T S el (more l (takes i s))
  unfolding start_timer
  first_counts = starts (more l (takes i s)) s' ∙ ap (start_timer (due_by s')) (starts l s) ∙ once (timer T S el l) ∙ sym (starts l s)
    where
      once : (x : Timer) → start_timer (due_by s') (start_timer (due_by s) x) ≡ start_timer (due_by s) x
      once rests = refl
      once (until u) = refl

  pub counts_after_stop : input_owner T S j ≡ el → is_start T S el j ≡ false → timer T S el (more (more l (takes j s)) (takes i s')) ≡ until (due_by s')
  unfolding timer start_timer choose
  counts_after_stop e f = rw (eq-eqb (input_owner T S i) el start, is-start, eq-eqb (input_owner T S j) el e, f) refl

  pub counts_after_output : (how : How) → output_owner T S o ≡ el → timer T S el (more (more l (fires o how s)) (takes i s')) ≡ until (due_by s')
  unfolding timer start_timer choose
  counts_after_output how e = rw (eq-eqb (input_owner T S i) el start, is-start, eq-eqb (output_owner T S o) el e) refl

-- ---- after a load there is no chain, which is not one with birth 0
pub no_chain_lem : (T : List ℕ) (S : Shape) (e : Event) → origin T S (fresh T S) empty e ≡ no_chain
unfolding origin
no_chain_lem T S e = refl

-- ---- a call that is refused takes and fires nothing
pub unless_refused : (l' l : Log) → unless 0 l' l ∷ unless 7 l' l ∷ [] ≡ l' ∷ l ∷ []
unfolding choose
unless_refused l' l = refl

-- ---- "any mixture of advance, arrival and run with any arguments, refused ones included"
module _ (T s s' : List ℕ) (l : Log) (since : Since T s l) (r : Answer) where
  pub any_advance : (t : ℕ) → AdvanceCall T s t r s' → Since T s' (log_advance T s t l)
  any_advance t c = advances s s' l t r since c

  pub any_arrival : (o birth : ℕ) (values : List ℕ) → ArrivalCall T s o birth values r s' → Since T s' (log_arrival T s o birth values l)
  any_arrival o birth values c = arrives s s' l o birth values r since c

  pub any_run : (budget : ℕ) (out out' : List ℕ) → RunCall T s budget out r s' out' → Since T s' (log_run T s budget out l)
  any_run budget out out' c = runs s s' out out' l budget r since c
