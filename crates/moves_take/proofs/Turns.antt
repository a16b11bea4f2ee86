-- What each way through a take leaves, over plain variables.
use mathlib.Core.Path.{◌≡◌, refl, sym, ◌∙◌}
use mathlib.Core.List.{List, ◌++◌}
use mathlib.Core.Bool.{Bool, true, false}
use Prim.Native.Nat.{ℕ, ◌+◌, ◌<◌, ◌≤◌}
use native.Mathlib.Omega.{arith}
use lib.ListN.{length}
use lib.Seq.{sets}
use borrow.Author.Tests.{eq-eqb, ne_eqb}
use Rattle.rules_walks.specs.Choose.{choose}
use Rattle.rules_walks.proofs.laws.Choose.{choose_true, choose_false}
use Rattle.rules_walks.specs.Count.{count_if}
use Rattle.rules_walks.proofs.laws.Count.{count_same}
use Rattle.rules_walks.specs.Walk.{up_to}
use Rattle.rules_walks.proofs.laws.Walk.{up_to_end}
use Rattle.rules_walks.specs.First.{Sought, missing}
use Rattle.rules_walks.proofs.laws.First.{first_in}
use Rattle.rules_numbers.specs.Word.{signed, ticks_of}
use Rattle.rules_tables.specs.Kind.{basic, interface, delay, sink, of_input}
use Rattle.rules_tables.specs.Frame.{flag_at, field_at}
use Rattle.rules_tables.specs.declared.Shape.{Shape}
use Rattle.rules_tables.specs.Good.{Good}
use Rattle.rules_store.proofs.laws.Word.{value_sampled}
use Rattle.rules_tables.specs.Ids.{first_input, first_variable, first_association, elements, inputs, variables, associations, association_frame}
use Rattle.rules_store.specs.Word.{value, put_value, buffer, due_flag, birth_of, put_input}
use Rattle.rules_store.specs.Due.{put_due}
use Rattle.rules_store.specs.Earliest.{NextKept}
use Rattle.rules_store.proofs.laws.PutDue.{input_keeps}
use Rattle.std.specs.Prelude.{Option, Some, None}
use Rattle.rules_tables.specs.Owned.{any, belongs, rank, nth, is_nth}
use Rattle.table_parts.specs.Found.{found_of}
use Rattle.table_parts.proofs.laws.Found.{found_one, found_missing}
use Rattle.rules_moves.specs.Partner.{input_owner, partner_output, partner_variable}
use Rattle.rules_moves.proofs.laws.Partner.{partner_voice}
use Rattle.rules_moves.specs.Carry.{voice, speaks, voice_of}
use Rattle.moves_fire.proofs.laws.Carrying.{speaks_belongs}
use Rattle.rules_moves.specs.Fire.{fire}
use Rattle.moves_take.proofs.laws.Together.{passed_together}
use Rattle.rules_moves.specs.Take.{sample, samples, sampled, pass_to, pass, passes, fire_found, ticks_in, dt_of, is_start, started, start_stop, wake, settle, settled, fired_by, taken}
use Rattle.rules_moves.specs.Record.{head, value_of, values, record_of, record_size, put_out}
use Rattle.moves_take.specs.Received.{Sized, Event, Received}
use Rattle.rules_moves.proofs.laws.Record.{sink_writes, others_write_none}
use Rattle.rules_moves.proofs.laws.Delays.{samples_keep}
use Rattle.rules_moves.proofs.laws.Taking.{fires_nothing}
use Rattle.moves_take.proofs.laws.Sized.{sink_sized, others_sized}

-- what a search among n frames found is one of them
pub nth_in : (T : List ℕ) (first n g x k j : ℕ) {r : Option ℕ} → r ≡ found_of (nth T first n g x k) → r ≡ Some j → j < n
nth_in T first n g x k j p m = let h = first_in (is_nth T first g x k) 0 n j (found_one (nth T first n g x k) _ j p m) in omega arith

-- associations that speak, and the others, which do nothing
pub sample_take : (T : List ℕ) (S : Shape) (i j : ℕ) (s s' : List ℕ) {v x : ℕ} → speaks T S (voice of_input i) j ≡ true → v ≡ field_at T (association_frame S j) 1 → x ≡ buffer S s v → s' ≡ put_value S v x s
    → s' ≡ sample T S i j s
unfolding sample
sample_take T S i j s s' q r a u = rw (choose_true _ _ _ q, ← r, ← a) u

pub voiced : (T : List ℕ) (S : Shape) (i j : ℕ) {b : Bool} → belongs T (first_association S) of_input i j ≡ b → speaks T S (voice of_input i) j ≡ b
voiced T S i j e = speaks_belongs T S of_input i j (omega arith) ∙ e

pub sample_idle : (T : List ℕ) (S : Shape) (i j : ℕ) → belongs T (first_association S) of_input i j ≡ false → (s : List ℕ) → sample T S i j s ≡ s
unfolding sample
sample_idle T S i j e s = choose_false _ _ _ (voiced T S i j e)

pub value_idle : (T : List ℕ) (S : Shape) (s : List ℕ) (i j : ℕ) → belongs T (first_association S) of_input i j ≡ false → (l : List ℕ) → value_of T S s i j l ≡ l
unfolding value_of
value_idle T S s i j e l = choose_false _ _ _ (voiced T S i j e)

pub pass_idle : (T : List ℕ) (S : Shape) (i j : ℕ) → belongs T (first_association S) of_input i j ≡ false → (s : List ℕ) → pass T S i j (sample T S i j s) ≡ s
unfolding pass
pass_idle T S i j e s = choose_false _ _ _ (voiced T S i j e) ∙ sample_idle T S i j e s

module _ (T : List ℕ) (S : Shape) (v : ℕ) (s s' : List ℕ) {r : Option ℕ} where
  pub pass_none : r ≡ found_of (partner_variable T S v) → r ≡ None → s' ≡ s → s' ≡ pass_to S (partner_variable T S v) v s
  unfolding pass_to
  pass_none p m u = rw (found_missing (partner_variable T S v) _ p m) u

  pub pass_one : (u : ℕ) {x : ℕ} → r ≡ found_of (partner_variable T S v) → r ≡ Some u → x ≡ value S s v → s' ≡ put_value S u x s → s' ≡ pass_to S (partner_variable T S v) v s
  unfolding pass_to
  pass_one u p m a e = rw (found_one (partner_variable T S v) _ u p m, ← a) e

-- the value that is passed on is the one just sampled
pub value_now : (S : Shape) (v : ℕ) (s s₁ : List ℕ) {x : ℕ} → x ≡ buffer S s v → s₁ ≡ put_value S v x s → x ≡ value S s₁ v
value_now S v s s₁ e u = e ∙ rw (u, e) (sym (value_sampled S s v))

pub passed_on : (T : List ℕ) (S : Shape) (i j : ℕ) (s s₁ s' : List ℕ) {v x : ℕ} → speaks T S (voice of_input i) j ≡ true → v ≡ field_at T (association_frame S j) 1 → x ≡ buffer S s v
    → s₁ ≡ put_value S v x s → s' ≡ pass_to S (partner_variable T S v) v s₁ → s' ≡ pass T S i j (sample T S i j s)
unfolding pass sample choose
passed_on T S i j s s₁ s' q a e u w = rw (q, ← a, ← e, ← u) w

-- the walk of both is what the definition makes of the samples
pub passed_end : (T : List ℕ) (S : Shape) (i j : ℕ) (s₀ s : List ℕ) → Good T S → s ≡ up_to (λ (k : ℕ) (x : List ℕ). pass T S i k (sample T S i k x)) j s₀ → j ≡ associations S
    → s ≡ passes T S i (samples T S i s₀)
passed_end T S i j s₀ s g p e = up_to_end _ j (associations S) s₀ s p e ∙ passed_together T S i g s₀

-- a partner that was found is one of the table's
pub partner_in : (T : List ℕ) (S : Shape) (v u : ℕ) {r : Option ℕ} → r ≡ found_of (partner_variable T S v) → r ≡ Some u → u < variables S
unfolding partner_variable
partner_in T S v u p m = nth_in T _ (variables S) _ _ _ u p m

-- the partner event speaks by event input i
pub relay_voice : (T : List ℕ) (S : Shape) (i o : ℕ) {r : Option ℕ} → i < inputs S → flag_at T (input_owner T S i) ≡ 1 → r ≡ found_of (partner_output T S i) → r ≡ Some o → voice of_input i ≡ voice_of T S o
relay_voice T S i o l e p q = sym (partner_voice T S i o l (found_one (partner_output T S i) _ o p q) e)

module _ (T : List ℕ) (S : Shape) (i birth time : ℕ) (s s₁ s' : List ℕ) {r : Option ℕ} where
  pub relay_none : s₁ ≡ passes T S i s → r ≡ found_of (partner_output T S i) → r ≡ None → s' ≡ s₁ → s' ≡ fire_found T S (partner_output T S i) birth time (passes T S i s)
  unfolding fire_found
  relay_none a p m u = rw (found_missing (partner_output T S i) _ p m, ← a) u

  pub relay_one : (o : ℕ) → s₁ ≡ passes T S i s → r ≡ found_of (partner_output T S i) → r ≡ Some o → s' ≡ fire T S o birth time s₁
      → s' ≡ fire_found T S (partner_output T S i) birth time (passes T S i s)
  unfolding fire_found
  relay_one o a p m u = rw (found_one (partner_output T S i) _ o p m, ← a) u

module _ (T : List ℕ) (S : Shape) (el : ℕ) (s : List ℕ) {r : Option ℕ} where
  pub dt_none : r ≡ found_of (nth T (first_variable S) (variables S) any el 0) → r ≡ None → ◌≡◌ {A = ℕ} 0 (dt_of T S el s)
  unfolding dt_of ticks_in
  dt_none p m = rw (found_missing (nth T (first_variable S) (variables S) any el 0) _ p m)

  pub dt_one : (v x d : ℕ) → r ≡ found_of (nth T (first_variable S) (variables S) any el 0) → r ≡ Some v → x ≡ value S s v → d ≡ ticks_of (signed x) → d ≡ dt_of T S el s
  unfolding dt_of ticks_in
  dt_one v x d p m a u = rw (found_one (nth T (first_variable S) (variables S) any el 0) _ v p m, ← a) u

-- ---- START finds the delay not due, or due
module _ (T : List ℕ) (S : Shape) (el time : ℕ) (s s' : List ℕ) {w : ℕ} (flag : w ≡ due_flag s el) where
  pub start_first : {d : ℕ} → w ≡ 0 → d ≡ dt_of T S el s → s' ≡ put_due S el 1 (time + d) s → s' ≡ started T S el time s
  unfolding started
  start_first z a u = rw (choose_true _ _ _ (eq-eqb _ _ (sym flag ∙ z)), ← a) u

  pub start_later : (w ≡ 0 → ⊥) → s' ≡ s → s' ≡ started T S el time s
  unfolding started
  start_later n u = rw (choose_false _ _ _ (ne_eqb _ _ (λ h. n (flag ∙ h)))) u

module _ (T : List ℕ) (S : Shape) (el i time : ℕ) (s s' : List ℕ) where
  pub delay_start : {k : ℕ} → k ≡ rank T (first_input S) any el i → k ≡ 0 → s' ≡ started T S el time s → s' ≡ start_stop T S el i time s
  unfolding start_stop is_start
  delay_start p q u = rw (choose_true _ _ _ (eq-eqb _ _ (sym p ∙ q))) u

  pub delay_stop : {k : ℕ} → k ≡ rank T (first_input S) any el i → (k ≡ 0 → ⊥) → s' ≡ put_due S el 0 0 s → s' ≡ start_stop T S el i time s
  unfolding start_stop is_start
  delay_stop p q u = rw (choose_false _ _ _ (ne_eqb _ _ (λ h. q (p ∙ h)))) u

-- the event that is taken leaves the next due time
pub sampled_kept : (T : List ℕ) (S : Shape) (i : ℕ) (s : List ℕ) {s₁ s₂ : List ℕ} → NextKept S s → s₁ ≡ put_input S i 0 0 0 s → s₂ ≡ samples T S i s₁ → NextKept S s₂
sampled_kept T S i s k p q = rw (q, p) (samples_keep T S i (put_input S i 0 0 0 s) (input_keeps S s k i 0 0 0))

-- ---- how much an event input writes, by the element's sort
module _ (T : List ℕ) (S : Shape) (i : ℕ) {el : ℕ} (owner : el ≡ input_owner T S i) where
  pub sized_sink : {sort : ℕ} → sort ≡ flag_at T el → sort ≡ sink → {z : ℕ} → z ≡ record_size T S i → Sized T S i z
  sized_sink k q u = rw u (sink_sized T S i (rw owner at (sym k ∙ q)))

  pub sized_other : {sort : ℕ} → sort ≡ flag_at T el → (sort ≡ sink → ⊥) → Sized T S i 0
  sized_other k n = others_sized T S i (λ q. n (rw owner at k ∙ q))

-- ---- an event received, by the element's sort
module _ (T : List ℕ) (S : Shape) (i time : ℕ) (s o : List ℕ) (at : ℕ) {sort el birth last : ℕ} (e : Event T S s i sort el birth last) where
  fires_none : (sort ≡ interface → ⊥) → fired_by T S i ≡ missing
  fires_none n = fires_nothing T S i (λ q. n (e.sort_is ∙ q))

  fires_partner : sort ≡ interface → fired_by T S i ≡ partner_output T S i
  unfolding fired_by
  fires_partner q = choose_true _ _ _ (eq-eqb _ _ (sym e.sort_is ∙ q))

  module _ {s₁ s' : List ℕ} (stopped : s₁ ≡ put_input S i 0 0 0 s) where
    took : {q : Sought} → fired_by T S i ≡ q → s' ≡ fire_found T S q birth time (settle sort T S el i birth time (samples T S i s₁)) → s' ≡ taken T S i time s
    unfolding taken settled sampled
    took f w = rw (f, ← e.sort_is, ← e.element_is, ← e.birth_is, ← stopped) w

    -- no sink: nothing is written
    unwritten : (sort ≡ sink → ⊥) → s' ≡ taken T S i time s → Received T S i time s s' o o at at
    unwritten n w =
        let z = others_write_none T S i (λ q. n (e.sort_is ∙ q)) (birth_of S s i) time s in
        record { store_is = w; output_is = rw z refl; place_is = rw z (omega arith) }

    pub received_basic : {s₂ : List ℕ} → sort ≡ basic → s₂ ≡ samples T S i s₁ → s' ≡ wake el i birth s₂ → Received T S i time s s' o o at at
    unfolding fire_found settle choose
    received_basic k u w = unwritten (λ q. omega arith) (took (fires_none (λ q. omega arith)) (rw (k, ← u) w))

    pub received_interface : sort ≡ interface → s' ≡ fire_found T S (partner_output T S i) birth time (passes T S i (samples T S i s₁)) → Received T S i time s s' o o at at
    unfolding settle choose
    received_interface k w = unwritten (λ q. omega arith) (took (fires_partner k) (rw k w))

    pub received_delay : {s₂ : List ℕ} → sort ≡ delay → s₂ ≡ samples T S i s₁ → s' ≡ start_stop T S el i time s₂ → Received T S i time s s' o o at at
    unfolding fire_found settle choose
    received_delay k u w = unwritten (λ q. omega arith) (took (fires_none (λ q. omega arith)) (rw (k, ← u) w))

    pub received_sink : {o' : List ℕ} {r : ℕ} → sort ≡ sink
        → (s' ≡ samples T S i s₁) × (o' ≡ sets o at (head el i birth last time ++ values T S (samples T S i s₁) i)) × (r ≡ at + record_size T S i)
        → Received T S i time s s' o o' at r
    unfolding fire_found settle choose record_of sampled
    received_sink k w =
        let f = sym e.sort_is ∙ k in
        record {
          store_is = took (fires_none (λ q. omega arith)) (rw k w.0);
          output_is = rw (sink_writes T S i f (birth_of S s i) time s, ← stopped, ← e.birth_is, ← e.last_is, ← e.element_is) w.1;
          place_is = rw ((sink_sized T S i f).bytes_are (birth_of S s i) time s) w.2;
        }

    -- a source has no event input, and nothing else is left
    pub received_no_more : (sort ≡ basic → ⊥) → (sort ≡ interface → ⊥) → (sort ≡ delay → ⊥) → (sort ≡ sink → ⊥) → s' ≡ samples T S i s₁ → Received T S i time s s' o o at at
    unfolding fire_found settle choose
    received_no_more a b c d w = unwritten d (took (fires_none b) (rw (ne_eqb sort basic a, ne_eqb sort interface b, ne_eqb sort delay c) w))

  -- there is room for a sink's record
  pub record_fits : (room : ℕ) → sort ≡ sink → at + length (put_out T S i birth time s) ≤ room → at + record_size T S i ≤ room
  record_fits room k h = rw ((sink_sized T S i (sym e.sort_is ∙ k)).bytes_are birth time s) at h

  pub element_in : Good T S → i < inputs S → el < elements S
  element_in g l = let h = g.input_element i l in let z = e.element_is in omega arith

  pub element_small : Good T S → i < inputs S → el < 65536
  element_small g l = let h = element_in g l in omega (arith, g.few_elements)

-- how many values a record has, as the rank among the associations
pub values_many : (T : List ℕ) (S : Shape) (i : ℕ) {r m : ℕ} → r ≡ rank T (first_association S) of_input i m → m ≡ associations S → r ≡ count_if (speaks T S (voice of_input i)) (associations S)
values_many T S i e q = e ∙ rw q (count_same _ _ (associations S) (λ j _. sym (speaks_belongs T S of_input i j (omega arith))))

pub many_associations : (T : List ℕ) (S : Shape) {m : ℕ} → Good T S → m ≡ associations S → m ≤ 4096
many_associations T S g e = omega (arith, g.to_associations, g.to_states, g.to_transitions, g.to_actions, g.to_steps, g.to_connections, g.to_links, g.to_end, g.few)
