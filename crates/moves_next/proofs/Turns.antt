-- What each way through a move leaves, over plain variables.
use mathlib.Core.Path.{◌≡◌, refl, sym, ap, ◌∙◌}
use mathlib.Core.List.{List}
use Prim.Native.Nat.{ℕ, ◌+◌, ◌-◌, ◌<◌, ◌≤◌}
use native.Mathlib.Omega.{arith}
use lib.IntN.{pos}
use lib.ListN.{length}
use borrow.Author.Tests.{eq-eqb, ne_eqb, lt-ltb, le-ltb}
use Rattle.rules_walks.proofs.laws.Choose.{choose_true, choose_false}
use Rattle.rules_walks.specs.First.{Sought, one, missing}
use Rattle.rules_numbers.specs.declared.Outcome.{Outcome}
use Rattle.rules_numbers.specs.Word.{signed, word}
use Rattle.rules_numbers.specs.Truth.{outcome}
use Rattle.rules_tables.specs.Kind.{none, basic, interface, of_output}
use Rattle.rules_tables.specs.Frame.{flag_at, field_at}
use Rattle.rules_tables.specs.declared.Shape.{Shape}
use Rattle.rules_store.specs.declared.Running.{Running}
use Rattle.rules_tables.specs.Good.{Good}
use Rattle.rules_tables.specs.Ids.{actions, output_frame, action_frame, step_frame}
use Rattle.rules_tables.specs.Lawful.{Lawful}
use Rattle.rules_store.specs.Part.{count, input, buffered, just, also}
use Rattle.rules_store.specs.Running.{idle, charts, stepped, entered, charting}
use Rattle.rules_store.specs.Word.{current_event, running_of, put_running, value, put_value, birth_of}
use Rattle.std.specs.Prelude.{Option, Some, None}
use Rattle.table_parts.specs.Found.{found_of}
use Rattle.table_parts.proofs.laws.Found.{found_one, found_missing}
use Rattle.store_words.proofs.laws.Running.{value_runs, untrue_runs}
use Rattle.table_index.specs.Index.{Owners}
use Rattle.rules_moves.specs.Carry.{voice, voice_of}
use Rattle.rules_moves.specs.Fire.{fire}
use Rattle.rules_moves.proofs.laws.Firing.{fire_leaves}
use Rattle.rules_moves.specs.declared.Key.{Key}
use Rattle.rules_moves.specs.Least.{Best}
use Rattle.std.specs.Prelude.{Some, None}
use Rattle.rules_moves.specs.Least.{least}
use Rattle.rules_moves.specs.Chart.{transition_of, change, go_idle, element_of, state_of}
use Rattle.rules_tables.specs.Actions.{action_of, action_number}
use Rattle.rules_tables.proofs.laws.Actions.{action_below, action_few}
use Rattle.rules_moves.specs.Take.{fire_found}
use Rattle.rules_moves.specs.Record.{put_out}
use Rattle.moves_take.specs.Received.{Sized, Received}
use Rattle.rules_moves.specs.declared.Next.{Next}
use Rattle.rules_moves.specs.declared.Next.TheVariants.{Take, Change, Idle, Step, End, Back, Nothing}
use Rattle.rules_moves.specs.Act.{step_outcome, result_put, untrue_step, count_untrue, one_step, step_move, event_of, end_move}
use Rattle.rules_moves.specs.Next.{event_next, chart_next, act_next, next_by, move_by, untrue_by, written_by, size_by}
use Rattle.moves_next.specs.Made.{Made}
use Rattle.rules_moves.specs.Means.{Stepping, Ending}
use Rattle.rules_moves.proofs.laws.Moving.{untrue_step_few}
use Rattle.rules_moves.proofs.laws.Next.{answer_means}

-- ---- a step
-- what its operation tells, by what was read
pub step_told : (T : List ℕ) (S : Shape) (f age : ℕ) (s : List ℕ) {b c x y g : ℕ} {o : Outcome} → b ≡ field_at T f 1 → x ≡ value S s b → c ≡ field_at T f 2 → y ≡ value S s c → g ≡ flag_at T f
    → o ≡ outcome g (signed x) (signed y) (pos age) → o ≡ step_outcome T S f age s
unfolding step_outcome
step_told T S f age s at_b is_x at_c is_y op told = rw (← at_b, ← at_c, ← op, ← is_x, ← is_y) told

pub step_is : (T : List ℕ) (S : Shape) (f age : ℕ) (s s₁ s' : List ℕ) {a x u : ℕ} → x ≡ word (step_outcome T S f age s).result → u ≡ untrue_step T S f age s → a ≡ field_at T f 0
    → s₁ ≡ put_value S a x s → s' ≡ count_untrue u s₁ → s' ≡ one_step T S f age s
unfolding one_step result_put
step_is T S f age s s₁ s' is_x is-u at_a put counted =
    let p : s₁ ≡ result_put T S f age s = rw (← at_a, ← is_x) put in
    counted ∙ (λ i. count_untrue (is-u i) (p i))

pub stepped_on : (T : List ℕ) (S : Shape) (time : ℕ) (r : Running) (j : ℕ) (s s' : List ℕ) {f ag : ℕ} {s₁ : List ℕ} → f ≡ step_frame S j → ag ≡ time - r.birth → s₁ ≡ one_step T S f ag s
    → s' ≡ put_running (stepped r) s₁ → s' ≡ step_move T S time r j s
unfolding step_move
stepped_on T S time r j s s' {s₁ = s₁} a ag p u =
    let h : s₁ ≡ one_step T S (step_frame S j) (time - r.birth) s = rw (a, ag) at p in
    u ∙ ap (put_running (stepped r)) h

pub stepped_untrue : (T : List ℕ) (S : Shape) (j age : ℕ) (s : List ℕ) {f ag u : ℕ} → f ≡ step_frame S j → ag ≡ age → u ≡ untrue_step T S f ag s → u ≡ untrue_step T S (step_frame S j) age s
stepped_untrue T S j age s a ag e = rw (a, ag) at e

-- one untrue step, or none: the sum fits
pub untrue_fits : (T : List ℕ) (S : Shape) (f age : ℕ) (s : List ℕ) {x u : ℕ} → x ≡ untrue_step T S f age s → u < 4294967295 → u + x < 4294967296
untrue_fits T S f age s e h = omega (arith, untrue_step_few T S f age s)

-- the running block is still the one that was read
pub step_runs : (T : List ℕ) (S : Shape) (f age : ℕ) (s : List ℕ) {s₁ : List ℕ} {r : Running} → s₁ ≡ one_step T S f age s → r ≡ running_of s → r ≡ running_of s₁
unfolding one_step result_put count_untrue
step_runs T S f age s p e = untrue_runs (result_put T S f age s) _ p (value_runs S s _ _ refl e)

-- ---- the end of an action
module _ (T : List ℕ) (S : Shape) (j birth time : ℕ) (s s' : List ℕ) {o : ℕ} (read : o ≡ field_at T (action_frame S j) 3) where
  pub event_fired : (o ≡ none → ⊥) → s' ≡ fire T S o birth time s → s' ≡ fire_found T S (event_of T S j) birth time s
  unfolding event_of fire_found
  event_fired n u = rw (← read, choose_false _ _ _ (ne_eqb o none n)) u

  pub event_none : o ≡ none → s' ≡ s → s' ≡ fire_found T S (event_of T S j) birth time s
  unfolding event_of fire_found
  event_none n u = rw (← read, choose_true _ _ _ (eq-eqb o none n)) u

  -- it speaks by its own associations
  pub event_own : Owners T S → j < actions S → (o ≡ none → ⊥) → voice of_output o ≡ voice_of T S o
  unfolding voice_of
  event_own w l n =
      let b : flag_at T (field_at T (output_frame S o) 0) ≡ basic = rw read (w.action_basic j l (λ e. n (read ∙ e))) in
      rw (ne_eqb (flag_at T (field_at T (output_frame S o) 0)) interface (λ e. omega arith))

-- the running block is still the one that was read
pub fired_runs : (T : List ℕ) (S : Shape) → Lawful T S → (o : Sought) (birth time : ℕ) (s : List ℕ) {s₁ : List ℕ} {r : Running} → s₁ ≡ fire_found T S o birth time s → r ≡ running_of s → r ≡ running_of s₁
unfolding fire_found
fired_runs T S k (one o) birth time s p e = rw p (e ∙ sym ((fire_leaves T S k (also input (also count (just buffered))) refl refl refl o birth time s).running refl).running)
fired_runs T S k missing birth time s p e = rw p e

pub ended : (T : List ℕ) (S : Shape) (time : ℕ) (r : Running) (j : ℕ) (s s' : List ℕ) {q k : ℕ} {s₁ : List ℕ} → q ≡ state_of s → k ≡ action_number T S q (r.action + 1)
    → s₁ ≡ fire_found T S (event_of T S j) r.birth time s → s' ≡ put_running (entered k r) s₁ → s' ≡ end_move T S time (state_of s) r j s
unfolding end_move
ended T S time r j s s' {s₁ = s₁} a b p u =
    u ∙ ap (λ (n : ℕ). put_running (entered n r) s₁) (rw a at b) ∙ ap (put_running (entered (action_number T S (state_of s) (r.action + 1)) r)) p

-- ---- what comes next
module _ {x : Best} (found : Best) (told : x ≡ found) where
  pub event_one : (i : ℕ) (k : Key) → x ≡ Some (i, k) → Take i ≡ event_next found
  unfolding event_next
  event_one i k e = rw (sym told ∙ e)

  pub event_missing : x ≡ None → Nothing ≡ event_next found
  unfolding event_next
  event_missing e = rw (sym told ∙ e)

module _ (T : List ℕ) (S : Shape) (s : List ℕ) (live : ℕ) {q event : ℕ} (state : q ≡ state_of s) (heard : event ≡ current_event s) {f : Option ℕ}
    (found : f ≡ found_of (transition_of T S s q event live)) where
  pub chart_one : (j : ℕ) → f ≡ Some j → Change j ≡ chart_next (transition_of T S s (state_of s) (current_event s) live)
  unfolding chart_next
  chart_one j e = rw (← state, ← heard, found_one (transition_of T S s q event live) _ j found e)

  pub chart_missing : f ≡ None → Idle ≡ chart_next (transition_of T S s (state_of s) (current_event s) live)
  unfolding chart_next
  chart_missing e = rw (← state, ← heard, found_missing (transition_of T S s q event live) _ found e)

-- action 0 is none
pub act_none : (T : List ℕ) (S : Shape) (r : Running) (s : List ℕ) → r.action ≡ 0 → Back ≡ act_next T S r (action_of T S (state_of s) r.action)
unfolding act_next action_of
act_none T S r s e = rw (eq-eqb r.action 0 e)

module _ (T : List ℕ) (S : Shape) (r : Running) (s : List ℕ) {q k : ℕ} (state : q ≡ state_of s) (number : k ≡ r.action) {f : Option ℕ} (found : f ≡ found_of (action_of T S q k)) where
  pub act_missing : f ≡ None → Back ≡ act_next T S r (action_of T S (state_of s) r.action)
  unfolding act_next
  act_missing m = rw (← state, ← number, found_missing (action_of T S q k) _ found m)

  pub act_in : (j : ℕ) → f ≡ Some j → j < actions S
  act_in j m = action_below T S q k j (found_one (action_of T S q k) _ j found m)

  module _ (j : ℕ) {g done n : ℕ} (one-is : f ≡ Some j) (at : g ≡ action_frame S j) (made : done ≡ r.step) (many : n ≡ field_at T g 2) where
    is_one : action_of T S (state_of s) r.action ≡ one j
    is_one = rw (state, number) at (found_one (action_of T S q k) _ j found one-is)

    pub act_step : {b : ℕ} → b ≡ field_at T g 1 → done < n → Step (b + done) ≡ act_next T S r (action_of T S (state_of s) r.action)
    unfolding act_next
    act_step first l =
        let h : r.step < field_at T (action_frame S j) 2 = rw (made, many, at) at l in
        rw (is_one, choose_true _ _ _ (lt-ltb _ _ h), ← at, ← first, ← made)

    pub act_end : n ≤ done → End j ≡ act_next T S r (action_of T S (state_of s) r.action)
    unfolding act_next
    act_end l =
        let h : field_at T (action_frame S j) 2 ≤ r.step = rw (made, many, at) at l in
        rw (is_one, choose_false _ _ _ (le-ltb _ _ h))

module _ (T : List ℕ) (S : Shape) (r : Running) (s : List ℕ) {n : Next} where
  pub next_idle : r.mode ≡ idle → n ≡ event_next (least T S s) → n ≡ next_by T S r s
  unfolding next_by
  next_idle m e = rw (choose_true _ _ _ (eq-eqb r.mode idle m)) e

  pub next_charts : r.mode ≡ charts → n ≡ chart_next (transition_of T S s (state_of s) (current_event s) r.live) → n ≡ next_by T S r s
  unfolding next_by
  next_charts m e = rw (choose_false _ _ _ (ne_eqb r.mode idle (λ z. omega arith)), choose_true _ _ _ (eq-eqb r.mode charts m)) e

  pub next_acts : (r.mode ≡ idle → ⊥) → (r.mode ≡ charts → ⊥) → n ≡ act_next T S r (action_of T S (state_of s) r.action) → n ≡ next_by T S r s
  unfolding next_by
  next_acts a b e = rw (choose_false _ _ _ (ne_eqb r.mode idle a), choose_false _ _ _ (ne_eqb r.mode charts b)) e

-- ---- one move, by what comes next
module _ (T : List ℕ) (S : Shape) (r : Running) (s : List ℕ) (n : Next) (comes : n ≡ next_by T S r s) (g : Good T S) (j : ℕ) where
  stepping : n ≡ Step j → Stepping T S r s j
  stepping e = answer_means T S r s (Step j) (sym e ∙ comes)

  ending : n ≡ End j → Ending T S r s j
  ending e = answer_means T S r s (End j) (sym e ∙ comes)

  few : actions S ≤ 4096
  few = omega (arith, g.to_actions, g.to_steps, g.to_connections, g.to_links, g.to_end, g.few)

  pub steps_few : n ≡ Step j → r.step < 4294967295
  steps_few e =
      let w = stepping e in
      let h = g.action_steps w.action r.step (action_below T S (state_of s) r.action w.action w.found) w.left in
      omega (arith, g.to_steps, g.to_connections, g.to_links, g.to_end, g.few)

  pub end_action : n ≡ End j → action_of T S (state_of s) r.action ≡ one j
  end_action e = (ending e).found

  pub actions_few : n ≡ End j → r.action < 4294967295
  actions_few e = let l = action_few T S (state_of s) r.action j (ending e).found in let h = few in omega arith

module _ (T : List ℕ) (S : Shape) (time : ℕ) (n : Next) (s o : List ℕ) (at : ℕ) {s' : List ℕ} {p u u' : ℕ} where
  -- a move that is no step
  module _ (none : u' ≡ u) where
    pub made_take : (i : ℕ) {o' : List ℕ} {e : ℕ} → n ≡ Take i → p ≡ e → Received T S i time s s' o o' at e → Made T S time n s s' o o' at p u u'
    unfolding move_by untrue_by written_by size_by
    made_take i e q w = rw e (record { store = w.store_is; output = w.output_is; place = q ∙ w.place_is; untrue_told = omega (arith, none) })

    module _ (here : p ≡ at) where
      pub made_idle : n ≡ Idle → s' ≡ go_idle s → Made T S time n s s' o o at p u u'
      unfolding move_by untrue_by written_by size_by
      made_idle e v = rw e (record { store = v; output = refl; place = omega arith; untrue_told = omega (arith, none) })

      pub made_nothing : n ≡ Nothing → s' ≡ s → Made T S time n s s' o o at p u u'
      unfolding move_by untrue_by written_by size_by
      made_nothing e v = rw e (record { store = v; output = refl; place = omega arith; untrue_told = omega (arith, none) })

      module _ {r : Running} (read : r ≡ running_of s) where
        pub made_change : (j : ℕ) → n ≡ Change j → s' ≡ change T S (element_of s) r j s → Made T S time n s s' o o at p u u'
        unfolding move_by untrue_by written_by size_by
        made_change j e v = rw e (record { store = rw (← read) v; output = refl; place = omega arith; untrue_told = omega (arith, none) })

        pub made_end : (j : ℕ) → n ≡ End j → s' ≡ end_move T S time (state_of s) r j s → Made T S time n s s' o o at p u u'
        unfolding move_by untrue_by written_by size_by
        made_end j e v = rw e (record { store = rw (← read) v; output = refl; place = omega arith; untrue_told = omega (arith, none) })

        pub made_back : n ≡ Back → s' ≡ put_running (charting r) s → Made T S time n s s' o o at p u u'
        unfolding move_by untrue_by written_by size_by
        made_back e v = rw e (record { store = rw (← read) v; output = refl; place = omega arith; untrue_told = omega (arith, none) })

  pub made_step : {r : Running} → r ≡ running_of s → (j : ℕ) → n ≡ Step j → s' ≡ step_move T S time r j s → p ≡ at → {x : ℕ} → u' ≡ u + x → x ≡ untrue_step T S (step_frame S j) (time - r.birth) s
      → Made T S time n s s' o o at p u u'
  unfolding move_by untrue_by written_by size_by
  made_step read j e v here sum told = rw e (record { store = rw (← read) v; output = refl; place = omega arith; untrue_told = rw (← read, ← told) sum })

-- there is room for what an event writes
pub room_for : (T : List ℕ) (S : Shape) (time : ℕ) (n : Next) (s : List ℕ) (at room i : ℕ) → n ≡ Take i → at + size_by T S time n s ≤ room
    → at + length (put_out T S i (birth_of S s i) time s) ≤ room
unfolding size_by written_by
room_for T S time n s at room i e h = rw e at h

-- ---- its size
module _ (T : List ℕ) (S : Shape) (time : ℕ) (n : Next) (s : List ℕ) where
  pub size_take : (i : ℕ) {z : ℕ} → n ≡ Take i → Sized T S i z → z ≡ size_by T S time n s
  unfolding size_by written_by
  size_take i e w = rw e (sym (w.bytes_are (birth_of S s i) time s))

-- only an event that is taken writes
pub size_other : (T : List ℕ) (S : Shape) (time : ℕ) (n : Next) (s : List ℕ) → ((i : ℕ) → n ≡ Take i → ⊥) → 0 ≡ size_by T S time n s
unfolding size_by written_by
size_other T S time (Take i) s h = absurd (h i refl)
size_other T S time (Change j) s h = refl
size_other T S time Idle s h = refl
size_other T S time (Step j) s h = refl
size_other T S time (End j) s h = refl
size_other T S time Back s h = refl
size_other T S time Nothing s h = refl
