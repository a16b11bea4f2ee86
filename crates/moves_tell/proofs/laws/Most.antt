-- The last two kinds of frames, from the store after the move, and how many bytes they have, from the one before; and a move has at most twenty frames. Rests on what each move leaves of the running block
-- (rules_moves, laws), on what each answer tells (laws/Telling), and on an event having eight associations at most (`eight` of Good).
use Rattle.std.specs.Prelude.{◌≡◌, Bool, false, ℕ, zero, suc, ◌+◌, ◌-◌, ◌≤◌, ◌<◌, eqb}
use Rattle.std.proofs.Math.Path.{refl, sym, ap, subst}
use Rattle.std.proofs.Common.{◌∙◌, ⊎_elim, add-one}
use mathlib.Core.List.{List, [], ◌∷◌, ◌++◌, append-nil}
use Rattle.std.proofs.Math.Bool.{true}
use native.Mathlib.Omega.{arith}
use Rattle.std.proofs.Math.ListN.{length, length-append}
use borrow.Author.Tests.{eq-eqb, ne_eqb, eqb-true, eqb-false, leb-true}
use Rattle.rules_walks.specs.Choose.{choose}
use Rattle.rules_walks.specs.Pick.{pick, both, either}
use Rattle.rules_walks.proofs.laws.Pick.{both_left, both_right, both_intro, either_false, test_cases, clash}
use Rattle.rules_walks.proofs.laws.Choose.{choose_false, by_choose}
use Rattle.rules_walks.specs.Count.{count_if}
use Rattle.rules_walks.proofs.laws.Count.{count_hit, count_miss, count_mono, count_rest, count_same, count_none}
use Rattle.rules_walks.specs.All.{any_to}
use Rattle.rules_walks.proofs.laws.All.{any_none, any_next, any_stop, any_witness}
use Rattle.rules_walks.specs.First.{Sought, one, missing}
use Rattle.rules_tables.specs.Kind.{basic, interface, delay, output, of_input}
use Rattle.rules_tables.specs.Frame.{flag_at, field_at}
use Rattle.rules_tables.specs.declared.Shape.{Shape}
use Rattle.rules_tables.specs.Ids.{inputs, variables, associations, first_action, actions, association_frame, variable_frame, transition_frame, action_frame, step_frame}
use Rattle.rules_tables.specs.Owned.{any, nth}
use Rattle.rules_tables.specs.Lawful.{Lawful}
use Rattle.rules_tables.specs.Actions.{action_of, or_zero, action_number}
use Rattle.rules_store.specs.declared.Running.{Running}
use Rattle.rules_store.specs.Layout.{need}
use Rattle.rules_store.specs.Running.{idle, charts, rest, awake, entered, stepped, charting}
use Rattle.rules_store.specs.Word.{running_of, put_owner, put_chart_state, birth_of}
use Rattle.rules_store.specs.WellFormed.{step_ok}
use Rattle.rules_store.specs.Part.{Part, count, chart, due, input as «inputs_part», sampled as «samples_part», computed, buffered, just, also, calm, everything, Leaves}
use Rattle.rules_store.proofs.laws.Writer.{leaves_owner, leaves_chart}
use Rattle.rules_store.proofs.laws.Own.{running_put, element_running}
use Rattle.rules_moves.specs.Partner.{input_owner, partner_variable}
use Rattle.rules_moves.specs.Carry.{voice, speaks, or_none}
use Rattle.rules_moves.specs.Associated.{joins_variable, associated}
use Rattle.rules_moves.specs.Chart.{change, go_idle, element_of, state_of}
use Rattle.rules_moves.specs.Act.{one_step, step_move, event_of, end_move}
use Rattle.rules_moves.specs.Take.{sampled, passes, start_stop, wake, settle, settled, fired_by, fire_found, taken}
use Rattle.rules_moves.proofs.laws.Taking.{sampled_leaves, passes_leaves, start_stop_leaves, fire_found_leaves}
use Rattle.rules_moves.proofs.laws.Moving.{one_step_leaves}
use Rattle.rules_moves.specs.Means.{Means}
use Rattle.rules_moves.proofs.laws.Next.{answer_means, ready_input, ready_step}
use Rattle.rules_moves.specs.declared.Next.{Next}
use Rattle.rules_moves.specs.declared.Next.TheVariants.{Take, Change, Idle, Step, End, Back, Nothing}
use Rattle.rules_moves.specs.Next.{move_by}
use Rattle.rules_traces.specs.declared.Entry.{Entry}
use Rattle.rules_traces.specs.Kinds.{action_kind, step_kind}
use Rattle.rules_traces.specs.Entry.{entry, entry_frames}
use Rattle.rules_traces.specs.Gather.{gather}
use Rattle.rules_traces.proofs.laws.Gather.{gather_most}
use Rattle.rules_traces.proofs.laws.Changes.{same_differing}
use Rattle.rules_traces.specs.Traceable.{Traceable}
use Rattle.rules_traces.specs.Trace.{differing, number_changes, finished_at_once, emitted_entry, enabled_entry, first_entries, entries_between, entries_by}
use Rattle.moves_tell.specs.Before.{sampled_entry, source_of, passed_from, passed_by, passed_entry, passed_entries, take_entries, take_events, change_entries, result_entry, step_entries, end_numbers, numbers_by}
use Rattle.moves_tell.specs.Telling.{Telling, Numbered}
use Rattle.moves_tell.proofs.laws.Before.{source_partner}
use Rattle.moves_tell.proofs.laws.Told.{frames_length, differing_other}
use Rattle.moves_tell.proofs.laws.Telling.{is_good, is_ready, block_in, end_found, change_in, take_all, change_all, idle_all, step_all, end_all, back_all, nothing_all}

-- ---- action and step numbers
no_numbers : (el : ℕ) (r a : Running) → a.action ≡ r.action → a.step ≡ r.step → number_changes el r a ≡ []
unfolding number_changes
no_numbers el r a p q = rw (same_differing action_kind el 0 p, same_differing step_kind el 0 q) refl

-- from no action and step 0, to step 0
change_numbers : (el el' : ℕ) (r x : Running) → el' ≡ el → r.action ≡ 0 → r.step ≡ 0 → x.step ≡ 0 → number_changes el r x ≡ differing 0 (entry action_kind el' 0 x.action)
unfolding number_changes
change_numbers el el' r x e p q u = rw (e, same_differing step_kind el 0 (u ∙ sym q), p) (append-nil _)

-- another step of the same action
step_numbers : (el el' : ℕ) (r x : Running) → el' ≡ el → x.action ≡ r.action → (r.step ≡ x.step → ⊥) → number_changes el r x ≡ entry step_kind el' 0 x.step ∷ []
unfolding number_changes
step_numbers el el' r x e p q = rw (e, same_differing action_kind el 0 p, differing_other (entry step_kind el 0 x.step) q) refl

-- another action, from step m to step 0
end_numbers_lem : (el el' : ℕ) (r x : Running) (m : ℕ) → el' ≡ el → (r.action ≡ x.action → ⊥) → r.step ≡ m → x.step ≡ 0
    → number_changes el r x ≡ (entry action_kind el' 0 x.action ∷ []) ++ differing m (entry step_kind el' 0 0)
unfolding number_changes
end_numbers_lem el el' r x m e p q u = rw (e, differing_other (entry action_kind el 0 x.action) p, q, u) refl

-- their bytes
differing_bytes : (a : ℕ) (e : Entry) → length (entry_frames (differing a e)) ≡ choose (eqb a e.value) 0 12
unfolding differing choose
differing_bytes a e = by (eqb a e.value)
  where
    by : (b : Bool) → length (entry_frames (choose b [] (e ∷ []))) ≡ choose b 0 12
    by true = frames_length []
    by false = frames_length (e ∷ [])

end_length : (a : Entry) (m : ℕ) (e : Entry) → length (entry_frames ((a ∷ []) ++ differing m e)) ≡ choose (eqb m e.value) 12 24
unfolding differing choose
end_length a m e = by (eqb m e.value)
  where
    by : (b : Bool) → length (entry_frames ((a ∷ []) ++ choose b [] (e ∷ []))) ≡ choose b 12 24
    by true = frames_length (a ∷ [])
    by false = frames_length (a ∷ e ∷ [])

-- an action that is found has a number from 1 on, and the next number is another
action_one : (T : List ℕ) (S : Shape) (q k j : ℕ) → action_of T S q k ≡ one j → 1 ≤ k
unfolding action_of
action_one T S q k j = by (eqb k 0) refl
  where
    by : (b : Bool) → eqb k 0 ≡ b → pick b missing (nth T (first_action S) (actions S) any q (k - 1)) ≡ one j → 1 ≤ k
    by true h e = absurd (let z : ◌≡◌ {A = ℕ} 0 1 = cc in omega arith)
    by false h e = let d = eqb-false k 0 h in omega arith

number_moves : (T : List ℕ) (S : Shape) (q k : ℕ) → 1 ≤ k → k ≡ action_number T S q (k + 1) → ⊥
unfolding action_number
number_moves T S q k l = by (action_of T S q (k + 1))
  where
    by : (x : Sought) → k ≡ or_zero (k + 1) x → ⊥
    by (one j) e = omega arith
    by missing e = omega arith

-- no action and no step
abbrev Still : Running → Type 0
Still r = (r.action ≡ 0) × (r.step ≡ 0)

still_same : (a b : Running) → b ≡ a → Still a → Still b
still_same a b e h = subst Still (sym e) h

-- an event taken while there is none leaves none: a basic element wakes at 0, and any other leaves the running block
module _ (T : List ℕ) (S : Shape) (k : Lawful T S) (i time : ℕ) (s : List ℕ) (long : need S ≤ length s) (known : i < inputs S) (h : Still (running_of s)) where
  abbrev el : ℕ
  el = input_owner T S i

  abbrev birth : ℕ
  birth = birth_of S s i

  abbrev sampled_store : List ℕ
  sampled_store = sampled T S i s

  samples_leave : Leaves T S (also «samples_part» (just «inputs_part»)) s sampled_store
  samples_leave = sampled_leaves T S k (also «samples_part» (just «inputs_part»)) refl refl i s known

  sampled_still : Still (running_of sampled_store)
  sampled_still = still_same (running_of s) (running_of sampled_store) (samples_leave.running refl).running h

  wake_still : Still (running_of (wake el i birth sampled_store))
  unfolding wake
  wake_still =
      let y = put_owner (el + 1) (i + 1) sampled_store in
      let a = samples_leave.long in
      let b = (leaves_owner T S everything sampled_store (el + 1) (i + 1) refl).long in
      still_same (awake birth) _ (running_put S y (omega arith) (awake birth)) (refl, refl)

  settled_still : Still (running_of (settled T S i time s))
  unfolding settled settle
  settled_still =
      by_choose (λ (y : List ℕ). Still (running_of y)) (eqb (flag_at T el) basic) (wake el i birth sampled_store) _ (λ _. wake_still)
      (λ _.
      by_choose (λ (y : List ℕ). Still (running_of y)) (eqb (flag_at T el) interface) (passes T S i sampled_store) _
      (λ _. still_same (running_of sampled_store) _ ((passes_leaves T S k (just computed) refl i sampled_store).running refl).running sampled_still)
      (λ _.
      by_choose (λ (y : List ℕ). Still (running_of y)) (eqb (flag_at T el) delay) (start_stop T S el i time sampled_store) sampled_store
      (λ _. still_same (running_of sampled_store) _ ((start_stop_leaves T S k (just due) refl el i time sampled_store (k.is_good.input_element i known)).running refl).running sampled_still)
      (λ _. sampled_still)))

  abbrev fired : Part → Bool
  fired = also «inputs_part» (also count (just buffered))

  taken_still : Still (running_of (taken T S i time s))
  unfolding taken
  taken_still =
      let y = settled T S i time s in
      still_same (running_of y) _ ((fire_found_leaves T S k fired refl refl refl (fired_by T S i) birth time y).running refl).running settled_still

module _ (T : List ℕ) (S : Shape) (time : ℕ) (r : Running) (n : Next) (s : List ℕ) (w : Telling T S time r n s) where
  lawful : Lawful T S
  lawful = w.traceable.is_lawful

  long : need S ≤ length s
  long = w.formed.parts.long

  means : Means T S r s n
  means = answer_means T S r s n w.next_is

  mode_is : (running_of s).mode ≡ r.mode
  mode_is = ap (λ (x : Running). x.mode) (sym w.running_is)

  -- what rests, or looks for a transition, has no action and no step
  rest_still : r.mode ≡ idle → Still (running_of s)
  rest_still e = let q = w.formed.block.idle (mode_is ∙ e) in (q.action, q.step)

  chart_still : r.mode ≡ charts → Still (running_of s)
  chart_still e =
      let m = mode_is ∙ e in
      let q = (w.formed.block.busy (λ z. let c = sym z ∙ m in omega arith)).mode.charting m in
      (q.1, q.2)

  take_still : (i : ℕ) → n ≡ Take i → Still (running_of s) × Still (running_of (move_by T S time (Take i) s))
  unfolding move_by
  take_still i e =
      let h = rest_still (subst (Means T S r s) e means).0 in
      (h, taken_still T S lawful i time s long (ready_input S n (is_ready T S time r n s w) i e) h)

  -- ---- the running block after the other moves
  idle_runs : running_of (go_idle s) ≡ rest
  unfolding go_idle
  idle_runs = let a = (leaves_owner T S everything s 0 0 refl).long in running_put S (put_owner 0 0 s) (omega arith) rest

  change_runs : (j : ℕ) → n ≡ Change j → running_of (change T S (element_of s) (running_of s) j s) ≡ entered (action_number T S (field_at T (transition_frame S j) 1) 1) (running_of s)
  unfolding change
  change_runs j e =
      let q = field_at T (transition_frame S j) 1 in
      let a = (leaves_chart T S everything s (element_of s) q (change_in T S time r n s w j e) refl).long in
      running_put S (put_chart_state (element_of s) q s) (omega arith) (entered (action_number T S q 1) (running_of s))

  step_runs : (j : ℕ) → n ≡ Step j → running_of (step_move T S time (running_of s) j s) ≡ stepped (running_of s)
  unfolding step_move
  step_runs j e =
      let y = one_step T S (step_frame S j) (time - (running_of s).birth) s in
      let a = (one_step_leaves T S lawful everything refl refl j (time - (running_of s).birth) s (ready_step S n (is_ready T S time r n s w) j e)).long in
      running_put S y (omega arith) (stepped (running_of s))

  end_runs : (j : ℕ) → running_of (end_move T S time (state_of s) (running_of s) j s) ≡ entered (action_number T S (state_of s) ((running_of s).action + 1)) (running_of s)
  unfolding end_move
  end_runs j =
      let y = fire_found T S (event_of T S j) (running_of s).birth time s in
      let a = (fire_found_leaves T S lawful everything refl refl refl (event_of T S j) (running_of s).birth time s).long in
      running_put S y (omega arith) (entered (action_number T S (state_of s) ((running_of s).action + 1)) (running_of s))

  -- ---- the element after the moves that tell numbers
  change_keeps : (j : ℕ) → n ≡ Change j → element_of (change T S (element_of s) (running_of s) j s) ≡ element_of s
  unfolding change
  change_keeps j e =
      let q = field_at T (transition_frame S j) 1 in
      let y = put_chart_state (element_of s) q s in
      ap (λ (x : ℕ). x - 1) (element_running S y (entered (action_number T S q 1) (running_of s))
      ∙ ((leaves_chart T S (just chart) s (element_of s) q (change_in T S time r n s w j e) refl).running refl).element)

  step_keeps : (j : ℕ) → n ≡ Step j → element_of (step_move T S time (running_of s) j s) ≡ element_of s
  unfolding step_move
  step_keeps j e =
      let y = one_step T S (step_frame S j) (time - (running_of s).birth) s in
      ap (λ (x : ℕ). x - 1) (element_running S y (stepped (running_of s))
      ∙ ((one_step_leaves T S lawful calm refl refl j (time - (running_of s).birth) s (ready_step S n (is_ready T S time r n s w) j e)).running refl).element)

  end_keeps : (j : ℕ) → element_of (end_move T S time (state_of s) (running_of s) j s) ≡ element_of s
  unfolding end_move
  end_keeps j =
      let y = fire_found T S (event_of T S j) (running_of s).birth time s in
      ap (λ (x : ℕ). x - 1) (element_running S y (entered (action_number T S (state_of s) ((running_of s).action + 1)) (running_of s))
      ∙ ((fire_found_leaves T S lawful (also «inputs_part» (also count (just buffered))) refl refl refl (event_of T S j) (running_of s).birth time s).running refl).element)

  -- the steps of an action that ends are all done, and no more
  end_steps : (j : ℕ) → n ≡ End j → r.step ≡ field_at T (action_frame S j) 2
  unfolding step_ok
  end_steps j e =
      let m = subst (Means T S r s) e means in
      let ni = m.acting.not_idle in
      let nc = m.acting.not_charts in
      let a = ((w.formed.block.busy (λ z. ni (sym mode_is ∙ z))).mode.acting (λ z. nc (sym mode_is ∙ z))).2 in
      let b : step_ok T S r (action_of T S (state_of s) r.action) ≡ true = subst (λ (x : Running). step_ok T S x (action_of T S (state_of s) x.action) ≡ true) (sym w.running_is) a in
      let c : step_ok T S r (one j) ≡ true = subst (λ (x : Sought). step_ok T S r x ≡ true) m.found b in
      let l = leb-true r.step (field_at T (action_frame S j) 2) c in
      let d = m.done in
      omega arith

  -- ---- every move
  pub take_numbers : (el i : ℕ) → n ≡ Take i → number_changes el r (running_of (move_by T S time n s)) ≡ []
  take_numbers el i e =
      let h = take_still i e in
      let p = ap (λ (x : Running). x.action) w.running_is in
      let q = ap (λ (x : Running). x.step) w.running_is in
      ap (λ (m : Next). number_changes el r (running_of (move_by T S time m s))) e
      ∙ no_numbers el r _ (h.1.0 ∙ sym h.0.0 ∙ sym p) (h.1.1 ∙ sym h.0.1 ∙ sym q)

  still_here : Still (running_of s) → Still r
  still_here h = still_same (running_of s) r w.running_is h

  pub numbers_by_lem : number_changes (element_of s) r (running_of (move_by T S time n s)) ≡ numbers_by T S n (move_by T S time n s)
  unfolding move_by numbers_by end_numbers
  numbers_by_lem = by n refl
    where
      by : (m : Next) → n ≡ m → number_changes (element_of s) r (running_of (move_by T S time m s)) ≡ numbers_by T S m (move_by T S time m s)
      by (Take i) e = ap (λ (m : Next). number_changes (element_of s) r (running_of (move_by T S time m s))) (sym e) ∙ take_numbers (element_of s) i e
      by (Change j) e =
          let h = still_here (chart_still (subst (Means T S r s) e means).0) in
          change_numbers _ _ r _ (change_keeps j e) h.0 h.1 (ap (λ (x : Running). x.step) (change_runs j e))
      by Idle e =
          let h = still_here (chart_still (subst (Means T S r s) e means).0) in
          no_numbers (element_of s) r _ (ap (λ (x : Running). x.action) idle_runs ∙ sym h.0) (ap (λ (x : Running). x.step) idle_runs ∙ sym h.1)
      by (Step j) e =
          let p = ap (λ (x : Running). x.step) (step_runs j e) in
          let q = ap (λ (x : Running). x.step) w.running_is in
          step_numbers _ _ r _ (step_keeps j e) (ap (λ (x : Running). x.action) (step_runs j e) ∙ sym (ap (λ (x : Running). x.action) w.running_is))
          (λ z. let y = z ∙ p in omega arith)
      by (End j) e =
          let p = ap (λ (x : Running). x.action) (end_runs j) in
          let q = ap (λ (x : Running). x.action) w.running_is in
          let g = action_one T S (state_of s) r.action j (end_found T S time r n s w j e) in
          end_numbers_lem _ _ r _ _ (end_keeps j) (λ z. number_moves T S (state_of s) (running_of s).action (omega arith) (sym q ∙ z ∙ p)) (end_steps j e)
          (ap (λ (x : Running). x.step) (end_runs j))
      by Back e =
          let h = running_put S s long (charting (running_of s)) in
          no_numbers (element_of s) r _ (ap (λ (x : Running). x.action) h ∙ sym (ap (λ (x : Running). x.action) w.running_is))
          (ap (λ (x : Running). x.step) h ∙ sym (ap (λ (x : Running). x.step) w.running_is))
      by Nothing e = no_numbers (element_of s) r _ (sym (ap (λ (x : Running). x.action) w.running_is)) (sym (ap (λ (x : Running). x.step) w.running_is))

  -- what the code that tells the numbers needs
  pub numbered : {s' : List ℕ} → s' ≡ move_by T S time n s → Numbered T S n s'
  unfolding move_by
  numbered {s'} is =
      let l = block_in T S time r n s w in
      record {
        is_good = is_good T S time r n s w;
        is_ready = is_ready T S time r n s w;
        at_change = λ j e. let h = ap element_of (is ∙ ap (λ (m : Next). move_by T S time m s) e) ∙ change_keeps j e in omega arith;
        at_step = λ j e. let h = ap element_of (is ∙ ap (λ (m : Next). move_by T S time m s) e) ∙ step_keeps j e in omega arith;
        at_end = λ j e. let h = ap element_of (is ∙ ap (λ (m : Next). move_by T S time m s) e) ∙ end_keeps j in omega arith;
      }

  -- ---- how many bytes they have, from the store before
  pub change_bytes : (j : ℕ) → n ≡ Change j → choose (eqb 0 (action_number T S (field_at T (transition_frame S j) 1) 1)) 0 12 ≡ length (entry_frames (numbers_by T S n (move_by T S time n s)))
  unfolding move_by numbers_by end_numbers
  change_bytes j e =
      let a = ap (λ (x : Running). x.action) (change_runs j e) in
      let s' = change T S (element_of s) (running_of s) j s in
      ap (λ (x : ℕ). choose (eqb 0 x) 0 12) (sym a)
      ∙ sym (differing_bytes 0 (entry action_kind (element_of s') 0 (running_of s').action))
      ∙ ap (λ (m : Next). length (entry_frames (numbers_by T S m (move_by T S time m s)))) (sym e)

  pub step_bytes : (j : ℕ) → n ≡ Step j → 12 ≡ length (entry_frames (numbers_by T S n (move_by T S time n s)))
  unfolding move_by numbers_by end_numbers
  step_bytes j e =
      let s' = step_move T S time (running_of s) j s in
      sym (frames_length (entry step_kind (element_of s') 0 (running_of s').step ∷ []))
      ∙ ap (λ (m : Next). length (entry_frames (numbers_by T S m (move_by T S time m s)))) (sym e)

  pub end_bytes : (j : ℕ) → n ≡ End j → choose (eqb (field_at T (action_frame S j) 2) 0) 12 24 ≡ length (entry_frames (numbers_by T S n (move_by T S time n s)))
  unfolding move_by numbers_by end_numbers
  end_bytes j e =
      let s' = end_move T S time (state_of s) (running_of s) j s in
      sym (end_length (entry action_kind (element_of s') 0 (running_of s').action) (field_at T (action_frame S j) 2) (entry step_kind (element_of s') 0 0))
      ∙ ap (λ (m : Next). length (entry_frames (numbers_by T S m (move_by T S time m s)))) (sym e)

  no_bytes : (m : Next) → n ≡ m → numbers_by T S m (move_by T S time m s) ≡ [] → 0 ≡ length (entry_frames (numbers_by T S n (move_by T S time n s)))
  unfolding entry_frames
  no_bytes m e h = ap (λ (x : List Entry). length (entry_frames x)) (sym h) ∙ ap (λ (x : Next). length (entry_frames (numbers_by T S x (move_by T S time x s)))) (sym e)

  pub take_bytes : (i : ℕ) → n ≡ Take i → 0 ≡ length (entry_frames (numbers_by T S n (move_by T S time n s)))
  unfolding numbers_by
  take_bytes i e = no_bytes (Take i) e refl

  pub idle_bytes : n ≡ Idle → 0 ≡ length (entry_frames (numbers_by T S n (move_by T S time n s)))
  unfolding numbers_by
  idle_bytes e = no_bytes Idle e refl

  pub back_bytes : n ≡ Back → 0 ≡ length (entry_frames (numbers_by T S n (move_by T S time n s)))
  unfolding numbers_by
  back_bytes e = no_bytes Back e refl

  pub nothing_bytes : n ≡ Nothing → 0 ≡ length (entry_frames (numbers_by T S n (move_by T S time n s)))
  unfolding numbers_by
  nothing_bytes e = no_bytes Nothing e refl

-- ---- how many frames
-- one number more that passes counts one more at most
module _ (a : ℕ → Bool) (x : ℕ) where
  abbrev or_x : ℕ → Bool
  or_x u = either (a u) (eqb x u)

  or_turn : (n : ℕ) → count_if or_x n ≤ count_if a n + 1 → count_if or_x (n + 1) ≤ count_if a (n + 1) + 1
  or_turn n h = by (eqb x n) refl
    where
      by : (c : Bool) → eqb x n ≡ c → count_if or_x (n + 1) ≤ count_if a (n + 1) + 1
      by true e =
          let q = eqb-true x n e in
          let same = count_same or_x a n (λ u l. ap (either (a u)) (ne_eqb x u (λ z. omega arith)) ∙ either_false (a u)) in
          let more = count_mono a n (n + 1) (omega arith) in
          ⊎_elim (λ y. let b = count_hit or_x n y in omega arith) (λ y. let b = count_miss or_x n y in omega arith) (test_cases (or_x n))
      by false e =
          let is : or_x n ≡ a n = ap (either (a n)) e ∙ either_false (a n) in
          ⊎_elim (λ y. let b = count_hit or_x n (is ∙ y) in let c = count_hit a n y in omega arith)
          (λ y. let b = count_miss or_x n (is ∙ y) in let c = count_miss a n y in omega arith) (test_cases (a n))

  count_or : (n : ℕ) → count_if or_x n ≤ count_if a n + 1
  count_or zero = rw (count_none or_x) (omega arith)
  count_or (suc n) = rw (← add-one n) (or_turn n (count_or n))

-- numbers that are g j for some j that passes are no more than such j
module _ (q : ℕ → Bool) (g : ℕ → ℕ) where
  abbrev hits : ℕ → ℕ → Bool
  hits u j = both (q j) (eqb (g j) u)

  abbrev hit : ℕ → ℕ → Bool
  hit m u = any_to (hits u) m

  keys_turn : (m n : ℕ) → count_if (hit m) n ≤ count_if q m → count_if (hit (m + 1)) n ≤ count_if q (m + 1)
  keys_turn m n h = by (q m) refl
    where
      next : (c : Bool) → q m ≡ c → (u : ℕ) → hit (m + 1) u ≡ either (hit m u) (both c (eqb (g m) u))
      next c e u = any_next (hits u) m ∙ ap (λ (b : Bool). either (hit m u) (both b (eqb (g m) u))) e

      by : (c : Bool) → q m ≡ c → count_if (hit (m + 1)) n ≤ count_if q (m + 1)
      by true e =
          let same = count_same (hit (m + 1)) (or_x (hit m) (g m)) n (λ u _. next true e u) in
          let a = count_or (hit m) (g m) n in
          let b = count_hit q m e in
          omega arith
      by false e =
          let same = count_same (hit (m + 1)) (hit m) n (λ u _. next false e u ∙ either_false (hit m u)) in
          let b = count_miss q m e in
          omega arith

  count_keys : (m n : ℕ) → count_if (hit m) n ≤ count_if q m
  count_keys zero n =
      let a = count_rest (hit 0) 0 n (omega arith) (λ u _ _. any_none (hits u)) in
      let b = count_none (hit 0) in
      omega arith
  count_keys (suc m) n = rw (← add-one m) (keys_turn m n (count_keys m n))

differing_most : (a : ℕ) (e : Entry) → length (differing a e) ≤ 1
unfolding differing
differing_most a e = by_choose (λ (x : List Entry). length x ≤ 1) (eqb a e.value) [] _ (λ _. omega arith) (λ _. omega arith)

numbers_most : (el : ℕ) (r a : Running) → length (number_changes el r a) ≤ 2
unfolding number_changes
numbers_most el r a =
    let p = differing_most r.action (entry action_kind el 0 a.action) in
    let q = differing_most r.step (entry step_kind el 0 a.step) in
    rw length-append (omega arith)

emitted_most : (T : List ℕ) (S : Shape) (q : Sought) → length (emitted_entry T S q) ≤ 1
unfolding emitted_entry
emitted_most T S (one o) = omega arith
emitted_most T S missing = omega arith

at_once_most : (T : List ℕ) (el : ℕ) → length (finished_at_once T el) ≤ 1
unfolding finished_at_once
at_once_most T el = by_choose (λ (x : List Entry). length x ≤ 1) (eqb (flag_at T el) basic) [] _ (λ _. omega arith) (λ _. omega arith)

-- taking an event: eight inputs, eight outputs and four events
module _ (T : List ℕ) (S : Shape) (k : Traceable T S) (i time : ℕ) (s : List ℕ) (long : need S ≤ length s) (known : i < inputs S) where
  abbrev speaking : ℕ → Bool
  speaking = speaks T S (voice of_input i)

  abbrev variable_of : ℕ → ℕ
  variable_of j = field_at T (association_frame S j) 1

  few : count_if speaking (associations S) ≤ 8
  unfolding speaks
  few = k.is_lawful.is_good.eight of_input i

  sampled_most : length (gather (sampled_entry T S i s) (variables S)) ≤ 8
  unfolding sampled_entry joins_variable
  sampled_most =
      let a =
      gather_most (sampled_entry T S i s) (associated T S i) (variables S)
      (λ v _. by_choose (λ (x : List Entry). length x ≤ 1) (associated T S i v) _ [] (λ _. differing_most _ _) (λ _. omega arith))
      (λ v _ h. choose_false _ _ [] h) in
      let b = count_keys speaking variable_of (associations S) (variables S) in
      let c = few in
      omega arith

  -- an output that is told is the partner of a variable that is associated
  abbrev partner_of : ℕ → ℕ
  partner_of j = or_none (partner_variable T S (variable_of j))

  abbrev partnered : ℕ → Bool
  partnered u = any_to (hits speaking partner_of u) (associations S)

  associated_partner : (u v : ℕ) → u < variables S → flag_at T (variable_frame S u) ≡ output → source_of T S u ≡ one v → associated T S i v ≡ true → partnered u ≡ true
  unfolding joins_variable
  associated_partner u v l f e h =
      let w = any_witness (joins_variable T S i v) (associations S) h in
      let j = w.which in
      let a = both_left (speaking j) (eqb (variable_of j) v) w.passes in
      let b = eqb-true (variable_of j) v (both_right (speaking j) (eqb (variable_of j) v) w.passes) in
      let p = ap (λ (x : ℕ). or_none (partner_variable T S x)) b ∙ ap or_none (source_partner T S k time s long i known u v e l f) in
      any_stop (hits speaking partner_of u) (associations S) j w.below (both_intro (speaking j) (eqb (partner_of j) u) a (eq-eqb (partner_of j) u p))

  unpartnered : (u : ℕ) → u < variables S → partnered u ≡ false → passed_entry T S i s u ≡ []
  unfolding passed_entry passed_by passed_from
  unpartnered u l h =
      by_choose (λ (x : List Entry). x ≡ []) (eqb (flag_at T (variable_frame S u)) output) (passed_by T S i s u (source_of T S u)) []
      (λ f. by (eqb-true _ output f) (source_of T S u) refl) (λ _. refl)
    where
      by : flag_at T (variable_frame S u) ≡ output → (q : Sought) → source_of T S u ≡ q → passed_by T S i s u q ≡ []
      by f (one v) e =
          by_choose (λ (x : List Entry). x ≡ []) (associated T S i v) _ [] (λ a. clash (sym h ∙ associated_partner u v l f e a)) (λ _. refl)
      by f missing e = refl

  passed_one : (u : ℕ) → length (passed_entry T S i s u) ≤ 1
  unfolding passed_entry passed_by passed_from
  passed_one u =
      by_choose (λ (x : List Entry). length x ≤ 1) (eqb (flag_at T (variable_frame S u)) output) (passed_by T S i s u (source_of T S u)) []
      (λ _. by (source_of T S u)) (λ _. omega arith)
    where
      by : (q : Sought) → length (passed_by T S i s u q) ≤ 1
      by (one v) = by_choose (λ (x : List Entry). length x ≤ 1) (associated T S i v) _ [] (λ _. differing_most _ _) (λ _. omega arith)
      by missing = omega arith

  passed_most : length (passed_entries T S i s) ≤ 8
  unfolding passed_entries
  passed_most =
      let a = gather_most (passed_entry T S i s) partnered (variables S) (λ u _. passed_one u) unpartnered in
      let b = count_keys speaking partner_of (associations S) (variables S) in
      let c = few in
      omega arith

  take_most : length (take_entries T S i s) ≤ 16
  unfolding take_entries
  take_most =
      let a = sampled_most in
      let b =
      by_choose (λ (x : List Entry). length x ≤ 8) (eqb (flag_at T (input_owner T S i)) interface) (passed_entries T S i s) []
      (λ _. passed_most) (λ _. omega arith) in
      rw length-append (omega arith)

  events_most : length (take_events T S i) ≤ 4
  unfolding take_events
  events_most =
      let a = emitted_most T S (fired_by T S i) in
      let b = at_once_most T (input_owner T S i) in
      simp length-append (omega arith)

-- a move has at most twenty frames
module _ (T : List ℕ) (S : Shape) (time : ℕ) (r : Running) (n : Next) (s : List ℕ) (w : Telling T S time r n s) where
  abbrev all : List Entry
  all = first_entries T S n s (move_by T S time n s)

  abbrev numbers : List Entry
  numbers = number_changes (element_of s) (running_of s) (running_of (move_by T S time n s))

  parts : length (entries_by T S time n s) ≡ length all + length numbers
  unfolding entries_by entries_between
  parts = length-append all numbers

  -- but for taking, few are told at first
  few_first : length all ≤ 18 → length (entries_by T S time n s) ≤ 20
  few_first h = let a = parts in let b = numbers_most (element_of s) (running_of s) (running_of (move_by T S time n s)) in omega arith

  no_more : (i : ℕ) → n ≡ Take i → length numbers ≡ 0
  no_more i e =
      ap length
      (subst (λ (x : Running). number_changes (element_of s) x (running_of (move_by T S time n s)) ≡ []) w.running_is (take_numbers T S time r n s w (element_of s) i e))

  change_most : (j : ℕ) → length (change_entries T S j s) ≤ 1
  unfolding change_entries
  change_most j = differing_most _ _

  step_most : (f age : ℕ) → length (step_entries T S f age s) ≤ 1
  unfolding step_entries result_entry
  step_most f age = differing_most _ _

  pub most : length (entries_by T S time n s) ≤ 20
  most = by n refl
    where
      by : (m : Next) → n ≡ m → length (entries_by T S time n s) ≤ 20
      by (Take i) e =
          let known = ready_input S n (is_ready T S time r n s w) i e in
          let a = take_most T S w.traceable i time s w.formed.parts.long known in
          let b = events_most T S w.traceable i time s w.formed.parts.long known in
          let c = ap length (sym (take_all T S time r n s w i e)) ∙ length-append (take_entries T S i s) (take_events T S i) in
          let d = no_more i e in
          let p = parts in
          omega arith
      by (Change j) e =
          let a = change_most j in
          let c = ap length (sym (change_all T S time r n s w j e)) ∙ length-append (change_entries T S j s) (enabled_entry (element_of s) j) in
          few_first (omega arith)
      by Idle e = let c = ap length (sym (idle_all T S time r n s w e)) in few_first (omega arith)
      by (Step j) e =
          let a = step_most (step_frame S j) (time - r.birth) in
          let c = ap length (sym (step_all T S time r n s w j refl e)) in
          few_first (omega arith)
      by (End j) e =
          let a = emitted_most T S (event_of T S j) in
          let c = ap length (sym (end_all T S time r n s w j e)) in
          few_first (omega arith)
      by Back e = let c = ap length (sym (back_all T S time r n s w e)) in few_first (omega arith)
      by Nothing e = let c = ap length (sym (nothing_all T S time r n s w e)) in few_first (omega arith)
