-- A move keeps the values and buffers of variables within 32 bits: each is copied from another of them, or is the word of a step's result.
use Rattle.std.specs.Prelude.{◌≡◌, Bool, false, ℕ, suc, ◌-◌, ◌≤◌, ◌<◌, eqb, ltb, ℤ, pos, negsuc, length}
use Rattle.std.proofs.Math.Path.{refl}
use Rattle.std.proofs.Common.{sym, ⊎_elim, arith, leb→le, le→leb, eqb-true, ltb-true, ltb-false, le-ltb}
use Rattle.std.specs.Int.Signed.{le_z_yes}
use Rattle.std.proofs.lemmas.Bool.{eqb-false}
use Rattle.rules_walks.proofs.laws.Choose.{by_choose}
use Rattle.rules_walks.proofs.laws.Pick.{test_cases, clash}
use Rattle.rules_walks.proofs.laws.Walk.{up_to_keeps}
use Rattle.rules_walks.specs.First.{Sought, one, missing}
use Rattle.rules_numbers.specs.Word.{signed, word}
use Rattle.rules_numbers.proofs.laws.Word.{signed_low}
use Rattle.rules_numbers.specs.Clip.{InRange}
use Rattle.rules_numbers.specs.Truth.{outcome}
use Rattle.rules_numbers.proofs.laws.Operation.{operation_in_range}
use Rattle.rules_tables.specs.Kind.{basic, interface, delay, of_input}
use Rattle.rules_tables.specs.Frame.{Table, flag_at, field_at}
use Rattle.rules_tables.specs.declared.Shape.{Shape}
use Rattle.rules_tables.specs.Ids.{elements, inputs, variables, associations, steps, links, association_frame, step_frame, link_frame}
use Rattle.rules_tables.specs.Good.{Good}
use Rattle.rules_tables.specs.Lawful.{Lawful}
use Rattle.rules_store.specs.declared.Running.{Running}
use Rattle.rules_store.specs.Running.{charting}
use Rattle.rules_store.specs.Layout.{need}
use Rattle.rules_store.specs.Word.{Store, now_of, running_of, put_running, birth_of, put_input, value, put_value, buffer, put_buffer}
use Rattle.rules_store.specs.Part.{Part, block, count, untrues, chart as «charts», due, input, sampled as «samples_part», computed, buffered, just, also, everything, Leaves}
use Rattle.rules_store.specs.Formed.{Formed}
use Rattle.rules_store.proofs.laws.Own.{value_put, buffer_put}
use Rattle.rules_store.proofs.laws.Word.{value_put_value, value_put_buffer, buffer_put_value, buffer_put_buffer}
use Rattle.rules_store.proofs.laws.Writer.{leaves_running, leaves_input, leaves_value, leaves_buffer}
use Rattle.rules_moves.specs.Partner.{input_owner, partner_variable}
use Rattle.rules_moves.proofs.laws.Partner.{partner_output_lem}
use Rattle.rules_moves.specs.Carry.{voice, voice_of, speaks, carries}
use Rattle.rules_moves.specs.Fire.{connects, copy_if, fire}
use Rattle.rules_moves.proofs.laws.Firing.{connects_leaves}
use Rattle.rules_moves.specs.Take.{sample, sampled, pass_to, pass, passes, fire_found, start_stop, wake, settle, settled, fired_by, taken}
use Rattle.rules_moves.proofs.laws.Taking.{wake_leaves, start_stop_leaves}
use Rattle.rules_moves.specs.Chart.{element_of}
use Rattle.rules_moves.specs.Act.{step_outcome, result_put, untrue_step, one_step, step_move, event_of, end_move}
use Rattle.rules_moves.proofs.laws.Moving.{change_leaves, idle_leaves, count_leaves}
use Rattle.rules_moves.specs.declared.Next.{Next}
use Rattle.rules_moves.specs.declared.Next.TheVariants.{Take, Change, Idle, Step, End, Back, Nothing}
use Rattle.rules_moves.specs.Next.{next_by, next_of, move_by, move}
use Rattle.rules_moves.specs.Means.{Means}
use Rattle.rules_moves.proofs.laws.Next.{next_means, answer_ready, ready_step}
use Rattle.laws_traces.specs.Wide.{Wide}
use Rattle.laws_traces.proofs.laws.Left.{value_left}

-- ---- the word of a result
pos_in : (n : ℕ) → n ≤ 2147483647 → InRange (pos n)
pos_in n h = record { low = le_z_yes tt; high = le_z_yes (le→leb n 2147483647 h) }

negsuc_in : (n : ℕ) → n ≤ 2147483647 → InRange (negsuc n)
negsuc_in n h = record { low = le_z_yes (le→leb n 2147483647 h); high = le_z_yes tt }

-- whatever the word, its signed value is in the range
signed_in : (w : ℕ) → InRange (signed w)
signed_in w =
    ⊎_elim (λ e. let l = ltb-true w 2147483648 e in rw (signed_low {w = w} l) (pos_in w (omega arith)))
    (λ e. let l = ltb-false w 2147483648 e in rw (le-ltb w 2147483648 l) (negsuc_in (4294967296 - suc w) (omega arith))) (test_cases (ltb w 2147483648))

word_small : (z : ℤ) → InRange z → word z < 4294967296
word_small (pos n) r = let h = leb→le n 2147483647 r.high.le in omega arith
word_small (negsuc n) r = omega arith

module _ (T : Table) (S : Shape) (k : Lawful T S) where
  abbrev g : Good T S
  g = k.is_good

  -- a store as long as it needs, with variables of 32 bits
  record Sized (s : Store) : Type 0 where
    pub long : need S ≤ length s
    pub wide : Wide S s

  -- ---- what leaves values and buffers
  left_sized : (f : Part → Bool) (s s' : Store) → Leaves T S f s s' → f «samples_part» ≡ false → f computed ≡ false → f buffered ≡ false → Sized s → Sized s'
  left_sized f s s' w a b c h =
      record {
        long = let p = w.long in let q = h.long in omega arith;
        wide =
            record {
              values = λ v l. rw (value_left T S f s s' w a b v l) (h.wide.values v l);
              buffers = λ v l. rw (w.buffers c v l) (h.wide.buffers v l);
            };
      }

  running_sized : (r : Running) (s : Store) → Sized s → Sized (put_running r s)
  running_sized r s h = left_sized (just block) s (put_running r s) (leaves_running T S (just block) s r refl) refl refl refl h

  -- ---- a value, a buffer
  value_sized : (v x : ℕ) (s : Store) → v < variables S → x < 4294967296 → Sized s → Sized (put_value S v x s)
  value_sized v x s l b h =
      record {
        long = let p = (leaves_value T S everything s v x l (λ z. clash (sym z)) (λ z. clash (sym z))).long in let q = h.long in omega arith;
        wide =
            record {
              values =
                  λ u m.
                  ⊎_elim (λ e. let q = eqb-true u v e in rw (q, value_put S s h.long v x l) b)
                  (λ e. rw (value_put_value S s v u x (eqb-false u v e)) (h.wide.values u m)) (test_cases (eqb u v));
              buffers = λ u m. rw (buffer_put_value S s v u x) (h.wide.buffers u m);
            };
      }

  buffer_sized : (v x : ℕ) (s : Store) → v < variables S → x < 4294967296 → Sized s → Sized (put_buffer S v x s)
  buffer_sized v x s l b h =
      record {
        long = let p = (leaves_buffer T S everything s v x l refl).long in let q = h.long in omega arith;
        wide =
            record {
              values = λ u m. rw (value_put_buffer S s v u x) (h.wide.values u m);
              buffers =
                  λ u m.
                  ⊎_elim (λ e. let q = eqb-true u v e in rw (q, buffer_put S s h.long v x l) b)
                  (λ e. rw (buffer_put_buffer S s v u x (eqb-false u v e)) (h.wide.buffers u m)) (test_cases (eqb u v));
            };
      }

  -- ---- firing
  copies_sized : (p : ℕ → Bool) (j : ℕ) (s : Store) → j < links S → Sized s → Sized (copy_if T S p j s)
  unfolding copy_if
  copies_sized p j s l h =
      let a = field_at T (link_frame S j) 0 in
      let b = field_at T (link_frame S j) 1 in
      by_choose Sized (p a) (put_buffer S b (value S s a) s) s (λ _. buffer_sized b (value S s a) s (g.link_destination j l) (h.wide.values a (g.link_source j l)) h) (λ _. h)

  fire_sized : (o birth t : ℕ) (s : Store) → Sized s → Sized (fire T S o birth t s)
  unfolding fire
  fire_sized o birth t s h =
      let f = also input (just count) in
      let x = connects T S o birth t s in
      up_to_keeps Sized (copy_if T S (carries T S (voice_of T S o))) (links S) x (λ j l y w. copies_sized (carries T S (voice_of T S o)) j y l w)
      (left_sized f s x (connects_leaves T S k f refl refl o birth t s) refl refl refl h)

  found_sized : (q : Sought) (birth t : ℕ) (s : Store) → Sized s → Sized (fire_found T S q birth t s)
  unfolding fire_found
  found_sized (one o) birth t s h = fire_sized o birth t s h
  found_sized missing birth t s h = h

  -- ---- taking
  sample_sized : (i j : ℕ) (s : Store) → j < associations S → Sized s → Sized (sample T S i j s)
  unfolding sample
  sample_sized i j s l h =
      let v = field_at T (association_frame S j) 1 in
      let b = g.association_variable j l in
      by_choose Sized (speaks T S (voice of_input i) j) (put_value S v (buffer S s v) s) s (λ _. value_sized v (buffer S s v) s b (h.wide.buffers v b) h) (λ _. h)

  sampled_sized : (i : ℕ) (s : Store) → i < inputs S → Sized s → Sized (sampled T S i s)
  unfolding sampled
  sampled_sized i s l h =
      let y = put_input S i 0 0 0 s in
      up_to_keeps Sized (sample T S i) (associations S) y (λ j b x w. sample_sized i j x b w)
      (left_sized (just input) s y (leaves_input T S (just input) s i 0 0 0 l refl) refl refl refl h)

  pass_to_sized : (q : Sought) (v : ℕ) (s : Store) → v < variables S → ((u : ℕ) → q ≡ one u → u < variables S) → Sized s → Sized (pass_to S q v s)
  unfolding pass_to
  pass_to_sized (one u) v s l b h = value_sized u (value S s v) s (b u refl) (h.wide.values v l) h
  pass_to_sized missing v s l b h = h

  pass_sized : (i j : ℕ) (s : Store) → j < associations S → Sized s → Sized (pass T S i j s)
  unfolding pass
  pass_sized i j s l h =
      let v = field_at T (association_frame S j) 1 in
      by_choose Sized (speaks T S (voice of_input i) j) (pass_to S (partner_variable T S v) v s) s
      (λ _. pass_to_sized (partner_variable T S v) v s (g.association_variable j l) (λ u e. (partner_output_lem T S v u e).0) h) (λ _. h)

  settle_sized : (sort el i birth t : ℕ) (s : Store) → el < elements S → Sized s → Sized (settle sort T S el i birth t s)
  unfolding settle
  settle_sized sort el i birth t s l h =
      by_choose Sized (eqb sort basic) (wake el i birth s) _ (λ _. left_sized (just block) s (wake el i birth s) (wake_leaves T S k (just block) refl el i birth s) refl refl refl h)
      (λ _.
      by_choose Sized (eqb sort interface) (passes T S i s) _ (λ _. up_to_keeps Sized (pass T S i) (associations S) s (λ j b x w. pass_sized i j x b w) h)
      (λ _.
      by_choose Sized (eqb sort delay) (start_stop T S el i t s) s
      (λ _. left_sized (just due) s (start_stop T S el i t s) (start_stop_leaves T S k (just due) refl el i t s l) refl refl refl h) (λ _. h)))

  taken_sized : (i t : ℕ) (s : Store) → i < inputs S → Sized s → Sized (taken T S i t s)
  unfolding taken settled
  taken_sized i t s l h =
      let el = input_owner T S i in
      found_sized (fired_by T S i) (birth_of S s i) t _
      (settle_sized (flag_at T el) el i (birth_of S s i) t (sampled T S i s) (g.input_element i l) (sampled_sized i s l h))

  -- ---- a step
  step_sized : (j age : ℕ) (s : Store) → j < steps S → age ≤ 2147483647 → Sized s → Sized (one_step T S (step_frame S j) age s)
  unfolding one_step result_put step_outcome outcome
  step_sized j age s l b h =
      let f = step_frame S j in
      let x = signed_in (value S s (field_at T f 1)) in
      let y = signed_in (value S s (field_at T f 2)) in
      left_sized (just untrues) _ _ (count_leaves T S k (just untrues) refl (untrue_step T S f age s) _) refl refl refl
      (value_sized (field_at T f 0) _ s (g.step_result j l) (word_small _ (operation_in_range (flag_at T f) x y (pos_in age b))) h)

  -- ---- a move, by what comes next
  module _ (s : Store) (f : Formed T S s) (t : ℕ) (now-is : now_of s ≡ t) (h : Sized s) where
    by_next : (n : Next) → n ≡ next_by T S (running_of s) s → Means T S (running_of s) s n → Sized (move_by T S t n s)
    unfolding move_by step_move end_move
    by_next (Take i) e m = taken_sized i t s m.1.inside h
    by_next (Change j) e m =
        let o = (f.block.busy (λ z. omega (arith, m.0))).owner in
        left_sized (also block (just «charts»)) s _
        (change_leaves T S k (also block (just «charts»)) refl refl (element_of s) (running_of s) j s (let a = o.element in let b = o.within in omega arith)) refl refl refl h
    by_next Idle e m = left_sized (just block) s _ (idle_leaves T S k (just block) refl s) refl refl refl h
    by_next (Step j) e m =
        let r = answer_ready T S (running_of s) s g (Step j) e in
        let b = f.parts.in_time in
        running_sized _ _ (step_sized j (t - (running_of s).birth) s (ready_step S (Step j) r j refl) (omega arith) h)
    by_next (End j) e m = running_sized _ _ (found_sized (event_of T S j) (running_of s).birth t s h)
    by_next Back e m = running_sized (charting (running_of s)) s h
    by_next Nothing e m = h

  pub move_wide : (s : Store) → Formed T S s → (t : ℕ) → now_of s ≡ t → Wide S s → Wide S (move T S t s)
  unfolding move next_of
  move_wide s f t n w = (by_next s f t n (record { long = f.parts.long; wide = w }) (next_by T S (running_of s) s) refl (next_means T S (running_of s) s)).wide
