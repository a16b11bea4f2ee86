-- The test of a store and its facts say the same.
use Rattle.std.specs.Prelude.{◌≡◌, List, true, false, ◌⊎◌, eqb, ltb, length}
use Rattle.std.proofs.Math.Path.{refl}
use Rattle.std.proofs.Common.{ap, inl, inr, arith}
use Rattle.std.proofs.Math.Bool.{Bool}
use Rattle.std.proofs.Math.Logic.{⊎_elim}
use Prim.Native.Nat.{ℕ, ◌-◌, ◌≤◌}
use Rattle.std.proofs.Math.Dec.{leb}
use borrow.Author.Tests.{eqb-true, eqb-false, eq-eqb, ne_eqb, leb-true, le-leb, ltb-true, lt-ltb}
use Rattle.rules_walks.specs.Pick.{pick, both}
use Rattle.rules_walks.proofs.laws.Pick.{both_left, both_right, both_intro, both3, either_else, tri, test_cases}
use Rattle.rules_walks.specs.All.{all_to}
use Rattle.rules_walks.proofs.laws.All.{all_at, all_intro}
use Rattle.rules_tables.specs.Frame.{flag_at, field_at}
use Rattle.rules_tables.specs.declared.Shape.{Shape}
use Rattle.rules_store.specs.declared.NextDue.{NextDue}
use Rattle.rules_store.specs.declared.Running.{Running}
use Rattle.rules_tables.specs.Ids.{elements, inputs, variables, states, input_frame, variable_frame, state_frame}
use Rattle.rules_store.specs.Layout.{need}
use Rattle.rules_store.specs.Word.{largest_due, largest_time, now_of, running_element, current_event, running_of, next_due, spares, spare_word, chart_state, due_flag, due_time, waiting, birth_of, last_update, buffer}
use Rattle.rules_tables.specs.Actions.{action_of}
use Rattle.rules_store.specs.WellFormed.{spare_ok, is_next, next_ok, rest_ok, owner_ok, step_ok, mode_ok, running_ok, chart_ok, due_ok, element_ok, input_ok, variable_ok, parts_ok, well_formed}
use Rattle.rules_store.specs.Due.{earliest}
use Rattle.rules_store.proofs.laws.Due.{alike_next}
use Rattle.rules_store.specs.Formed.{InputFact, DueFact, ChartFact, Rest, Mode, Owner, Block, Formed}

-- ---- from the test
module _ (T : List ℕ) (S : Shape) (s : List ℕ) where
  input_fact : (i : ℕ) → input_ok S s i ≡ true → InputFact S s i
  unfolding input_ok
  input_fact i = by (eqb (waiting S s i) 0) refl
    where
      w : ℕ
      w = waiting S s i

      by : (b : Bool) → eqb w 0 ≡ b
          → pick b (both (eqb (birth_of S s i) 0) (eqb (last_update S s i) 0)) (both (eqb w 1) (both (leb (birth_of S s i) (last_update S s i)) (leb (last_update S s i) (now_of s)))) ≡ true
          → InputFact S s i
      by true e h =
          let z = eqb-true w 0 e in
          record {
            flagged = omega arith;
            rests = λ _. (eqb-true (birth_of S s i) 0 (both_left (eqb (birth_of S s i) 0) (eqb (last_update S s i) 0) h), eqb-true (last_update S s i) 0 (both_right (eqb (birth_of S s i) 0) (eqb (last_update S s i) 0) h));
            waits = λ q. absurd (omega arith);
          }
      by false e h =
          let p = both3 (eqb w 1) (leb (birth_of S s i) (last_update S s i)) (leb (last_update S s i) (now_of s)) h in
          let z = eqb-true w 1 p.0 in
          record {
            flagged = omega arith;
            rests = λ q. absurd (omega arith);
            waits = λ _. (leb-true (birth_of S s i) (last_update S s i) p.1, leb-true (last_update S s i) (now_of s) p.2);
          }

  due_fact : (el : ℕ) → due_ok T s el ≡ true → DueFact T s el
  unfolding due_ok
  due_fact el = by (eqb (due_flag s el) 0) refl
    where
      w : ℕ
      w = due_flag s el

      by : (b : Bool) → eqb w 0 ≡ b
          → pick b (eqb (due_time s el) 0) (both (eqb w 1) (both (eqb (flag_at T el) 2) (both (leb (now_of s) (due_time s el)) (leb (due_time s el) largest_due)))) ≡ true
          → DueFact T s el
      by true e h =
          let z = eqb-true w 0 e in
          record { flagged = omega arith; rests = λ _. eqb-true (due_time s el) 0 h; due = λ q. absurd (omega arith) }
      by false e h =
          let p = both3 (eqb w 1) (eqb (flag_at T el) 2) (both (leb (now_of s) (due_time s el)) (leb (due_time s el) largest_due)) h in
          let z = eqb-true w 1 p.0 in
          record {
            flagged = omega arith;
            rests = λ q. absurd (omega arith);
            due =
                λ _. (
                  eqb-true (flag_at T el) 2 p.1,
                  leb-true (now_of s) (due_time s el) (both_left (leb (now_of s) (due_time s el)) (leb (due_time s el) largest_due) p.2),
                  leb-true (due_time s el) largest_due (both_right (leb (now_of s) (due_time s el)) (leb (due_time s el) largest_due) p.2),
                );
          }

  chart_fact : (el : ℕ) → chart_ok T S s el ≡ true → ChartFact T S s el
  unfolding chart_ok
  chart_fact el = by (eqb (flag_at T el) 0) refl
    where
      q : ℕ
      q = chart_state s el

      by : (b : Bool) → eqb (flag_at T el) 0 ≡ b → pick b (both (ltb q (states S)) (eqb (field_at T (state_frame S q) 0) el)) (eqb q 0) ≡ true → ChartFact T S s el
      by true e h =
          let z = eqb-true (flag_at T el) 0 e in
          record {
            basic =
                λ _.
                record {
                  exists = ltb-true q (states S) (both_left (ltb q (states S)) (eqb (field_at T (state_frame S q) 0) el) h);
                  own = eqb-true (field_at T (state_frame S q) 0) el (both_right (ltb q (states S)) (eqb (field_at T (state_frame S q) 0) el) h);
                };
            other = λ n. absurd (n z);
          }
      by false e h = record { basic = λ z. absurd (eqb-false (flag_at T el) 0 e z); other = λ _. eqb-true q 0 h }

  rest_fact : rest_ok (running_of s) s ≡ true → Rest s
  unfolding rest_ok
  rest_fact h =
      let a = both3 (eqb (running_element s) 0) (eqb (current_event s) 0) (both (eqb (running_of s).birth 0) (both (eqb (running_of s).live 0) (both (eqb (running_of s).action 0) (eqb (running_of s).step 0)))) h in
      let b = both3 (eqb (running_of s).birth 0) (eqb (running_of s).live 0) (both (eqb (running_of s).action 0) (eqb (running_of s).step 0)) a.2 in
      record {
        element = eqb-true (running_element s) 0 a.0;
        event = eqb-true (current_event s) 0 a.1;
        birth = eqb-true (running_of s).birth 0 b.0;
        live = eqb-true (running_of s).live 0 b.1;
        action = eqb-true (running_of s).action 0 (both_left (eqb (running_of s).action 0) (eqb (running_of s).step 0) b.2);
        step = eqb-true (running_of s).step 0 (both_right (eqb (running_of s).action 0) (eqb (running_of s).step 0) b.2);
      }

next_fact : (a b : NextDue) → is_next a b ≡ true → a ≡ b
unfolding is_next
next_fact a b h =
    alike_next a b (eqb-true _ _ (both_left (eqb a.due b.due) (eqb a.time b.time) h)) (eqb-true _ _ (both_right (eqb a.due b.due) (eqb a.time b.time) h))

mode_fact : (T : List ℕ) (S : Shape) (r : Running) (q : ℕ) → mode_ok T S r q ≡ true → Mode T S r q
unfolding mode_ok
mode_fact T S r q = by (eqb r.mode 1) refl
  where
    x : Bool
    x = step_ok T S r (action_of T S q r.action)

    by : (b : Bool) → eqb r.mode 1 ≡ b
        → pick b (both (leb r.live 1) (both (eqb r.action 0) (eqb r.step 0))) (both (eqb r.mode 2) (both (eqb r.live 0) x)) ≡ true
        → Mode T S r q
    by true e h =
        let z = eqb-true r.mode 1 e in
        let p = both3 (leb r.live 1) (eqb r.action 0) (eqb r.step 0) h in
        record { charting = λ _. (leb-true r.live 1 p.0, eqb-true r.action 0 p.1, eqb-true r.step 0 p.2); acting = λ n. absurd (n z) }
    by false e h =
        let p = both3 (eqb r.mode 2) (eqb r.live 0) x h in
        record { charting = λ z. absurd (eqb-false r.mode 1 e z); acting = λ _. (eqb-true r.mode 2 p.0, eqb-true r.live 0 p.1, p.2) }

owner_fact : (T : List ℕ) (S : Shape) (e i : ℕ) → owner_ok T S e i ≡ true → Owner T S e i
unfolding owner_ok
owner_fact T S e i h =
    let own = eqb (field_at T (input_frame S (i - 1)) 0) (e - 1) in
    let a = both3 (leb 1 e) (leb e (elements S)) (both (eqb (flag_at T (e - 1)) 0) (both (leb 1 i) (both (leb i (inputs S)) own))) h in
    let b = both3 (eqb (flag_at T (e - 1)) 0) (leb 1 i) (both (leb i (inputs S)) own) a.2 in
    record {
      element = leb-true 1 e a.0;
      within = leb-true e (elements S) a.1;
      basic = eqb-true (flag_at T (e - 1)) 0 b.0;
      event = leb-true 1 i b.1;
      inside = leb-true i (inputs S) (both_left (leb i (inputs S)) own b.2);
      own = eqb-true (field_at T (input_frame S (i - 1)) 0) (e - 1) (both_right (leb i (inputs S)) own b.2);
    }

module _ (T : List ℕ) (S : Shape) (s : List ℕ) where
  block_fact : running_ok T S (running_of s) s ≡ true → Block T S s
  unfolding running_ok
  block_fact = by (eqb (running_of s).mode 0) refl
    where
      own : Bool
      own = owner_ok T S (running_element s) (current_event s)

      mode : Bool
      mode = mode_ok T S (running_of s) (chart_state s (running_element s - 1))

      by : (b : Bool) → eqb (running_of s).mode 0 ≡ b → pick b (rest_ok (running_of s) s) (both own (both (leb (running_of s).birth (now_of s)) mode)) ≡ true → Block T S s
      by true e h =
          let z = eqb-true (running_of s).mode 0 e in
          record { idle = λ _. rest_fact T S s h; busy = λ n. absurd (n z) }
      by false e h =
          let p = both3 own (leb (running_of s).birth (now_of s)) mode h in
          record {
            idle = λ z. absurd (eqb-false (running_of s).mode 0 e z);
            busy =
                λ _.
                record {
                  owner = owner_fact T S (running_element s) (current_event s) p.0;
                  born = leb-true (running_of s).birth (now_of s) p.1;
                  mode = mode_fact T S (running_of s) (chart_state s (running_element s - 1)) p.2;
                };
          }

  -- the stored next due time is the one found by looking
  pub well_formed_next : well_formed T S s ≡ true → next_due s ≡ earliest s (elements S)
  unfolding well_formed next_ok
  well_formed_next h =
      let inT = leb (now_of s) largest_time in
      let sp = all_to (spare_ok s) spares in
      let re = both (running_ok T S (running_of s) s) (parts_ok T S s) in
      next_fact (next_due s) (earliest s (elements S)) (both_left (next_ok S s) re (both3 inT sp (both (next_ok S s) re) h).2)

  pub formed_means : need S ≤ length s → well_formed T S s ≡ true → Formed T S s
  unfolding well_formed parts_ok element_ok variable_ok spare_ok
  formed_means long h =
      let inT = leb (now_of s) largest_time in
      let sp = all_to (spare_ok s) spares in
      let ru = running_ok T S (running_of s) s in
      let nx = next_ok S s in
      let a = both3 inT sp (both nx (both ru (parts_ok T S s))) h in
      let b = both3 nx ru (parts_ok T S s) a.2 in
      let el = all_to (element_ok T S s) (elements S) in
      let iO = all_to (input_ok S s) (inputs S) in
      let vO = all_to (variable_ok T S s) (variables S) in
      let p = both3 el iO vO b.2 in
      record {
        parts =
            record {
              long = long;
              in_time = leb-true (now_of s) largest_time a.0;
              spare = λ j l. eqb-true (spare_word s j) 0 (all_at (spare_ok s) spares j l a.1);
              next = well_formed_next h;
              charts = λ k l. chart_fact T S s k (both_left (chart_ok T S s k) (due_ok T s k) (all_at (element_ok T S s) (elements S) k l p.0));
              dues = λ k l. due_fact T S s k (both_right (chart_ok T S s k) (due_ok T s k) (all_at (element_ok T S s) (elements S) k l p.0));
              events = λ i l. input_fact T S s i (all_at (input_ok S s) (inputs S) i l p.1);
              buffers =
                  λ v l n.
                  eqb-true (buffer S s v) 0
                  (either_else (eqb (flag_at T (variable_frame S v)) 0) (eqb (buffer S s v) 0) (all_at (variable_ok T S s) (variables S) v l p.2) (ne_eqb (flag_at T (variable_frame S v)) 0 n));
            };
        block = block_fact b.1;
      }

-- ---- and back
zero_or_one : (n : ℕ) → n ≤ 1 → (n ≡ 0) ⊎ (n ≡ 1)
zero_or_one n l = ⊎_elim (λ a. inl (omega arith)) (λ c. ⊎_elim inr (λ g. absurd (omega arith)) c) (tri n 1)

module _ (T : List ℕ) (S : Shape) (s : List ℕ) where
  input_ok_lem : (i : ℕ) → InputFact S s i → input_ok S s i ≡ true
  unfolding input_ok
  input_ok_lem i w =
      ⊎_elim (λ z. let r = w.rests z in rw (eq-eqb (waiting S s i) 0 z, eq-eqb (birth_of S s i) 0 r.0) (eq-eqb (last_update S s i) 0 r.1))
      (λ z.
      let r = w.waits z in
      rw (ne_eqb (waiting S s i) 0 (λ q. omega arith), eq-eqb (waiting S s i) 1 z, le-leb (birth_of S s i) (last_update S s i) r.0) (le-leb (last_update S s i) (now_of s) r.1))
      (zero_or_one (waiting S s i) w.flagged)

  due_ok_lem : (el : ℕ) → DueFact T s el → due_ok T s el ≡ true
  unfolding due_ok
  due_ok_lem el w =
      ⊎_elim (λ z. rw (eq-eqb (due_flag s el) 0 z) (eq-eqb (due_time s el) 0 (w.rests z)))
      (λ z.
      let r = w.due z in
      rw (ne_eqb (due_flag s el) 0 (λ q. omega arith), eq-eqb (due_flag s el) 1 z, eq-eqb (flag_at T el) 2 r.0, le-leb (now_of s) (due_time s el) r.1)
      (le-leb (due_time s el) largest_due r.2))
      (zero_or_one (due_flag s el) w.flagged)

  chart_ok_lem : (el : ℕ) → ChartFact T S s el → chart_ok T S s el ≡ true
  unfolding chart_ok
  chart_ok_lem el w =
      ⊎_elim
      (λ e.
      let r = w.basic (eqb-true (flag_at T el) 0 e) in
      rw (e, lt-ltb (chart_state s el) (states S) r.exists) (eq-eqb (field_at T (state_frame S (chart_state s el)) 0) el r.own))
      (λ e. rw e (eq-eqb (chart_state s el) 0 (w.other (eqb-false (flag_at T el) 0 e)))) (test_cases (eqb (flag_at T el) 0))

  variable_ok_lem : (v : ℕ) → ((flag_at T (variable_frame S v) ≡ 0 → ⊥) → buffer S s v ≡ 0) → variable_ok T S s v ≡ true
  unfolding variable_ok
  variable_ok_lem v w =
      ⊎_elim (λ e. rw e refl) (λ e. rw e (eq-eqb (buffer S s v) 0 (w (eqb-false (flag_at T (variable_frame S v)) 0 e)))) (test_cases (eqb (flag_at T (variable_frame S v)) 0))

  rest_ok_lem : Rest s → rest_ok (running_of s) s ≡ true
  unfolding rest_ok
  rest_ok_lem w =
      rw (eq-eqb (running_element s) 0 w.element, eq-eqb (current_event s) 0 w.event, eq-eqb (running_of s).birth 0 w.birth, eq-eqb (running_of s).live 0 w.live, eq-eqb (running_of s).action 0 w.action)
      (eq-eqb (running_of s).step 0 w.step)

next_ok_lem : (a b : NextDue) → a ≡ b → is_next a b ≡ true
unfolding is_next
next_ok_lem a b e = rw (eq-eqb a.due b.due (ap (λ (x : NextDue). x.due) e)) (eq-eqb a.time b.time (ap (λ (x : NextDue). x.time) e))

mode_ok_lem : (T : List ℕ) (S : Shape) (r : Running) (q : ℕ) → Mode T S r q → mode_ok T S r q ≡ true
unfolding mode_ok
mode_ok_lem T S r q w =
    ⊎_elim
    (λ e.
    let p = w.charting (eqb-true r.mode 1 e) in
    rw (e, le-leb r.live 1 p.0, eq-eqb r.action 0 p.1) (eq-eqb r.step 0 p.2))
    (λ e.
    let p = w.acting (eqb-false r.mode 1 e) in
    rw (e, eq-eqb r.mode 2 p.0, eq-eqb r.live 0 p.1) p.2) (test_cases (eqb r.mode 1))

owner_ok_lem : (T : List ℕ) (S : Shape) (e i : ℕ) → Owner T S e i → owner_ok T S e i ≡ true
unfolding owner_ok
owner_ok_lem T S e i w =
    rw (le-leb 1 e w.element, le-leb e (elements S) w.within, eq-eqb (flag_at T (e - 1)) 0 w.basic, le-leb 1 i w.event, le-leb i (inputs S) w.inside)
    (eq-eqb (field_at T (input_frame S (i - 1)) 0) (e - 1) w.own)

module _ (T : List ℕ) (S : Shape) (s : List ℕ) where
  block_ok : Block T S s → running_ok T S (running_of s) s ≡ true
  unfolding running_ok
  block_ok w =
      ⊎_elim (λ e. rw e (rest_ok_lem T S s (w.idle (eqb-true (running_of s).mode 0 e))))
      (λ e.
      let b = w.busy (eqb-false (running_of s).mode 0 e) in
      rw (e, owner_ok_lem T S (running_element s) (current_event s) b.owner, le-leb (running_of s).birth (now_of s) b.born)
      (mode_ok_lem T S (running_of s) (chart_state s (running_element s - 1)) b.mode)) (test_cases (eqb (running_of s).mode 0))

  pub formed_tests : Formed T S s → well_formed T S s ≡ true
  unfolding well_formed parts_ok element_ok spare_ok next_ok
  formed_tests w =
      let p = w.parts in
      rw (
        le-leb (now_of s) largest_time p.in_time,
        all_intro (spare_ok s) spares (λ j l. eq-eqb (spare_word s j) 0 (p.spare j l)),
        next_ok_lem (next_due s) (earliest s (elements S)) p.next,
        block_ok w.block,
        all_intro (element_ok T S s) (elements S) (λ k l. both_intro (chart_ok T S s k) (due_ok T s k) (chart_ok_lem T S s k (p.charts k l)) (due_ok_lem T S s k (p.dues k l))),
        all_intro (input_ok S s) (inputs S) (λ i l. input_ok_lem T S s i (p.events i l)),
      )
      (all_intro (variable_ok T S s) (variables S) (λ v l. variable_ok_lem T S s v (p.buffers v l)))
