-- Laws of what is known of the steps' results: how it serves the next action, and how it grows by one.
use Rattle.std.specs.Prelude.{◌≡◌, refl, List, ℕ, ◌+◌, ◌-◌, ◌≤◌, ◌<◌, eqb, leb}
use Rattle.std.proofs.Math.Bool.{true}
use Rattle.std.proofs.Common.{⊎_elim}
use native.Mathlib.Omega.{arith}
use borrow.Author.Tests.{ltb-true, ne_eqb}
use Rattle.std.specs.List.{list_all, range_with_len}
use Rattle.table_frames.proofs.laws.Ranges.{all_between}
use Rattle.rules_walks.specs.Pick.{both}
use Rattle.rules_walks.proofs.laws.Pick.{both3, both_right, either_else, tri}
use Rattle.rules_walks.specs.All.{all_to}
use Rattle.rules_walks.proofs.laws.All.{all_at, all_intro}
use Rattle.rules_tables.specs.Kind.{chart_state, action, step, variable, event_output}
use Rattle.rules_tables.specs.Frame.{kind_at, field_at}
use Rattle.rules_tables.specs.Place.{count_of, exists, owner_of, owned_by}
use Rattle.rules_tables.specs.Reference.{maybe_owned, result_of, steps_of, acts, refers_as, refers_ok}
use Rattle.table_references.specs.declared.Run.{Run}
use Rattle.table_references.specs.Known.{Known, Reaches}
use Rattle.table_references.proofs.Coded.{result_at}

module _ (T : List ℕ) where
  -- the known results and those from there on
  pub results_from : (b el m n : ℕ) → all_to (result_of T b el) m ≡ true → list_all (result_at T b el) (range_with_len m (n - m)) ≡ all_to (result_of T b el) n
  unfolding result_of
  results_from b el m n h = all_between (result_at T b el) (result_of T b el) (n - m) m n refl (λ i l. all_at (result_of T b el) m i l h) (λ i l k. refl)

  -- the result of step i, as that of the first step from there on, and back
  result_of_lem : (b el i : ℕ) → owned_by T variable (owner_of T step (b + i)) el ≡ true → result_of T b el i ≡ true
  unfolding result_of
  result_of_lem b el i h = h

  of_result : (b el i : ℕ) → b ≤ i → result_of T b el (i - b) ≡ true → owned_by T variable (owner_of T step i) el ≡ true
  unfolding result_of
  of_result b el i l h = let e : b + (i - b) ≡ i = omega arith in rw e at h

  pub known_results : (run : Run) (b el r : ℕ) → Known T run → Reaches run b el r → all_to (result_of T b el) r ≡ true
  known_results run b el r w v =
      all_intro (result_of T b el) r
      (λ i l. let p : 0 < r = omega arith in result_of_lem b el i (rw (v.element p) at (w.own (b + i) (let q = v.from p in omega arith) (let q = v.to p in omega arith))))

  pub known_none : (run : Run) → run.first ≡ 0 → run.end ≡ 0 → Known T run
  known_none run a b = record { upward = omega arith; own = λ i p q. absurd (omega arith) }

  -- an action's own steps
  pub known_new : (b el n e : ℕ) → e ≡ b + n → all_to (result_of T b el) n ≡ true → Known T (record { element = el; first = b; end = e })
  known_new b el n e q h =
      record { upward = omega arith; own = λ i a l. of_result b el i a (all_at (result_of T b el) n (i - b) (omega arith) h) }

  -- and the steps known before, where they reach to the action's first
  pub known_more : (run : Run) (b el r n e : ℕ) → Known T run → Reaches run b el r → 0 < r → e ≡ b + n → all_to (result_of T b el) n ≡ true
      → Known T (record { element = el; first = run.first; end = e })
  known_more run b el r n e w v p q h =
      record {
        upward = let z = v.from p in omega arith;
        own = λ i a l.
            let after : b ≤ i → owned_by T variable (owner_of T step i) el ≡ true = λ g. of_result b el i g (all_at (result_of T b el) n (i - b) (omega arith) h) in
            ⊎_elim (λ lt. rw (v.element p) at (w.own i a (let z = v.to p in omega arith))) (λ s. after (⊎_elim (λ z. omega arith) (λ g. omega arith) s)) (tri i b);
      }

  pub acts_kind : (f k : ℕ) → k ≡ kind_at T f → k ≡ action → refers_ok T f ≡ true → acts T f ≡ true
  unfolding refers_ok refers_as
  acts_kind f k e a h = rw (← e, a) at h

  -- an action that refers rightly: its state exists, and the results of its steps are of the state's element
  pub acts_state : (f : ℕ) → acts T f ≡ true → field_at T f 0 < count_of T chart_state
  unfolding acts
  acts_state f h =
      let el = owner_of T chart_state (field_at T f 0) in
      ltb-true _ _
      (both3 (exists T chart_state (field_at T f 0)) (steps_of T (field_at T f 1) (field_at T f 2) el) (maybe_owned T event_output (field_at T f 3) el) h).0

  pub acts_results : (f b el n : ℕ) → acts T f ≡ true → b ≡ field_at T f 1 → n ≡ field_at T f 2 → el ≡ owner_of T chart_state (field_at T f 0) → (n ≡ 0 → ⊥) → all_to (result_of T b el) n ≡ true
  unfolding acts steps_of
  acts_results f b el n h eb en ee ne =
      let w = both3 (exists T chart_state (field_at T f 0)) (steps_of T (field_at T f 1) (field_at T f 2) (owner_of T chart_state (field_at T f 0))) (maybe_owned T event_output (field_at T f 3) (owner_of T chart_state (field_at T f 0))) h in
      let v : steps_of T b n el ≡ true = rw (eb, en, ee) w.1 in
      both_right (leb (b + n) (count_of T step)) (all_to (result_of T b el) n) (either_else (eqb n 0) (both (leb (b + n) (count_of T step)) (all_to (result_of T b el) n)) v (ne_eqb n 0 ne))
