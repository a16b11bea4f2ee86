-- An accepted table is good to run with its shape.
use Rattle.std.specs.Prelude.{◌≡◌, List, Bool, true, ℕ, zero, suc, ◌+◌, ◌-◌, ◌≤◌, ◌<◌, eqb}
use Rattle.std.proofs.Math.Path.{refl}
use Rattle.std.proofs.Common.{⊎_elim, arith, add-one}
use borrow.Author.Tests.{eq-eqb, eqb-true}
use Rattle.rules_walks.proofs.laws.Pick.{both_left, both_right, test_cases, tri}
use Rattle.rules_walks.specs.Count.{count_if}
use Rattle.rules_walks.proofs.laws.Count.{count_none, count_miss, count_mono, count_within}
use Rattle.rules_tables.specs.Kind.{element, variable, association}
use Rattle.rules_tables.specs.Frame.{kind_at, flag_at, field_at, frames_of}
use Rattle.rules_tables.specs.Place.{count_of, start_of}
use Rattle.rules_tables.specs.Fresh.{same_event}
use Rattle.rules_tables.specs.Judge.{shape_of}
use Rattle.rules_tables.specs.Accepted.{Accepted}
use Rattle.rules_tables.specs.Ids.{inputs, outputs, variables, associations, states, transitions, actions, steps, connections, links}
use Rattle.rules_tables.specs.Good.{of_event, Good}

module _ (T : List ℕ) (a : Accepted T) where
  -- the number of each kind, by the shape
  elements_many : start_of T 2 ≡ count_of T element
  elements_many = omega (arith, a.next 1, a.first)

  -- the variable of an association, whichever flag it has
  associated : (f : ℕ) → f < frames_of T → kind_at T f ≡ association → field_at T f 1 < count_of T variable
  associated f l k =
      let w = (a.form f l).body.flag in
      let h : flag_at T f ≤ 1 = rw k at w in
      ⊎_elim (λ z. (a.input_association f l k (omega arith)).owned.exists)
      (λ c. ⊎_elim (λ e. (a.output_association f l k e).owned.exists) (λ g. absurd (omega arith)) c) (tri (flag_at T f) 1)

  -- the event of an association has eight at most
  module _ (flag event : ℕ) where
    abbrev p : ℕ → Bool
    p = of_event T (shape_of T) flag event

    same_event_lem : (i n : ℕ) → i < count_of T association → p i ≡ true → p n ≡ true → same_event T (start_of T association + n) (start_of T association + i) ≡ true
    unfolding same_event
    same_event_lem i n l h k =
        let f = start_of T association + i in
        let g = start_of T association + n in
        rw (
          eq-eqb (kind_at T f) association (a.found 5 i l).kind,
          eqb-true (flag_at T f) flag (both_left (eqb (flag_at T f) flag) (eqb (field_at T f 0) event) h),
          eqb-true (flag_at T g) flag (both_left (eqb (flag_at T g) flag) (eqb (field_at T g 0) event) k),
          eqb-true (field_at T f 0) event (both_right (eqb (flag_at T f) flag) (eqb (field_at T f 0) event) h),
          eqb-true (field_at T g 0) event (both_right (eqb (flag_at T g) flag) (eqb (field_at T g 0) event) k),
          eq-eqb flag flag refl,
        )
        (eq-eqb event event refl)

    eight_at_most : (n : ℕ) → n ≤ count_of T association → count_if p n ≤ 8
    eight_at_most zero l = rw (count_none p) (omega arith)
    eight_at_most (suc n) l =
        rw (← add-one n)
        (⊎_elim
        (λ e.
        let w = a.found 5 n (omega arith) in
        let q = same_event T (start_of T association + n) in
        let x = count_within p q (start_of T association) (n + 1) (λ i b h. same_event_lem i n (omega arith) h e) in
        let y = count_mono q (start_of T association + (n + 1)) (frames_of T) (let z = w.in_table in omega arith) in
        let z = a.eight (start_of T association + n) w.in_table w.kind in
        omega arith)
        (λ e. rw (count_miss p n e) (eight_at_most n (omega arith))) (test_cases (p n)))

  pub good : Good T (shape_of T)
  unfolding inputs outputs variables associations states transitions actions steps connections links
  good =
      record {
        few = a.most;
        few_elements = let l = a.limit 1 (omega arith) (omega arith) in omega (arith, elements_many);
        few_inputs = let l = a.limit 2 (omega arith) (omega arith) in omega (arith, a.next 2);
        few_outputs = let l = a.limit 3 (omega arith) (omega arith) in omega (arith, a.next 3);
        few_variables = let l = a.limit 4 (omega arith) (omega arith) in omega (arith, a.next 4);
        to_inputs = omega (arith, a.next 2);
        to_outputs = omega (arith, a.next 3);
        to_variables = omega (arith, a.next 4);
        to_associations = omega (arith, a.next 5);
        to_states = omega (arith, a.next 6);
        to_transitions = omega (arith, a.next 7);
        to_actions = omega (arith, a.next 8);
        to_steps = omega (arith, a.next 9);
        to_connections = omega (arith, a.next 10);
        to_links = omega (arith, a.next 11);
        to_end = omega (arith, a.total);
        input_element = λ i l. let w = a.found 2 i (omega (arith, a.next 2)) in let h = a.event_input_rule _ w.in_table w.kind in omega (arith, elements_many);
        output_element = λ o l. let w = a.found 3 o (omega (arith, a.next 3)) in let h = a.event_output_rule _ w.in_table w.kind in omega (arith, elements_many);
        variable_element = λ v l. let w = a.found 4 v (omega (arith, a.next 4)) in let h = a.variable_of _ w.in_table w.kind in omega (arith, elements_many);
        association_variable = λ j l. let w = a.found 5 j (omega (arith, a.next 5)) in let h = associated _ w.in_table w.kind in omega (arith, a.next 4);
        association_input =
            λ j l e.
            let w = a.found 5 j (omega (arith, a.next 5)) in
            let h = a.input_association _ w.in_table w.kind e in
            rw (a.at variable (field_at T (start_of T association + j) 1) h.owned.exists) at h.flag;
        association_once =
            λ i j l m e p q.
            let v = a.found 5 i (omega (arith, a.next 5)) in
            let w = a.found 5 j (omega (arith, a.next 5)) in
            let h = a.association_pairs _ _ v.in_table w.in_table v.kind w.kind e p q in
            omega arith;
        eight = λ flag event. let e : start_of T 6 - start_of T 5 ≡ count_of T association = omega (arith, a.next 5) in rw e (eight_at_most flag event (count_of T association) (omega arith));
        action_steps =
            λ j k l h.
            let w = a.found 8 j (omega (arith, a.next 8)) in
            let p = (a.action_of _ w.in_table w.kind).steps (λ z. omega arith) in
            omega (arith, a.next 9);
        action_event =
            λ j l n. let w = a.found 8 j (omega (arith, a.next 8)) in let h = ((a.action_of _ w.in_table w.kind).event n).exists in omega (arith, a.next 3);
        step_result = λ j l. let w = a.found 9 j (omega (arith, a.next 9)) in let h = (a.step_of _ w.in_table w.kind).result.exists in omega (arith, a.next 4);
        connection_input = λ j l. let w = a.found 10 j (omega (arith, a.next 10)) in let h = (a.event_connection_rule _ w.in_table w.kind).input in omega (arith, a.next 2);
        link_source = λ j l. let w = a.found 11 j (omega (arith, a.next 11)) in let h = (a.data_connection_rule _ w.in_table w.kind).source.exists in omega (arith, a.next 4);
        link_destination = λ j l. let w = a.found 11 j (omega (arith, a.next 11)) in let h = (a.data_connection_rule _ w.in_table w.kind).destination.exists in omega (arith, a.next 4);
      }
