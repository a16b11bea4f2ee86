-- An accepted table is lawful.
use Rattle.std.specs.Prelude.{◌≡◌, List, ℕ, ◌+◌, ◌-◌, ◌<◌}
use Rattle.std.proofs.Math.Path.{sym, ap}
use Rattle.std.proofs.Common.{◌∙◌, arith}
use Rattle.rules_tables.specs.Kind.{element, variable}
use Rattle.rules_tables.specs.Frame.{flag_at, field_at}
use Rattle.rules_tables.specs.Place.{count_of, start_of, place}
use Rattle.rules_tables.specs.Judge.{shape_of}
use Rattle.rules_tables.specs.Accepted.{Accepted}
use Rattle.rules_tables.specs.Ids.{outputs, variables, associations, states, transitions, actions, steps, links, variable_frame}
use Rattle.rules_tables.specs.Owned.{any, nth}
use Rattle.rules_tables.proofs.laws.Good.{good}
use Rattle.rules_tables.proofs.laws.Outputs.{no_output}
use Rattle.rules_tables.specs.Lawful.{Lawful}

module _ (T : List ℕ) (a : Accepted T) where
  -- an id's frame, by the shape
  flag_at_lem : (v : ℕ) → v < count_of T variable → flag_at T (place T variable v) ≡ flag_at T (variable_frame (shape_of T) v)
  flag_at_lem v l = ap (flag_at T) (a.at variable v l)

  owner_at : (k id : ℕ) → id < count_of T k → field_at T (place T k id) 0 ≡ field_at T (start_of T k + id) 0
  owner_at k id l = ap (λ (f : ℕ). field_at T f 0) (a.at k id l)

  element_at : (el : ℕ) → el < count_of T element → place T element el ≡ el
  element_at el l = let h = a.at element el l in let z = a.first in omega arith

  pub lawful : Lawful T (shape_of T)
  unfolding outputs variables associations states transitions actions steps links
  lawful =
      record {
        is_good = good T a;
        destination_input =
            λ j l.
            let w = a.found 11 j (omega (arith, a.next 11)) in
            let d = (a.data_connection_rule _ w.in_table w.kind).destination in
            sym (flag_at_lem _ d.exists) ∙ d.is;
        destinations =
            λ j k l m e.
            let v = a.found 11 j (omega (arith, a.next 11)) in
            let w = a.found 11 k (omega (arith, a.next 11)) in
            let q = a.destinations (start_of T 11 + j) (start_of T 11 + k) v.in_table w.in_table v.kind w.kind e in
            omega arith;
        result_other =
            λ j l e.
            let w = a.found 9 j (omega (arith, a.next 9)) in
            let r = a.step_of _ w.in_table w.kind in
            r.not_input (flag_at_lem _ r.result.exists ∙ e);
        given_other =
            λ j l g e.
            let w = a.found 5 j (omega (arith, a.next 5)) in
            let r = a.output_association _ w.in_table w.kind g in
            let q = sym e ∙ sym (flag_at_lem _ r.owned.exists) ∙ r.flag in
            omega arith;
        initial_own =
            λ el l e.
            let c : el < count_of T element = omega (arith, a.next 1, a.first) in
            let w = a.found 1 el c in
            let z : start_of T 1 + el ≡ el = omega (arith, a.first) in
            let r = a.initial_state el (rw z at w.in_table) (rw z at w.kind) e in
            record { exists = omega (arith, a.next 6, r.exists); own = sym (owner_at 6 _ r.exists) ∙ r.own };
        to_own =
            λ j l.
            let w = a.found 7 j (omega (arith, a.next 7)) in
            let r = a.transition_of _ w.in_table w.kind in
            record {
              exists = omega (arith, a.next 6, r.to.exists);
              own = sym (owner_at 6 _ r.to.exists) ∙ r.to.own ∙ owner_at 6 _ r.from.exists;
            };
        action_basic =
            λ j l n.
            let w = a.found 8 j (omega (arith, a.next 8)) in
            let x = a.action_of _ w.in_table w.kind in
            let o = x.event n in
            let q = a.found 6 (field_at T (start_of T 8 + j) 0) x.state.exists in
            let b = a.state_of _ q.in_table q.kind in
            let own = sym (owner_at 3 _ o.exists) ∙ o.own ∙ owner_at 6 _ x.state.exists in
            ap (flag_at T) own ∙ sym (ap (flag_at T) (element_at _ b.exists)) ∙ b.is;
        delay_output =
            λ el l e gone.
            let known : el < count_of T element = omega (arith, a.next 1, a.first) in
            let number : start_of T 4 - start_of T 3 ≡ count_of T 3 = omega (arith, a.next 3) in
            let none-there = no_output T a el (ap (λ (n : ℕ). nth T (start_of T 3) n any el 0) (sym number) ∙ gone) in
            let one = (a.delay el (record { exists = known; is = ap (flag_at T) (element_at el known) ∙ e })).output in
            let q = sym one ∙ none-there in
            omega arith;
      }
