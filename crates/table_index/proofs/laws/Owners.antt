-- An accepted table's owners have their entries.
use Rattle.std.specs.Prelude.{◌≡◌, List, ℕ, ◌≤◌, ◌<◌}
use Rattle.std.proofs.Common.{subst, ⊎_elim, arith}
use Rattle.rules_walks.proofs.laws.Pick.{tri}
use Rattle.rules_tables.specs.Kind.{association}
use Rattle.rules_tables.specs.Frame.{kind_at, frames_of, flag_at, field_at}
use Rattle.rules_tables.specs.Form.{form_of}
use Rattle.rules_tables.specs.Judge.{shape_of}
use Rattle.rules_tables.specs.Accepted.{Accepted}
use Rattle.rules_tables.proofs.laws.Lawful.{lawful}
use Rattle.rules_tables.specs.Ids.{variables, associations, transitions, actions, connections}
use Rattle.table_index.specs.Index.{Owners}

pub owners : (T : List ℕ) → Accepted T → Owners T (shape_of T)
unfolding variables associations transitions actions connections
owners T a =
    record {
      association_flag = λ j l. let w = a.found 5 j (omega (arith, a.next 5)) in flagged 5 _ w.in_table w.kind;
      association_event = λ j l. let w = a.found 5 j (omega (arith, a.next 5)) in event _ w.in_table w.kind;
      transition_from = λ j l. let w = a.found 7 j (omega (arith, a.next 7)) in let h = (a.transition_of _ w.in_table w.kind).from.exists in let m = a.limit 6 (omega arith) (omega arith) in omega arith;
      action_state = λ j l. let w = a.found 8 j (omega (arith, a.next 8)) in let h = (a.action_of _ w.in_table w.kind).state.exists in let m = a.limit 6 (omega arith) (omega arith) in omega arith;
      connection_output = λ j l. let w = a.found 10 j (omega (arith, a.next 10)) in let h = (a.event_connection_rule _ w.in_table w.kind).output in let m = a.limit 3 (omega arith) (omega arith) in omega arith;
      action_basic = (lawful T a).action_basic;
      variable_role = λ v l. let w = a.found 4 v (omega (arith, a.next 4)) in flagged 4 _ w.in_table w.kind;
    }
  where
    flagged : (k f : ℕ) → f < frames_of T → kind_at T f ≡ k → flag_at T f ≤ (form_of k).flags
    flagged k f l e = subst (λ (h : ℕ). flag_at T f ≤ (form_of h).flags) e (a.form f l).body.flag

    event : (f : ℕ) → f < frames_of T → kind_at T f ≡ association → field_at T f 0 < 256
    event f l k =
        let h = flagged 5 f l k in
        let m = a.limit 2 (omega arith) (omega arith) in
        let m' = a.limit 3 (omega arith) (omega arith) in
        ⊎_elim (λ z. let r = (a.input_association f l k (omega arith)).event in omega arith)
        (λ y. ⊎_elim (λ e. let r = (a.output_association f l k e).event in omega arith) (λ g. absurd (omega arith)) y) (tri (flag_at T f) 1)
