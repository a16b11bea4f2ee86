-- An accepted table is traceable.
use Rattle.std.specs.Prelude.{◌≡◌, List, ℕ, ◌+◌, ◌≤◌, ◌<◌}
use Rattle.std.proofs.Common.{sym, ap, subst, ◌∙◌, arith}
use Rattle.rules_tables.specs.Kind.{variable, event_input}
use Rattle.rules_tables.specs.Frame.{flag_at, field_at}
use Rattle.rules_tables.specs.Place.{count_of, start_of, owner_of}
use Rattle.rules_tables.specs.Judge.{shape_of}
use Rattle.rules_tables.specs.Accepted.{Accepted}
use Rattle.rules_tables.specs.Form.{form_of}
use Rattle.rules_tables.specs.Ids.{variables, associations, actions}
use Rattle.rules_tables.proofs.laws.Lawful.{lawful}
use Rattle.rules_traces.specs.Traceable.{Traceable}

pub traceable : (T : List ℕ) → Accepted T → Traceable T (shape_of T)
unfolding variables associations actions
traceable T a =
    record {
      is_lawful = lawful T a;
      association_own =
          λ j l e.
          let w = a.found 5 j (omega (arith, a.next 5)) in
          let r = a.input_association _ w.in_table w.kind e in
          sym (owner_at variable _ r.owned.exists) ∙ r.owned.own ∙ owner_at event_input _ r.event;
      roles =
          λ v l.
          let w = a.found 4 v (omega (arith, a.next 4)) in
          subst (λ (k : ℕ). flag_at T (start_of T variable + v) ≤ (form_of k).flags) w.kind (a.form _ w.in_table).body.flag;
      few_steps = λ j l. let w = a.found 8 j (omega (arith, a.next 8)) in (a.action_of _ w.in_table w.kind).few;
    }
  where
    -- the owner of an id, by its place among the frames of its kind
    owner_at : (k id : ℕ) → id < count_of T k → owner_of T k id ≡ field_at T (start_of T k + id) 0
    owner_at k id h = ap (λ (f : ℕ). field_at T f 0) (a.at k id h)
