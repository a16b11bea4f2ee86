-- An accepted table is charted with its shape.
use Rattle.std.specs.Prelude.{◌≡◌, Ok}
use Rattle.std.proofs.Common.{arith}
use Rattle.rules_tables.specs.Frame.{Table}
use Rattle.rules_tables.specs.declared.Shape.{Shape}
use Rattle.rules_tables.specs.Judge.{judged, shape_of, Judged}
use Rattle.rules_tables.specs.Ids.{states, transitions}
use Rattle.rules_tables.specs.Accepted.{Accepted}
use Rattle.rules_tables.proofs.laws.Accepted.{accepted_means}
use Rattle.rules_tables.proofs.laws.Good.{good}
use Rattle.rules_calls.proofs.laws.Checked.{verdict, shape}
use Rattle.calls_show.specs.Charted.{Charted}

module _ (T : Table) where
  charted : Accepted T → Charted T (shape_of T)
  unfolding states transitions
  charted a =
      record {
        is_good = good T a;
        transition_state =
            λ j l.
            let w = a.found 7 j (omega (arith, a.next 7)) in
            let h = (a.transition_of _ w.in_table w.kind).from.exists in
            omega (arith, a.next 6);
      }

  -- once the check has told
  pub ready_charted : {j : Judged} {S : Shape} → j ≡ judged T → j ≡ Ok S → Charted T S
  ready_charted told sound = rw (shape T told sound) (charted (accepted_means T (verdict T told sound)))
