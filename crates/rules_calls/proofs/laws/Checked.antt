-- What a call knows of its table once the check has told: the verdict, the shape, and that the table is good to run with it; and the need.
use Rattle.std.specs.Prelude.{◌≡◌, List, ℕ, Ok, Err}
use Rattle.std.proofs.Common.{sym, ap, ◌∙◌}
use Rattle.rules_tables.specs.declared.Shape.{Shape}
use Rattle.rules_tables.specs.declared.Refusal.{Refusal}
use Rattle.rules_tables.specs.Judge.{accepted, refused, judge, judged, shape_of, Judged}
use Rattle.rules_tables.proofs.laws.Judge.{was_sound, was_refused}
use Rattle.rules_tables.proofs.laws.Accepted.{accepted_means}
use Rattle.rules_store.specs.Layout.{need}
use Rattle.rules_tables.specs.Good.{Good}
use Rattle.rules_tables.proofs.laws.Good.{good}
use Rattle.rules_calls.specs.Exports.{need_or0}

-- ---- what the check told
module _ (T : List ℕ) {j : Judged} (told : j ≡ judged T) where
  pub faulty : {r : Refusal} → j ≡ Err r → judge T ≡ refused r.number r.frame
  faulty e = was_refused T _ (sym told ∙ e)

  module _ {S : Shape} (sound : j ≡ Ok S) where
    pub verdict : judge T ≡ accepted
    verdict = (was_sound T S (sym told ∙ sound)).0

    pub shape : S ≡ shape_of T
    shape = (was_sound T S (sym told ∙ sound)).1

    pub ready : Good T S
    ready = rw shape (good T (accepted_means T verdict))

-- ---- the need
module _ (T : List ℕ) {j : Judged} (told : j ≡ judged T) where
  pub need_faulty : {r : Refusal} → j ≡ Err r → 0 ≡ need_or0 T
  need_faulty e = rw (faulty T told e)

  pub need_sound : {S : Shape} {n : ℕ} → j ≡ Ok S → n ≡ need S → n ≡ need_or0 T
  need_sound e u = rw (verdict T told e) (u ∙ ap need (shape T told e))
