-- A frame that passes refusal 2's test has its form.
use Rattle.std.specs.Prelude.{◌≡◌, refl, List, true, ℕ, zero, suc, ◌+◌, ◌≤◌, ◌<◌, leb}
use Rattle.std.proofs.Common.{⊎_elim, arith}
use Rattle.std.proofs.lemmas.List.{get_or-replicate}
use Rattle.std.proofs.Math.Dec.{ltb}
use borrow.Author.Tests.{ltb-true, leb-true, lt-ltb, le-ltb}
use Rattle.rules_walks.proofs.laws.Pick.{both3, both5, tri}
use Rattle.rules_walks.specs.All.{all_to}
use Rattle.rules_walks.proofs.laws.All.{all_at, all_intro}
use Rattle.rules_tables.specs.Kind.{element, transition}
use Rattle.rules_tables.specs.Frame.{kind_at, flag_at}
use Rattle.rules_tables.specs.Place.{count_to, order_at}
use Rattle.rules_tables.proofs.laws.Places.{element_id}
use Rattle.rules_tables.specs.Form.{form_of, used_of, clear_at, steps_ok, body_ok, form_ok}
use Rattle.rules_tables.specs.Formed.{Body, Formed}

module _ (T : List ℕ) where
  pub body_formed : (f : ℕ) → body_ok T f ≡ true → Body T f
  unfolding body_ok
  body_formed f h =
      let w =
      both3 (leb (flag_at T f) (form_of (kind_at T f)).flags) (steps_ok T f)
      (all_to (clear_at T f (used_of (kind_at T f) (flag_at T f))) 5) h
      in
      record { flag = leb-true _ _ w.0; steps = w.1; clear = w.2 }

  pub formed : (f : ℕ) → form_ok T f ≡ true → Formed T f
  unfolding form_ok
  formed f h =
      let k = kind_at T f in
      let room = ltb (count_to T k f) (form_of k).most in
      let w = both5 (leb 1 k) (leb k 11) (order_at T f) room (body_ok T f) h in
      record {
        low = leb-true _ _ w.0;
        high = leb-true _ _ w.1;
        order = w.2;
        room = ltb-true _ _ w.3;
        body = body_formed f w.4;
      }

  -- among frames that have their form, an element's id is its frame
  pub element_own : (n f : ℕ) → all_to (form_ok T) n ≡ true → f < n → kind_at T f ≡ element → count_to T element f ≡ f
  element_own n f h l e =
      element_id T f (all_intro (order_at T) (f + 1) (λ i q. (formed i (all_at (form_ok T) n i (omega arith) h)).order))
      (λ i q. (formed i (all_at (form_ok T) n i (omega arith) h)).low) e

-- a transition with a guard uses all five fields
pub guarded_uses : (g : ℕ) → (g ≡ 0 → ⊥) → used_of transition g ≡ 5
unfolding used_of
guarded_uses zero ne = absurd (ne refl)
guarded_uses (suc g) ne =
    ⊎_elim (λ l. rw (lt-ltb (suc g) 8 l) (get_or-replicate 8 g 5 0 (omega arith)))
    (λ w. let l : 8 ≤ suc g = ⊎_elim (λ e. omega arith) (λ h. omega arith) w in rw (le-ltb (suc g) 8 l)) (tri (suc g) 8)
