-- The next due time that the store has answers for advance: whether it is refused by 8, and whether anything is due.
use Rattle.std.specs.Prelude.{◌≡◌, not, ◌⊎◌, ℕ, ◌<◌, eqb, ltb}
use Rattle.std.proofs.Math.Path.{refl}
use Rattle.std.proofs.Math.Bool.{true}
use mathlib.Core.List.{List}
use Rattle.std.proofs.Common.{⊎_elim, arith}
use borrow.Author.Tests.{eqb-false, ne_eqb, ltb-true, lt-ltb}
use Rattle.rules_walks.specs.Pick.{both}
use Rattle.rules_walks.proofs.laws.Pick.{both_left, both_right, both_intro, not_back, not_in, same_test}
use Rattle.rules_walks.proofs.laws.Choose.{by_choose}
use Rattle.rules_walks.proofs.laws.All.{any_stop, any_witness}
use Rattle.rules_walks.proofs.laws.Walk.{up_to_keeps}
use Rattle.rules_tables.specs.declared.Shape.{Shape}
use Rattle.rules_tables.specs.Ids.{elements}
use Rattle.rules_store.specs.Word.{put_now, next_due, due_flag, due_time}
use Rattle.rules_store.specs.Part.{time, just}
use Rattle.rules_store.proofs.laws.Writer.{leaves_now}
use Rattle.rules_store.specs.Due.{due_at}
use Rattle.rules_store.specs.Earliest.{Earliest, NextKept}
use Rattle.rules_store.proofs.laws.Due.{one_of, same_due_at, due_at_flag, due_at_time}
use Rattle.rules_store.proofs.laws.PutDue.{kept_means}
use Rattle.rules_calls.specs.Calls.{expired, expire, advanced, due_before, beyond_due}

module _ (S : Shape) (s : List ℕ) (k : NextKept S s) where
  abbrev stored : Earliest s (elements S) (next_due s)
  stored = kept_means S s k

  -- 8: "advance beyond the due time of a delay" is beyond the next due time
  pub beyond_stored : (t : ℕ) → beyond_due S s t ≡ both (not (eqb (next_due s).due 0)) (ltb (next_due s).time t)
  unfolding beyond_due due_before
  beyond_stored t =
      same_test _ _
      (λ e.
      let w = any_witness _ _ e in
      let p = w.passes in
      let f = stored.first w.which w.below (eqb-false _ _ (not_back _ (both_left (not (eqb (due_flag s w.which) 0)) (ltb (due_time s w.which) t) p))) in
      let g = f.1 in
      let h : due_time s w.which < t = ltb-true _ _ (both_right (not (eqb (due_flag s w.which) 0)) (ltb (due_time s w.which) t) p) in
      let o = f.0 in
      both_intro _ _ (not_in _ (ne_eqb (next_due s).due 0 (λ z. omega arith))) (lt-ltb (next_due s).time t (omega arith)))
      (λ e.
      let z = eqb-false _ _ (not_back _ (both_left (not (eqb (next_due s).due 0)) (ltb (next_due s).time t) e)) in
      let h : (next_due s).time < t = ltb-true _ _ (both_right (not (eqb (next_due s).due 0)) (ltb (next_due s).time t) e) in
      let w = stored.some (one_of (next_due s).due stored.flagged z) in
      any_stop _ _ w.which w.below
      (both_intro _ _ (not_in _ (ne_eqb _ _ (due_at_flag s _ _ w.passes))) (lt-ltb (due_time s w.which) t (omega (arith, due_at_time s _ _ w.passes)))))

  -- before the next due time nothing is due
  pub none_due : (t : ℕ) → ((next_due s).due ≡ 0) ⊎ (t < (next_due s).time) → (el : ℕ) → el < elements S → due_at s t el ≡ true → ⊥
  none_due t h el l e =
      let f = stored.first el l (due_at_flag s t el e) in
      let o = f.0 in
      let g = f.1 in
      let q = due_at_time s t el e in
      ⊎_elim (λ z. omega arith) (λ z. omega arith) h

  -- so an advance that does not reach it sets now, and nothing else
  pub advanced_idle : (T : List ℕ) (t : ℕ) → ((next_due s).due ≡ 0) ⊎ (t < (next_due s).time) → advanced T S t s ≡ put_now t s
  unfolding advanced expire
  advanced_idle T t h =
      up_to_keeps (λ (x : List ℕ). x ≡ put_now t s) (expire T S t) (elements S) (put_now t s)
      (λ el l x e. by_choose (λ (y : List ℕ). y ≡ put_now t s) (due_at x t el) (expired T S t el x) x (λ q. absurd (none_due t h el l (as_before el l x e q))) (λ _. e)) refl
    where
      as_before : (el : ℕ) → el < elements S → (x : List ℕ) → x ≡ put_now t s → due_at x t el ≡ true → due_at s t el ≡ true
      as_before el l x e q = same_due_at s (put_now t s) t el ((leaves_now T S (just time) s t refl).dues refl el l) (rw e at q)
