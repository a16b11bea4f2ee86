-- What each writer leaves: every part but its own.
use Rattle.std.specs.Prelude.{◌≡◌, List, Bool, true, false, ◌⊎◌, ℕ, ◌+◌, ◌≤◌, ◌<◌}
use Rattle.std.proofs.Common.{sym, ap, ◌∙◌}
use Rattle.std.proofs.Math.Logic.{inl, inr, ⊎_elim}
use native.Mathlib.Omega.{arith}
use Rattle.std.proofs.Math.ListN.{set}
use Rattle.rules_walks.proofs.laws.Pick.{clash}
use Rattle.rules_tables.specs.Frame.{flag_at}
use Rattle.rules_tables.specs.declared.Shape.{Shape}
use Rattle.rules_store.specs.declared.NextDue.{NextDue}
use Rattle.rules_store.specs.declared.Running.{Running}
use Rattle.rules_tables.specs.Ids.{elements, inputs, variables, variable_frame}
use Rattle.rules_store.specs.Layout.{need, element_at, input_at, variable_at}
use Rattle.rules_store.specs.Word.{now_of, put_now, put_owner, put_running, overwritten, put_overwritten, put_next, untrue, put_untrue, spare_at, spare_word, chart_state, put_chart_state, set_due, put_input, value, put_value, buffer, put_buffer}
use Rattle.rules_store.specs.Part.{Part, time, block, count, untrues, chart, due, input, sampled, computed, buffered, Leaves, Outside}
use Rattle.rules_store.specs.Due.{earliest, put_due}
use Rattle.rules_store.proofs.laws.Spare.{spare_from, spare_below}
use Rattle.rules_store.proofs.laws.Part.{leaves_then, outside_none, outside_set, due_touches, next_touches, input_touches, value_touches, same_block, same_due, same_next, same_input}

module _ (T : List ℕ) (S : Shape) (f : Part → Bool) (s : List ℕ) where
  -- a word of the first sixteen that is no spare one: what lies past them stays
  low : (lo hi : ℕ) (s' : List ℕ) → hi ≤ 16 → ((j : ℕ) → lo ≤ spare_at j → spare_at j < hi → ⊥) → Outside lo hi s s'
      → (f time ≡ false → 0 < lo) → (f block ≡ false → (p : ℕ) → 1 ≤ p → p < 8 → lo ≤ p → p < hi → ⊥) → (f count ≡ false → 8 < lo ⊎ hi ≤ 8)
      → (f due ≡ false → 10 < lo ⊎ hi ≤ 9) → (f untrues ≡ false → 11 < lo ⊎ hi ≤ 11) → Leaves T S f s s'
  unfolding need element_at input_at variable_at now_of overwritten untrue spare_word chart_state value buffer
  low lo hi s' few x o t b c e d =
      record {
        long = o.long;
        past = λ p h. o.apart p (λ m n. omega arith);
        spare = λ j l. o.apart (spare_at j) (x j);
        now = λ h. let z = t h in o.apart 0 (λ m n. omega arith);
        running = λ h. same_block s s' (λ p l u. o.apart p (b h p l u));
        counted = λ h. o.apart 8 (λ m n. ⊎_elim (λ z. omega arith) (λ z. omega arith) (c h));
        untrue_same = λ h. o.apart 11 (λ m n. ⊎_elim (λ z. omega arith) (λ z. omega arith) (d h));
        charts = λ h el l. o.apart (element_at el) (λ m n. omega arith);
        dues = λ h el l. same_due s s' el (λ p a z. o.apart p (λ m n. omega arith));
        next_same =
            λ h.
            same_next s s' (o.apart 9 (λ m n. ⊎_elim (λ z. omega arith) (λ z. omega arith) (e h))) (o.apart 10 (λ m n. ⊎_elim (λ z. omega arith) (λ z. omega arith) (e h)));
        waits = λ h i l. same_input S s s' i (λ p a z. o.apart p (λ m n. omega arith));
        values = λ h v l e. o.apart (variable_at S v) (λ m n. omega arith);
        results = λ h v l e. o.apart (variable_at S v) (λ m n. omega arith);
        buffers = λ h v l. o.apart (variable_at S v + 1) (λ m n. omega arith);
      }

  -- no spare word lies below these
  spares_past : {lo : ℕ} (hi : ℕ) → hi ≤ 12 → (j : ℕ) → lo ≤ spare_at j → spare_at j < hi → ⊥
  spares_past hi l j m n = omega (arith, spare_from j)

  pub leaves_now : (t : ℕ) → f time ≡ true → Leaves T S f s (put_now t s)
  unfolding put_now
  leaves_now t e =
      low 0 1 (set s 0 t) (omega arith) (spares_past 1 (omega arith)) (outside_set 0 1 s s 0 t (omega arith) (omega arith) (outside_none 0 1 s))
      (λ h. clash (sym h ∙ e)) (λ h p l u m n. omega arith) (λ h. inr (omega arith)) (λ h. inr (omega arith)) (λ h. inr (omega arith))

  pub leaves_owner : (el ev : ℕ) → f block ≡ true → Leaves T S f s (put_owner el ev s)
  unfolding put_owner
  leaves_owner el ev e =
      low 1 8 (set (set s 1 el) 2 ev) (omega arith) (spares_past 8 (omega arith))
      (outside_set 1 8 s (set s 1 el) 2 ev (omega arith) (omega arith) (outside_set 1 8 s s 1 el (omega arith) (omega arith) (outside_none 1 8 s)))
      (λ h. omega arith) (λ h. clash (sym h ∙ e)) (λ h. inr (omega arith)) (λ h. inr (omega arith)) (λ h. inr (omega arith))

  pub leaves_running : (r : Running) → f block ≡ true → Leaves T S f s (put_running r s)
  unfolding put_running
  leaves_running r e =
      let a = set s 3 r.birth in
      let b = set a 4 r.mode in
      let c = set b 5 r.live in
      let d = set c 6 r.action in
      low 1 8 (set d 7 r.step) (omega arith) (spares_past 8 (omega arith))
      (outside_set 1 8 s d 7 r.step (omega arith) (omega arith)
      (outside_set 1 8 s c 6 r.action (omega arith) (omega arith)
      (outside_set 1 8 s b 5 r.live (omega arith) (omega arith)
      (outside_set 1 8 s a 4 r.mode (omega arith) (omega arith)
      (outside_set 1 8 s s 3 r.birth (omega arith) (omega arith) (outside_none 1 8 s))))))
      (λ h. omega arith) (λ h. clash (sym h ∙ e)) (λ h. inr (omega arith)) (λ h. inr (omega arith)) (λ h. inr (omega arith))

  pub leaves_overwritten : (n : ℕ) → f count ≡ true → Leaves T S f s (put_overwritten n s)
  unfolding put_overwritten
  leaves_overwritten n e =
      low 8 9 (set s 8 n) (omega arith) (spares_past 9 (omega arith)) (outside_set 8 9 s s 8 n (omega arith) (omega arith) (outside_none 8 9 s))
      (λ h. omega arith) (λ h p l u m n. omega arith) (λ h. clash (sym h ∙ e)) (λ h. inr (omega arith)) (λ h. inr (omega arith))

  pub leaves_untrue : (n : ℕ) → f untrues ≡ true → Leaves T S f s (put_untrue n s)
  unfolding put_untrue
  leaves_untrue n e =
      low 11 12 (set s 11 n) (omega arith) (spares_past 12 (omega arith)) (outside_set 11 12 s s 11 n (omega arith) (omega arith) (outside_none 11 12 s))
      (λ h. omega arith) (λ h p l u m n. omega arith) (λ h. inl (omega arith)) (λ h. inl (omega arith)) (λ h. clash (sym h ∙ e))

  pub leaves_next : (a : NextDue) → f due ≡ true → Leaves T S f s (put_next a s)
  leaves_next a e =
      low 9 11 (put_next a s) (omega arith) (spares_past 11 (omega arith)) (next_touches s a) (λ h. omega arith) (λ h p l u m n. omega arith) (λ h. inl (omega arith)) (λ h. clash (sym h ∙ e))
      (λ h. inr (omega arith))

  -- words past the first sixteen: those stay
  high : (lo hi : ℕ) (s' : List ℕ) → 16 ≤ lo → hi ≤ need S → Outside lo hi s s'
      → (f chart ≡ false → (el : ℕ) → el < elements S → lo ≤ element_at el → element_at el < hi → ⊥)
      → (f due ≡ false → (el p : ℕ) → el < elements S → element_at el < p → p < element_at el + 3 → lo ≤ p → p < hi → ⊥)
      → (f input ≡ false → hi ≤ input_at S 0 ⊎ variable_at S 0 ≤ lo)
      → (f sampled ≡ false → (v : ℕ) → v < variables S → flag_at T (variable_frame S v) ≡ 0 → lo ≤ variable_at S v → variable_at S v < hi → ⊥)
      → (f computed ≡ false → (v : ℕ) → v < variables S → (flag_at T (variable_frame S v) ≡ 0 → ⊥) → lo ≤ variable_at S v → variable_at S v < hi → ⊥)
      → (f buffered ≡ false → (v : ℕ) → v < variables S → lo ≤ variable_at S v + 1 → variable_at S v + 1 < hi → ⊥)
      → Leaves T S f s s'
  unfolding need element_at input_at variable_at now_of overwritten untrue spare_word chart_state value buffer
  high lo hi s' from few o c d i x r y =
      record {
        long = o.long;
        past = λ p h. o.apart p (λ m n. omega arith);
        spare = λ j l. o.apart (spare_at j) (λ m n. omega (arith, spare_below j l));
        now = λ h. o.apart 0 (λ m n. omega arith);
        running = λ h. same_block s s' (λ p l u. o.apart p (λ m n. omega arith));
        counted = λ h. o.apart 8 (λ m n. omega arith);
        untrue_same = λ h. o.apart 11 (λ m n. omega arith);
        charts = λ h el l. o.apart (element_at el) (c h el l);
        dues = λ h el l. same_due s s' el (λ p a z. o.apart p (d h el p l a z));
        next_same = λ h. same_next s s' (o.apart 9 (λ m n. omega arith)) (o.apart 10 (λ m n. omega arith));
        waits = λ h k l. same_input S s s' k (λ p a z. o.apart p (λ m n. ⊎_elim (λ q. omega arith) (λ q. omega arith) (i h)));
        values = λ h v l e. o.apart (variable_at S v) (x h v l e);
        results = λ h v l e. o.apart (variable_at S v) (r h v l e);
        buffers = λ h v l. o.apart (variable_at S v + 1) (y h v l);
      }

  pub leaves_chart : (el q : ℕ) → el < elements S → f chart ≡ true → Leaves T S f s (put_chart_state el q s)
  unfolding put_chart_state need element_at input_at variable_at
  leaves_chart el q l e =
      let at = element_at el in
      high at (at + 1) (set s at q) (omega arith) (omega arith) (outside_set at (at + 1) s s at q (omega arith) (omega arith) (outside_none at (at + 1) s))
      (λ h. clash (sym h ∙ e)) (λ h k p b u v m n. omega arith) (λ h. inl (omega arith)) (λ h v b w m n. omega arith) (λ h v b w m n. omega arith) (λ h v b m n. omega arith)

  pub leaves_set : (el flag t : ℕ) → el < elements S → f due ≡ true → Leaves T S f s (set_due el flag t s)
  unfolding need element_at input_at variable_at
  leaves_set el flag t l e =
      high (element_at el + 1) (element_at el + 3) (set_due el flag t s) (omega arith) (omega arith) (due_touches s el flag t)
      (λ h k b m n. omega arith) (λ h. clash (sym h ∙ e)) (λ h. inl (omega arith)) (λ h v b w m n. omega arith) (λ h v b w m n. omega arith) (λ h v b m n. omega arith)

  pub leaves_input : (i flag birth last : ℕ) → i < inputs S → f input ≡ true → Leaves T S f s (put_input S i flag birth last s)
  unfolding need element_at input_at variable_at
  leaves_input i flag birth last l e =
      high (input_at S i) (input_at S i + 3) (put_input S i flag birth last s) (omega arith) (omega arith) (input_touches s S i flag birth last)
      (λ h k z m n. omega arith) (λ h k p z u v m n. omega arith) (λ h. clash (sym h ∙ e)) (λ h v z w m n. omega arith) (λ h v z w m n. omega arith) (λ h v z m n. omega arith)

  -- the value of a variable: one part where it is an input, another where it is not
  pub leaves_value : (v x : ℕ) → v < variables S → (f sampled ≡ false → flag_at T (variable_frame S v) ≡ 0 → ⊥) → (f computed ≡ false → (flag_at T (variable_frame S v) ≡ 0 → ⊥) → ⊥)
      → Leaves T S f s (put_value S v x s)
  unfolding need element_at input_at variable_at
  leaves_value v x l e r =
      high (variable_at S v) (variable_at S v + 1) (put_value S v x s) (omega arith) (omega arith) (value_touches s S v x)
      (λ h k z m n. omega arith) (λ h k p z a b m n. omega arith) (λ h. inr (omega arith))
      (λ h u z w m n. let q : u ≡ v = omega arith in e h (ap (λ (i : ℕ). flag_at T (variable_frame S i)) (sym q) ∙ w))
      (λ h u z w m n. let q : u ≡ v = omega arith in r h (λ y. w (ap (λ (i : ℕ). flag_at T (variable_frame S i)) q ∙ y))) (λ h u z m n. omega arith)

  pub leaves_buffer : (v x : ℕ) → v < variables S → f buffered ≡ true → Leaves T S f s (put_buffer S v x s)
  unfolding put_buffer need element_at input_at variable_at
  leaves_buffer v x l e =
      let at = variable_at S v + 1 in
      high at (at + 1) (set s at x) (omega arith) (omega arith) (outside_set at (at + 1) s s at x (omega arith) (omega arith) (outside_none at (at + 1) s))
      (λ h k z m n. omega arith) (λ h k p z a b m n. omega arith) (λ h. inr (omega arith)) (λ h u z w m n. omega arith) (λ h u z w m n. omega arith) (λ h. clash (sym h ∙ e))

-- the writer of due words: the words of its element, and the next due time
pub leaves_due : (T : List ℕ) (S : Shape) (f : Part → Bool) (s : List ℕ) (el flag t : ℕ) → el < elements S → f due ≡ true → Leaves T S f s (put_due S el flag t s)
unfolding put_due
leaves_due T S f s el flag t l e =
    let x = set_due el flag t s in
    let a = earliest x (elements S) in
    leaves_then T S f s x (put_next a x) (leaves_next T S f x a e) (leaves_set T S f s el flag t l e)
