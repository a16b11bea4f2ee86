-- Laws of the walk over the frames, kind by kind.
use Rattle.std.specs.Prelude.{◌≡◌, List, true, false, ℕ, ◌+◌, ◌-◌, ◌≤◌, ◌<◌, ltb, get_or, set, replicate}
use Rattle.std.proofs.Math.Path.{refl}
use Rattle.std.proofs.Common.{sym, ap, ◌∙◌, ⊎_elim, eq-or-lt_of_le, not-suc-le-zero, arith, length-set, get_or-set_same, get_or-set_other}
use Rattle.std.proofs.lemmas.Bool.{cases_lt}
use Rattle.std.proofs.lemmas.List.{length-replicate, get_or-replicate}
use borrow.Author.Tests.{ne_eqb, lt-ltb, le-ltb, le-leb, lt-leb}
use Rattle.rules_walks.proofs.laws.Pick.{both_false, tri}
use Rattle.rules_walks.specs.Held.{held_to}
use Rattle.rules_walks.proofs.laws.Held.{held_is}
use Rattle.rules_walks.proofs.laws.Count.{count_none}
use Rattle.rules_tables.specs.Frame.{kind_at, frames_of}
use Rattle.rules_tables.specs.Place.{count_to, order_at}
use Rattle.rules_tables.proofs.laws.Places.{below_all, below_next, below_rest}
use Rattle.rules_tables.specs.Form.{form_of, body_ok, form_ok}
use Rattle.table_frames.specs.StartsTo.{StartsTo}
use Rattle.table_frames.specs.Walked.{KindTo, KindEnd, Walked}

module _ (T : List ℕ) where
  -- what makes a frame's form, and what breaks it
  has_form : (f k : ℕ) → kind_at T f ≡ k → 1 ≤ k → k < 12 → order_at T f ≡ true → count_to T k f < (form_of k).most → body_ok T f ≡ true → form_ok T f ≡ true
  unfolding form_ok
  has_form f k e l h o c b = rw (e, le-leb 1 k l, le-leb k 11 (omega arith), o, lt-ltb (count_to T k f) (form_of k).most c) b

  no_kind : (f : ℕ) → kind_at T f < 1 → form_ok T f ≡ false
  unfolding form_ok
  no_kind f l = rw (lt-leb 1 (kind_at T f) l)

  past_kinds : (f : ℕ) → 11 < kind_at T f → form_ok T f ≡ false
  unfolding form_ok
  past_kinds f l = rw (lt-leb (kind_at T f) 11 l, both_false)

  no_order : (f : ℕ) → order_at T f ≡ false → form_ok T f ≡ false
  unfolding form_ok
  no_order f e = rw (e) (simp both_false)

  no_room : (f k : ℕ) → kind_at T f ≡ k → (form_of k).most ≤ count_to T k f → form_ok T f ≡ false
  unfolding form_ok
  no_room f k e l = rw (e, le-ltb (count_to T k f) (form_of k).most l) (simp both_false)

  no_body : (f : ℕ) → body_ok T f ≡ false → form_ok T f ≡ false
  unfolding form_ok
  no_body f e = rw (e) (simp both_false)

  falls : (f : ℕ) → 1 ≤ f → kind_at T f < kind_at T (f - 1) → order_at T f ≡ false
  unfolding order_at
  falls f l h = rw (ne_eqb f 0 (λ e. omega arith), lt-leb (kind_at T (f - 1)) (kind_at T f) h)

  first_order : (f : ℕ) → f ≡ 0 → order_at T f ≡ true
  unfolding order_at
  first_order f e = rw e refl

  later_order : (f : ℕ) → 1 ≤ f → kind_at T (f - 1) ≤ kind_at T f → order_at T f ≡ true
  unfolding order_at
  later_order f l h = rw (ne_eqb f 0 (λ e. omega arith), le-leb (kind_at T (f - 1)) (kind_at T f) h)

  -- ---- the frames of one kind

  pub kind_none : (k start : ℕ) → start ≤ frames_of T → KindTo T k start start
  kind_none k start l =
      record { from = omega arith; within = l; few = omega arith; kinds = λ i a b. absurd (omega arith); bodies = λ i a b. absurd (omega arith) }

  pub kind_more : (k start f : ℕ) → f < frames_of T → f < start + (form_of k).most → kind_at T f ≡ k → body_ok T f ≡ true → KindTo T k start f → KindTo T k start (f + 1)
  kind_more k start f l h e b w =
      record {
        from = let q = w.from in omega arith;
        within = omega arith;
        few = omega arith;
        kinds = λ i a lt. ⊎_elim (λ q. ap (kind_at T) q ∙ e) (λ l'. w.kinds i a l') (eq-or-lt_of_le (let q : i ≤ f = omega arith in q));
        bodies = λ i a lt. ⊎_elim (λ q. ap (body_ok T) q ∙ b) (λ l'. w.bodies i a l') (eq-or-lt_of_le (let q : i ≤ f = omega arith in q));
      }

  -- the ways to stop: a frame of another kind, one whose body is not of the form, the table's end or the last frame that a table may have
  pub kind_other : (k start f : ℕ) → KindTo T k start f → (kind_at T f ≡ k → ⊥) → KindEnd T k start f
  kind_other k start f w ne = record { run = w; stopped = λ _ _ e. absurd (ne e) }

  pub kind_broken : (k start f : ℕ) → KindTo T k start f → body_ok T f ≡ false → KindEnd T k start f
  kind_broken k start f w b = record { run = w; stopped = λ _ _ _. b }

  pub kind_full : (k start f : ℕ) → KindTo T k start f → (f < frames_of T → start + (form_of k).most ≤ f) → KindEnd T k start f
  kind_full k start f w h = record { run = w; stopped = λ l few _. absurd (let q = h l in omega arith) }

  -- ---- kind by kind

  pub walked_none : Walked T (replicate 13 0) 1 0
  walked_none =
      record {
        size = length-replicate {A = ℕ} 13 0;
        within = omega arith;
        formed = λ i l. absurd (not-suc-le-zero l);
        below = λ i l. absurd (not-suc-le-zero l);
        stopped = λ _ l. no_kind 0 l;
        starts = λ j h. get_or-replicate 13 j 0 0 (omega arith) ∙ sym (count_none (λ f. ltb (kind_at T f) j));
      }

  -- one kind more
  module _ (from : List ℕ) (k f r : ℕ) (l : 1 ≤ k) (h : k < 12) (w : Walked T from k f) (v : KindEnd T k f r) where
    up_to_kind : (i : ℕ) → i < r → kind_at T i ≤ k
    up_to_kind i q = ⊎_elim (λ lt. let z = w.below i lt in omega arith) (λ g. let z = v.run.kinds i g q in omega arith) (cases_lt i f)

    -- the frames of kind k before i are those from f on
    count_run : (i : ℕ) → f ≤ i → i ≤ r → count_to T k i + f ≡ i
    count_run i a b =
        let before = below_all T (k + 1) i (λ j q. let z = up_to_kind j (omega arith) in omega arith) in
        let rest = below_rest T k f i a (λ j p q. let z = v.run.kinds j p (omega arith) in omega arith) in
        omega (arith, before, rest, below_next T k i, below_all T k f w.below)

    order_run : (i : ℕ) → f ≤ i → i < r → order_at T i ≡ true
    order_run i a b =
        ⊎_elim (λ lt. first_order i (omega arith))
        (λ g. let z = up_to_kind (i - 1) (omega arith) in let y = v.run.kinds i a b in later_order i g (omega arith)) (cases_lt i 1)

    stop_run : r < frames_of T → kind_at T r < k + 1 → form_ok T r ≡ false
    stop_run lt b =
        ⊎_elim (λ low. ⊎_elim (λ e. same e low) (λ g. no_order r (falls r (omega arith) (let z = v.run.kinds (r - 1) (omega arith) (omega arith) in omega arith))) (eq-or-lt_of_le v.run.from))
        (⊎_elim (λ e. ⊎_elim (λ few. no_body r (v.stopped lt few e)) (λ many. no_room r k e (let z = count_run r v.run.from (omega arith) in omega arith)) (cases_lt r (f + (form_of k).most)))
        (λ high. absurd (omega arith))) (tri (kind_at T r) k)
      where
        same : f ≡ r → kind_at T r < k → form_ok T r ≡ false
        same e low = rw e at (w.stopped (rw (e) lt) (rw (e) low))

    pub walked_more : Walked T (set from (k + 1) r) (k + 1) r
    walked_more =
        record {
          size = simp length-set w.size;
          within = v.run.within;
          formed = λ i q.
              ⊎_elim (λ lt. w.formed i lt)
              (λ g. has_form i k (v.run.kinds i g q) l h (order_run i g q) (let z = count_run i g (omega arith) in let y = v.run.few in omega arith) (v.run.bodies i g q)) (cases_lt i f);
          below = λ i q. let z = up_to_kind i q in omega arith;
          stopped = stop_run;
          starts = λ j q.
              ⊎_elim (λ e. rw e (get_or-set_same from (k + 1) r 0 (omega (arith, w.size)) ∙ sym (below_all T (k + 1) r (λ i b. let z = up_to_kind i b in omega arith))))
              (λ lt. get_or-set_other from (k + 1) j r 0 (λ e. omega arith) ∙ w.starts j (omega arith) ∙ sym (below_rest T j f r v.run.from (λ i a b. let z = v.run.kinds i a b in omega arith))) (eq-or-lt_of_le q);
        }

  -- all kinds walked: the frames passed are those that have their form
  pub walked_held : (from : List ℕ) (f : ℕ) → Walked T from 12 f → f ≡ held_to (form_ok T) (frames_of T)
  walked_held from f w =
      held_is (form_ok T) (frames_of T) f
      (record {
        within = w.within;
        before = w.formed;
        stopped = λ l. ⊎_elim (λ lt. w.stopped l lt) (λ g. past_kinds f (omega arith)) (cases_lt (kind_at T f) 12);
      })

  pub walked_starts : (from : List ℕ) (f : ℕ) → Walked T from 12 f → StartsTo T f from
  walked_starts from f w = record { size = w.size; starts = λ k h. w.starts k (omega arith) }

  pub walked_last : (from : List ℕ) (f : ℕ) → Walked T from 12 f → get_or from 12 0 ≡ f
  walked_last from f w = w.starts 12 (omega arith) ∙ below_all T 12 f w.below
