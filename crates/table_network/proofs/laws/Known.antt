-- Frames that have their form are in order of kinds, so those of a kind stand side by side.
use Rattle.std.specs.Prelude.{◌≡◌, List, Bool, true, ℕ, ◌+◌, ◌<◌, ◌≤◌, min, ltb, get_or}
use Rattle.std.proofs.Common.{◌∙◌, ⊎_elim, arith}
use Rattle.rules_walks.proofs.laws.Pick.{tri}
use Rattle.rules_walks.specs.All.{all_to}
use Rattle.rules_walks.proofs.laws.All.{all_at, all_intro, all_less, all_rest}
use Rattle.rules_walks.proofs.laws.Count.{count_mono}
use Rattle.rules_walks.specs.Held.{held_to}
use Rattle.rules_walks.proofs.laws.Held.{held_end}
use Rattle.rules_tables.specs.Frame.{kind_at, frames_of}
use Rattle.rules_tables.specs.Place.{below_to, order_at, Starts}
use Rattle.rules_tables.proofs.laws.Places.{below_le, below_all, below_next, below_rest, in_order}
use Rattle.rules_tables.specs.Form.{form_ok}
use Rattle.rules_tables.proofs.laws.Formed.{formed}
use Rattle.rules_tables.specs.Reference.{refers_ok}
use Rattle.table_frames.specs.StartsTo.{StartsTo}
use Rattle.table_network.specs.Known.{Stretch, Stretches, Known}

module _ (T : List ℕ) where
  pub ordered : (n : ℕ) → all_to (form_ok T) n ≡ true → all_to (order_at T) n ≡ true
  ordered n h = all_intro (order_at T) n (λ i l. (formed T i (all_at (form_ok T) n i l h)).order)

  -- among n frames in order, those of a kind below k are the first
  pub below_yes : (k n i : ℕ) → all_to (order_at T) n ≡ true → i < n → kind_at T i < k → i < below_to T k n
  below_yes k n i s l h =
      let a = below_all T k (i + 1) (λ j q. let z = in_order T n j i s (omega arith) l in omega arith) in
      let b = count_mono (λ f. ltb (kind_at T f) k) (i + 1) n (omega arith) in
      omega arith

  pub below_no : (k n i : ℕ) → all_to (order_at T) n ≡ true → i < n → k ≤ kind_at T i → below_to T k n ≤ i
  below_no k n i s l h =
      let a = below_rest T k i n (omega arith) (λ j p q. let z = in_order T n i j s p q in omega arith) in
      let b = below_le T k i in
      omega arith

  -- what begins among m frames, among fewer
  begins : (k m n : ℕ) → all_to (order_at T) m ≡ true → n ≤ m → min (below_to T k m) n ≡ below_to T k n
  begins k m n s l = ⊎_elim (λ h. early (omega arith)) (λ w. ⊎_elim (λ e. early (omega arith)) late w) (tri (below_to T k m) n)
    where
      low : (i : ℕ) → below_to T k m ≤ i → i < m → k ≤ kind_at T i
      low i a b = ⊎_elim (λ h. absurd (let z = below_yes k m i s b h in omega arith)) (λ w. ⊎_elim (λ e. omega arith) (λ g. omega arith) w) (tri (kind_at T i) k)

      high : (i : ℕ) → i < below_to T k m → i < m → kind_at T i < k
      high i a b = ⊎_elim (λ h. h) (λ w. absurd (let z = below_no k m i s b (⊎_elim (λ e. omega arith) (λ g. omega arith) w) in omega arith)) (tri (kind_at T i) k)

      early : below_to T k m ≤ n → min (below_to T k m) n ≡ below_to T k n
      early h = let e = below_rest T k n m l (λ i a b. low i (omega arith) b) in omega arith

      late : n < below_to T k m → min (below_to T k m) n ≡ below_to T k n
      late h = let e = below_all T k n (λ i a. high i (omega arith) (omega arith)) in omega arith

  pub stretches_less : (from : List ℕ) (n e : ℕ) → e ≤ n → Stretches T from n → Stretches T from e
  stretches_less from n e l w =
      record {
        within = let z = w.within in omega arith;
        form = all_less (form_ok T) n e l w.form;
        size = w.size;
        starts = λ k h. let a = w.starts k h in let b = begins k n e (ordered n w.form) l in omega arith;
      }

  -- where a kind begins and the next one does, its frames stand
  pub stretch : (from : List ℕ) (k n lo hi : ℕ) → k < 12 → Stretches T from n → lo ≡ min (get_or from k 0) n → hi ≡ min (get_or from (k + 1) 0) n → Stretch T k n lo hi
  stretch from k n lo hi l w p q =
      let a = p ∙ w.starts k (omega arith) in
      let b = q ∙ w.starts (k + 1) (omega arith) in
      let s = ordered n w.form in
      let z = below_next T k n in
      record {
        rise = omega arith;
        within = omega arith;
        before = λ i h e. let x = below_no k n i s (omega arith) (omega arith) in omega arith;
        inside = λ i h g. one i (⊎_elim (λ (o : kind_at T i < k + 1). o)
            (λ v. absurd (let x = below_no (k + 1) n i s (omega arith) (⊎_elim (λ e. omega arith) (λ o. omega arith) v) in omega arith)) (tri (kind_at T i) (k + 1)))
            (⊎_elim (λ (o : kind_at T i < k). absurd (let x = below_yes k n i s (omega arith) o in omega arith))
            (λ v. ⊎_elim (λ e. omega arith) (λ o. omega arith) v) (tri (kind_at T i) k));
        after = λ i h g e. let x = below_yes (k + 1) n i s g (omega arith) in omega arith;
      }
    where
      one : (i : ℕ) → kind_at T i < k + 1 → k ≤ kind_at T i → kind_at T i ≡ k
      one i a b = omega arith

  -- a rule that every frame of another kind keeps: what is kept before the stretch, and a pass that comes to its end
  module _ (p : ℕ → Bool) (k n lo hi : ℕ) (other : (i : ℕ) → (kind_at T i ≡ k → ⊥) → p i ≡ true) (w : Stretch T k n lo hi) where
    pub stretch_start : all_to p lo ≡ true
    stretch_start = all_intro p lo (λ i l. other i (w.before i l))

    pub stretch_end : all_to p hi ≡ true → n ≡ held_to p n
    stretch_end h = held_end p n (all_rest p hi n h (λ i a b. other i (w.after i a b)))

  -- what the passes are given
  pub known : (at from : List ℕ) (m n : ℕ) → Starts T at → StartsTo T m from → n ≤ m → m ≤ frames_of T → frames_of T ≤ 4096
      → all_to (form_ok T) m ≡ true → all_to (refers_ok T) n ≡ true → Known T at from n
  known at from m n c w l h f a b =
      record {
        few = f;
        counts = c;
        stretches = stretches_less from m n l
            (record { within = h; form = a; size = w.size; starts = λ k q. let z = w.starts k q in let y = below_le T k m in omega arith });
        refers = b;
      }

  pub known_less : (at from : List ℕ) (n e : ℕ) → e ≤ n → Known T at from n → Known T at from e
  known_less at from n e l w =
      record {
        few = w.few;
        counts = w.counts;
        stretches = stretches_less from n e l w.stretches;
        refers = all_less (refers_ok T) n e l w.refers;
      }
