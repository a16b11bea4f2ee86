-- Laws of counts and places: the id-th frame of a kind in any table, and where it stands when the kinds never fall.
use Rattle.std.specs.Prelude.{◌≡◌, List, Bool, true, false, ltb, length, get_or, set}
use Rattle.std.proofs.Math.Path.{refl}
use Rattle.std.proofs.Common.{sym, ◌∙◌, eq-or-lt_of_le, le_of_suc-le-suc, not-suc-le-zero, get_or-set_same, get_or-set_other}
use Rattle.std.proofs.Math.Logic.{⊎_elim}
use Prim.Native.Nat.{ℕ, zero, suc, ◌+◌, ◌-◌, ◌≤◌, ◌<◌}
use native.Mathlib.Omega.{arith}
use Rattle.std.proofs.Math.Dec.{eqb, eqb-suc-zero}
use borrow.Author.Tests.{eqb-true, eqb-false, leb-true, eq-eqb, ne_eqb, lt-ltb, le-ltb}
use Rattle.rules_walks.specs.Pick.{pick, both}
use Rattle.rules_walks.proofs.laws.Pick.{both_false, tri}
use Rattle.rules_walks.specs.All.{all_to}
use Rattle.rules_walks.proofs.laws.All.{all_at}
use Rattle.rules_walks.specs.Count.{count_if}
use Rattle.rules_walks.proofs.laws.Count.{count_none, count_hit, count_miss, count_le, count_past, count_all, count_rest}
use Rattle.rules_walks.specs.Tally.{Tallied}
use Rattle.rules_tables.specs.Frame.{kind_at, frames_of}
use Rattle.rules_tables.specs.Place.{count_to, below_to, seek_to, order_at, sorted_of, count_of, start_of, place}
use Rattle.rules_tables.specs.Places.{Found}

module _ (T : List ℕ) where
  -- one frame more
  pub kind_hit : (k n : ℕ) → kind_at T n ≡ k → count_to T k (n + 1) ≡ count_to T k n + 1
  kind_hit k n e = count_hit (λ f. eqb (kind_at T f) k) n (eq-eqb (kind_at T n) k e)

  pub kind_miss : (k n : ℕ) → (kind_at T n ≡ k → ⊥) → count_to T k (n + 1) ≡ count_to T k n
  kind_miss k n e = count_miss (λ f. eqb (kind_at T f) k) n (ne_eqb (kind_at T n) k e)

  pub kind_le : (k n : ℕ) → count_to T k n ≤ n
  kind_le k n = count_le (λ f. eqb (kind_at T f) k) n

  pub below_le : (k n : ℕ) → below_to T k n ≤ n
  below_le k n = count_le (λ f. ltb (kind_at T f) k) n

  pub below_none : (n : ℕ) → below_to T 0 n ≡ 0
  below_none n = count_rest (λ f. ltb (kind_at T f) 0) 0 n (omega arith) (λ i a b. le-ltb (kind_at T i) 0 (omega arith)) ∙ count_none (λ f. ltb (kind_at T f) 0)

  -- where every kind is below k, every frame is counted
  pub below_all : (k n : ℕ) → ((i : ℕ) → i < n → kind_at T i < k) → below_to T k n ≡ n
  below_all k n h = count_all (λ f. ltb (kind_at T f) k) n (λ i l. lt-ltb (kind_at T i) k (h i l))

  -- the frames of a kind up to k are those below k and those of k
  pub below_next : (k n : ℕ) → below_to T (k + 1) n ≡ below_to T k n + count_to T k n
  unfolding count_if
  below_next k zero = refl
  below_next k (suc n) = turn (kind_at T n) (below_to T k n) (below_to T (k + 1) n) (count_to T k n) (below_next k n)
    where
      turn : (x b b' c : ℕ) → b' ≡ b + c → pick (ltb x (k + 1)) (b' + 1) b' ≡ pick (ltb x k) (b + 1) b + pick (eqb x k) (c + 1) c
      turn x b b' c h =
          ⊎_elim (λ l. rw (lt-ltb x (k + 1) (omega arith), lt-ltb x k l, ne_eqb x k (λ e. omega arith)) (omega arith))
          (⊎_elim (λ e. rw (lt-ltb x (k + 1) (omega arith), le-ltb x k (omega arith), eq-eqb x k e) (omega arith))
          (λ g. rw (le-ltb x (k + 1) (omega arith), le-ltb x k (omega arith), ne_eqb x k (λ e. omega arith)) (omega arith)))
          (tri x k)

  -- ---- the id-th frame of a kind

  -- the search finds frame f, the id-th of its kind
  pub seek_at : (k id n f : ℕ) → f < n → kind_at T f ≡ k → count_to T k f ≡ id → seek_to T k id n ≡ f
  unfolding seek_to
  seek_at k id zero f l ek ec = absurd (not-suc-le-zero l)
  seek_at k id (suc n) f l ek ec =
      ⊎_elim (λ e. rw (← e) (rw (eq-eqb (kind_at T f) k ek, eq-eqb (count_to T k f) id ec)))
      (λ lt.
      let g = count_past (λ i. eqb (kind_at T i) k) f n lt (eq-eqb (kind_at T f) k ek) in
      rw (ne_eqb (count_to T k n) id (λ e. omega arith), both_false) (seek_at k id n f lt ek ec))
      (eq-or-lt_of_le (le_of_suc-le-suc l))

module _ (T : List ℕ) where
  pub seek_found : (k id n : ℕ) → id < count_to T k n → Found T k id n (seek_to T k id n)
  unfolding count_if seek_to
  seek_found k id zero l = absurd (not-suc-le-zero l)
  seek_found k id (suc n) l = by_kind (eqb (kind_at T n) k) refl (seek_found k id n) l
    where
      up : {p : ℕ} → Found T k id n p → Found T k id (suc n) p
      up w = record { in_table = omega arith; kind = w.kind; nth = w.nth }

      by_count : (b : Bool) → eqb (count_to T k n) id ≡ b → kind_at T n ≡ k → (id < count_to T k n → Found T k id n (seek_to T k id n))
          → id < count_to T k n + 1 → Found T k id (suc n) (pick b n (seek_to T k id n))
      by_count true e ek ih l = record { in_table = omega arith; kind = ek; nth = eqb-true _ _ e }
      by_count false e ek ih l = up (ih (⊎_elim (λ q. absurd (eqb-false _ _ e (sym q))) (λ lt. lt) (eq-or-lt_of_le (omega arith))))

      by_kind : (b : Bool) → eqb (kind_at T n) k ≡ b → (id < count_to T k n → Found T k id n (seek_to T k id n))
          → id < pick b (count_to T k n + 1) (count_to T k n) → Found T k id (suc n) (pick (both b (eqb (count_to T k n) id)) n (seek_to T k id n))
      by_kind true e ih l = by_count (eqb (count_to T k n) id) refl (eqb-true _ _ e) ih l
      by_kind false e ih l = up (ih l)

  pub place_found : (k id : ℕ) → id < count_of T k → Found T k id (frames_of T) (place T k id)
  place_found k id l = seek_found k id (frames_of T) l

  -- each frame has a place: that of its own id
  pub place_own : (k f : ℕ) → f < frames_of T → kind_at T f ≡ k → place T k (count_to T k f) ≡ f
  place_own k f l e = seek_at T k (count_to T k f) (frames_of T) f l e refl

  -- ---- frames in order

  order_next : (j : ℕ) → order_at T (suc j) ≡ true → kind_at T j ≤ kind_at T (suc j)
  unfolding order_at
  order_next j h =
      let e : suc j - 1 ≡ j = omega arith in
      leb-true _ _ (rw e at (rw (eqb-suc-zero j) at h))

  -- where the first n frames are in order, their kinds never fall
  pub in_order : (n i j : ℕ) → all_to (order_at T) n ≡ true → i ≤ j → j < n → kind_at T i ≤ kind_at T j
  in_order n i zero s l h = let e : i ≡ 0 = omega arith in rw e (omega arith)
  in_order n i (suc j) s l h =
      ⊎_elim (λ e. rw e (omega arith))
      (λ lt.
      let a = in_order n i j s (le_of_suc-le-suc lt) (omega arith) in
      let b = order_next j (all_at (order_at T) n (suc j) h s) in
      omega arith)
      (eq-or-lt_of_le l)

  -- where no kind is above k, each frame is below k or of kind k
  pub split_at : (k n : ℕ) → ((i : ℕ) → i < n → kind_at T i ≤ k) → n ≡ below_to T k n + count_to T k n
  split_at k n h = sym (below_all T (k + 1) n (λ i l. let q = h i l in omega arith)) ∙ below_next T k n

  -- where no kind from p on is below k, none is counted there
  pub below_rest : (k p n : ℕ) → p ≤ n → ((i : ℕ) → p ≤ i → i < n → k ≤ kind_at T i) → below_to T k n ≡ below_to T k p
  below_rest k p n l h = count_rest (λ f. ltb (kind_at T f) k) p n l (λ i a b. le-ltb (kind_at T i) k (h i a b))

  -- in a table in order the id-th frame of kind k stands id after the first
  pub place_start : (k id : ℕ) → sorted_of T ≡ true → id < count_of T k → place T k id ≡ start_of T k + id
  place_start k id s l =
      let w = place_found k id l in
      let p = place T k id in
      let a = split_at k p (λ i h. rw w.kind at (in_order (frames_of T) i p s (omega arith) w.in_table)) in
      let b = below_rest k p (frames_of T) (omega arith) (λ i h g. rw w.kind at (in_order (frames_of T) p i s h g)) in
      omega (arith, w.nth, a, b)

  -- the frames of the lowest kind, 1, come first: an element's id is its frame
  pub element_id : (f : ℕ) → all_to (order_at T) (f + 1) ≡ true → ((i : ℕ) → i < f → 1 ≤ kind_at T i) → kind_at T f ≡ 1 → count_to T 1 f ≡ f
  element_id f s h e =
      count_all (λ i. eqb (kind_at T i) 1) f
      (λ i l. let a = h i l in let b = in_order (f + 1) i f s (omega arith) (omega arith) in eq-eqb (kind_at T i) 1 (omega arith))

  -- one turn of the loop that sums the counts
  pub next_start : (s m : List ℕ) (k x : ℕ) → k < 12 → length s ≡ 13 → ((j : ℕ) → j ≤ k → get_or s j 0 ≡ start_of T j) → Tallied (kind_at T) 12 m (frames_of T) → x ≡ get_or m k 0
      → (j : ℕ) → j ≤ k + 1 → get_or (set s (k + 1) (get_or s k 0 + x)) j 0 ≡ start_of T j
  next_start s m k x h l old w e j hj =
      ⊎_elim (λ q. rw q (get_or-set_same s (k + 1) _ 0 (omega arith) ∙ rw (old k (omega arith), e, w.at k h, below_next T k (frames_of T))))
      (λ lt. get_or-set_other s (k + 1) j _ 0 (λ q. omega arith) ∙ old j (omega arith))
      (eq-or-lt_of_le hj)
