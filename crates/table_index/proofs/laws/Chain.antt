-- How chains grow, frame by frame from the last to the first, and that they stand while their entries do.
use Rattle.std.specs.Prelude.{◌≡◌, refl, Bool, true, false, ◌⊎◌, ◌-◌, ◌++◌, length, get_or, take, drop, replicate}
use Rattle.std.proofs.Common.{sym, ap, ◌∙◌, inl, inr, eq-or-lt_of_le, arith, length-set, get_or-set_same, get_or-set_other, eq-eqb, ne_eqb}
use Rattle.std.proofs.lemmas.List.{length-append, length-drop, length-take-le, length-replicate, get_or-append_right, get_or_append_left, get_or-replicate, get_or-take, get_or-drop}
use borrow.Rule.Slice.PartMut.{put_mid}
use Rattle.std.proofs.Math.Path.{subst}
use mathlib.Core.List.{List}
use Rattle.std.proofs.Math.Logic.{⊎_elim}
use Prim.Native.Nat.{ℕ, ◌+◌, ◌≤◌, ◌<◌}
use Rattle.std.proofs.Math.Dec.{eqb}
use Rattle.std.proofs.Math.ListN.{set}
use Rattle.rules_walks.proofs.laws.Pick.{tri}
use Rattle.table_index.specs.Leads.{Leads}
use Rattle.table_index.specs.Chain.{Chained, linked, Apart, Filled}

-- one number earlier, that does not pass
earlier : {p : ℕ → Bool} {j b n : ℕ} → p j ≡ false → Leads p (j + 1) b n → Leads p j b n
earlier {p} {j} e l =
    record {
      from = let h = l.from in omega arith;
      within = l.within;
      skipped = λ i u v. ⊎_elim (λ z. ap p (sym z) ∙ e) (λ lt. l.skipped i (omega arith) v) (eq-or-lt_of_le u);
      met = l.met;
    }

-- the number itself
here : {p : ℕ → Bool} {j n : ℕ} → j < n → p j ≡ true → Leads p j j n
here h e = record { from = omega arith; within = omega arith; skipped = λ i u v. absurd (omega arith); met = λ _. e }

module _ (own : ℕ → ℕ) (first n base owners : ℕ) where
  -- before the first frame is linked, each owner's entry leads to the end
  pub chained_none : (ix : List ℕ) → ((x : ℕ) → x < owners → get_or ix (base + x) 0 ≡ n) → Chained own first n base owners n ix
  chained_none ix h =
      record {
        heads = λ x l. rw (h x l) (record { from = omega arith; within = omega arith; skipped = λ i u v. absurd (omega arith); met = λ v. absurd (omega arith) });
        nexts = λ i u v. absurd (omega arith);
      }

  -- a frame is put before those of its owner
  pub chained_link : (ix : List ℕ) (j : ℕ) → j < n → own j < owners → first + n ≤ base → base + owners ≤ length ix → Chained own first n base owners (j + 1) ix
      → Chained own first n base owners j (linked first base (own j) j ix)
  unfolding linked
  chained_link ix j l o d s w =
      record {
        heads = λ x u. ⊎_elim (λ q. head_other x u (λ z. omega arith)) (λ y. ⊎_elim (λ e. head_own x e) (λ q. head_other x u (λ z. omega arith)) y) (tri x (own j));
        nexts = λ i u v. ⊎_elim (λ e. subst (λ (k : ℕ). Leads (λ h. eqb (own h) (own k)) (k + 1) (get_or both' (first + k) 0) n) e next_own) (λ lt. next_other i (omega arith) v) (eq-or-lt_of_le u);
      }
    where
      one' : List ℕ
      one' = set ix (first + j) (get_or ix (base + own j) 0)

      both' : List ℕ
      both' = set one' (base + own j) j

      long' : length one' ≡ length ix
      long' = length-set ix (first + j) _

      head_own : (x : ℕ) → x ≡ own j → Leads (λ i. eqb (own i) x) j (get_or both' (base + x) 0) n
      head_own x e = rw (e, get_or-set_same one' (base + own j) j 0 (omega (arith, long'))) (here l (eq-eqb (own j) (own j) refl))

      head_other : (x : ℕ) → x < owners → (x ≡ own j → ⊥) → Leads (λ i. eqb (own i) x) j (get_or both' (base + x) 0) n
      head_other x u d' =
          rw (get_or-set_other one' (base + own j) (base + x) j 0 (λ z. d' (omega arith)), get_or-set_other ix (first + j) (base + x) (get_or ix (base + own j) 0) 0 (λ z. omega arith))
          (earlier (ne_eqb (own j) x (λ z. d' (sym z))) (w.heads x u))

      next_own : Leads (λ k. eqb (own k) (own j)) (j + 1) (get_or both' (first + j) 0) n
      next_own =
          rw (get_or-set_other one' (base + own j) (first + j) j 0 (λ z. omega arith), get_or-set_same ix (first + j) (get_or ix (base + own j) 0) 0 (omega arith)) (w.heads (own j) o)

      next_other : (i : ℕ) → j + 1 ≤ i → i < n → Leads (λ k. eqb (own k) (own i)) (i + 1) (get_or both' (first + i) 0) n
      next_other i u v =
          rw (get_or-set_other one' (base + own j) (first + i) j 0 (λ z. omega arith), get_or-set_other ix (first + j) (first + i) (get_or ix (base + own j) 0) 0 (λ z. omega arith)) (w.nexts i u v)

  -- chains stand while their entries do
  pub chained_apart : (a b c d j : ℕ) (ix ix' : List ℕ) → Apart a b c d ix ix' → (first + n ≤ a) ⊎ (b ≤ first) → (first + n ≤ c) ⊎ (d ≤ first) → (base + owners ≤ a) ⊎ (b ≤ base)
      → (base + owners ≤ c) ⊎ (d ≤ base) → Chained own first n base owners j ix → Chained own first n base owners j ix'
  chained_apart a b c d j ix ix' k p q r s w =
      record {
        heads = λ x u. rw (k.kept (base + x) (side r (omega arith) (omega arith)) (side s (omega arith) (omega arith))) (w.heads x u);
        nexts = λ i u v. rw (k.kept (first + i) (side p (omega arith) (omega arith)) (side q (omega arith) (omega arith))) (w.nexts i u v);
      }
    where
      side : {lo hi x y i : ℕ} → (hi ≤ x) ⊎ (y ≤ lo) → lo ≤ i → i < hi → (i < x) ⊎ (y ≤ i)
      side o l m = ⊎_elim (λ h. inl (omega arith)) (λ h. inr (omega arith)) o

-- ---- what stays
pub apart_none : (a b c d : ℕ) (ix : List ℕ) → Apart a b c d ix ix
apart_none a b c d ix = record { long = refl; kept = λ i u v. refl }

pub apart_linked : (a b c d first base x j : ℕ) (ix ix' : List ℕ) → a ≤ first + j → first + j < b → c ≤ base + x → base + x < d → Apart a b c d ix ix' → Apart a b c d ix (linked first base x j ix')
unfolding linked
apart_linked a b c d first base x j ix ix' l m p q w =
    record {
      long = length-set (set ix' (first + j) _) (base + x) j ∙ length-set ix' (first + j) _ ∙ w.long;
      kept =
          λ i u v.
          get_or-set_other (set ix' (first + j) _) (base + x) i j 0 (λ z. ⊎_elim (λ h. omega arith) (λ h. omega arith) v)
          ∙ get_or-set_other ix' (first + j) i _ 0 (λ z. ⊎_elim (λ h. omega arith) (λ h. omega arith) u)
          ∙ w.kept i u v;
    }

-- ---- entries filled one by one
pub filled_none : (base x : ℕ) (ix : List ℕ) → Filled base 0 x ix ix
filled_none base x ix = record { long = refl; filled = λ i l. absurd (omega arith); kept = λ i l. refl }

pub filled_more : (base i x : ℕ) (ix ix' : List ℕ) → base + i < length ix' → Filled base i x ix ix' → Filled base (i + 1) x ix (set ix' (base + i) x)
filled_more base i x ix ix' l w =
    record {
      long = length-set ix' (base + i) x ∙ w.long;
      filled =
          λ k u.
          ⊎_elim (λ lt. get_or-set_other ix' (base + i) (base + k) x 0 (λ z. omega arith) ∙ w.filled k lt)
          (λ y. ⊎_elim (λ e. rw e (get_or-set_same ix' (base + i) x 0 l)) (λ g. absurd (omega arith)) y) (tri k i);
      kept = λ k u. get_or-set_other ix' (base + i) k x 0 (λ z. ⊎_elim (λ h. omega arith) (λ h. omega arith) u) ∙ w.kept k (⊎_elim (λ h. inl h) (λ h. inr (omega arith)) u);
    }

-- and at once, as a part of a list that is filled
pub filled_replicate : (base k n x : ℕ) (ix ys : List ℕ) → base + n ≤ length ix → k ≡ n → ys ≡ replicate k x → Filled base n x ix (put_mid base k ix ys)
filled_replicate base k n x ix ys h e q =
    record {
      long = rw (length-append, length-append, length-drop, length-drop, front, part) (omega arith);
      filled = λ i u. rw (get_or-append_right (take base ix) _ base (base + i) 0 front (omega arith)) (inside i u (omega arith));
      kept = λ i u. ⊎_elim (λ l. get_or_append_left (take base ix) _ 0 i (omega (arith, front)) ∙ get_or-take base ix i 0 l) (behind i) u;
    }
  where
    front : length (take base ix) ≡ base
    front = length-take-le base ix (omega arith)

    same : ys ≡ replicate n x
    same = rw e at q

    part : length ys ≡ n
    part = rw same (length-replicate {A = ℕ} n x)

    rest : List ℕ
    rest = drop k (drop base ix)

    inside : (i : ℕ) → i < n → {j : ℕ} → j ≡ i → get_or (ys ++ rest) j 0 ≡ x
    inside i u p = rw p (get_or_append_left ys rest 0 i (omega (arith, part)) ∙ rw same (get_or-replicate n i x 0 u))

    behind : (i : ℕ) → base + n ≤ i → get_or (take base ix ++ (ys ++ rest)) i 0 ≡ get_or ix i 0
    behind i l =
        get_or-append_right (take base ix) (ys ++ rest) base i 0 front (omega arith)
        ∙ get_or-append_right ys rest n (i - base) 0 part (omega arith)
        ∙ get_or-drop k (drop base ix) (i - base - n) 0 ∙ get_or-drop base ix (k + (i - base - n)) 0
        ∙ ap (λ (j : ℕ). get_or ix j 0) (omega arith)

-- ---- what code leaves
pub link_is : (ix : List ℕ) (first base j : ℕ) {x y : ℕ} → x ≡ y → set (set ix (first + j) (get_or ix (base + x) 0)) (base + x) j ≡ linked first base y j ix
unfolding linked
link_is ix first base j e = rw e

-- chained after the owners' entries were filled
pub apart_filled : (a b c n x : ℕ) (ix ix' ix'' : List ℕ) → Filled c n x ix ix' → Apart a b c (c + n) ix' ix'' → Apart a b c (c + n) ix ix''
apart_filled a b c n x ix ix' ix'' f w = record { long = w.long ∙ f.long; kept = λ i u v. w.kept i u v ∙ f.kept i v }
