-- Runs of stores: `sets l i vs` is the list l with vs from i on, as a function that writes leaves it. (`length-sets` is of `lib.Seq`.)
-- Assumes nothing.
use Rattle.std.specs.Prelude.{◌≡◌, List, [], ◌∷◌, ◌++◌, ℕ, suc, ◌+◌, ◌≤◌, ◌<◌, length, get_or, take, drop, set}
use Rattle.std.proofs.Common.{sym, ap, ◌∙◌, append_assoc, add-zero, add-suc, suc-add, arith, length-append, length-take-le, take_at, drop_at, get_or-append-add}
use Rattle.std.proofs.Math.ListN.{get_or-append}
use Rattle.std.proofs.lemmas.List.Edits.{sets, sets-eq}
use Rattle.std.proofs.Math.Seq.{take-append_seam}

-- two runs, one where the other ends, are one
pub sets_append : (l : List ℕ) (i : ℕ) (vs us : List ℕ) → sets (sets l i vs) (i + length vs) us ≡ sets l i (vs ++ us)
sets_append l i [] us = rw add-zero
sets_append l i (v ∷ vs) us = rw (add-suc, ← suc-add) (sets_append (set l i v) (suc i) vs us)

-- the same for what two calls in a row leave, the second at k
pub and_then_lem : (l : List ℕ) (i k : ℕ) (vs us : List ℕ) {m n : List ℕ} → k ≡ i + length vs → m ≡ sets l i vs → n ≡ sets m k us → n ≡ sets l i (vs ++ us)
and_then_lem l i k vs us e p q = q ∙ (λ t. sets (p t) (e t) us) ∙ sets_append l i vs us

-- what stands where after a run that fits
module _ (l : List ℕ) (i : ℕ) (vs : List ℕ) (h : i + length vs ≤ length l) where
  front : length (take i l) ≡ i
  front = length-take-le i l (omega arith)

  pub take_sets : take i (sets l i vs) ≡ take i l
  take_sets = rw (sets-eq vs l i h, append_assoc) (take_at (take i l) (vs ++ drop (i + length vs) l) i front)

  pub part_sets : take (length vs) (drop i (sets l i vs)) ≡ vs
  part_sets = rw (sets-eq vs l i h, append_assoc, drop_at (take i l) (vs ++ drop (i + length vs) l) i front) (take-append_seam vs (drop (i + length vs) l))

  pub drop_sets : drop (i + length vs) (sets l i vs) ≡ drop (i + length vs) l
  drop_sets =
      ap (drop (i + length vs)) (sets-eq vs l i h)
      ∙ drop_at (take i l ++ vs) (drop (i + length vs) l) (i + length vs) (length-append (take i l) vs ∙ ap (λ (n : ℕ). n + length vs) front)

  pub get_d_sets : (j : ℕ) → j < length vs → get_or (sets l i vs) (i + j) 0 ≡ get_or vs j 0
  get_d_sets j k =
      ap (λ (m : List ℕ). get_or m (i + j) 0) (sets-eq vs l i h)
      ∙ get_or-append (take i l ++ vs) (drop (i + length vs) l) 0 (i + j) (omega (arith, length-append (take i l) vs, front))
      ∙ ap (λ (m : ℕ). get_or (take i l ++ vs) (m + j) 0) (sym front)
      ∙ get_or-append-add (take i l) vs j 0
