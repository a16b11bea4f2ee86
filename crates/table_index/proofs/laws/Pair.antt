-- How the partners are found, frame by frame.
use Rattle.std.specs.Prelude.{◌≡◌, List, Bool, ℕ, ◌+◌, ◌≤◌, ◌<◌, eqb, ltb, length, get_or, set}
use Rattle.std.proofs.Math.Path.{refl, sym}
use Rattle.std.proofs.Common.{ap, ◌∙◌, arith, get_or-set_same}
use Rattle.std.proofs.Math.Bool.{true, false}
use Rattle.std.proofs.Math.Logic.{⊎_elim}
use Rattle.std.proofs.Math.ListN.{length-set}
use Rattle.std.proofs.Math.Seq.{get_or-set_other}
use borrow.Author.Tests.{ne_eqb, lt-ltb, le-ltb}
use Rattle.rules_walks.specs.Pick.{both, either}
use Rattle.rules_walks.proofs.laws.Pick.{tri}
use Rattle.rules_walks.specs.Choose.{choose}
use Rattle.rules_walks.proofs.laws.Count.{count_none, count_hit, count_miss}
use Rattle.rules_walks.specs.First.{Sought, one, missing}
use Rattle.rules_walks.proofs.laws.First.{first_in}
use Rattle.rules_tables.specs.Frame.{flag_at, field_at}
use Rattle.rules_tables.specs.Owned.{any, belongs, rank, is_nth, nth}
use Rattle.rules_tables.proofs.laws.Owned.{nth_belongs}
use Rattle.table_index.specs.Leads.{Leads, or_end}
use Rattle.table_index.proofs.laws.Nth.{nth_first, nth_next, nth_none}
use Rattle.table_index.specs.Chain.{Apart}
use Rattle.table_index.specs.Pair.{partner_at, advanced, paired, Pairing}

module _ (T : List ℕ) (first g other m h heads partners : ℕ) where
  -- at first the owners' entries lead to the first of theirs
  pub pairing_none : (ix : List ℕ) → ((x : ℕ) → x < 64 → Leads (belongs T other h x) 0 (get_or ix (heads + x) 0) m)
      → ((o x : ℕ) → o < m → x < 64 → belongs T other h x o ≡ true → Leads (belongs T other h x) (o + 1) (get_or ix (other + o) 0) m)
      → Pairing T first g other m h heads partners 0 ix
  pairing_none ix a b =
      record {
        cursors = λ x l. rw (count_none (belongs T first g x)) (nth_first T other m h x _ (a x l));
        nexts = b;
        known = λ k l. absurd (omega arith);
      }

  module _ (ix : List ℕ) (i x : ℕ) (own : field_at T (first + i) 0 ≡ x) (few : x < 64) (low : other + m ≤ heads) (next : heads + 64 ≤ partners) (room : partners + (i + 1) ≤ length ix)
      (w : Pairing T first g other m h heads partners i ix) where
    abbrev noted : List ℕ
    noted = set ix (partners + i) (get_or ix (heads + x) 0)

    noted_low : (p : ℕ) → p < partners + i → get_or noted p 0 ≡ get_or ix p 0
    noted_low p l = get_or-set_other ix (partners + i) p (get_or ix (heads + x) 0) 0 (λ z. omega arith)

    -- the frame's partner
    noted_here : get_or noted (partners + i) 0 ≡ partner_at T first g other m h i
    noted_here = get_or-set_same ix (partners + i) (get_or ix (heads + x) 0) 0 (omega arith) ∙ w.cursors x few ∙ rw own

    -- a frame of another owner, or of another flag, is none of the owner's
    other_owner : (y : ℕ) → (y ≡ x → ⊥) → belongs T first g y i ≡ false
    unfolding belongs
    other_owner y d = by (either (eqb g any) (eqb (flag_at T (first + i)) g))
      where
        by : (b : Bool) → both b (eqb (field_at T (first + i) 0) y) ≡ false
        by true = ne_eqb _ _ (λ z. d (sym z ∙ own))
        by false = refl

    -- the pass goes on with a list that has the old entries but for the owner's
    goes_on : (ix' : List ℕ) → ((p : ℕ) → (p ≡ heads + x → ⊥) → get_or ix' p 0 ≡ get_or noted p 0) → get_or ix' (heads + x) 0 ≡ or_end m (nth T other m h x (rank T first g x (i + 1)))
        → Pairing T first g other m h heads partners (i + 1) ix'
    goes_on ix' same here =
        record {
          cursors =
              λ y l.
              ⊎_elim (λ q. elsewhere y l (λ z. omega arith)) (λ c. ⊎_elim (λ e. rw e here) (λ q. elsewhere y l (λ z. omega arith)) c) (tri y x);
          nexts = λ o y l u b. rw (same (other + o) (λ z. omega arith) ∙ noted_low (other + o) (omega arith)) (w.nexts o y l u b);
          known =
              λ k l.
              same (partners + k) (λ z. omega arith)
              ∙ ⊎_elim (λ lt. noted_low (partners + k) (omega arith) ∙ w.known k lt) (λ c. ⊎_elim (λ e. rw e noted_here) (λ q. absurd (omega arith)) c) (tri k i);
        }
      where
        elsewhere : (y : ℕ) → y < 64 → (y ≡ x → ⊥) → get_or ix' (heads + y) 0 ≡ or_end m (nth T other m h y (rank T first g y (i + 1)))
        elsewhere y l d =
            same (heads + y) (λ z. d (omega arith)) ∙ noted_low (heads + y) (omega arith) ∙ w.cursors y l ∙ rw (count_miss (belongs T first g y) i (other_owner y d))

    at_owner : get_or noted (heads + x) 0 ≡ or_end m (nth T other m h x (rank T first g x i))
    at_owner = noted_low (heads + x) (omega arith) ∙ w.cursors x few

    -- the owner's entry went on
    moved : belongs T first g x i ≡ true → Pairing T first g other m h heads partners (i + 1) (advanced other m (heads + x) noted)
    unfolding advanced choose
    moved b = by (nth T other m h x (rank T first g x i)) refl
      where
        more : rank T first g x (i + 1) ≡ rank T first g x i + 1
        more = count_hit (belongs T first g x) i b

        by : (y : Sought) → nth T other m h x (rank T first g x i) ≡ y → Pairing T first g other m h heads partners (i + 1) (choose (ltb (get_or noted (heads + x) 0) m) (set noted (heads + x) (get_or noted (other + get_or noted (heads + x) 0) 0)) noted)
        by (one o) e =
            let z = first_in (is_nth T other h x (rank T first g x i)) 0 m o e in
            let l : o < m = omega arith in
            let a : get_or noted (heads + x) 0 ≡ o = at_owner ∙ ap (or_end m) e in
            rw (a, lt-ltb o m l)
            (goes_on _ (λ p d. get_or-set_other noted (heads + x) p _ 0 (λ z. d z))
            (get_or-set_same noted (heads + x) _ 0 (omega (arith, length-set ix (partners + i) (get_or ix (heads + x) 0)))
            ∙ noted_low (other + o) (omega arith)
            ∙ nth_next T other m h x (rank T first g x i) o _ e (w.nexts o x l few (nth_belongs T other m h x (rank T first g x i) o e))
            ∙ rw more))
        by missing e =
            let a : get_or noted (heads + x) 0 ≡ m = at_owner ∙ ap (or_end m) e in
            rw (a, le-ltb m m (omega arith)) (goes_on noted (λ p d. refl) (a ∙ rw (more, nth_none T other m h x (rank T first g x i) e)))

    pub pairing_more : Pairing T first g other m h heads partners (i + 1) (paired T first g other m heads partners x i ix)
    unfolding paired choose
    pairing_more = by (belongs T first g x i) refl
      where
        by : (b : Bool) → belongs T first g x i ≡ b → Pairing T first g other m h heads partners (i + 1) (choose b (advanced other m (heads + x) noted) noted)
        by true b = moved b
        by false b = goes_on noted (λ p d. refl) (at_owner ∙ rw (count_miss (belongs T first g x) i b))

    -- entries apart from the owners' and the partners' stay
    pub apart_paired : (n : ℕ) (ix₀ : List ℕ) → i < n → Apart heads (heads + 64) partners (partners + n) ix₀ ix → Apart heads (heads + 64) partners (partners + n) ix₀ (paired T first g other m heads partners x i ix)
    unfolding paired advanced choose
    apart_paired n ix₀ l k = by (belongs T first g x i)
      where
        noted_apart : Apart heads (heads + 64) partners (partners + n) ix₀ noted
        noted_apart =
            record {
              long = length-set ix (partners + i) _ ∙ k.long;
              kept = λ p u v. get_or-set_other ix (partners + i) p _ 0 (λ z. ⊎_elim (λ q. omega arith) (λ q. omega arith) v) ∙ k.kept p u v;
            }

        moved_apart : (y : ℕ) → Apart heads (heads + 64) partners (partners + n) ix₀ (set noted (heads + x) y)
        moved_apart y =
            record {
              long = length-set noted (heads + x) y ∙ noted_apart.long;
              kept = λ p u v. get_or-set_other noted (heads + x) p y 0 (λ z. ⊎_elim (λ q. omega arith) (λ q. omega arith) u) ∙ noted_apart.kept p u v;
            }

        by_entry : (b : Bool) → Apart heads (heads + 64) partners (partners + n) ix₀ (choose b (set noted (heads + x) (get_or noted (other + get_or noted (heads + x) 0) 0)) noted)
        by_entry true = moved_apart _
        by_entry false = noted_apart

        by : (b : Bool) → Apart heads (heads + 64) partners (partners + n) ix₀ (choose b (advanced other m (heads + x) noted) noted)
        by true = by_entry (ltb (get_or noted (heads + x) 0) m)
        by false = noted_apart

-- ---- what code leaves
advanced_long : (other m p : ℕ) (ix : List ℕ) → length (advanced other m p ix) ≡ length ix
unfolding advanced choose
advanced_long other m p ix = by (ltb (get_or ix p 0) m)
  where
    by : (b : Bool) → length (choose b (set ix p (get_or ix (other + get_or ix p 0) 0)) ix) ≡ length ix
    by true = length-set ix p _
    by false = refl

pub noted_long : (other m p q y : ℕ) (ix : List ℕ) → length (advanced other m p (set ix q y)) ≡ length ix
noted_long other m p q y ix = advanced_long other m p (set ix q y) ∙ length-set ix q y

module _ (T : List ℕ) (first g other m heads partners i : ℕ) (ix ix' : List ℕ) {x y : ℕ} (own : x ≡ y) {b : Bool} (test : b ≡ belongs T first g x i) where
  pub paired_on : b ≡ true → ix' ≡ advanced other m (heads + x) (set ix (partners + i) (get_or ix (heads + x) 0)) → ix' ≡ paired T first g other m heads partners y i ix
  unfolding paired choose
  paired_on e q = rw (← own, sym test ∙ e) q

  pub paired_off : b ≡ false → ix' ≡ set ix (partners + i) (get_or ix (heads + x) 0) → ix' ≡ paired T first g other m heads partners y i ix
  unfolding paired choose
  paired_off e q = rw (← own, sym test ∙ e) q
