-- Laws of the frames by kind and id: no two belong at one place, so each stays where it was put, and an id is looked up at its kind's start.
use Rattle.std.specs.Prelude.{◌≡◌, refl, List, true, ◌⊎◌, ℕ, ◌+◌, ◌≤◌, ◌<◌, eqb, ltb, length, get_or, set}
use Rattle.std.proofs.Common.{sym, ap, ◌∙◌, ⊎_elim, eq-or-lt_of_le, not-suc-le-zero, arith, length-set, get_or-set_same, get_or-set_other, eq-eqb, lt-ltb, ltb-true}
use Rattle.rules_walks.proofs.laws.Pick.{tri}
use Rattle.rules_walks.proofs.laws.Count.{count_none, count_past, count_within}
use Rattle.rules_tables.specs.Frame.{kind_at, frames_of}
use Rattle.rules_walks.specs.All.{all_to}
use Rattle.rules_walks.proofs.laws.All.{all_at, all_intro}
use Rattle.rules_tables.specs.Form.{form_ok}
use Rattle.rules_tables.proofs.laws.Formed.{formed}
use Rattle.rules_tables.specs.Place.{Starts, order_at, count_to, below_to, count_of, start_of, place}
use Rattle.rules_tables.proofs.laws.Places.{kind_hit, kind_miss, below_le, below_next, place_start, place_found}
use Rattle.table_frames.specs.Placed.{slot_of, Placed, Nexts, Located}
use Rattle.table_frames.specs.StartsTo.{StartsTo}

module _ (T : List ℕ) where
  below_mono : (k j n : ℕ) → k ≤ j → below_to T k n ≤ below_to T j n
  below_mono k j n l =
      let e : 0 + n ≡ n = omega arith in
      rw e at
      (count_within (λ f. ltb (kind_at T f) k) (λ f. ltb (kind_at T f) j) 0 n
      (λ i h t. let q = ltb-true (kind_at T i) k t in let z : 0 + i ≡ i = omega arith in rw z (lt-ltb (kind_at T i) j (omega arith))))

  -- a frame belongs before the start of the kind after its own
  slot_below : (f k : ℕ) → f < frames_of T → kind_at T f ≡ k → start_of T k + count_to T k f < start_of T (k + 1)
  slot_below f k l e =
      let a = count_past (λ i. eqb (kind_at T i) k) f (frames_of T) l (eq-eqb (kind_at T f) k e) in
      omega (arith, below_next T k (frames_of T))

  pub slot_in : (f k : ℕ) → f < frames_of T → kind_at T f ≡ k → start_of T k + count_to T k f < frames_of T
  slot_in f k l e = omega (arith, slot_below f k l e, below_le T (k + 1) (frames_of T))

  pub id_in : (k id : ℕ) → id < count_of T k → start_of T k + id < frames_of T
  id_in k id l = omega (arith, below_next T k (frames_of T), below_le T (k + 1) (frames_of T))

  -- an earlier frame belongs elsewhere
  slot_apart : (g f : ℕ) → g < f → f < frames_of T → (slot_of T g ≡ slot_of T f → ⊥)
  slot_apart g f l h q = by (kind_at T g) (kind_at T f) refl refl q (tri (kind_at T g) (kind_at T f))
    where
      by : (a b : ℕ) → kind_at T g ≡ a → kind_at T f ≡ b → start_of T a + count_to T a g ≡ start_of T b + count_to T b f → (a < b) ⊎ ((a ≡ b) ⊎ (b < a)) → ⊥
      by a b ea eb w s =
          ⊎_elim (λ lt. omega (arith, slot_below g a (omega arith) ea, below_mono (a + 1) b (frames_of T) (omega arith)))
          (⊎_elim (λ (e : a ≡ b). let c = count_past (λ i. eqb (kind_at T i) b) g f l (eq-eqb (kind_at T g) b (ea ∙ e)) in let w' = rw e at w in omega arith)
          (λ gt. omega (arith, slot_below f b h eb, below_mono (b + 1) a (frames_of T) (omega arith)))) s

  pub placed_none : (p : List ℕ) → Placed T p 0
  placed_none p = record { at = λ g l h. absurd (not-suc-le-zero l) }

  -- one frame more: of a known kind, it is put where it belongs
  pub placed_hit : (p : List ℕ) (f k x : ℕ) → f < frames_of T → frames_of T ≤ length p → k ≡ kind_at T f → x ≡ start_of T k + count_to T k f
      → Placed T p f → Placed T (set p x f) (f + 1)
  placed_hit p f k x l r ek ex w =
      record {
        at = λ g h b. ⊎_elim (λ e. rw e (own)) (λ lt. other g lt b) (eq-or-lt_of_le (let q : g ≤ f = omega arith in q));
      }
    where
      here : x ≡ slot_of T f
      here = rw (← ek) ex

      own : get_or (set p x f) (slot_of T f) 0 ≡ f
      own = rw (← here) (get_or-set_same p x f 0 (let q = slot_in f k l (sym ek) in omega arith))

      other : (g : ℕ) → g < f → kind_at T g < 12 → get_or (set p x f) (slot_of T g) 0 ≡ g
      other g lt b = get_or-set_other p x (slot_of T g) f 0 (λ z. slot_apart g f lt l (z ∙ here)) ∙ w.at g lt b

  -- of another kind, it belongs nowhere
  pub placed_miss : (p : List ℕ) (f k : ℕ) → k ≡ kind_at T f → 12 ≤ k → Placed T p f → Placed T p (f + 1)
  placed_miss p f k ek h w =
      record { at = λ g l b. ⊎_elim (λ e. absurd (let q : kind_at T g ≡ k = ap (kind_at T) e ∙ sym ek in omega arith)) (λ lt. w.at g lt b) (eq-or-lt_of_le (let q : g ≤ f = omega arith in q)) }

  -- an id is looked up at its kind's start
  pub placed_at : (p : List ℕ) (k id : ℕ) → Placed T p (frames_of T) → k < 12 → id < count_of T k → get_or p (start_of T k + id) 0 ≡ place T k id
  placed_at p k id w h l =
      let v = place_found T k id l in
      rw (v.kind, v.nth) at (w.at (place T k id) v.in_table (rw v.kind h))

  pub nexts_none : (at : List ℕ) → Starts T at → Nexts T at 0
  nexts_none at w = record { size = w.size; at = λ k h. w.starts k (omega arith) ∙ let z = count_none (λ f. eqb (kind_at T f) k) in omega arith }

  pub nexts_hit : (s : List ℕ) (f k : ℕ) → k ≡ kind_at T f → k < 12 → Nexts T s f → Nexts T (set s k (get_or s k 0 + 1)) (f + 1)
  nexts_hit s f k ek h w =
      record {
        size = simp length-set w.size;
        at = λ j b.
            ⊎_elim (λ lt. miss j b (λ e. omega arith)) (⊎_elim (λ e. rw e (get_or-set_same s k _ 0 (omega (arith, w.size)) ∙ rw (w.at k h, kind_hit T k f (sym ek)) (omega arith)))
            (λ gt. miss j b (λ e. omega arith))) (tri j k);
      }
    where
      miss : (j : ℕ) → j < 12 → (j ≡ k → ⊥) → get_or (set s k (get_or s k 0 + 1)) j 0 ≡ start_of T j + count_to T j (f + 1)
      miss j b ne = get_or-set_other s k j _ 0 ne ∙ rw (kind_miss T j f (λ e. ne (sym e ∙ sym ek))) (w.at j b)

  pub nexts_miss : (s : List ℕ) (f k : ℕ) → k ≡ kind_at T f → 12 ≤ k → Nexts T s f → Nexts T s (f + 1)
  nexts_miss s f k ek h w = record { size = w.size; at = λ j b. rw (kind_miss T j f (λ e. omega arith)) (w.at j b) }

  -- where all frames have their form the table is in order, and nothing is to be placed
  pub located_none : (p : List ℕ) → length p ≡ 0 → all_to (form_ok T) (frames_of T) ≡ true → Located T p
  located_none p e h =
      record {
        ordered = λ _. all_intro (order_at T) (frames_of T) (λ i l. (formed T i (all_at (form_ok T) (frames_of T) i l h)).order);
        room = λ ne. absurd (ne e);
        placed = λ ne. absurd (ne e);
      }

  pub located_all : (p : List ℕ) → 0 < length p → frames_of T ≤ length p → Placed T p (frames_of T) → Located T p
  located_all p h l w = record { ordered = λ e. absurd (omega arith); room = λ _. l; placed = λ _. w }

  -- frame `id` of kind k, by the starts at hand; n is the kind's number in the code
  module _ (at : List ℕ) (k n id : ℕ) (w : Starts T at) (h : n < 12) (q : n ≡ k) (l : id < count_of T k) where
    start_is : get_or at n 0 ≡ start_of T k
    start_is = rw (← q) (w.starts n (omega arith))

    pub located_in : get_or at n 0 + id < frames_of T
    located_in = rw start_is (id_in k id l)

    pub located_room : (p : List ℕ) → Located T p → (length p ≡ 0 → ⊥) → get_or at n 0 + id < length p
    located_room p v ne = let z = v.room ne in omega (arith, located_in)

    pub located_start : (p : List ℕ) → Located T p → length p ≡ 0 → (get_or at n 0 + id ≡ place T k id) × (get_or at n 0 + id < frames_of T)
    located_start p v e = (rw start_is (sym (place_start T k id (v.ordered e) l)), located_in)

    pub located_put : (p : List ℕ) → Located T p → (length p ≡ 0 → ⊥) → (x : ℕ) → x ≡ get_or p (get_or at n 0 + id) 0 → (x ≡ place T k id) × (x < frames_of T)
    located_put p v ne x e =
        let z : x ≡ place T k id = e ∙ rw start_is (placed_at p k id (v.placed ne) (omega arith) l) in
        (z, rw z (place_found T k id l).in_table)

  -- the starts among all frames are those of the table
  pub starts_whole : (n : ℕ) (at : List ℕ) → n ≡ frames_of T → StartsTo T n at → Starts T at
  starts_whole n at e w = record { size = w.size; starts = λ k h. rw e at (w.starts k h) }
