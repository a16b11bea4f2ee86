-- What the buffers hold after a frame, a value, a character or a printed line more, over plain variables.
use mathlib.Core.Path.{◌≡◌, refl, sym, ap, ◌∙◌}
use mathlib.Core.List.{List, [], ◌∷◌, ◌++◌, append_assoc}
use mathlib.Core.Logic.{◌⊎◌, inl, inr, ⊎_elim}
use Prim.Native.Nat.{ℕ, ◌+◌, ◌%◌, ◌≤◌, ◌<◌}
use native.Mathlib.Numerals.{add-one}
use native.Mathlib.Omega.{arith}
use lib.ListN.{length, take, drop, set, length-append, length-set}
use lib.Seq.{sets, length-sets, sets-eq, length-take-le, take_all, take_at, take-suc-set, take-append-le, set_out}
use borrow.Author.Tests.{lt-ltb, le-ltb}
use Rattle.rules_walks.proofs.laws.Pick.{tri}
use Rattle.session_dialogue.specs.Standing.{one_more, Tabled, Came}

-- at most, or above
split : (n m : ℕ) → (n ≤ m) ⊎ (m < n)
split n m = ⊎_elim (λ l. inl (omega arith)) (⊎_elim (λ e. inl (omega arith)) inr) (tri n m)

-- the length of a stretch
pub cut_length : (n : ℕ) (l : List ℕ) → ((length l ≤ n) × (length (take n l) ≡ length l)) ⊎ ((n < length l) × (length (take n l) ≡ n))
cut_length n l = ⊎_elim (λ h. inl (h, ap length (take_all n l h))) (λ h. inr (h, length-take-le n l (omega arith))) (split (length l) n)

-- a list up to the end of what was set in it
pub take_put : (l : List ℕ) (i : ℕ) (P : List ℕ) → i + length P ≤ length l → take (i + length P) (sets l i P) ≡ take i l ++ P
take_put l i P h =
    ap (take (i + length P)) (sets-eq P l i h)
    ∙ take_at (take i l ++ P) (drop (i + length P) l) (i + length P)
    (length-append (take i l) P ∙ ap (λ (n : ℕ). n + length P) (length-take-le i l (omega arith)))

pub one_below : (g n : ℕ) → g < n → one_more g n ≡ g + 1
unfolding one_more
one_below g n l = rw (lt-ltb g n l) refl

pub one_full : (g n : ℕ) → n ≤ g → one_more g n ≡ n
unfolding one_more
one_full g n l = rw (le-ltb g n l) refl

-- ---- the table
-- the buffer has the whole table, or both are too long
pub table_cases : (T : List ℕ) (e : ℕ) (t : List ℕ) → Tabled T e t → (take e t ≡ T) ⊎ ((49152 < length T) × (49152 < length (take e t)))
table_cases T e t w = ⊎_elim (λ h. inl (w.held ∙ take_all 49164 T h)) (λ h. inr (omega arith, long h)) (split (length T) 49164)
  where
    long : 49164 < length T → 49152 < length (take e t)
    long h = let a = ap length w.held in let b = length-take-le 49164 T (omega arith) in omega arith

module _ (T : List ℕ) (e : ℕ) (t F : List ℕ) (w : Tabled T e t) (f : length F ≡ 12) where
  whole_more : length (T ++ F) % 12 ≡ 0
  whole_more = let a = length-append T F in let b = w.frames_whole in omega arith

  -- no room for the frame: the table is too long already
  full_length : length t < e + 12 → 49164 ≤ length T
  full_length l =
      let a = w.size in let b = w.frames_whole in let c = w.end_is in
      ⊎_elim (λ h. let d = h.1 in omega arith) (λ h. let d = h.0 in omega arith) (cut_length 49164 T)

  pub frame_dropped : length t < e + 12 → Tabled (T ++ F) e t
  frame_dropped l =
      let same = take-append-le 49164 T F (full_length l) in
      record { size = w.size; frames_whole = whole_more; end_is = w.end_is ∙ ap length (sym same); held = w.held ∙ sym same }

  -- room for it: the buffer has the whole table
  module _ (l : e + 12 ≤ length t) where
    short : length T ≤ 49152
    short =
        let a = w.size in let b = w.end_is in
        ⊎_elim (λ h. let d = h.1 in omega arith) (λ h. let d = h.1 in omega arith) (cut_length 49164 T)

    at_end : e ≡ length T
    at_end = w.end_is ∙ ap length (take_all 49164 T (let h = short in omega arith))

    grown : take 49164 (T ++ F) ≡ T ++ F
    grown = take_all 49164 (T ++ F) (let a = length-append T F in let h = short in omega arith)

    pub frame_kept : (t' : List ℕ) → t' ≡ sets t e F → Tabled (T ++ F) (e + 12) t'
    frame_kept t' u =
        record {
          size = ap length u ∙ length-sets t e F ∙ w.size;
          frames_whole = whole_more;
          end_is = (let a = length-append T F in let b = at_end in let c : e + 12 ≡ length (T ++ F) = omega arith in c) ∙ ap length (sym grown);
          held = ap (take (e + 12)) u ∙ ap (λ (n : ℕ). take (e + n) (sets t e F)) (sym f) ∙ take_put t e F (omega arith)
              ∙ ap (λ (X : List ℕ). X ++ F) (w.held ∙ take_all 49164 T (let h = short in omega arith)) ∙ sym grown;
        }

-- ---- the values of an arrival
pub came_none : (n : ℕ) (W : List ℕ) → n ≤ 255 → 255 ≤ length W → Came [] n 0 W
came_none n W l m = record { count = refl; held = refl; most = omega arith; few = l; room = m }

pub came_more : (vs W : List ℕ) (n g v : ℕ) → Came vs n g W → g < n → Came (vs ++ (v ∷ [])) n (one_more g n) (set W g v)
came_more vs W n g v w l =
    let a = length-append vs (v ∷ []) in
    let b = w.count in
    let k = w.few in
    let m = w.room in
    let e : one_more g n ≡ g + 1 = one_below g n l in
    record {
      count = e ∙ (let c : g + 1 ≡ length (vs ++ (v ∷ [])) = omega arith in c);
      held = ap (λ (i : ℕ). take i (set W g v)) (e ∙ add-one g) ∙ take-suc-set W g v (omega arith) ∙ ap (λ (X : List ℕ). X ++ (v ∷ [])) w.held;
      most = omega arith;
      few = k;
      room = let c = length-set W g v in omega arith;
    }

-- ---- the characters of a line, of which 25 go in
module _ (L line : List ℕ) (k b : ℕ) (size : length line ≡ 25) (end : k ≡ length (take 25 L)) (held : take k line ≡ take 25 L) where
  after_short : length L < 25 → (k ≡ length L) × (take 25 (L ++ (b ∷ [])) ≡ L ++ (b ∷ []))
  after_short h =
      let a = length-append L (b ∷ []) in
      (end ∙ ap length (take_all 25 L (omega arith)), take_all 25 (L ++ (b ∷ [])) (omega arith))

  after_long : 25 ≤ length L → (k ≡ 25) × (take 25 (L ++ (b ∷ [])) ≡ take 25 L)
  after_long h = (end ∙ length-take-le 25 L h, take-append-le 25 L (b ∷ []) h)

  pub character_end : one_more k (length line) ≡ length (take 25 (L ++ (b ∷ [])))
  character_end = ⊎_elim below (λ h. above (omega arith)) (split (length L) 24)
    where
      below : length L ≤ 24 → one_more k (length line) ≡ length (take 25 (L ++ (b ∷ [])))
      below h =
          let p = after_short (omega arith) in
          let q = p.0 in
          let a = length-append L (b ∷ []) in
          one_below k (length line) (omega arith) ∙ (let c : k + 1 ≡ length (L ++ (b ∷ [])) = omega arith in c) ∙ ap length (sym p.1)

      above : 25 ≤ length L → one_more k (length line) ≡ length (take 25 (L ++ (b ∷ [])))
      above h =
          let p = after_long h in
          let q = p.0 in
          one_full k (length line) (omega arith) ∙ size ∙ sym (length-take-le 25 L h) ∙ ap length (sym p.1)

  pub character_held : take (one_more k (length line)) (set line k b) ≡ take 25 (L ++ (b ∷ []))
  character_held = ⊎_elim below (λ h. above (omega arith)) (split (length L) 24)
    where
      below : length L ≤ 24 → take (one_more k (length line)) (set line k b) ≡ take 25 (L ++ (b ∷ []))
      below h =
          let p = after_short (omega arith) in
          let q = p.0 in
          ap (λ (n : ℕ). take n (set line k b)) (one_below k (length line) (omega arith) ∙ add-one k)
          ∙ take-suc-set line k b (omega arith)
          ∙ ap (λ (X : List ℕ). X ++ (b ∷ [])) (held ∙ take_all 25 L (omega arith)) ∙ sym p.1

      above : 25 ≤ length L → take (one_more k (length line)) (set line k b) ≡ take 25 (L ++ (b ∷ []))
      above h =
          let p = after_long h in
          let q = p.0 in
          ap (λ (n : ℕ). take n (set line k b)) (one_full k (length line) (omega arith) ∙ size ∙ sym q)
          ∙ ap (take k) (set_out line k b (omega arith)) ∙ held ∙ sym p.1

-- no character came, or some did
module _ (L : List ℕ) (k : ℕ) (end : k ≡ length (take 25 L)) where
  pub none_came : k ≡ 0 → length L ≡ 0
  none_came z = ⊎_elim (λ h. let d = h.1 in omega arith) (λ h. let d = h.1 in omega arith) (cut_length 25 L)

  pub some_came : (k ≡ 0 → ⊥) → length L ≡ 0 → ⊥
  some_came n z = n (end ∙ ap length (take_all 25 L (omega arith)) ∙ z)

-- ---- the text
pub text_grows : (A out text text' P : List ℕ) (at r : ℕ) → A ≡ out ++ take at text → r ≡ at + length P → text' ≡ sets text at P → at + length P ≤ length text → A ++ P ≡ out ++ take r text'
text_grows A out text text' P at r e p u l =
    ap (λ (X : List ℕ). X ++ P) e ∙ append_assoc out (take at text) P
    ∙ ap (λ (X : List ℕ). out ++ X) (sym (take_put text at P l) ∙ (λ i. take (sym p i) (sym u i)))
