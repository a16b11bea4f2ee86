-- What a line says, over plain variables.
use mathlib.Core.Path.{◌≡◌, refl, sym, ap, ◌∙◌}
use mathlib.Core.List.{List, [], ◌∷◌, ◌++◌}
use mathlib.Core.Bool.{true, false}
use mathlib.Core.Logic.{⊎_elim}
use Prim.Native.Nat.{ℕ, zero, suc, ◌+◌, ◌*◌, ◌-◌, ◌≤◌, ◌<◌}
use native.Mathlib.Numerals.{add-one}
use native.Mathlib.Omega.{arith}
use lib.Dec.{leb}
use lib.ListN.{length, get_or, set, length-append}
use lib.Seq.{sets}
use borrow.Author.Tests.{le-leb, lt-leb, leb-true}
use Rattle.rules_walks.proofs.laws.Pick.{both_true, both_false, either_false, clash, tri}
use Rattle.numbers.specs.Bounded.{Bounded}
use Rattle.rules_numbers.proofs.laws.Sets.{and_then_lem}
use Rattle.rules_sessions.specs.Line.{is_digit, digit_value, byte_of, bytes_to}

-- ---- a digit
module _ (c : ℕ) where
  pub digit_low : c ≤ 57 → leb 48 c ≡ is_digit c
  unfolding is_digit
  digit_low h = rw (le-leb c 57 h, lt-leb 65 c (omega arith), both_true (leb 48 c), either_false (leb 48 c))

  pub digit_between : 57 < c → c < 65 → false ≡ is_digit c
  unfolding is_digit
  digit_between h k = rw (lt-leb c 57 h, both_false (leb 48 c), lt-leb 65 c k)

  pub digit_high : 57 < c → 65 ≤ c → leb c 70 ≡ is_digit c
  unfolding is_digit
  digit_high h k = rw (lt-leb c 57 h, both_false (leb 48 c), le-leb 65 c k)

  module _ (e : is_digit c ≡ true) where
    pub low_from : c ≤ 57 → 48 ≤ c
    low_from h = leb-true 48 c (digit_low h ∙ e)

    pub high_from : 57 < c → 65 ≤ c
    high_from h = ⊎_elim (λ l. clash (digit_between h l ∙ e)) (⊎_elim (λ q. omega arith) (λ l. omega arith)) (tri c 65)

    pub high_to : 57 < c → c ≤ 70
    high_to h = leb-true c 70 (digit_high h (high_from h) ∙ e)

    -- what it counts, from its number in the character set
    pub low_value : {w : ℕ} → w ≡ c - 48 → c ≤ 57 → Bounded 16 (digit_value c) w
    unfolding digit_value
    low_value e h = let f = low_from h in record { is = rw (le-leb c 57 h) e; small = omega arith }

    pub high_value : {w : ℕ} → w ≡ c - 65 → 57 < c → Bounded 16 (digit_value c) (w + 10)
    unfolding digit_value
    high_value e h = let f = high_to h in let g = high_from h in record { is = rw (lt-leb c 57 h) (omega arith); small = omega arith }

-- ---- the frame of a line
module _ (L : List ℕ) where
  pub bytes_length : (n : ℕ) → length (bytes_to L n) ≡ n
  unfolding bytes_to
  bytes_length zero = refl
  bytes_length (suc n) = simp length-append (omega (arith, bytes_length n))

  bytes_next : (n : ℕ) → bytes_to L (n + 1) ≡ bytes_to L n ++ (byte_of L n ∷ [])
  unfolding bytes_to
  bytes_next n = rw (add-one n) refl

  -- its frame, byte by byte
  pub frame_none : (t : List ℕ) (at : ℕ) → t ≡ sets t at (bytes_to L 0)
  unfolding bytes_to
  frame_none t at = refl

  pub frame_more : (t₀ t t' : List ℕ) (at k : ℕ) {x : ℕ} → t ≡ sets t₀ at (bytes_to L k) → x ≡ byte_of L k → t' ≡ set t (at + k) x → t' ≡ sets t₀ at (bytes_to L (k + 1))
  frame_more t₀ t t' at k {x} p e q =
      let g : bytes_to L k ++ (x ∷ []) ≡ bytes_to L (k + 1) = ap (λ (y : ℕ). bytes_to L k ++ (y ∷ [])) e ∙ sym (bytes_next k) in
      and_then_lem t₀ at (at + k) (bytes_to L k) (x ∷ []) (ap (λ (n : ℕ). at + n) (sym (bytes_length k))) p q ∙ ap (sets t₀ at) g

pub byte_value : (L : List ℕ) (k : ℕ) {a b h l : ℕ} → a ≡ get_or L (2 * k) 48 → Bounded 16 (digit_value a) h → b ≡ get_or L (2 * k + 1) 48 → Bounded 16 (digit_value b) l → h * 16 + l ≡ byte_of L k
unfolding byte_of
byte_value L k p u q v = rw (← p, ← q, u.is, v.is)
