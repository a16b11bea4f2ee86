-- Laws of printed lines: how long they are, and how they grow.
use Rattle.std.specs.Prelude.{◌≡◌, refl, List, [], ◌∷◌, ◌++◌, ℕ, ◌+◌, ◌*◌, ◌<◌, length, get_or, take}
use Rattle.std.proofs.Common.{sym, ap, append_assoc, append-nil, add-one, arith, length-append, take-suc}
use Rattle.rules_sessions.specs.Text.{pair, digits, line_of}

pub pair_length : (b : ℕ) → length (pair b) ≡ 2
unfolding pair
pair_length b = refl

pub digits_length : (B : List ℕ) → length (digits B) ≡ 2 * length B
unfolding digits
digits_length [] = refl
digits_length (b ∷ bs) = simp (length-append, pair_length) (omega (arith, digits_length bs))

pub line_length : (B : List ℕ) → length (line_of B) ≡ 2 * length B + 1
unfolding line_of
line_length B = simp (length-append, digits_length) (omega arith)

pub digits_append : (A B : List ℕ) → digits (A ++ B) ≡ digits A ++ digits B
unfolding digits
digits_append [] B = refl
digits_append (a ∷ A) B = rw (digits_append A B) (sym (append_assoc (pair a) (digits A) (digits B)))

-- one byte more
pub digits_more : (B : List ℕ) (i : ℕ) → i < length B → digits (take (i + 1) B) ≡ digits (take i B) ++ pair (get_or B i 0)
unfolding digits
digits_more B i h = rw (add-one i, take-suc B i 0, digits_append) (ap (λ (l : List ℕ). digits (take i B) ++ l) (simp append-nil))
