-- What a search that code answered means: the answer behind it, and that an action that was found is one of the table's.
-- The parts of an element, and the actions of a state, in table order: the k-th frame of a stretch that belongs to x, and how many come before a frame.
use Rattle.std.specs.Prelude.{◌≡◌, refl, ℕ}
use Rattle.std.proofs.Common.{ap, arith}
use Rattle.std.specs.Prelude.{Bool, true, false, cond, zero, suc, ◌+◌}
use Rattle.std.specs.List.{find, range_with_len}
use Rattle.rules_walks.specs.Choose.{choose}
use Rattle.rules_walks.specs.First.{Sought, one, missing, first_from, first_below}
use Rattle.std.specs.Prelude.{Some, None}
use Rattle.table_parts.specs.Found.{found_of}
use Rattle.std.specs.Prelude.{Option}

pub was_one : (x : Sought) (j : ℕ) → found_of x ≡ Some j → x ≡ one j
was_one (one i) j e = ap one (let q : i ≡ j = cc in q)
was_one missing j e = absurd (let z : ◌≡◌ {A = ℕ} 0 1 = cc in omega arith)

pub was_missing : (x : Sought) → found_of x ≡ None → x ≡ missing
was_missing (one i) e = absurd (let z : ◌≡◌ {A = ℕ} 0 1 = cc in omega arith)
was_missing missing e = refl

-- ---- laws: what the code's answer says of the search
pub found_one : (q : Sought) (r : Option ℕ) (i : ℕ) → r ≡ found_of q → r ≡ Some i → q ≡ one i
found_one (one j) r i e d = let h : j ≡ i = cc in rw h
found_one missing r i e d = absurd (let z : ◌≡◌ {A = ℕ} 0 1 = cc in omega arith)

pub found_missing : (q : Sought) (r : Option ℕ) → r ≡ found_of q → r ≡ None → q ≡ missing
found_missing (one j) r e d = absurd (let z : ◌≡◌ {A = ℕ} 0 1 = cc in omega arith)
found_missing missing r e d = refl

-- ---- what `find` over a range answers
find_turn : (t : Bool) (a : ℕ) {f : Option ℕ} (x : Sought) → f ≡ found_of x → cond t (Some a) f ≡ found_of (choose t (one a) x)
unfolding choose
find_turn true a x e = refl
find_turn false a x e = e

find_from : (p : ℕ → Bool) (a n : ℕ) → find p (range_with_len a n) ≡ found_of (first_from p a n)
unfolding first_from
find_from p a zero = refl
find_from p a (suc n) = find_turn (p a) a _ (find_from p (a + 1) n)

-- `(0..n).find(p)`
pub find_range : (p : ℕ → Bool) (n : ℕ) → find p (range_with_len 0 n) ≡ found_of (first_below p n)
find_range p n = find_from p 0 n
