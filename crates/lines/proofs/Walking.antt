-- `all` of std over a list, in the words of walks.
use mathlib.Core.Path.{◌≡◌, refl, sym, ap, ◌∙◌}
use mathlib.Core.List.{List, [], ◌∷◌}
use mathlib.Core.Bool.{Bool, true, false}
use Prim.Native.Nat.{ℕ, zero, suc}
use lib.ListN.{length, get_or}
use Rattle.std.specs.Prelude.{◌&&◌}
use Rattle.std.specs.List.{list_all}
use Rattle.rules_walks.specs.Pick.{both}
use Rattle.rules_walks.specs.All.{all_to}

right_true : (b : Bool) → b ≡ both b true
right_true true = refl
right_true false = refl

apart : (a b c : Bool) → both (both a b) c ≡ both a (both b c)
apart true b c = refl
apart false b c = refl

begun : (a b c : Bool) → b ≡ c → a && b ≡ both a c
begun true b c e = e
begun false b c e = refl

-- a walk begun at its front
front : (q : ℕ → Bool) (n : ℕ) → all_to q (suc n) ≡ both (q 0) (all_to (λ i. q (suc i)) n)
unfolding all_to
front q zero = right_true (q 0)
front q (suc n) = ap (λ b. both b (q (suc n))) (front q n) ∙ apart (q 0) (all_to (λ i. q (suc i)) n) (q (suc n))

pub all_list : (p : ℕ → Bool) (d : ℕ) (L : List ℕ) → list_all p L ≡ all_to (λ i. p (get_or L i d)) (length L)
unfolding all_to
all_list p d [] = refl
all_list p d (x ∷ L) = begun (p x) _ _ (all_list p d L) ∙ sym (front (λ i. p (get_or (x ∷ L) i d)) (length L))
