-- Bytes printed as digits, over plain variables.
use mathlib.Core.Path.{◌≡◌, refl, sym, ap, ◌∙◌}
use mathlib.Core.List.{List, [], ◌∷◌}
use Prim.Native.Nat.{ℕ, ◌+◌, ◌*◌, ◌<◌}
use native.Mathlib.Omega.{arith}
use lib.ListN.{length, get_or, set, take, length-take}
use lib.Seq.{sets}
use Rattle.rules_numbers.proofs.laws.Sets.{and_then_lem}
use Rattle.rules_sessions.specs.Text.{pair, digits, line_of}
use Rattle.rules_sessions.proofs.laws.Text.{digits_length, digits_more}

pub digits_none : (B t : List ℕ) (at : ℕ) → t ≡ sets t at (digits (take 0 B))
unfolding digits
digits_none B t at = refl

-- one byte more
pub pair_more : (B t₀ t t' : List ℕ) (at i p : ℕ) → i < length B → p ≡ at + 2 * i → t ≡ sets t₀ at (digits (take i B)) → t' ≡ sets t p (pair (get_or B i 0)) → t' ≡ sets t₀ at (digits (take (i + 1) B))
pair_more B t₀ t t' at i p h e q u =
    and_then_lem t₀ at p (digits (take i B)) (pair (get_or B i 0)) (e ∙ ap (λ (n : ℕ). at + n) (sym (digits_length (take i B) ∙ short))) q u
    ∙ ap (sets t₀ at) (sym (digits_more B i h))
  where
    short : 2 * length (take i B) ≡ 2 * i
    short = simp length-take (omega arith)

-- and the end of the line
pub line_ended : (B t₀ t t' : List ℕ) (at p : ℕ) → t ≡ sets t₀ at (digits B) → p ≡ at + 2 * length B → t' ≡ set t p 10 → t' ≡ sets t₀ at (line_of B)
unfolding line_of
line_ended B t₀ t t' at p q e u = and_then_lem t₀ at p (digits B) (10 ∷ []) (e ∙ ap (λ (n : ℕ). at + n) (sym (digits_length B))) q u
