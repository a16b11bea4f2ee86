-- A change that touches words below a bound alone.
use Rattle.std.specs.Prelude.{◌≡◌, List, ℕ, ◌≤◌, length, get_or}

-- s' has the length of s, and its words from n on
pub record Kept (n : ℕ) (s s' : List ℕ) : Type 0 where
  pub long : length s' ≡ length s
  pub past : (k : ℕ) → n ≤ k → get_or s' k 0 ≡ get_or s k 0
