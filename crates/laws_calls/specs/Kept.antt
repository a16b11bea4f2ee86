-- What a run leaves of its output buffer.
use Rattle.std.specs.Prelude.{◌≡◌, List, ℕ, ◌≤◌, length, get_or}

pub record OutputKept (n : ℕ) (out out' : List ℕ) : Type 0 where
  pub long : length out' ≡ length out
  pub past : (p : ℕ) → n ≤ p → get_or out' p 0 ≡ get_or out p 0
