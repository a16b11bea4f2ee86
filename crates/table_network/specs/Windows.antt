-- Rules over keys, looked at window by window, where all keys at once would need too large a set.
use Rattle.std.specs.Prelude.{Bool, ℕ, ◌+◌, ltb, leb}
use Rattle.rules_walks.specs.Pick.{either}

-- the rule p at frame f, if the key of f is one of the so many from b on
unfoldable pub in_window : (p : ℕ → Bool) (key : ℕ → ℕ) (b size f : ℕ) → Bool
in_window p key b size f = either (ltb (key f) b) (either (leb (b + size) (key f)) (p f))

-- if it is below b
unfoldable pub under_key : (p : ℕ → Bool) (key : ℕ → ℕ) (b f : ℕ) → Bool
under_key p key b f = either (leb b (key f)) (p f)
