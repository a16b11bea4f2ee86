-- An answer's frame, written part by part and printed, over plain variables.
use mathlib.Core.Path.{◌≡◌, refl, ap, ◌∙◌}
use mathlib.Core.List.{List}
use Prim.Native.Nat.{ℕ, ◌+◌, ◌*◌, ◌%◌}
use native.Mathlib.Omega.{arith}
use lib.ListN.{length, set, replicate}
use lib.Seq.{sets}
use Rattle.rules_numbers.specs.Bytes.{half_bytes, word_bytes}
use Rattle.rules_sessions.specs.AnswerLine.{answer_frame}
use Rattle.rules_sessions.specs.Text.{line_of}

module _ (number frame moves stop bytes : ℕ) where
  pub frame_told : (l₁ l₂ l₃ l₄ : List ℕ) → l₁ ≡ sets (set (set (replicate 12 0) 0 192) 1 (number % 256)) 2 (half_bytes (frame % 65536)) → l₂ ≡ sets l₁ 4 (word_bytes moves)
      → l₃ ≡ sets l₂ 8 (half_bytes (stop % 65536)) → l₄ ≡ sets l₃ 10 (half_bytes (bytes % 65536)) → l₄ ≡ answer_frame number frame moves stop bytes
  unfolding answer_frame word_bytes half_bytes
  frame_told l₁ l₂ l₃ l₄ p q r s = s ∙ rw (r, q, p)

  answer_length : length (answer_frame number frame moves stop bytes) ≡ 12
  unfolding answer_frame word_bytes half_bytes
  answer_length = refl

  pub numbers_printed : (t t' f : List ℕ) (at r : ℕ) → f ≡ answer_frame number frame moves stop bytes → (t' ≡ sets t at (line_of f)) × (r ≡ at + 2 * length f + 1)
      → (t' ≡ sets t at (line_of (answer_frame number frame moves stop bytes))) × (r ≡ at + 25)
  numbers_printed t t' f at r e w =
      let g : length f ≡ 12 = ap length e ∙ answer_length in
      let h = w.1 in
      (w.0 ∙ ap (λ (l : List ℕ). sets t at (line_of l)) e, omega arith)
