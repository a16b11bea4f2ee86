-- The frames of a trace printed one after another, over plain variables.
use mathlib.Core.Path.{◌≡◌, refl, sym, ap, ◌∙◌}
use mathlib.Core.List.{List, ◌++◌, append_assoc, append-nil}
use Prim.Native.Nat.{ℕ, zero, suc, ◌+◌, ◌*◌, ◌-◌, ◌/◌, ◌≤◌, ◌<◌}
use native.Mathlib.Numerals.{add-one}
use native.Mathlib.Omega.{arith}
use lib.ListN.{length, take, drop, length-append, length-drop}
use lib.Seq.{sets, drop-drop, length-take-le}
use Rattle.rules_numbers.proofs.laws.Sets.{and_then_lem}
use Rattle.rules_sessions.specs.Text.{line_of}
use Rattle.rules_sessions.proofs.laws.Text.{line_length}
use Rattle.rules_shows.specs.Lines.{frame_lines, bytes_lines}

-- frame k of the bytes
abbrev frame_in : List ℕ → ℕ → List ℕ
frame_in B k = take 12 (drop (12 * k) B)

lines_suc : (B : List ℕ) (n : ℕ) → frame_lines B (suc n) ≡ frame_lines B n ++ line_of (frame_in B n)
unfolding frame_lines
lines_suc B zero = append-nil (line_of (take 12 B))
lines_suc B (suc n) =
    let e : 12 + 12 * n ≡ 12 * suc n = omega arith in
    let f : drop (12 * n) (drop 12 B) ≡ drop (12 * suc n) B = drop-drop (12 * n) 12 B ∙ ap (λ (m : ℕ). drop m B) e in
    ap (λ (l : List ℕ). line_of (take 12 B) ++ l) (lines_suc (drop 12 B) n ∙ ap (λ (l : List ℕ). frame_lines (drop 12 B) n ++ line_of (take 12 l)) f)
    ∙ sym (append_assoc (line_of (take 12 B)) (frame_lines (drop 12 B) n) (line_of (frame_in B (suc n))))

-- the lines of the first k frames are printed, up to p
pub record Lined (B text₀ : List ℕ) (at k p : ℕ) (text : List ℕ) : Type 0 where
  pub text_is : text ≡ sets text₀ at (frame_lines B k)
  pub place_is : p ≡ at + length (frame_lines B k)
  pub far : p ≡ at + 25 * k

pub lined_none : (B text : List ℕ) (at : ℕ) → Lined B text at 0 at text
unfolding frame_lines
lined_none B text at = record { text_is = refl; place_is = omega arith; far = omega arith }

pub lined_more : (B text₀ text text' : List ℕ) (at k p p' : ℕ) → k < length B / 12 → Lined B text₀ at k p text
    → (text' ≡ sets text p (line_of (take (12 * k + 12 - 12 * k) (drop (12 * k) B)))) × (p' ≡ p + 2 * length (take (12 * k + 12 - 12 * k) (drop (12 * k) B)) + 1)
    → Lined B text₀ at (k + 1) p' text'
lined_more B text₀ text text' at k p p' h w u =
    let one : frame_lines B (k + 1) ≡ frame_lines B k ++ line_of (frame_in B k) = ap (frame_lines B) (add-one k) ∙ lines_suc B k in
    let cut : take (12 * k + 12 - 12 * k) (drop (12 * k) B) ≡ frame_in B k = let e : 12 * k + 12 - 12 * k ≡ 12 = omega arith in ap (λ (n : ℕ). take n (drop (12 * k) B)) e in
    let twelve : length (frame_in B k) ≡ 12 = length-take-le 12 (drop (12 * k) B) (simp length-drop (omega arith)) in
    let place : p' ≡ p + 25 = u.1 ∙ ap (λ (l : List ℕ). p + 2 * length l + 1) cut ∙ let e : p + 2 * length (frame_in B k) + 1 ≡ p + 25 = omega arith in e in
    let long : length (frame_lines B (k + 1)) ≡ length (frame_lines B k) + 25 = ap length one ∙ length-append (frame_lines B k) (line_of (frame_in B k)) ∙ ap (λ (n : ℕ). length (frame_lines B k) + n) (line_length (frame_in B k) ∙ let e : 2 * length (frame_in B k) + 1 ≡ 25 = omega arith in e) in
    let a = w.place_is in
    let b = w.far in
    record {
      text_is =
          and_then_lem text₀ at p (frame_lines B k) (line_of (frame_in B k)) w.place_is w.text_is (u.0 ∙ ap (λ (l : List ℕ). sets text p (line_of l)) cut)
          ∙ ap (sets text₀ at) (sym one);
      place_is = omega arith;
      far = omega arith;
    }

pub lined_all : (B text₀ text : List ℕ) (at k n p : ℕ) → n ≡ length B / 12 → k ≤ n → n ≤ k → Lined B text₀ at k p text
    → (text ≡ sets text₀ at (bytes_lines B)) × (p ≡ at + length (bytes_lines B)) × (p ≡ at + 25 * (length B / 12))
unfolding bytes_lines
lined_all B text₀ text at k n p e l m w =
    let f : k ≡ length B / 12 = omega arith in
    (w.text_is ∙ ap (λ (j : ℕ). sets text₀ at (frame_lines B j)) f, w.place_is ∙ ap (λ (j : ℕ). at + length (frame_lines B j)) f, w.far ∙ ap (λ (j : ℕ). at + 25 * j) f)
