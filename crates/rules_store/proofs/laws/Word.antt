-- Laws of the words: what a writer leaves to the readers of other words. A change of the layout is felt here and nowhere above.
use Rattle.std.specs.Prelude.{◌≡◌, List, ℕ, ◌+◌, ◌≤◌, ◌<◌, min, eqb, ltb, set}
use Rattle.std.proofs.Math.Path.{sym}
use Rattle.std.proofs.Common.{◌∙◌, eqb-true, ltb-true, ltb-false}
use native.Mathlib.Omega.{arith}
use Rattle.std.proofs.Math.Logic.{⊎_elim}
use Rattle.std.proofs.Math.ListN.{length, get_or, get_or-eq_default}
use Rattle.std.proofs.Math.Seq.{set_comm, set_out, get_or-set_same, get_or-set_other}
use Rattle.std.proofs.lemmas.Bool.{eqb-false}
use Rattle.rules_walks.specs.Pick.{pick}
use Rattle.rules_walks.proofs.laws.Pick.{tri, by_test}
use Rattle.rules_tables.specs.declared.Shape.{Shape}
use Rattle.rules_tables.specs.Ids.{inputs}
use Rattle.rules_store.specs.Layout.{input_at, variable_at}
use Rattle.rules_store.specs.Word.{count_end, counted, put_overwritten, put_input, value, put_value, buffer, put_buffer}

-- ---- a count never falls; it is the sum, up to its end
pub counted_grows : (w n : ℕ) → n ≤ counted w n
unfolding counted
counted_grows w n =
    by_test (λ (m : ℕ). n ≤ m) (eqb w 0) n (pick (ltb n count_end) (n + 1) n) (λ _. omega arith)
    (λ _. by_test (λ (m : ℕ). n ≤ m) (ltb n count_end) (n + 1) n (λ _. omega arith) (λ _. omega arith))

pub counted_adds : (w n : ℕ) → w ≤ 1 → n ≤ count_end → counted w n ≡ min (n + w) count_end
unfolding counted
counted_adds w n few low =
    by_test (λ (m : ℕ). m ≡ min (n + w) count_end) (eqb w 0) n (pick (ltb n count_end) (n + 1) n) (λ e. let z = eqb-true w 0 e in omega arith)
    (λ e.
    let z = eqb-false w 0 e in
    let one : w ≡ 1 = omega arith in
    by_test (λ (m : ℕ). m ≡ min (n + w) count_end) (ltb n count_end) (n + 1) n (λ h. let l = ltb-true n count_end h in omega arith)
    (λ h. let l = ltb-false n count_end h in omega arith))

-- the words of the variables lie past all others
module _ (S : Shape) (p : ℕ) (past : variable_at S 0 ≤ p) where
  past_put_overwritten : (s : List ℕ) (n : ℕ) → get_or (put_overwritten n s) p 0 ≡ get_or s p 0
  unfolding put_overwritten variable_at
  past_put_overwritten s n = get_or-set_other s 8 p n 0 (λ e. omega arith)

  past_put_input : (s : List ℕ) (i flag birth last : ℕ) → i < inputs S → get_or (put_input S i flag birth last s) p 0 ≡ get_or s p 0
  unfolding put_input input_at variable_at
  past_put_input s i flag birth last l =
      get_or-set_other (set (set s (input_at S i) flag) (input_at S i + 1) birth) (input_at S i + 2) p last 0 (λ e. omega arith)
      ∙ get_or-set_other (set s (input_at S i) flag) (input_at S i + 1) p birth 0 (λ e. omega arith)
      ∙ get_or-set_other s (input_at S i) p flag 0 (λ e. omega arith)

module _ (S : Shape) where
  value_past : (v : ℕ) → variable_at S 0 ≤ variable_at S v
  unfolding variable_at
  value_past v = omega arith

  buffer_past : (v : ℕ) → variable_at S 0 ≤ variable_at S v + 1
  unfolding variable_at
  buffer_past v = omega arith

  -- ---- the buffer of a variable
  pub buffer_put_buffer : (s : List ℕ) (v u x : ℕ) → (u ≡ v → ⊥) → buffer S (put_buffer S v x s) u ≡ buffer S s u
  unfolding buffer put_buffer variable_at
  buffer_put_buffer s v u x h = get_or-set_other s (variable_at S v + 1) (variable_at S u + 1) x 0 (λ e. h (omega arith))

  pub buffer_put_overwritten : (s : List ℕ) (n u : ℕ) → buffer S (put_overwritten n s) u ≡ buffer S s u
  unfolding buffer
  buffer_put_overwritten s n u = past_put_overwritten S (variable_at S u + 1) (buffer_past u) s n

  pub buffer_put_input : (s : List ℕ) (i flag birth last u : ℕ) → i < inputs S → buffer S (put_input S i flag birth last s) u ≡ buffer S s u
  unfolding buffer
  buffer_put_input s i flag birth last u l = past_put_input S (variable_at S u + 1) (buffer_past u) s i flag birth last l

  pub buffer_put_value : (s : List ℕ) (v u x : ℕ) → buffer S (put_value S v x s) u ≡ buffer S s u
  unfolding buffer put_value variable_at
  buffer_put_value s v u x = get_or-set_other s (variable_at S v) (variable_at S u + 1) x 0 (λ e. omega arith)

  -- ---- the value of a variable
  pub value_put_buffer : (s : List ℕ) (v u x : ℕ) → value S (put_buffer S v x s) u ≡ value S s u
  unfolding value put_buffer variable_at
  value_put_buffer s v u x = get_or-set_other s (variable_at S v + 1) (variable_at S u) x 0 (λ e. omega arith)

  pub value_put_overwritten : (s : List ℕ) (n u : ℕ) → value S (put_overwritten n s) u ≡ value S s u
  unfolding value
  value_put_overwritten s n u = past_put_overwritten S (variable_at S u) (value_past u) s n

  pub value_put_input : (s : List ℕ) (i flag birth last u : ℕ) → i < inputs S → value S (put_input S i flag birth last s) u ≡ value S s u
  unfolding value
  value_put_input s i flag birth last u l = past_put_input S (variable_at S u) (value_past u) s i flag birth last l

  pub value_put_value : (s : List ℕ) (v u x : ℕ) → (u ≡ v → ⊥) → value S (put_value S v x s) u ≡ value S s u
  unfolding value put_value variable_at
  value_put_value s v u x h = get_or-set_other s (variable_at S v) (variable_at S u) x 0 (λ e. h (omega arith))

  pub put_value_swap : (s : List ℕ) (v u x y : ℕ) → (v ≡ u → ⊥) → put_value S u y (put_value S v x s) ≡ put_value S v x (put_value S u y s)
  unfolding put_value variable_at
  put_value_swap s v u x y h = set_comm s (variable_at S v) (variable_at S u) x y (λ e. h (omega arith))

  -- a variable that gets value from buffer has it, also where the store is too short for both
  pub value_sampled : (s : List ℕ) (v : ℕ) → value S (put_value S v (buffer S s v) s) v ≡ buffer S s v
  unfolding value put_value buffer
  value_sampled s v =
      ⊎_elim (λ l. get_or-set_same s (variable_at S v) (get_or s (variable_at S v + 1) 0) 0 l)
      (λ w. past (⊎_elim (λ e. omega arith) (λ g. omega arith) w)) (tri (variable_at S v) (length s))
    where
      past : length s ≤ variable_at S v → get_or (set s (variable_at S v) (get_or s (variable_at S v + 1) 0)) (variable_at S v) 0 ≡ get_or s (variable_at S v + 1) 0
      past l =
          rw (set_out s (variable_at S v) (get_or s (variable_at S v + 1) 0) l)
          (get_or-eq_default s 0 {n = variable_at S v} l ∙ sym (get_or-eq_default s 0 {n = variable_at S v + 1} (omega arith)))
