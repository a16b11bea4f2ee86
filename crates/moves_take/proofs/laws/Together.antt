-- One walk over the associations does what the definitions do in two: each input is sampled, and at once its value is passed on or written.
use Rattle.std.specs.Prelude.{◌≡◌, Bool}
use Rattle.std.proofs.Math.Path.{refl, sym}
use Rattle.std.proofs.Common.{◌∙◌, eq-or-lt_of_le, le_of_suc-le-suc, not-suc-le-zero}
use mathlib.Core.List.{List}
use Rattle.std.proofs.Math.Bool.{true, false}
use Rattle.std.proofs.Math.Logic.{⊎_elim}
use Prim.Native.Nat.{ℕ, zero, suc, ◌<◌}
use native.Mathlib.Omega.{arith}
use Rattle.rules_walks.proofs.laws.Pick.{tri}
use Rattle.rules_walks.specs.Choose.{choose}
use Rattle.rules_walks.proofs.laws.Choose.{choose_true, by_choose}
use Rattle.rules_walks.specs.Walk.{up_to}
use Rattle.rules_walks.proofs.laws.Walk.{up_to_both, up_to_keeps}
use Rattle.rules_walks.specs.First.{Sought, one, missing}
use Rattle.rules_tables.specs.Kind.{of_input}
use Rattle.rules_tables.specs.Frame.{flag_at, field_at}
use Rattle.rules_tables.specs.declared.Shape.{Shape}
use Rattle.rules_tables.specs.Ids.{associations, variable_frame, association_frame}
use Rattle.rules_store.specs.Word.{value, put_value, buffer}
use Rattle.rules_store.proofs.laws.Word.{buffer_put_value, value_put_value, put_value_swap, value_sampled}
use Rattle.rules_tables.specs.Good.{Good}
use Rattle.rules_moves.specs.Partner.{partner_variable}
use Rattle.rules_moves.proofs.laws.Partner.{partner_output_lem}
use Rattle.rules_moves.specs.Carry.{voice, speaks}
use Rattle.rules_moves.proofs.laws.Carry.{of_input_lem, of_event}
use Rattle.rules_moves.specs.Take.{sample, samples, pass_to, pass, passes}

module _ (T : List ℕ) (S : Shape) (i : ℕ) where
  abbrev variable_of : ℕ → ℕ
  variable_of j = field_at T (association_frame S j) 1

  -- ---- an interface's event: sampling an input can change places with passing another
  module _ (g : Good T S) (j k : ℕ) (lj : j < associations S) (lk : k < associations S) (apart : k < j) (x : List ℕ) where
    swapped : (a b : Bool) (q : Sought) → speaks T S (voice of_input i) j ≡ a → speaks T S (voice of_input i) k ≡ b → partner_variable T S (variable_of k) ≡ q
        → choose a (put_value S (variable_of j) (buffer S (choose b (pass_to S q (variable_of k) x) x) (variable_of j)) (choose b (pass_to S q (variable_of k) x) x)) (choose b (pass_to S q (variable_of k) x) x)
        ≡ choose b (pass_to S q (variable_of k) (choose a (put_value S (variable_of j) (buffer S x (variable_of j)) x) x)) (choose a (put_value S (variable_of j) (buffer S x (variable_of j)) x) x)
    unfolding choose pass_to
    swapped true true (one u) ej ek e =
        let once : variable_of k ≡ variable_of j → ⊥ = λ z. let h = g.association_once k j lk lj (of_input_lem T S i k ek ∙ sym (of_input_lem T S i j ej)) (of_event T S i k ek ∙ sym (of_event T S i j ej)) z in omega arith in
        let other : u ≡ variable_of j → ⊥ = λ z. let a = (partner_output_lem T S (variable_of k) u e).1 in let b = g.association_input j lj (of_input_lem T S i j ej) in let c : flag_at T (variable_frame S u) ≡ 0 = rw z b in omega arith in
        rw (buffer_put_value S x u (variable_of j) (value S x (variable_of k)), value_put_value S x (variable_of j) (variable_of k) (buffer S x (variable_of j)) once)
        (put_value_swap S x u (variable_of j) (value S x (variable_of k)) (buffer S x (variable_of j)) other)
    swapped true true missing ej ek e = refl
    swapped true false q ej ek e = refl
    swapped false true q ej ek e = refl
    swapped false false q ej ek e = refl

    swaps : sample T S i j (pass T S i k x) ≡ pass T S i k (sample T S i j x)
    unfolding sample pass
    swaps = swapped (speaks T S (voice of_input i) j) (speaks T S (voice of_input i) k) (partner_variable T S (variable_of k)) refl refl refl

  pub passed_together : Good T S → (s : List ℕ) → up_to (λ (j : ℕ) (x : List ℕ). pass T S i j (sample T S i j x)) (associations S) s ≡ passes T S i (samples T S i s)
  passed_together g s = up_to_both (sample T S i) (pass T S i) (associations S) s (λ j k l m x. swaps g j k l (omega arith) m x)

  -- ---- a sink's event: an input that is sampled keeps that value to the end
  sample_buffer : (k u : ℕ) (x : List ℕ) → buffer S (sample T S i k x) u ≡ buffer S x u
  unfolding sample
  sample_buffer k u x = by_choose (λ (y : List ℕ). buffer S y u ≡ buffer S x u) (speaks T S (voice of_input i) k) _ x (λ _. buffer_put_value S x (variable_of k) u (buffer S x (variable_of k))) (λ _. refl)

  samples_buffer : (n u : ℕ) (s : List ℕ) → buffer S (up_to (sample T S i) n s) u ≡ buffer S s u
  samples_buffer n u s = up_to_keeps (λ (x : List ℕ). buffer S x u ≡ buffer S s u) (sample T S i) n s (λ k _ x h. sample_buffer k u x ∙ h) refl

  gets : (k : ℕ) (x : List ℕ) → speaks T S (voice of_input i) k ≡ true → value S (sample T S i k x) (variable_of k) ≡ buffer S x (variable_of k)
  unfolding sample
  gets k x h = rw (choose_true _ _ _ h) (value_sampled S x (variable_of k))

  put_keeps : (v u : ℕ) (x : List ℕ) → value S x u ≡ buffer S x u → value S (put_value S v (buffer S x v) x) u ≡ buffer S x u
  put_keeps v u x h =
      ⊎_elim (λ l. value_put_value S x v u (buffer S x v) (λ e. omega arith) ∙ h)
      (λ w. ⊎_elim (λ e. rw e (value_sampled S x v)) (λ l. value_put_value S x v u (buffer S x v) (λ e. omega arith) ∙ h) w) (tri u v)

  keeps : (k u : ℕ) (x : List ℕ) → value S x u ≡ buffer S x u → value S (sample T S i k x) u ≡ buffer S x u
  unfolding sample
  keeps k u x h = by_choose (λ (y : List ℕ). value S y u ≡ buffer S x u) (speaks T S (voice of_input i) k) _ x (λ _. put_keeps (variable_of k) u x h) (λ _. h)

  has : (n j : ℕ) (s : List ℕ) → j < n → speaks T S (voice of_input i) j ≡ true → value S (up_to (sample T S i) n s) (variable_of j) ≡ buffer S (up_to (sample T S i) n s) (variable_of j)
  unfolding up_to
  has zero j s l h = absurd (not-suc-le-zero l)
  has (suc n) j s l h =
      ⊎_elim (λ e. gets_at (up_to (sample T S i) n s) e)
      (λ lt. keeps n (variable_of j) (up_to (sample T S i) n s) (has n j s lt h) ∙ sym (sample_buffer n (variable_of j) (up_to (sample T S i) n s)))
      (eq-or-lt_of_le (le_of_suc-le-suc l))
    where
      gets_at : (x : List ℕ) → j ≡ n → value S (sample T S i n x) (variable_of j) ≡ buffer S (sample T S i n x) (variable_of j)
      gets_at x e = rw (← e) (gets j x h ∙ sym (sample_buffer j (variable_of j) x))

  pub sampled_value : (j : ℕ) (s₀ s : List ℕ) {v x : ℕ} → j < associations S → speaks T S (voice of_input i) j ≡ true → s ≡ up_to (sample T S i) j s₀ → v ≡ variable_of j → x ≡ buffer S s v
      → x ≡ value S (samples T S i s₀) v
  sampled_value j s₀ s l h p a e =
      e ∙ rw (p, a) (samples_buffer j (variable_of j) s₀ ∙ sym (samples_buffer (associations S) (variable_of j) s₀) ∙ sym (has (associations S) j s₀ l h))
