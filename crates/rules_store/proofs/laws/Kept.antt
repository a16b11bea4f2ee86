-- Writers that change words below a bound alone: "Words past the need are never touched."
use Rattle.std.specs.Prelude.{refl, List, ℕ, ◌+◌, ◌<◌, set}
use Rattle.std.proofs.Common.{◌∙◌, arith, length-set, get_or-set_other}
use Rattle.rules_tables.specs.declared.Shape.{Shape}
use Rattle.rules_tables.specs.Ids.{elements, variables}
use Rattle.rules_store.specs.Layout.{need, element_at, variable_at}
use Rattle.rules_store.specs.Word.{put_chart_state, put_value, put_buffer}
use Rattle.rules_store.specs.Kept.{Kept}

pub kept_all : (n : ℕ) (s : List ℕ) → Kept n s s
kept_all n s = record { long = refl; past = λ k h. refl }

-- a word below the bound is written
pub kept_set : (n : ℕ) (s x : List ℕ) (p a : ℕ) → p < n → Kept n s x → Kept n s (set x p a)
kept_set n s x p a l w = record { long = length-set x p a ∙ w.long; past = λ k h. get_or-set_other x p k a 0 (λ e. omega arith) ∙ w.past k h }

module _ (S : Shape) (s x : List ℕ) where
  pub chart_state_kept : (el q : ℕ) → el < elements S → Kept (need S) s x → Kept (need S) s (put_chart_state el q x)
  unfolding put_chart_state element_at need
  chart_state_kept el q l w = kept_set (need S) s x (element_at el) q (omega arith) w

  pub value_kept : (v a : ℕ) → v < variables S → Kept (need S) s x → Kept (need S) s (put_value S v a x)
  unfolding put_value variable_at need
  value_kept v a l w = kept_set (need S) s x (variable_at S v) a (omega arith) w

  pub buffer_kept : (v a : ℕ) → v < variables S → Kept (need S) s x → Kept (need S) s (put_buffer S v a x)
  unfolding put_buffer variable_at need
  buffer_kept v a l w = kept_set (need S) s x (variable_at S v + 1) a (omega arith) w
