-- Load touches no word past the need: "Words past the need are never touched." It needs nothing of the table.
use Rattle.std.specs.Prelude.{◌≡◌, List, ℕ, ◌≤◌, ◌<◌, eqb, length, get_or, set}
use Rattle.rules_walks.proofs.laws.Choose.{by_choose}
use Rattle.rules_walks.specs.Walk.{up_to}
use Rattle.rules_walks.proofs.laws.Walk.{up_to_keeps}
use Rattle.rules_tables.specs.Frame.{flag_at, field_at}
use Rattle.rules_tables.specs.declared.Shape.{Shape}
use Rattle.rules_tables.specs.Ids.{elements, variables, variable_frame}
use Rattle.rules_store.specs.Layout.{need}
use Rattle.rules_store.specs.Word.{put_chart_state, put_value, put_buffer}
use Rattle.rules_store.specs.Kept.{Kept}
use Rattle.rules_store.proofs.laws.Kept.{kept_all, kept_set, chart_state_kept, value_kept, buffer_kept}
use Rattle.rules_store.specs.Load.{zeroes, initial, start_value, start, loaded}

module _ (T : List ℕ) (S : Shape) (s : List ℕ) where
  initial_kept : (el : ℕ) → el < elements S → (x : List ℕ) → Kept (need S) s x → Kept (need S) s (initial T el x)
  unfolding initial
  initial_kept el l x w =
      by_choose (Kept (need S) s) (eqb (flag_at T el) 0) (put_chart_state el (field_at T el 1) x) x (λ _. chart_state_kept S s x el (field_at T el 1) l w) (λ _. w)

  start_kept : (v : ℕ) → v < variables S → (x : List ℕ) → Kept (need S) s x → Kept (need S) s (start T S v x)
  unfolding start
  start_kept v l x w =
      let y = put_value S v (start_value T S v) x in
      let h = value_kept S s x v (start_value T S v) l w in
      by_choose (Kept (need S) s) (eqb (flag_at T (variable_frame S v)) 0) (put_buffer S v (start_value T S v) y) y
      (λ _. buffer_kept S s y v (start_value T S v) l h) (λ _. h)

  zeroes_kept : Kept (need S) s (zeroes (need S) s)
  zeroes_kept = up_to_keeps (Kept (need S) s) (λ (k : ℕ) (x : List ℕ). set x k 0) (need S) s (λ j l x w. kept_set (need S) s x j 0 l w) (kept_all (need S) s)

  pub loaded_kept : Kept (need S) s (loaded T S s)
  unfolding loaded
  loaded_kept =
      up_to_keeps (Kept (need S) s) (start T S) (variables S) (up_to (initial T) (elements S) (zeroes (need S) s)) start_kept
      (up_to_keeps (Kept (need S) s) (initial T) (elements S) (zeroes (need S) s) initial_kept zeroes_kept)

  pub loaded_past : (k : ℕ) → need S ≤ k → get_or (loaded T S s) k 0 ≡ get_or s k 0
  loaded_past = loaded_kept.past

  pub loaded_length : length (loaded T S s) ≡ length s
  loaded_length = loaded_kept.long
