-- The running block in the store: what leaves it as it is, and that words which stay need not be written again.
use Rattle.std.specs.Prelude.{◌≡◌, List, ℕ, ◌+◌, set}
use Rattle.std.proofs.Common.{sym, ◌∙◌, arith}
use Rattle.std.proofs.Math.ListN.{get_or}
use Rattle.std.proofs.Math.Seq.{get_or-set_other}
use Rattle.rules_tables.specs.declared.Shape.{Shape}
use Rattle.rules_store.specs.declared.Running.{Running}
use Rattle.rules_store.specs.Running.{stepped, charting, entered}
use Rattle.rules_store.specs.Layout.{element_at, variable_at}
use Rattle.rules_store.specs.Word.{running_of, put_running, untrue, put_untrue, put_chart_state, put_value}
use Rattle.rules_store.proofs.laws.Part.{set_back, same_block}

-- ---- what leaves it: r is the running block before and after
pub chart_runs : (s : List ℕ) (el q : ℕ) {s' : List ℕ} {r : Running} → s' ≡ put_chart_state el q s → r ≡ running_of s → r ≡ running_of s'
unfolding put_chart_state element_at
chart_runs s el q p e = rw p (e ∙ sym (same_block s (set s (element_at el) q) (λ k a b. get_or-set_other s (element_at el) k q 0 (λ z. omega arith))).running)

pub value_runs : (S : Shape) (s : List ℕ) (v x : ℕ) {s' : List ℕ} {r : Running} → s' ≡ put_value S v x s → r ≡ running_of s → r ≡ running_of s'
unfolding put_value variable_at
value_runs S s v x p e = rw p (e ∙ sym (same_block s (set s (variable_at S v) x) (λ k a b. get_or-set_other s (variable_at S v) k x 0 (λ z. omega arith))).running)

pub untrue_runs : (s : List ℕ) (n : ℕ) {s' : List ℕ} {r : Running} → s' ≡ put_untrue n s → r ≡ running_of s → r ≡ running_of s'
unfolding put_untrue
untrue_runs s n p e = rw p (e ∙ sym (same_block s (set s 11 n) (λ k a b. get_or-set_other s 11 k n 0 (λ z. omega arith))).running)

-- ---- a word that stays
pub untrue_stays : (s : List ℕ) → put_untrue (untrue s) s ≡ s
unfolding put_untrue untrue
untrue_stays s = set_back s 11

module _ (s : List ℕ) {r : Running} (read : r ≡ running_of s) where
  pub only_step : set s 7 (r.step + 1) ≡ put_running (stepped r) s
  unfolding put_running running_of
  only_step = rw (read, set_back s 3, set_back s 4, set_back s 5, set_back s 6)

  pub only_mode : set s 4 1 ≡ put_running (charting r) s
  unfolding put_running running_of
  only_mode =
      let kept : (q : ℕ) → (q ≡ 4 → ⊥) → get_or (set s 4 1) q 0 ≡ get_or s q 0 = λ q n. get_or-set_other s 4 q 1 0 n in
      rw (read, set_back s 3, ← kept 5 (λ e. omega arith), set_back (set s 4 1) 5, ← kept 6 (λ e. omega arith), set_back (set s 4 1) 6, ← kept 7 (λ e. omega arith), set_back (set s 4 1) 7)

  pub all_but_birth : (a : ℕ) → set (set (set (set s 4 2) 5 0) 6 a) 7 0 ≡ put_running (entered a r) s
  unfolding put_running running_of
  all_but_birth a = rw (read, set_back s 3)
