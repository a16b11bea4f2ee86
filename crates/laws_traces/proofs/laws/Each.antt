-- Laws of every frame of a list.
use Rattle.std.specs.Prelude.{List, ◌++◌, ℕ, zero, suc, ◌<◌, length, get_or}
use Rattle.std.proofs.Common.{not-suc-le-zero, arith}
use Rattle.rules_traces.specs.declared.Entry.{Entry}
use Rattle.rules_traces.specs.Gather.{gather}
use Rattle.laws_traces.specs.Each.{Each, none, more, no_entry}

pub each_append : (P : Entry → Type 0) {a b : List Entry} → Each P a → Each P b → Each P (a ++ b)
each_append P none v = v
each_append P (more p u) v = more p (each_append P u v)

pub each_at : (P : Entry → Type 0) {es : List Entry} → Each P es → (k : ℕ) → k < length es → P (get_or es k no_entry)
each_at P none k l = absurd (not-suc-le-zero l)
each_at P (more p u) zero l = p
each_at P (more p u) (suc k) l = each_at P u k (omega arith)

pub each_gather : (P : Entry → Type 0) (f : ℕ → List Entry) (n : ℕ) → ((j : ℕ) → j < n → Each P (f j)) → Each P (gather f n)
unfolding gather
each_gather P f zero h = none
each_gather P f (suc n) h = each_append P (each_gather P f n (λ j l. h j (omega arith))) (h n (omega arith))
