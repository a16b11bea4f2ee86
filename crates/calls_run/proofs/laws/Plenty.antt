-- Every store of a run can be told of, and no move has more than twenty frames: so a traced run with room for the most that its moves can have is the run
-- without a trace.
use Rattle.std.specs.Prelude.{◌≡◌, refl, List, ℕ, ◌+◌, ◌*◌, ◌≤◌, ◌<◌, length}
use Rattle.std.proofs.Common.{sym, subst, arith}
use Rattle.rules_tables.specs.declared.Shape.{Shape}
use Rattle.rules_tables.specs.Judge.{accepted, judge, shape_of}
use Rattle.rules_tables.proofs.laws.Accepted.{accepted_means}
use Rattle.rules_store.specs.declared.Running.{Running}
use Rattle.rules_store.specs.Word.{now_of, running_of}
use Rattle.rules_store.specs.Formed.{Formed}
use Rattle.rules_moves.specs.declared.Next.{Next}
use Rattle.rules_moves.specs.Next.{next_by, next_of}
use Rattle.rules_calls.specs.Run.{after}
use Rattle.rules_calls.specs.Refusals.{store_refusal}
use Rattle.rules_calls.specs.Public.{RunCall}
use Rattle.rules_calls.specs.Answer.{Answer}
use Rattle.rules_traces.specs.declared.Traced.{Traced}
use Rattle.rules_traces.specs.Entry.{entry_frames}
use Rattle.rules_traces.specs.Trace.{entries_of}
use Rattle.rules_traces.specs.Traceable.{Traceable}
use Rattle.rules_traces.specs.Public.{TracedCall}
use Rattle.rules_traces.proofs.laws.Traceable.{traceable}
use Rattle.laws_log.proofs.laws.Moves.{formed_after as «run_formed»}
use Rattle.laws_calls.proofs.laws.Refusals.{store_formed}
use Rattle.laws_traces.proofs.laws.Same.{traced_bounded}
use Rattle.moves_tell.specs.Telling.{Telling}
use Rattle.moves_tell.proofs.laws.Sizing.{few_bytes}

-- ---- each store of the run is well formed
formed_after : (T : List ℕ) (S : Shape) (time n : ℕ) (s₀ : List ℕ) → Traceable T S → Formed T S s₀ → time ≡ now_of s₀ → Formed T S (after T S time n s₀)
formed_after T S time n s₀ k f e = rw e («run_formed» T S k.is_lawful n s₀ f)

pub telling : (T : List ℕ) (S : Shape) (time n : ℕ) (s₀ s : List ℕ) {r : Running} {next : Next} → Traceable T S → Formed T S s₀ → time ≡ now_of s₀ → time < 2147483648 → s ≡ after T S time n s₀
    → r ≡ running_of s → next ≡ next_by T S r s → Telling T S time r next s
telling T S time n s₀ s k f e l q r-is n-is =
    record { traceable = k; formed = subst (Formed T S) (sym q) (formed_after T S time n s₀ k f e); running_is = r-is; next_is = n-is; in_time = l }

-- ---- the most
each_few : (T s : List ℕ) → judge T ≡ accepted → store_refusal T (shape_of T) s ≡ 0
    → (i : ℕ) → length (entry_frames (entries_of T (shape_of T) (now_of s) (after T (shape_of T) (now_of s) i s))) ≤ 240
unfolding entries_of next_of
each_few T s sound ready i =
    let S = shape_of T in
    let f = store_formed T S s ready in
    let l = f.parts.in_time in
    let now = after T S (now_of s) i s in
    few_bytes T S (now_of s) (running_of now) (next_of T S now) now (telling T S (now_of s) i s now (traceable T (accepted_means T sound)) f refl (omega arith) refl refl refl)

-- "with enough trace room both agree in answer, store and output": 240 bytes for each move of the budget, and for the one that is asked about after them
pub traced_plenty : (T s : List ℕ) (budget : ℕ) (out tr : List ℕ) (r : Traced) (s' out' tr' : List ℕ) → TracedCall T s budget out tr r s' out' tr'
    → (a : Answer) (s'' out'' : List ℕ) → RunCall T s budget out a s'' out'' → 240 * (budget + 1) ≤ length tr → (r.answer ≡ a) × (s' ≡ s'') × (out' ≡ out'')
traced_plenty T s budget out tr r s' out' tr' c a s'' out'' d = traced_bounded T s budget out tr r s' out' tr' c a s'' out'' d 240 (each_few T s)
