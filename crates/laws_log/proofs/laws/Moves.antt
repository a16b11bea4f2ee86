-- One move, and any number of them, keep the laws.
use Rattle.std.specs.Prelude.{◌≡◌, refl, List}
use Prim.Native.Nat.{ℕ, zero, suc, ◌<◌}
use Rattle.std.proofs.Common.{arith}
use Rattle.rules_tables.specs.declared.Shape.{Shape}
use Rattle.rules_tables.specs.Ids.{elements}
use Rattle.rules_store.specs.Word.{now_of, running_of}
use Rattle.rules_moves.specs.declared.Next.{Next}
use Rattle.rules_moves.specs.declared.Next.TheVariants.{Take, Change, Idle, Step, End, Back, Nothing}
use Rattle.rules_moves.specs.Next.{next_of, move_by, move}
use Rattle.rules_moves.specs.Chart.{element_of}
use Rattle.rules_moves.specs.Means.{Means}
use Rattle.rules_moves.proofs.laws.Next.{next_means}
use Rattle.rules_calls.specs.Run.{after}
use Rattle.rules_tables.specs.Lawful.{Lawful}
use Rattle.rules_log.specs.Log.{Log, empty, move_log, run_log}
use Rattle.rules_log.specs.Origin.{Begun, as_found}
use Rattle.rules_store.specs.Formed.{Formed}
use Rattle.laws_log.proofs.laws.Holds.{found_holds}
use Rattle.laws_log.specs.Holds.{Holds}
use Rattle.laws_log.specs.Goes.{Goes}
use Rattle.laws_log.proofs.laws.Goes.{goes_start, goes_now}
use Rattle.laws_log.proofs.laws.Taken.{taken_goes}
use Rattle.laws_log.proofs.laws.Blocks.{change_goes, idle_goes, step_goes, end_goes, back_goes}

module _ (T : List ℕ) (S : Shape) (B : Begun) (k : Lawful T S) (s₀ : List ℕ) where
  -- by what comes next
  by_next : (l : Log) (s : List ℕ) → Goes T S B s₀ l s → (t : ℕ) → now_of s ≡ t → (n : Next) → Means T S (running_of s) s n → Goes T S B s₀ (move_log T S t n s l) (move_by T S t n s)
  unfolding move_log move_by
  by_next l s g t n (Take i) m = taken_goes T S B k s₀ l s g t n m.0 i m.1
  by_next l s g t n (Change j) m = change_goes T S B k s₀ l s g t n (λ z. omega (arith, m.0)) j m.1
  by_next l s g t n Idle m = idle_goes T S B k s₀ l s g t n (λ z. omega (arith, m.0))
  by_next l s g t n (Step j) m = step_goes T S B k s₀ l s g t n m.acting.not_idle m.acting.not_charts j m
  by_next l s g t n (End j) m = end_goes T S B k s₀ l s g t n m.acting.not_idle m.acting.not_charts j
  by_next l s g t n Back m = back_goes T S B k s₀ l s g t n m.0.not_idle m.0.not_charts m.1
  by_next l s g t n Nothing m = g

  pub move_goes : (l : Log) (s : List ℕ) → Goes T S B s₀ l s → (t : ℕ) → now_of s ≡ t → Goes T S B s₀ (move_log T S t (next_of T S s) s l) (move T S t s)
  unfolding move next_of
  move_goes l s g t n = by_next l s g t n (next_of T S s) (next_means T S (running_of s) s)

  pub run_goes : (l : Log) (n : ℕ) → Holds T S B l s₀ → Goes T S B s₀ (run_log T S (now_of s₀) n s₀ l) (after T S (now_of s₀) n s₀)
  unfolding run_log after
  run_goes l zero h = goes_start T S B k s₀ l h
  run_goes l (suc n) h =
      let g = run_goes l n h in
      move_goes (run_log T S (now_of s₀) n s₀ l) (after T S (now_of s₀) n s₀) g (now_of s₀) (goes_now T S B k s₀ (run_log T S (now_of s₀) n s₀ l) (after T S (now_of s₀) n s₀) g)

-- a block that runs is of one of the elements
pub runs_within : (T : List ℕ) (S : Shape) (s : List ℕ) → Formed T S s → ((running_of s).mode ≡ 0 → ⊥) → element_of s < elements S
runs_within T S s f busy = let o = (f.block.busy busy).owner in let a = o.element in let b = o.within in omega arith

-- each store of a run is well formed
pub formed_after : (T : List ℕ) (S : Shape) → Lawful T S → (n : ℕ) (s : List ℕ) → Formed T S s → Formed T S (after T S (now_of s) n s)
formed_after T S k n s f = (run_goes T S (as_found S s) k s empty n (found_holds T S s f)).holds.formed

-- and has the same now
pub now_after : (T : List ℕ) (S : Shape) → Lawful T S → (n : ℕ) (s : List ℕ) → Formed T S s → now_of (after T S (now_of s) n s) ≡ now_of s
now_after T S k n s f = (run_goes T S (as_found S s) k s empty n (found_holds T S s f)).onward.leaves.now refl
