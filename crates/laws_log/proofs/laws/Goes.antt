-- Each kind of change goes on from a store in which the laws hold.
use Rattle.std.specs.Prelude.{◌≡◌, refl, List, Bool, true, false, ℕ, ◌≤◌, ◌<◌}
use Rattle.std.proofs.Common.{sym, ap, ◌∙◌, arith}
use Rattle.rules_walks.proofs.laws.Pick.{clash}
use Rattle.rules_walks.specs.First.{Sought, one, missing}
use Rattle.rules_tables.specs.declared.Shape.{Shape}
use Rattle.rules_store.specs.declared.Running.{Running}
use Rattle.rules_tables.specs.Ids.{inputs}
use Rattle.rules_store.specs.Word.{now_of, running_of, waiting, last_update}
use Rattle.rules_store.specs.Part.{Part, time, block, count, untrues, chart, due, input, sampled as «samples_part», computed, buffered, Leaves, calm}
use Rattle.rules_store.proofs.laws.Part.{leaves_all, leaves_then, leaves_less}
use Rattle.rules_moves.specs.Fire.{fire}
use Rattle.rules_moves.specs.Take.{sampled, fire_found}
use Rattle.rules_tables.specs.Lawful.{Lawful}
use Rattle.rules_moves.proofs.laws.Firing.{fire_leaves, fire_count}
use Rattle.rules_moves.proofs.laws.Taking.{sampled_leaves}
use Rattle.rules_store.specs.Formed.{Formed}
use Rattle.laws_kept.proofs.laws.Blocks.{calm_formed}
use Rattle.rules_log.specs.Log.{How, takes, fires, Log, more, fire_log}
use Rattle.rules_log.specs.Origin.{born, Begun, current, origin}
use Rattle.laws_log.specs.Holds.{Holds, chain_by, quiet}
use Rattle.laws_log.proofs.laws.Holds.{fire_holds, take_holds, quiet_holds}
use Rattle.laws_log.specs.Goes.{still, Onward, Goes}

-- every part but now and the overwritten count
abbrev uncounted : Part → Bool
uncounted time = false
uncounted block = true
uncounted count = false
uncounted untrues = true
uncounted chart = true
uncounted due = true
uncounted input = true
uncounted «samples_part» = true
uncounted computed = true
uncounted buffered = true

-- a quiet change, and one that changes no part at all, touch neither now nor the count
quiet_less : (p : Part) → uncounted p ≡ false → quiet p ≡ false
quiet_less time e = refl
quiet_less block e = clash (sym e)
quiet_less count e = refl
quiet_less untrues e = clash (sym e)
quiet_less chart e = clash (sym e)
quiet_less due e = clash (sym e)
quiet_less input e = clash (sym e)
quiet_less «samples_part» e = clash (sym e)
quiet_less computed e = clash (sym e)
quiet_less buffered e = clash (sym e)

still_less : (p : Part) → still p ≡ false → uncounted p ≡ false
still_less time e = refl
still_less block e = clash (sym e)
still_less count e = clash (sym e)
still_less untrues e = clash (sym e)
still_less chart e = clash (sym e)
still_less due e = clash (sym e)
still_less input e = clash (sym e)
still_less «samples_part» e = clash (sym e)
still_less computed e = clash (sym e)
still_less buffered e = clash (sym e)

module _ (T : List ℕ) (S : Shape) (B : Begun) (k : Lawful T S) (s₀ : List ℕ) where
  pub goes_start : (l : Log) → Holds T S B l s₀ → Goes T S B s₀ l s₀
  goes_start l h = record { holds = h; onward = record { leaves = leaves_all T S still s₀; grows = omega arith } }

  onward_uncounted : (s s' : List ℕ) → Leaves T S uncounted s s' → Onward T S s₀ s → Onward T S s₀ s'
  onward_uncounted s s' w g =
      record {
        leaves = leaves_then T S still s₀ s s' (leaves_less T S uncounted still s s' still_less w) g.leaves;
        grows = let q = w.counted refl in let a = g.grows in omega arith;
      }

  module _ (l : Log) (s : List ℕ) (g : Goes T S B s₀ l s) where
    pub fire_goes : (o : ℕ) (how : How) (birth t : ℕ) → now_of s ≡ t → birth ≤ t → born birth ≡ chain_by T S B l how → Goes T S B s₀ (more l (fires o how s)) (fire T S o birth t s)
    fire_goes o how birth t n b e =
        let h = g.holds in
        record {
          holds = fire_holds T S B k l s h o how birth t n b e;
          onward =
              record {
                leaves = leaves_then T S still s₀ s (fire T S o birth t s) (fire_leaves T S k still refl refl refl o birth t s) g.onward.leaves;
                grows = let q = fire_count T S k o birth t s h.formed.parts.long in let a = g.onward.grows in omega arith;
              };
        }

    pub fire_found_goes : (q : Sought) (how : How) (birth t : ℕ) → now_of s ≡ t → birth ≤ t → born birth ≡ chain_by T S B l how → Goes T S B s₀ (fire_log q how s l) (fire_found T S q birth t s)
    unfolding fire_log fire_found
    fire_found_goes (one o) how birth t n b e = fire_goes o how birth t n b e
    fire_found_goes missing how birth t n b e = g

    pub take_goes : (i : ℕ) → i < inputs S → waiting S s i ≡ 1 → (running_of s).mode ≡ 0 → ((c : ℕ) → c < inputs S → waiting S s c ≡ 1 → last_update S s i ≤ last_update S s c)
        → Goes T S B s₀ (more l (takes i s)) (sampled T S i s)
    take_goes i li w idle first =
        record {
          holds = take_holds T S B k l s g.holds i li w idle first;
          onward = onward_uncounted s (sampled T S i s) (sampled_leaves T S k uncounted refl refl i s li) g.onward;
        }

    pub quiet_goes : (s' : List ℕ) → Leaves T S quiet s s' → Formed T S s' → (((running_of s').mode ≡ 0 → ⊥) → born (running_of s').birth ≡ origin T S B l current)
        → Goes T S B s₀ l s'
    quiet_goes s' w f b =
        record {
          holds = quiet_holds T S B k l s g.holds s' w f b;
          onward = onward_uncounted s s' (leaves_less T S quiet uncounted s s' quiet_less w) g.onward;
        }

    -- values that are no inputs, and the count of untrue steps
    pub calm_goes : (s' : List ℕ) → ((f : Part → Bool) → f computed ≡ true → f untrues ≡ true → Leaves T S f s s') → Goes T S B s₀ l s'
    calm_goes s' w =
        let r = ((w calm refl refl).running refl).running in
        quiet_goes s' (w quiet refl refl) (calm_formed T S s s' (w calm refl refl) g.holds.formed)
        (λ n. ap (λ (x : Running). born x.birth) r ∙ g.holds.births.running_born (λ z. n (ap (λ (x : Running). x.mode) r ∙ z)))

    pub goes_now : now_of s ≡ now_of s₀
    goes_now = g.onward.leaves.now refl
