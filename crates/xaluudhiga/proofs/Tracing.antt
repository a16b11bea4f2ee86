-- A traced run is refused as a run is, so that its number and frame fit one number.
use mathlib.Core.Path.{◌≡◌, refl, sym, ◌∙◌}
use mathlib.Core.List.{List}
use Prim.Native.Nat.{ℕ}
use native.Mathlib.Omega.{arith}
use Rattle.rules_calls.specs.Answer.{number_of, frame_of}
use Rattle.rules_calls.specs.Compact.{Compact}
use Rattle.rules_calls.specs.Public.{run_answered, run_store, run_output, RunCall}
use Rattle.rules_calls.proofs.laws.Public.{run_call}
use Rattle.rules_calls.proofs.laws.Compact.{run_compact}
use Rattle.rules_traces.specs.declared.Traced.{Traced}
use Rattle.rules_traces.specs.Public.{TracedCall}

pub traced_compact : (T s : List ℕ) (budget : ℕ) (out tr : List ℕ) (r : Traced) {s' out' tr' : List ℕ} → TracedCall T s budget out tr r s' out' tr' → Compact r.answer
traced_compact T s budget out tr r c =
    let w : RunCall T s budget out (run_answered T s budget out) (run_store T s budget out) (run_output T s budget out) = run_call T s budget out refl refl refl in
    let k = run_compact T s budget out (run_output T s budget out) w in
    let n : number_of r.answer ≡ number_of (run_answered T s budget out) = c.tells.number_is ∙ sym w.tells.number_is in
    let f : frame_of r.answer ≡ frame_of (run_answered T s budget out) = c.tells.frame_is ∙ sym w.tells.frame_is in
    let a = k.low in
    let b = k.inside in
    record { low = omega arith; inside = omega arith }
