-- `got_value` meets its contract: the value is kept, and the arrival is made or waits.
-- with what the code computed
use mathlib.Core.Path.{◌≡◌, sym, subst}
use mathlib.Core.List.{List}
use Prim.Native.Nat.{ℕ}
use Rattle.session_dialogue.specs.Standing.{Came}
use Rattle.session_dialogue.proofs.told.got_value.Goals as goal

came-is : (vs W : List ℕ) {n g k : ℕ} {X : List ℕ} → k ≡ g → W ≡ X → Came vs n g X → Came vs n k W
came-is vs W {n} {k = k} {X = X} e u w = subst (λ (Y : List ℕ). Came vs n k Y) (sym u) (subst (λ (j : ℕ). Came vs n j X) (sym e) w)

pub returns : goal.returns
returns c = (λ vs w. c.await_values.ensures.0 vs (came-is vs _ c.one_more-got.ensures c.put_at.ensures w), c.await_values.ensures.1)
