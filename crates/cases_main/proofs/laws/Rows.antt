-- What the program runs are the rows of the definition cases, and each row fits its buffers.
use Rattle.std.specs.Prelude.{◌≡◌, refl, Bool, true, List, [], map, ℕ, ◌-◌, ◌<◌, leb, get_or, take, drop}
use Rattle.std.proofs.Common.{leb-true}
use Rattle.rules_walks.specs.Pick.{both}
use Rattle.rules_walks.proofs.laws.Pick.{both3}
use Rattle.rules_walks.specs.All.{all_to}
use Rattle.rules_walks.proofs.laws.All.{all_at}
use Rattle.cases.specs.Cases.{Asked, answer, recorded, due, counted, result, Case, cases}
use Rattle.cases_main.specs.declared.data.Row.{Row}
use Rattle.cases_main.specs.Rows.{as_call, calls, rows, no_row, Fits}
use Rattle.rules_calls.specs.Public.{Call as «CallOf»}

-- the calls of a case are those of its row
abbrev before : Asked → List «CallOf»
before (answer t words room cs c) = cs
before (recorded t words room cs b) = cs
before (due t words room cs) = cs
before (counted t words room cs n b) = cs
before (result op b c) = []

pub calls_right : map (λ (r : Row). take (r.5 - r.4) (drop r.4 calls)) rows ≡ map (λ (k : Case). map as_call (before k.asked)) cases
calls_right = refl

fits : ℕ → Bool
fits i = let r = get_or rows i no_row in both (leb r.2 41) (both (leb r.3 4096) (leb r.5 35))

all_fit : all_to fits 38 ≡ true
unfolding fits all_to
all_fit = refl

pub row_fits : (i : ℕ) → i < 38 → Fits (get_or rows i no_row)
unfolding fits
row_fits i h =
    let r = get_or rows i no_row in
    let w = both3 (leb r.2 41) (leb r.3 4096) (leb r.5 35) (all_at fits 38 i h all_fit) in
    record { words = leb-true _ _ w.0; room = leb-true _ _ w.1; last = leb-true _ _ w.2 }
