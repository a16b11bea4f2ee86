-- How a call opens: the check of the table, then what the call itself asks. Where one of them refuses, that is the answer.
use Rattle.std.specs.Prelude.{ℕ, ◌≡◌, ◌⊎◌, List, Result, MatchResult}
use Rattle.rules_tables.specs.declared.Shape.{Shape}
use Rattle.rules_tables.specs.declared.Refusal.{Refusal}
use Rattle.rules_tables.specs.Judge.{Verdict, accepted, refused, judge, shape_of, refusal}

-- the refusal q of a call, which names no frame
pub record Stops (q : ℕ) (r : Refusal) : Type 0 where
  pub some : q ≡ 0 → ⊥
  pub is : r ≡ refusal q 0

-- refused by q, or not where q is 0
abbrev pub Passes : {A : Type 0} → ℕ → Result A Refusal → Type 0
Passes q result = MatchResult result (λ _. q ≡ 0) (Stops q)

-- refused by the verdict v on the table, or else by q
abbrev pub Refuses : Verdict → ℕ → Refusal → Type 0
Refuses v q r = (v ≡ refused r.number r.frame) ⊎ ((v ≡ accepted) × Stops q r)

-- table T is accepted, and these are the table and the shape of its network
pub record Stands (T T' : List ℕ) (S : Shape) : Type 0 where
  pub sound : judge T ≡ accepted
  pub table : T' ≡ T
  pub shape : S ≡ shape_of T
