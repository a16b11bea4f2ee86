-- What the entries of an index tell their reader.
use Rattle.std.specs.Prelude.{◌≡◌, List, true, ℕ, ◌+◌, ◌*◌, ◌≤◌, ◌<◌, eqb, get_or}
use Rattle.std.proofs.Common.{◌∙◌, ⊎_elim, arith, eqb-true}
use Rattle.rules_walks.proofs.laws.Pick.{test_cases}
use Rattle.rules_tables.specs.declared.Shape.{Shape}
use Rattle.rules_tables.specs.Ids.{first_association, associations}
use Rattle.rules_tables.specs.Owned.{belongs}
use Rattle.table_index.specs.Leads.{Leads}
use Rattle.table_index.proofs.laws.Leads.{leads_same, leads_nowhere}
use Rattle.table_index.specs.Chain.{owner_at}
use Rattle.table_index.specs.Index.{Indexed, FollowsEvent}
use Rattle.table_index.proofs.laws.Owned.{owner_flag, belongs_flag}

module _ (T : List ℕ) (S : Shape) (ix : List ℕ) (w : Indexed T S ix) where
  -- associations, told by flag and event
  by_event : (g e i : ℕ) → g ≤ 2 → e < 256 → i < associations S → eqb (owner_at T (first_association S) 256 i) (256 * g + e) ≡ belongs T (first_association S) g e i
  by_event g e i l m u =
      let h = w.owners.association_event i u in
      owner_flag T (first_association S) 256 g e i l h m (λ z. (omega arith, omega arith))

  pub first_event : (g e : ℕ) → g ≤ 1 → e < 256 → Leads (belongs T (first_association S) g e) 0 (get_or ix (4096 + (256 * g + e)) 0) (associations S)
  first_event g e l m = leads_same (λ i u. by_event g e i (omega arith) m u) (w.events.associated.heads (256 * g + e) (omega arith))

  -- no association is of an event that there is not, or under a flag that there is not
  pub first_far : (g e : ℕ) → 256 ≤ e → Leads (belongs T (first_association S) g e) 0 (associations S) (associations S)
  first_far g e l =
      leads_nowhere (omega arith)
      (λ i u. ⊎_elim (λ b. absurd (let h = w.owners.association_event i u in let q = (belongs_flag T (first_association S) g e i b).1 in omega arith)) (λ b. b) (test_cases (belongs T (first_association S) g e i)))

  pub first_other : (g e : ℕ) → 1 < g → g ≤ 2 → Leads (belongs T (first_association S) g e) 0 (associations S) (associations S)
  first_other g e l m =
      leads_nowhere (omega arith)
      (λ i u.
      ⊎_elim (λ b. absurd (let h = w.owners.association_flag i u in let q = (belongs_flag T (first_association S) g e i b).0 (λ z. omega arith) in omega arith)) (λ b. b)
      (test_cases (belongs T (first_association S) g e i)))

  pub follows_event : (j : ℕ) → j < associations S → FollowsEvent T (first_association S) (associations S) j (get_or ix (first_association S + j) 0)
  follows_event j l = record { under = λ g m. record { next = λ e b. next g e m b } }
    where
      next : (g e : ℕ) → g ≤ 2 → belongs T (first_association S) g e j ≡ true → Leads (belongs T (first_association S) g e) (j + 1) (get_or ix (first_association S + j) 0) (associations S)
      next g e m b =
          let h = w.owners.association_event j l in
          let q = (belongs_flag T (first_association S) g e j b).1 in
          let few : e < 256 = omega arith in
          let o : owner_at T (first_association S) 256 j ≡ 256 * g + e = eqb-true (owner_at T (first_association S) 256 j) (256 * g + e) (by_event g e j m few l ∙ b) in
          leads_same (λ i u. by_event g e i m few u) (rw o at (w.events.associated.nexts j (omega arith) l))
