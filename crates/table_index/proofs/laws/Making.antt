-- Making an index: each chain and each list of partners leaves the others as they are.
use Rattle.std.specs.Prelude.{◌≡◌, List, ◌⊎◌, ℕ, ◌+◌, ◌*◌, ◌≤◌, ◌<◌, length}
use Rattle.std.proofs.Common.{◌∙◌, ⊎_elim, inl, inr}
use native.Mathlib.Omega.{arith}
use Rattle.rules_tables.specs.Frame.{flag_at, field_at}
use Rattle.rules_tables.specs.declared.Shape.{Shape}
use Rattle.rules_tables.specs.Ids.{first_output, first_variable, first_association, first_transition, first_action, first_connection, first_link, outputs, variables, associations, transitions, actions, connections, links}
use Rattle.rules_tables.specs.Lawful.{Lawful}
use Rattle.table_index.specs.Chain.{owner_at, Chained, Apart}
use Rattle.table_index.proofs.laws.Chain.{chained_apart}
use Rattle.table_index.specs.Index.{Owners, ByEvent, ByState}
use Rattle.table_index.specs.Making.{ChainAsked, Lies}

pub lies : (T : List ℕ) (S : Shape) → Lawful T S → Lies T S
lies T S w =
    let g = w.is_good in
    record {
      few = g.few;
      outputs_at = g.to_inputs;
      variables_at = g.to_outputs;
      associations_at = g.to_variables;
      associations_end = omega (arith, g.to_associations, g.to_states);
      actions_at = g.to_transitions;
      actions_end = omega (arith, g.to_actions, g.to_steps);
      links_at = g.to_connections;
      links_end = omega (arith, g.to_links, g.to_end);
    }

module _ (T : List ℕ) (S : Shape) where
  -- ---- what the chains are asked
  plain : (first j owners : ℕ) → field_at T (first + j) 0 < owners → owner_at T first 0 j < owners
  unfolding owner_at
  plain first j owners l = omega arith

  flagged : (first j w owners : ℕ) → w * flag_at T (first + j) + field_at T (first + j) 0 < owners → owner_at T first w j < owners
  unfolding owner_at
  flagged first j w owners l = l

  module _ (w : Lawful T S) (o : Owners T S) {len : ℕ} (long : len ≡ 7424) {n : ℕ} where
    pub ask_associations : n ≡ associations S → ChainAsked T len (first_association S) n 256 4096 512
    ask_associations e =
        let l = lies T S w in (
          omega (arith, l.associations_end, l.actions_at, l.actions_end, l.links_at, l.links_end),
          l.few,
          omega arith,
          omega arith,
          omega arith,
          omega arith,
          λ j u.
              let f = o.association_flag j (omega arith) in let h = o.association_event j (omega arith) in flagged (first_association S) j 256 512 (omega arith),
        )

    pub ask_connections : n ≡ connections S → ChainAsked T len (first_connection S) n 0 5632 256
    ask_connections e =
        let l = lies T S w in
        (omega (arith, l.links_at, l.links_end), l.few, omega arith, omega arith, omega arith, omega arith, λ j u. plain (first_connection S) j 256 (o.connection_output j (omega arith)))

    pub ask_links : n ≡ links S → ChainAsked T len (first_link S) n 0 5888 512
    ask_links e =
        let l = lies T S w in (
          omega (arith, l.links_end),
          l.few,
          omega arith,
          omega arith,
          omega arith,
          omega arith,
          λ j u.
              let h = w.is_good.link_source j (omega arith) in let m = w.is_good.few_variables in plain (first_link S) j 512 (omega arith),
        )

    pub ask_transitions : n ≡ transitions S → ChainAsked T len (first_transition S) n 0 4608 512
    ask_transitions e =
        let l = lies T S w in (
          omega (arith, l.actions_at, l.actions_end, l.links_at, l.links_end),
          l.few,
          omega arith,
          omega arith,
          omega arith,
          omega arith,
          λ j u.
              plain (first_transition S) j 512 (o.transition_from j (omega arith)),
        )

    pub ask_actions : n ≡ actions S → ChainAsked T len (first_action S) n 0 5120 512
    ask_actions e =
        let l = lies T S w in
        (omega (arith, l.actions_end, l.links_at, l.links_end), l.few, omega arith, omega arith, omega arith, omega arith, λ j u. plain (first_action S) j 512 (o.action_state j (omega arith)))

    pub ask_variables : n ≡ variables S → ChainAsked T len (first_variable S) n 64 6720 192
    ask_variables e =
        let l = lies T S w in (
          omega (arith, l.associations_at, l.associations_end, l.actions_at, l.actions_end, l.links_at, l.links_end),
          l.few,
          omega arith,
          omega arith,
          omega arith,
          omega arith,
          λ j u.
              let f = o.variable_role j (omega arith) in let h = w.is_good.variable_element j (omega arith) in let m = w.is_good.few_elements in flagged (first_variable S) j 64 192 (omega arith),
        )

  pub ask_outputs : (w : Lawful T S) {len : ℕ} → len ≡ 7424 → {n : ℕ} → n ≡ outputs S → ChainAsked T len (first_output S) n 0 6400 64
  ask_outputs w long e =
      let l = lies T S w in (
        omega (arith, l.variables_at, l.associations_at, l.associations_end, l.actions_at, l.actions_end, l.links_at, l.links_end),
        l.few,
        omega arith,
        omega arith,
        omega arith,
        omega arith,
        λ j u.
            let h = w.is_good.output_element j (omega arith) in let m = w.is_good.few_elements in plain (first_output S) j 64 (omega arith),
      )

  -- ---- what stands
  module _ (w : Lawful T S) {a b c d : ℕ} {ix ix' : List ℕ} (k : Apart a b c d ix ix') where
    pub events_stand : (first_association S + associations S ≤ a) ⊎ (b ≤ first_association S) → (first_link S + links S ≤ a) ⊎ (b ≤ first_connection S) → 4096 ≤ c
        → (b ≤ 4096) ⊎ (6400 ≤ a) → ((4608 ≤ c) × (d ≤ 5632)) ⊎ (6400 ≤ c) → ByEvent T S ix → ByEvent T S ix'
    events_stand p q l r s e =
        let y = lies T S w in
        record {
          long = k.long ∙ e.long;
          associated =
              chained_apart _ _ _ _ _ _ _ _ _ _ _ _ k p (inl (omega (arith, y.few, y.associations_end, y.actions_at, y.actions_end, y.links_at, y.links_end)))
              (⊎_elim (λ h. inr h) (λ h. inl (omega arith)) r) (⊎_elim (λ h. inl (omega (arith, h.0))) (λ h. inl (omega arith)) s) e.associated;
          connected =
              chained_apart _ _ _ _ _ _ _ _ _ _ _ _ k (⊎_elim (λ h. inl (omega (arith, y.links_at))) (λ h. inr h) q) (inl (omega (arith, y.few, y.links_at, y.links_end)))
              (⊎_elim (λ h. inr (omega arith)) (λ h. inl (omega arith)) r) (⊎_elim (λ h. inr (omega (arith, h.1))) (λ h. inl (omega arith)) s) e.connected;
          linked =
              chained_apart _ _ _ _ _ _ _ _ _ _ _ _ k (⊎_elim (λ h. inl h) (λ h. inr (omega (arith, y.links_at))) q) (inl (omega (arith, y.few, y.links_end)))
              (⊎_elim (λ h. inr (omega arith)) (λ h. inl (omega arith)) r) (⊎_elim (λ h. inr (omega (arith, h.1))) (λ h. inl (omega arith)) s) e.linked;
        }

    pub states_stand : (b ≤ first_transition S) ⊎ (6400 ≤ a) → 6400 ≤ c → ByState T S ix → ByState T S ix'
    states_stand p l e =
        let y = lies T S w in
        let z : first_action S + actions S ≤ 4096 = omega (arith, y.few, y.actions_end, y.links_at, y.links_end) in
        record {
          leaving =
              chained_apart _ _ _ _ _ _ _ _ _ _ _ _ k (⊎_elim (λ h. inr h) (λ h. inl (omega (arith, y.actions_at))) p) (inl (omega (arith, y.actions_at)))
              (⊎_elim (λ h. inr (omega (arith, y.actions_at))) (λ h. inl (omega arith)) p) (inl (omega arith)) e.leaving;
          acting =
              chained_apart _ _ _ _ _ _ _ _ _ _ _ _ k (⊎_elim (λ h. inr (omega (arith, y.actions_at))) (λ h. inl (omega arith)) p) (inl (omega arith))
              (⊎_elim (λ h. inr (omega (arith, y.actions_at))) (λ h. inl (omega arith)) p) (inl (omega arith)) e.acting;
        }

  -- ---- the events' chains, and then the states'
  pub events_done : Lawful T S → {ix ix₁ ix₂ ix₃ : List ℕ} {a c l : ℕ} → length ix ≡ 7424 → a ≡ associations S → c ≡ connections S → l ≡ links S
      → Chained (owner_at T (first_association S) 256) (first_association S) a 4096 512 0 ix₁ → Apart (first_association S) (first_association S + a) 4096 4608 ix ix₁
      → Chained (owner_at T (first_connection S) 0) (first_connection S) c 5632 256 0 ix₂ → Apart (first_connection S) (first_connection S + c) 5632 5888 ix₁ ix₂
      → Chained (owner_at T (first_link S) 0) (first_link S) l 5888 512 0 ix₃ → Apart (first_link S) (first_link S + l) 5888 6400 ix₂ ix₃ → ByEvent T S ix₃
  events_done w long p q r A a B b C c =
      let y = lies T S w in
      let z : first_link S + links S ≤ 4096 = omega (arith, y.few, y.links_end) in
      record {
        long = c.long ∙ b.long ∙ a.long ∙ long;
        associated =
            rw (← p)
            (chained_apart _ _ _ _ _ _ _ _ _ _ _ _ c (inl (omega (arith, y.associations_end, y.actions_at, y.actions_end, y.links_at))) (inl (omega (arith, y.associations_end, y.actions_at, y.actions_end, y.links_at)))
            (inr (omega arith)) (inl (omega arith))
            (chained_apart _ _ _ _ _ _ _ _ _ _ _ _ b (inl (omega (arith, y.associations_end, y.actions_at, y.actions_end))) (inl (omega (arith, y.associations_end, y.actions_at, y.actions_end, y.links_at)))
            (inr (omega (arith, y.links_at))) (inl (omega arith)) A));
        connected =
            rw (← q) (chained_apart _ _ _ _ _ _ _ _ _ _ _ _ c (inl (omega (arith, y.links_at))) (inl (omega (arith, y.links_at))) (inr (omega arith)) (inl (omega arith)) B);
        linked = rw (← r) C;
      }

  pub states_done : Lawful T S → {ix ix₁ ix₂ : List ℕ} {n m : ℕ} → n ≡ transitions S → m ≡ actions S → ByEvent T S ix
      → Chained (owner_at T (first_transition S) 0) (first_transition S) n 4608 512 0 ix₁ → Apart (first_transition S) (first_transition S + n) 4608 5120 ix ix₁
      → Chained (owner_at T (first_action S) 0) (first_action S) m 5120 512 0 ix₂ → Apart (first_action S) (first_action S + m) 5120 5632 ix₁ ix₂
      → ByEvent T S ix₂ × ByState T S ix₂
  states_done w p q e A a B b =
      let y = lies T S w in
      let z : first_action S + actions S ≤ 4096 = omega (arith, y.few, y.actions_end, y.links_at, y.links_end) in (
        events_stand w b (inl (omega (arith, y.associations_end, y.actions_at))) (inr (omega (arith, y.actions_end))) (omega arith) (inl (omega arith)) (inl (omega arith, omega arith))
            (events_stand w a (inl y.associations_end) (inr (omega (arith, y.actions_at, y.actions_end))) (omega arith) (inl (omega (arith, y.actions_at))) (inl (omega arith, omega arith)) e),
        record {
          leaving =
              rw (← p) (chained_apart _ _ _ _ _ _ _ _ _ _ _ _ b (inl (omega (arith, y.actions_at))) (inl (omega (arith, y.actions_at))) (inr (omega arith)) (inl (omega arith)) A);
          acting = rw (← q) B;
        },
      )
