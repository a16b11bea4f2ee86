-- Making an index: the partners, found along the chains of their elements.
use Rattle.std.specs.Prelude.{◌≡◌, List, true, ℕ, ◌+◌, ◌*◌, ◌≤◌, ◌<◌, eqb, get_or}
use Rattle.std.proofs.Common.{◌∙◌, inl, inr, arith, eqb-true}
use Rattle.rules_tables.specs.Kind.{input, output}
use Rattle.rules_tables.specs.Frame.{frames_of, field_at}
use Rattle.rules_tables.specs.declared.Shape.{Shape}
use Rattle.rules_tables.specs.Ids.{first_input, first_output, first_variable, inputs, outputs, variables}
use Rattle.rules_tables.specs.Owned.{any, belongs}
use Rattle.rules_tables.specs.Lawful.{Lawful}
use Rattle.table_index.specs.Leads.{Leads}
use Rattle.table_index.proofs.laws.Leads.{leads_same}
use Rattle.table_index.specs.Chain.{owner_at, Chained, Apart}
use Rattle.table_index.proofs.laws.Owned.{owner_flag, belongs_flag, first_any, follows_any}
use Rattle.table_index.specs.Pair.{partner_at}
use Rattle.table_index.proofs.laws.Pair.{pairing_none}
use Rattle.table_index.specs.Index.{Owners, ByEvent, ByState, ByElement, OutputPartners, Indexed}
use Rattle.table_index.specs.Making.{PairAsked}
use Rattle.table_index.proofs.laws.Making.{lies, events_stand, states_stand}

module _ (T : List ℕ) (S : Shape) (w : Lawful T S) where
  -- the outputs' frames lie before the index's other entries
  low : first_output S + outputs S ≤ 4096
  low = let y = lies T S w in omega (arith, y.few, y.variables_at, y.associations_at, y.associations_end, y.actions_at, y.actions_end, y.links_at, y.links_end)

  low_variables : first_variable S + variables S ≤ 4096
  low_variables = let y = lies T S w in omega (arith, y.few, y.associations_at, y.associations_end, y.actions_at, y.actions_end, y.links_at, y.links_end)

  in_table : first_input S + inputs S ≤ frames_of T
  in_table = let y = lies T S w in omega (arith, y.outputs_at, y.variables_at, y.associations_at, y.associations_end, y.actions_at, y.actions_end, y.links_at, y.links_end)

  in_table_variables : first_variable S + variables S ≤ frames_of T
  in_table_variables = let y = lies T S w in omega (arith, y.associations_at, y.associations_end, y.actions_at, y.actions_end, y.links_at, y.links_end)

  -- ---- event outputs
  pub ask_output_pairs : {ix ix₁ : List ℕ} {n i len : ℕ} → len ≡ 7424 → n ≡ outputs S → i ≡ inputs S → Chained (owner_at T (first_output S) 0) (first_output S) n 6400 64 0 ix₁
      → Apart (first_output S) (first_output S + n) 6400 6464 ix ix₁ → PairAsked T len ix₁ (first_input S) i any (first_output S) n any 6400 6464
  ask_output_pairs {ix} {ix₁} {n} {i} {len} long p q A a =
      let l = low in
      let t = in_table in
      let f = w.is_good.few_inputs in (
        omega arith,
        omega arith,
        omega arith,
        omega arith,
        λ k u. (let h = w.is_good.input_element k (omega arith) in let m = w.is_good.few_elements in omega arith),
        pairing_none T (first_input S) any (first_output S) n any 6400 6464 ix₁ (λ x u. first_any T (first_output S) n 6400 64 ix₁ A x u)
            (λ o x u v b. (follows_any T (first_output S) n 6400 64 ix₁ A o u).next x b),
      )

  pub outputs_done : {ix ix₁ ix₂ : List ℕ} {n i : ℕ} → n ≡ outputs S → i ≡ inputs S → ByEvent T S ix → ByState T S ix
      → Apart (first_output S) (first_output S + n) 6400 6464 ix ix₁
      → ((k : ℕ) → k < i → get_or ix₂ (6464 + k) 0 ≡ partner_at T (first_input S) any (first_output S) n any k) → Apart 6400 6464 6464 (6464 + i) ix₁ ix₂
      → ByEvent T S ix₂ × ByState T S ix₂ × OutputPartners T S ix₂
  outputs_done p q e s a P b =
      let y = lies T S w in
      let l = low in
      let u : first_output S + outputs S ≤ first_variable S = omega (arith, y.variables_at) in (
        events_stand T S w b (inl (omega (arith, y.few, y.associations_end, y.actions_at, y.actions_end, y.links_at, y.links_end))) (inl (omega (arith, y.few, y.links_end))) (omega arith) (inr (omega arith)) (inr (omega arith))
            (events_stand T S w a (inr (omega (arith, y.associations_at))) (inr (omega (arith, y.associations_at, y.associations_end, y.actions_at, y.actions_end))) (omega arith) (inl (omega arith)) (inr (omega arith)) e),
        states_stand T S w b (inr (omega arith)) (omega arith) (states_stand T S w a (inl (omega (arith, y.associations_at, y.associations_end))) (omega arith) s),
        λ k v. rw (← p) (P k (omega arith)),
      )

  -- ---- variables, told by their role
  pub variable_owner : (v : ℕ) → v < variables S → field_at T (first_variable S + v) 0 < 64
  variable_owner v l = let h = w.is_good.variable_element v l in let m = w.is_good.few_elements in omega arith

  module _ (o : Owners T S) where
    -- those of role r, and which of them belong to x
    by_role : (r x i : ℕ) → r ≤ 1 → x < 64 → i < variables S → eqb (owner_at T (first_variable S) 64 i) (64 * r + x) ≡ belongs T (first_variable S) r x i
    by_role r x i k l u = let few = variable_owner i u in owner_flag T (first_variable S) 64 r x i (omega arith) few l (λ z. (omega arith, omega arith))

    module _ {n : ℕ} {ix₁ : List ℕ} (p : n ≡ variables S) (A : Chained (owner_at T (first_variable S) 64) (first_variable S) n 6720 192 0 ix₁) (r : ℕ) (role : r ≤ 1) where
      role_heads : (x : ℕ) → x < 64 → Leads (belongs T (first_variable S) r x) 0 (get_or ix₁ (6720 + (64 * r + x)) 0) n
      role_heads x u = leads_same (λ i v. by_role r x i role u (omega arith)) (A.heads (64 * r + x) (omega arith))

      role_nexts : (k x : ℕ) → k < n → x < 64 → belongs T (first_variable S) r x k ≡ true → Leads (belongs T (first_variable S) r x) (k + 1) (get_or ix₁ (first_variable S + k) 0) n
      role_nexts k x u v b =
          let e : owner_at T (first_variable S) 64 k ≡ 64 * r + x = eqb-true (owner_at T (first_variable S) 64 k) (64 * r + x) (by_role r x k role v (omega arith) ∙ b) in
          leads_same (λ i h. by_role r x i role v (omega arith)) (rw e at (A.nexts k (omega arith) u))

    pub ask_variable_pairs : {ix ix₁ : List ℕ} {n len : ℕ} → len ≡ 7424 → n ≡ variables S → Chained (owner_at T (first_variable S) 64) (first_variable S) n 6720 192 0 ix₁
        → Apart (first_variable S) (first_variable S + n) 6720 6912 ix ix₁ → PairAsked T len ix₁ (first_variable S) n input (first_variable S) n output 6784 6912
    ask_variable_pairs {ix} {ix₁} {n} long p A a =
        let l = low_variables in
        let t = in_table_variables in
        let f = w.is_good.few_variables in (
          omega arith,
          omega arith,
          omega arith,
          omega arith,
          λ k u. variable_owner k (omega arith),
          pairing_none T (first_variable S) input (first_variable S) n output 6784 6912 ix₁ heads (λ k x u v b. role_nexts p A 1 (omega arith) k x u v b),
        )
      where
        heads : (x : ℕ) → x < 64 → Leads (belongs T (first_variable S) output x) 0 (get_or ix₁ (6784 + x) 0) n
        heads x u = let e : 6720 + (64 * 1 + x) ≡ 6784 + x = omega arith in rw e at (role_heads p A 1 (omega arith) x u)

    -- the chains of inputs stand: the partners are found along those of outputs
    inputs_stand : {ix₁ ix₂ : List ℕ} {n : ℕ} → n ≡ variables S → Chained (owner_at T (first_variable S) 64) (first_variable S) n 6720 192 0 ix₁
        → Apart 6784 6848 6912 (6912 + n) ix₁ ix₂ → ByElement T S ix₂
    inputs_stand {ix₁} {ix₂} {n} p A b =
        record {
          heads = λ x u. rw (b.kept (6720 + x) (inl (omega arith)) (inl (omega arith)), ← p) (head x u);
          nexts = λ v u. record { next = λ x h. next v x u h };
        }
      where
        head : (x : ℕ) → x < 64 → Leads (belongs T (first_variable S) input x) 0 (get_or ix₁ (6720 + x) 0) n
        head x u = let e : 6720 + (64 * 0 + x) ≡ 6720 + x = omega arith in rw e at (role_heads p A 0 (omega arith) x u)

        next : (v x : ℕ) → v < variables S → belongs T (first_variable S) input x v ≡ true → Leads (belongs T (first_variable S) input x) (v + 1) (get_or ix₂ (first_variable S + v) 0) (variables S)
        next v x u h =
            let e = (belongs_flag T (first_variable S) input x v h).1 in
            let q = variable_owner v u in
            let l = low_variables in
            rw (b.kept (first_variable S + v) (inl (omega arith)) (inl (omega arith)), ← p) (role_nexts p A 0 (omega arith) v x (omega arith) (omega arith) h)

    pub variables_done : {ix ix₁ ix₂ : List ℕ} {n : ℕ} → n ≡ variables S → ByEvent T S ix → ByState T S ix → OutputPartners T S ix
        → Chained (owner_at T (first_variable S) 64) (first_variable S) n 6720 192 0 ix₁ → Apart (first_variable S) (first_variable S + n) 6720 6912 ix ix₁
        → ((k : ℕ) → k < n → get_or ix₂ (6912 + k) 0 ≡ partner_at T (first_variable S) input (first_variable S) n output k) → Apart 6784 6848 6912 (6912 + n) ix₁ ix₂
        → Indexed T S ix₂
    variables_done p e s O A a P b =
        let y = lies T S w in
        let l = low_variables in
        record {
          lawful = w;
          owners = o;
          events =
              events_stand T S w b (inl (omega (arith, y.few, y.associations_end, y.actions_at, y.actions_end, y.links_at, y.links_end))) (inl (omega (arith, y.few, y.links_end))) (omega arith) (inr (omega arith)) (inr (omega arith))
              (events_stand T S w a (inr (omega (arith, y.associations_at))) (inr (omega (arith, y.associations_at, y.associations_end, y.actions_at, y.actions_end))) (omega arith) (inl (omega arith)) (inr (omega arith)) e);
          states = states_stand T S w b (inr (omega arith)) (omega arith) (states_stand T S w a (inl (omega (arith, y.associations_at, y.associations_end))) (omega arith) s);
          elements = inputs_stand p A b;
          output_partners =
              λ i u.
              let f = w.is_good.few_inputs in
              b.kept (6464 + i) (inl (omega arith)) (inl (omega arith)) ∙ a.kept (6464 + i) (inr (omega arith)) (inl (omega arith)) ∙ O i u;
          variable_partners = λ v u. rw (← p) (P v (omega arith));
        }
