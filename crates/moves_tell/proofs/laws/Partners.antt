-- The outputs of an interface and their sources: the k-th input and the k-th output belong together, so what the outputs get by id is what the partners of
-- the inputs get by the inputs' ids (`in_order`).
use Rattle.std.specs.Prelude.{◌≡◌, Bool, false, ◌⊎◌, ℕ, zero, suc, ◌+◌, ◌-◌, ◌≤◌, ◌<◌}
use Rattle.std.proofs.Math.Path.{refl, sym, ap}
use Rattle.std.proofs.Common.{◌∙◌, ⊎_elim, add-one}
use mathlib.Core.List.{List, [], ◌++◌, append-nil}
use Rattle.std.proofs.Math.Bool.{true}
use native.Mathlib.Omega.{arith}
use Rattle.std.proofs.Math.Dec.{eqb}
use borrow.Author.Tests.{eq-eqb, eqb-true}
use Rattle.rules_walks.proofs.laws.Pick.{both_left, both_right, both_intro, clash, test_cases, tri}
use Rattle.rules_walks.proofs.laws.Choose.{choose_true, choose_false, by_choose}
use Rattle.rules_walks.proofs.laws.All.{any_witness}
use Rattle.rules_walks.proofs.laws.Count.{count_none, count_hit, count_miss, count_mono, count_past}
use Rattle.rules_walks.specs.First.{Sought, one, missing}
use Rattle.rules_walks.proofs.laws.First.{first_in}
use Rattle.rules_tables.specs.Kind.{input, output, of_input}
use Rattle.rules_tables.specs.Frame.{flag_at, field_at}
use Rattle.rules_tables.specs.declared.Shape.{Shape}
use Rattle.rules_tables.specs.Ids.{first_variable, variables, associations, association_frame, variable_frame}
use Rattle.rules_tables.specs.Owned.{belongs, rank, is_nth, nth}
use Rattle.rules_tables.proofs.laws.Owned.{nth_own, nth_belongs, nth_rank}
use Rattle.table_index.specs.Leads.{or_end}
use Rattle.table_index.proofs.laws.Nth.{nth_none, nth_later}
use Rattle.table_index.proofs.laws.Owned.{belongs_flag}
use Rattle.rules_moves.specs.Partner.{input_owner, variable_owner, partner_variable}
use Rattle.rules_moves.specs.Carry.{voice, speaks}
use Rattle.rules_moves.proofs.laws.Carry.{of_input_lem, of_event}
use Rattle.rules_moves.specs.Associated.{joins_variable, associated}
use Rattle.rules_traces.specs.declared.Entry.{Entry}
use Rattle.rules_traces.specs.Gather.{gather}
use Rattle.rules_traces.proofs.laws.Gather.{gather_none, gather_next, gather_rest}
use Rattle.rules_traces.specs.Traceable.{Traceable}
use Rattle.moves_tell.specs.Before.{sampled_entry, source_of, passed_from, passed_by, passed_entry}
use Rattle.moves_tell.specs.Pairs.{passed_to, partner_entry}

-- element el, whose event input i is taken
module _ (T : List ℕ) (S : Shape) (k : Traceable T S) (i el : ℕ) (is : el ≡ input_owner T S i) (s : List ℕ) where
  abbrev input_at : ℕ → Bool
  input_at v = belongs T (first_variable S) input el v

  abbrev output_at : ℕ → Bool
  output_at u = belongs T (first_variable S) output el u

  abbrev before : ℕ → ℕ
  before v = rank T (first_variable S) input el v

  abbrev before_out : ℕ → ℕ
  before_out u = rank T (first_variable S) output el u

  -- ---- a variable that is associated with the event is an input of the element
  associated_own : (v : ℕ) → associated T S i v ≡ true → input_at v ≡ true
  unfolding joins_variable belongs
  associated_own v h =
      let w = any_witness (joins_variable T S i v) (associations S) h in
      let j = w.which in
      let a = both_left (speaks T S (voice of_input i) j) (eqb (field_at T (association_frame S j) 1) v) w.passes in
      let b = eqb-true (field_at T (association_frame S j) 1) v (both_right (speaks T S (voice of_input i) j) (eqb (field_at T (association_frame S j) 1) v) w.passes) in
      let f = k.is_lawful.is_good.association_input j w.below (of_input_lem T S i j a) in
      let o = ap (variable_owner T S) (sym b) ∙ k.association_own j w.below (of_input_lem T S i j a) ∙ ap (input_owner T S) (of_event T S i j a) ∙ sym is in
      both_intro (eqb (flag_at T (variable_frame S v)) input) (eqb (variable_owner T S v) el) (eq-eqb (flag_at T (variable_frame S v)) input (rw b at f)) (eq-eqb (variable_owner T S v) el o)

  unassociated : (v : ℕ) → input_at v ≡ false → associated T S i v ≡ false
  unassociated v h = ⊎_elim (λ a. clash (sym h ∙ associated_own v a)) (λ a. a) (test_cases (associated T S i v))

  -- another variable gets nothing, and has its partner get nothing
  pub not_sampled : (v : ℕ) → input_at v ≡ false → sampled_entry T S i s v ≡ []
  unfolding sampled_entry
  not_sampled v h = choose_false _ _ [] (unassociated v h)

  pub not_passed : (v : ℕ) → input_at v ≡ false → partner_entry T S i s v ≡ []
  unfolding partner_entry passed_to passed_from
  not_passed v h = by (partner_variable T S v)
    where
      by : (q : Sought) → passed_to T S i s v q ≡ []
      by (one u) = choose_false _ _ [] (unassociated v h)
      by missing = refl

  -- ---- the source of an output is of the same element
  source_owner : (u v : ℕ) → source_of T S u ≡ one v → variable_owner T S v ≡ variable_owner T S u
  unfolding source_of
  source_owner u v e =
      (belongs_flag T (first_variable S) input (variable_owner T S u) v
      (nth_belongs T (first_variable S) (variables S) input (variable_owner T S u) (rank T (first_variable S) output (variable_owner T S u) u) v e)).1

  -- an output of another element gets nothing
  other_output : (u : ℕ) → output_at u ≡ false → passed_entry T S i s u ≡ []
  unfolding passed_entry passed_by passed_from belongs
  other_output u h =
      by_choose (λ (x : List Entry). x ≡ []) (eqb (flag_at T (variable_frame S u)) output) (passed_by T S i s u (source_of T S u)) []
      (λ e. by e (source_of T S u) refl) (λ _. refl)
    where
      apart : eqb (flag_at T (variable_frame S u)) output ≡ true → variable_owner T S u ≡ el → ⊥
      apart e q = clash (sym h ∙ both_intro (eqb (flag_at T (variable_frame S u)) output) (eqb (variable_owner T S u) el) e (eq-eqb _ el q))

      by : eqb (flag_at T (variable_frame S u)) output ≡ true → (q : Sought) → source_of T S u ≡ q → passed_by T S i s u q ≡ []
      by e (one v) q =
          by_choose (λ (x : List Entry). x ≡ []) (associated T S i v) _ []
          (λ a. absurd (apart e (sym (source_owner u v q) ∙ (belongs_flag T (first_variable S) input el v (associated_own v a)).1))) (λ _. refl)
      by e missing q = refl

  -- ---- the k-th input and the k-th output
  source_is : (v u : ℕ) → v < variables S → input_at v ≡ true → output_at u ≡ true → before v ≡ before_out u → source_of T S u ≡ one v
  unfolding source_of
  source_is v u l a b e = let o = (belongs_flag T (first_variable S) output el u b).1 in rw (o, ← e) (nth_own T (first_variable S) (variables S) input el v l a)

  source_found : (c w : ℕ) → output_at c ≡ true → source_of T S c ≡ one w → (w < variables S) × (input_at w ≡ true) × (before w ≡ before_out c)
  unfolding source_of
  source_found c w h q =
      let o = (belongs_flag T (first_variable S) output el c h).1 in
      let e : nth T (first_variable S) (variables S) input el (before_out c) ≡ one w = rw o at q in
      let l = first_in (is_nth T (first_variable S) input el (before_out c)) 0 (variables S) w e in
      (omega arith, nth_belongs T (first_variable S) (variables S) input el (before_out c) w e, nth_rank T (first_variable S) (variables S) input el (before_out c) w e)

  -- an output without a source gets nothing
  none_passed : (c : ℕ) → ((w : ℕ) → source_of T S c ≡ one w → ⊥) → passed_entry T S i s c ≡ []
  unfolding passed_entry passed_by
  none_passed c n =
      by_choose (λ (x : List Entry). x ≡ []) (eqb (flag_at T (variable_frame S c)) output) (passed_by T S i s c (source_of T S c)) [] (λ _. by (source_of T S c) refl) (λ _. refl)
    where
      by : (q : Sought) → source_of T S c ≡ q → passed_by T S i s c q ≡ []
      by (one w) e = absurd (n w e)
      by missing e = refl

  abbrev nth_out : ℕ → Sought
  nth_out m = nth T (first_variable S) (variables S) output el m

  partner_is : (v : ℕ) → input_at v ≡ true → partner_variable T S v ≡ nth_out (before v)
  unfolding partner_variable
  partner_is v a = rw (belongs_flag T (first_variable S) input el v a).1

  -- what the partner of an input gets is what the output with as many before it gets
  pair_entry : (v u : ℕ) → v < variables S → input_at v ≡ true → nth_out (before v) ≡ one u → partner_entry T S i s v ≡ passed_entry T S i s u
  unfolding partner_entry passed_to passed_entry passed_by
  pair_entry v u l a e =
      let b = nth_belongs T (first_variable S) (variables S) output el (before v) u e in
      ap (passed_to T S i s v) (partner_is v a ∙ e)
      ∙ sym
      (choose_true _ _ [] (eq-eqb (flag_at T (variable_frame S u)) output ((belongs_flag T (first_variable S) output el u b).0 (λ z. omega arith)))
      ∙ ap (passed_by T S i s u) (source_is v u l a b (sym (nth_rank T (first_variable S) (variables S) output el (before v) u e))))

  pair_missing : (v : ℕ) → input_at v ≡ true → nth_out (before v) ≡ missing → partner_entry T S i s v ≡ []
  unfolding partner_entry passed_to
  pair_missing v a e = ap (passed_to T S i s v) (partner_is v a ∙ e)

  -- ---- the outputs before a place with m of them before it, and those before the m-th, are the same
  told_before : (m a : ℕ) → a ≤ variables S → before_out a ≡ m → gather (passed_entry T S i s) (or_end (variables S) (nth_out m)) ≡ gather (passed_entry T S i s) a
  told_before m a l r = by (nth_out m) refl
    where
      by : (q : Sought) → nth_out m ≡ q → gather (passed_entry T S i s) (or_end (variables S) q) ≡ gather (passed_entry T S i s) a
      by (one u) e = gather_rest (passed_entry T S i s) a u at_most (λ c p q. other_output c (⊎_elim (λ h. absurd (no c p q h)) (λ h. h) (test_cases (output_at c))))
        where
          level : before_out u ≡ m
          level = nth_rank T (first_variable S) (variables S) output el m u e

          behind : u < a → ⊥
          behind gt = let c = count_past output_at u a gt (nth_belongs T (first_variable S) (variables S) output el m u e) in let y = level in omega arith

          at_most : a ≤ u
          at_most = ⊎_elim (λ lt. omega arith) (λ w. ⊎_elim (λ z. omega arith) (λ gt. absurd (behind gt)) w) (tri a u)

          no : (c : ℕ) → a ≤ c → c < u → output_at c ≡ true → ⊥
          no c p q h = let x = count_past output_at c u q h in let y = count_mono output_at a c p in let z = level in omega arith
      by missing e = gather_rest (passed_entry T S i s) a (variables S) l (λ c p q. other_output c (⊎_elim (λ h. absurd (no c p q h)) (λ h. h) (test_cases (output_at c))))
        where
          apart : {x : ℕ} → missing ≡ one x → ⊥
          apart q = let z : ◌≡◌ {A = ℕ} 0 1 = cc in omega arith

          no : (c : ℕ) → a ≤ c → c < variables S → output_at c ≡ true → ⊥
          no c p q h =
              let y = count_mono output_at a c p in
              let z : m + (before_out c - m) ≡ before_out c = omega arith in
              apart (sym (rw z at (nth_later T (first_variable S) (variables S) output el m (before_out c - m) e)) ∙ nth_own T (first_variable S) (variables S) output el c q h)

  -- the inputs before v have their partners get what the outputs before the partner of v get: a turn, and all of them
  module _ (v : ℕ) (l : v < variables S) (now : gather (partner_entry T S i s) v ≡ gather (passed_entry T S i s) (or_end (variables S) (nth_out (before v)))) where
    skip : input_at v ≡ false → gather (partner_entry T S i s) v ++ partner_entry T S i s v ≡ gather (passed_entry T S i s) (or_end (variables S) (nth_out (before (v + 1))))
    skip h = rw (not_passed v h, count_miss input_at v h) (append-nil _ ∙ now)

    pass : input_at v ≡ true → (q : Sought) → nth_out (before v) ≡ q
        → gather (partner_entry T S i s) v ++ partner_entry T S i s v ≡ gather (passed_entry T S i s) (or_end (variables S) (nth_out (before (v + 1))))
    pass h (one u) e =
        let b = nth_belongs T (first_variable S) (variables S) output el (before v) u e in
        let r = nth_rank T (first_variable S) (variables S) output el (before v) u e in
        let m = first_in (is_nth T (first_variable S) output el (before v)) 0 (variables S) u e in
        let x = count_hit input_at v h in
        let y = count_hit output_at u b in
        rw (pair_entry v u l h e, now, e) (sym (gather_next (passed_entry T S i s) u) ∙ sym (told_before (before (v + 1)) (u + 1) (omega arith) (omega arith)))
    pass h missing e =
        rw (pair_missing v h e, count_hit input_at v h, nth_none T (first_variable S) (variables S) output el (before v) e)
        (append-nil _ ∙ now ∙ ap (λ (q : Sought). gather (passed_entry T S i s) (or_end (variables S) q)) e)

  so_far : (v : ℕ) → v ≤ variables S → gather (partner_entry T S i s) v ≡ gather (passed_entry T S i s) (or_end (variables S) (nth_out (before v)))
  so_far zero l =
      gather_none (partner_entry T S i s)
      ∙ sym (gather_none (passed_entry T S i s))
      ∙ sym (told_before (before 0) 0 (omega arith) (count_none output_at ∙ sym (count_none input_at)))
  so_far (suc v) l =
      let now = so_far v (omega arith) in
      rw (← add-one v)
      (gather_next (partner_entry T S i s) v
      ∙ ⊎_elim (λ h. pass v (omega arith) now h (nth_out (before v)) refl) (λ h. skip v (omega arith) now h) (test_cases (input_at v)))

  -- outputs from there on have no source
  pub in_order : gather (partner_entry T S i s) (variables S) ≡ gather (passed_entry T S i s) (variables S)
  in_order = so_far (variables S) (omega arith) ∙ by (nth_out (before (variables S))) refl
    where
      by : (q : Sought) → nth_out (before (variables S)) ≡ q → gather (passed_entry T S i s) (or_end (variables S) q) ≡ gather (passed_entry T S i s) (variables S)
      by (one u) e =
          let m = first_in (is_nth T (first_variable S) output el (before (variables S))) 0 (variables S) u e in
          sym (gather_rest (passed_entry T S i s) u (variables S) (omega arith) (λ c p q. rest c p (test_cases (output_at c))))
        where
          no_source : (c w : ℕ) → u ≤ c → output_at c ≡ true → source_of T S c ≡ one w → ⊥
          no_source c w p h q =
              let r = source_found c w h q in
              let x = count_past input_at w (variables S) r.0 r.1 in
              let y = count_mono output_at u c p in
              let z = nth_rank T (first_variable S) (variables S) output el (before (variables S)) u e in
              let o = r.2 in
              omega arith

          rest : (c : ℕ) → u ≤ c → (output_at c ≡ true) ⊎ (output_at c ≡ false) → passed_entry T S i s c ≡ []
          rest c p w = ⊎_elim (λ h. none_passed c (λ v. no_source c v p h)) (λ h. other_output c h) w
      by missing e = refl
