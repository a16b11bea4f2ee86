-- The code's table of forms is the rules' one.
use Rattle.std.specs.Prelude.{◌≡◌, refl, List, [], ◌-◌, ℕ, get_or, min, ltb}
use Rattle.std.proofs.Common.{ap, ◌∙◌, ⊎_elim, arith, lt-ltb, le-ltb}
use Rattle.std.proofs.lemmas.Bool.{cases_lt}
use Rattle.std.specs.List.{list_all, range_with_len}
use Rattle.rules_walks.specs.Pick.{pick}
use Rattle.rules_walks.specs.All.{all_to}
use Rattle.std.proofs.Math.ListN.{get_or-map}
use Rattle.rules_tables.specs.Form.{form, forms, form_of, used_of, clear_at}
use Rattle.table_frames.proofs.laws.Ranges.{all_between}
use Rattle.table_frames.proofs.Coded.{held, zero_at}
use Rattle.table_frames.specs.Form.{in_bytes}
use Rattle.table_frames.specs.declared.form.Form.{Form as InBytes}

module _ (k : ℕ) where
  held_form : held k ≡ in_bytes (form_of k)
  held_form = get_or-map in_bytes forms k (form 0 [] 0)

  pub held_flags : (held k).flags ≡ (form_of k).flags
  held_flags = ap (λ (x : InBytes). x.flags) held_form

  pub held_fields : (held k).fields ≡ (form_of k).fields
  held_fields = ap (λ (x : InBytes). x.fields) held_form

  pub held_most : (held k).most ≡ (form_of k).most
  held_most = ap (λ (x : InBytes). x.most) held_form

-- the entry of a flag, the last one from 8 on
entry : (g : ℕ) → min g 8 ≡ pick (ltb g 8) g 8
entry g =
    ⊎_elim (λ l. rw (lt-ltb g 8 l) (omega arith))
    (λ h. rw (le-ltb g 8 h) (omega arith)) (cases_lt g 8)

pub used_is : (k n m g x : ℕ) → n ≡ k → m ≡ min g 8 → x ≡ get_or (held n).fields m 0 → x ≡ used_of k g
unfolding used_of
used_is k n m g x a b e = e ∙ rw (a, b, entry g, held_fields k) refl

-- where the fields from u on are zero, all are used or zero
pub clear_from : (T : List ℕ) (f u : ℕ) → list_all (zero_at T f) (range_with_len u (5 - u)) ≡ all_to (clear_at T f u) 5
unfolding clear_at
clear_from T f u = all_between (zero_at T f) (clear_at T f u) (5 - u) u 5 refl (λ i p. rw (lt-ltb i u p)) (λ i p q. rw (le-ltb i u p))
