-- The bytes of a record as they are written one after another.
use mathlib.Core.Path.{◌≡◌, refl, sym, ap, ◌∙◌}
use mathlib.Core.List.{List, [], ◌++◌, append_assoc}
use mathlib.Core.Bool.{true}
use Prim.Native.Nat.{ℕ, ◌+◌, ◌*◌, ◌<◌, ◌≤◌}
use native.Mathlib.Omega.{arith}
use lib.ListN.{length, length-append}
use lib.Seq.{sets}
use Rattle.rules_walks.proofs.laws.Choose.{choose_true}
use Rattle.rules_walks.specs.Count.{count_if}
use Rattle.rules_walks.proofs.laws.Count.{count_hit, count_past}
use Rattle.rules_walks.specs.Walk.{up_to}
use Rattle.rules_walks.proofs.laws.Walk.{up_to_next}
use Rattle.rules_numbers.proofs.laws.Sets.{and_then_lem}
use Rattle.rules_numbers.specs.Bytes.{half_bytes, word_bytes}
use Rattle.rules_numbers.proofs.laws.Bytes.{length_half, length_word}
use Rattle.rules_tables.specs.Kind.{of_input}
use Rattle.rules_tables.specs.Frame.{field_at}
use Rattle.rules_tables.specs.declared.Shape.{Shape}
use Rattle.rules_tables.specs.Ids.{first_association, associations, association_frame}
use Rattle.rules_store.specs.Word.{value}
use Rattle.rules_moves.specs.Carry.{voice, speaks}
use Rattle.rules_moves.specs.Record.{head, value_of}
use Rattle.rules_moves.proofs.laws.Record.{head_length, values_length}
use Rattle.rules_tables.specs.Owned.{belongs}
use Rattle.table_index.specs.Leads.{Leads}
use Rattle.table_index.proofs.laws.Leads.{leads_walk}
use Rattle.moves_take.proofs.Turns.{value_idle}

-- five writes make the head
pub head_written : (l l₁ l₂ l₃ l₄ l₅ : List ℕ) (at el i birth last time : ℕ) → l₁ ≡ sets l at (half_bytes el) → l₂ ≡ sets l₁ (at + 2) (half_bytes i) → l₃ ≡ sets l₂ (at + 4) (word_bytes birth)
    → l₄ ≡ sets l₃ (at + 8) (word_bytes last) → l₅ ≡ sets l₄ (at + 12) (word_bytes time) → l₅ ≡ sets l at (head el i birth last time)
unfolding head
head_written l l₁ l₂ l₃ l₄ l₅ at el i birth last time p₁ p₂ p₃ p₄ p₅ =
    let a = and_then_lem l at (at + 2) (half_bytes el) (half_bytes i) (rw (length_half el) refl) p₁ p₂ in
    let b = and_then_lem l at (at + 4) (half_bytes el ++ half_bytes i) (word_bytes birth) (simp (length-append, length_half)) a p₃ in
    let c = and_then_lem l at (at + 8) ((half_bytes el ++ half_bytes i) ++ word_bytes birth) (word_bytes last) (simp (length-append, length_half, length_word)) b p₄ in
    let d = and_then_lem l at (at + 12) (((half_bytes el ++ half_bytes i) ++ word_bytes birth) ++ word_bytes last) (word_bytes time) (simp (length-append, length_half, length_word)) c p₅ in
    let e : (((half_bytes el ++ half_bytes i) ++ word_bytes birth) ++ word_bytes last) ++ word_bytes time ≡ half_bytes el ++ half_bytes i ++ word_bytes birth ++ word_bytes last ++ word_bytes time = simp append_assoc in
    d ∙ ap (sets l at) e

module _ (T : List ℕ) (S : Shape) (s : List ℕ) (i : ℕ) where
  -- before the first association that speaks nothing is written
  none_yet : {b n : ℕ} → Leads (belongs T (first_association S) of_input i) 0 b n → up_to (value_of T S s i) b [] ≡ []
  unfolding up_to
  none_yet l = leads_walk l (value_of T S s i) [] (λ j q x. value_idle T S s i j q x)

  pub place_first : {b n at p : ℕ} → Leads (belongs T (first_association S) of_input i) 0 b n → p ≡ at → p ≡ at + length (up_to (value_of T S s i) b [])
  place_first l e = rw (none_yet l) (omega arith)

  pub written_first : {b n : ℕ} (l : List ℕ) (at : ℕ) → Leads (belongs T (first_association S) of_input i) 0 b n → l ≡ sets l at (up_to (value_of T S s i) b [])
  written_first l at w = rw (none_yet w) refl

  module _ (l l₁ l₂ : List ℕ) (at p j : ℕ) (told : speaks T S (voice of_input i) j ≡ true) (place : p ≡ at + length (up_to (value_of T S s i) j [])) (done : l₁ ≡ sets l at (up_to (value_of T S s i) j [])) where
    -- association j speaks: its value comes next, and those that do not speak add nothing
    pub value_written : {v x b n : ℕ} → Leads (belongs T (first_association S) of_input i) (j + 1) b n → v ≡ field_at T (association_frame S j) 1 → x ≡ value S s v → l₂ ≡ sets l₁ p (word_bytes x) → l₂ ≡ sets l at (up_to (value_of T S s i) b [])
    unfolding value_of
    value_written {v} {x} w a e u =
        let g : up_to (value_of T S s i) (j + 1) [] ≡ up_to (value_of T S s i) j [] ++ word_bytes x = rw (up_to_next (value_of T S s i) j [], choose_true _ _ _ told, ← a, ← e) in
        and_then_lem l at p (up_to (value_of T S s i) j []) (word_bytes x) place done u ∙ ap (sets l at) (sym g ∙ sym (leads_walk w (value_of T S s i) [] (λ k q y. value_idle T S s i k q y)))

    pub value_place : {p' b n : ℕ} → Leads (belongs T (first_association S) of_input i) (j + 1) b n → p' ≡ p + 4 → p' ≡ at + length (up_to (value_of T S s i) b [])
    value_place w e =
        let h = values_length T S s i j in
        let k = values_length T S s i (j + 1) in
        let n = count_hit (speaks T S (voice of_input i)) j told in
        let g : up_to (value_of T S s i) _ [] ≡ up_to (value_of T S s i) (j + 1) [] = leads_walk w (value_of T S s i) [] (λ k q y. value_idle T S s i k q y) in
        rw g (omega arith)

    -- there is room for it
    pub value_fits : (n room : ℕ) → j < n → at + 4 * count_if (speaks T S (voice of_input i)) n ≤ room → p + 4 ≤ room
    value_fits n room l h =
        let k = values_length T S s i j in
        let m = count_past (speaks T S (voice of_input i)) j n l told in
        omega arith

-- the place after the last value
pub values_end : (T : List ℕ) (S : Shape) (s : List ℕ) (i at j : ℕ) {p : ℕ} → p ≡ at + length (up_to (value_of T S s i) j []) → j ≡ associations S
    → p ≡ at + 4 * count_if (speaks T S (voice of_input i)) (associations S)
values_end T S s i at j e q = e ∙ ap (λ (n : ℕ). at + n) (values_length T S s i j ∙ ap (λ (n : ℕ). 4 * count_if (speaks T S (voice of_input i)) n) q)

-- the head and then the values make the record
pub record_written : (l l₁ l₂ : List ℕ) (at el i birth last time : ℕ) (vs : List ℕ) → l₁ ≡ sets l at (head el i birth last time) → l₂ ≡ sets l₁ (at + 16) vs
    → l₂ ≡ sets l at (head el i birth last time ++ vs)
record_written l l₁ l₂ at el i birth last time vs p q =
    and_then_lem l at (at + 16) (head el i birth last time) vs (ap (λ (n : ℕ). at + n) (sym (head_length el i birth last time))) p q
