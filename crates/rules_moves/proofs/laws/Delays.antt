-- What taking START or STOP does at a delay: document 02, A3. "The standard's E_DELAY counts from the first START, and later ones before the output have no
-- effect. .. DT is still sampled."
use Rattle.std.specs.Prelude.{◌≡◌, List, true, false, ℕ, ◌+◌, ◌<◌}
use Rattle.std.proofs.Math.Path.{refl}
use Rattle.std.proofs.Common.{sym, ◌∙◌, eq-eqb, ne_eqb}
use Rattle.rules_walks.specs.Choose.{choose}
use Rattle.rules_walks.proofs.laws.Choose.{choose_true, choose_false, by_choose}
use Rattle.rules_walks.proofs.laws.Walk.{up_to_keeps}
use Rattle.rules_tables.specs.Kind.{delay}
use Rattle.rules_tables.specs.Frame.{flag_at}
use Rattle.rules_tables.specs.declared.Shape.{Shape}
use Rattle.rules_tables.specs.Ids.{inputs, associations}
use Rattle.rules_tables.specs.Lawful.{Lawful}
use Rattle.rules_store.specs.Word.{due_flag}
use Rattle.rules_store.specs.Due.{put_due}
use Rattle.rules_store.specs.Earliest.{NextKept}
use Rattle.rules_store.proofs.laws.PutDue.{value_keeps}
use Rattle.rules_store.specs.Part.{input, sampled as «samples_part», just, also}
use Rattle.rules_moves.specs.Partner.{input_owner}
use Rattle.rules_moves.specs.Take.{sample, samples, fire_found, dt_of, is_start, started, start_stop, sampled, settle, settled, fired_by, taken}
use Rattle.rules_moves.proofs.laws.Taking.{sampled_leaves}

-- an event that is taken, whatever its element, leaves the next due time until START or STOP has its say
pub samples_keep : (T : List ℕ) (S : Shape) (i : ℕ) (s : List ℕ) → NextKept S s → NextKept S (samples T S i s)
unfolding sample
samples_keep T S i s k = up_to_keeps (NextKept S) (sample T S i) (associations S) s (λ j _ x w. by_choose (NextKept S) _ _ x (λ _. value_keeps S x w _ _) (λ _. w)) k

module _ (T : List ℕ) (S : Shape) (k : Lawful T S) (i t : ℕ) (s : List ℕ) (l : i < inputs S) (e : flag_at T (input_owner T S i) ≡ delay) where
  abbrev el : ℕ
  el = input_owner T S i

  -- it fires nothing
  pub taken_delay : taken T S i t s ≡ start_stop T S el i t (sampled T S i s)
  unfolding taken settled settle fired_by fire_found choose
  taken_delay = rw e refl

  -- taking the event leaves the due flag until START or STOP has its say
  flag_same : due_flag (sampled T S i s) el ≡ due_flag s el
  flag_same = ((sampled_leaves T S k (also «samples_part» (just input)) refl refl i s l).dues refl el (k.is_good.input_element i l)).flag

  -- START
  pub first_start : is_start T S el i ≡ true → due_flag s el ≡ 0 → taken T S i t s ≡ put_due S el 1 (t + dt_of T S el (sampled T S i s)) (sampled T S i s)
  unfolding start_stop started
  first_start b z = taken_delay ∙ choose_true _ _ _ b ∙ choose_true _ _ _ (eq-eqb _ _ (flag_same ∙ z))

  -- a START that is taken while the delay is due samples, and nothing else
  pub second_start : is_start T S el i ≡ true → (due_flag s el ≡ 0 → ⊥) → taken T S i t s ≡ sampled T S i s
  unfolding start_stop started
  second_start b n = taken_delay ∙ choose_true _ _ _ b ∙ choose_false _ _ _ (ne_eqb _ _ (λ z. n (sym flag_same ∙ z)))

  -- STOP
  pub stop_clears : is_start T S el i ≡ false → taken T S i t s ≡ put_due S el 0 0 (sampled T S i s)
  unfolding start_stop
  stop_clears b = taken_delay ∙ choose_false _ _ _ b
