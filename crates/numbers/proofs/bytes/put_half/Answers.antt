-- `bytes::put_half` meets its contract: the library's bytes are those of the rules (`half_told`), and what is copied is a run of stores (`put_run`).
use native.Mathlib.Omega.{arith}
use mathlib.Core.Path.{◌∙◌}
use Rattle.rules_numbers.specs.Bytes.{half_bytes, word_bytes}
use Rattle.numbers.proofs.Runs.{half_told, put_run}
use Rattle.numbers.proofs.bytes.put_half.Goals as goal

pub returns : goal.returns
unfolding half_bytes word_bytes
returns c =
    let a = c.args in
    put_run a.s.now a.at _ _ (half_bytes a.h) (c.copy_from_slice.ensures.after ∙ c.to_be_bytes.ensures ∙ half_told a.h (omega arith)) (omega arith) (omega arith)
