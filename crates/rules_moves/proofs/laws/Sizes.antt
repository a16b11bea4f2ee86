-- What a move writes has 48 bytes at most.
use Rattle.std.specs.Prelude.{List, ℕ, ◌≤◌}
use Rattle.std.proofs.Common.{arith}
use Rattle.rules_tables.specs.declared.Shape.{Shape}
use Rattle.rules_tables.specs.Good.{Good}
use Rattle.rules_store.specs.Word.{birth_of}
use Rattle.rules_moves.proofs.laws.Record.{put_out_most}
use Rattle.rules_moves.specs.declared.Next.{Next}
use Rattle.rules_moves.specs.declared.Next.TheVariants.{Take, Change, Idle, Step, End, Back, Nothing}
use Rattle.rules_moves.specs.Next.{written_by, size_by}

pub size_most : (T : List ℕ) (S : Shape) (time : ℕ) (n : Next) (s : List ℕ) → Good T S → size_by T S time n s ≤ 48
unfolding size_by written_by
size_most T S time (Take i) s g = put_out_most T S i (birth_of S s i) time s g
size_most T S time (Change j) s g = omega arith
size_most T S time Idle s g = omega arith
size_most T S time (Step j) s g = omega arith
size_most T S time (End j) s g = omega arith
size_most T S time Back s g = omega arith
size_most T S time Nothing s g = omega arith
