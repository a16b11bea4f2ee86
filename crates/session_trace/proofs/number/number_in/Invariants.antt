use Rattle.session_trace.proofs.Counting.{Counted}
use Rattle.session_trace.proofs.number.number_in.Given as goal

abbrev pub invariant-loop-c : goal.invariant-loop-c
invariant-loop-c l = Counted l.word l.c-index l.n
