use Rattle.trace_file.proofs.Forms.{Said}
use Rattle.trace_file.proofs.identifier.value.Given as goal

abbrev pub invariant-loop-c : goal.invariant-loop-c
invariant-loop-c l = Said l.chars l.c-index l.n
