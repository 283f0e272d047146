-- What the words so far point to.
use Rattle.std.proofs.Common.{take}
use Rattle.fz_pass.specs.Leading.{AnyOf}
use Rattle.fz_marked.specs.Traces.{Traces, IsTargetBut}
use Rattle.fz_marked.proofs.children.trace_children.Given as goal

abbrev pub invariant-loop-word : goal.invariant-loop-word
invariant-loop-word l = Traces l.heap.objects l.initial.marker l.marker (AnyOf (take l.word-index l.word-items) (IsTargetBut l.heap.objects l.but_itself l.object))
