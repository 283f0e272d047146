use Rattle.std.proofs.Common.{◌≡◌, ◌∙◌, List, ℕ, take, ◌+◌, subst}
use Rattle.std.proofs.lemmas.List.{take_all}
use Rattle.fz_heap.specs.Contents.{pointers_of}
use Rattle.fz_pass.specs.Leading.{AnyOf}
use Rattle.fz_marked.specs.Traces.{Traces, IsTargetBut}
use Rattle.fz_marked.proofs.Traced.{traces_then, traces_as, any_take, any_pointer}
use Rattle.fz_marked.proofs.children.trace_children.Goals as goal

pub loop-word-preserved : goal.loop-word-preserved
loop-word-preserved c =
    let objects = c.args.heap.now.objects in
    let words = c.pointers-word-items.result.now in
    let i = c.loop-word.word-index in
    let P = IsTargetBut objects c.args.but_itself c.args.object in
    traces_as objects c.args.marker.now c.trace_target.new.marker _ (AnyOf (take (i + 1) words) P) (any_take P words i c.loop-word-test.true)
    (traces_then objects c.args.marker.now c.loop-word.marker c.trace_target.new.marker (AnyOf (take i words) P) _ c.loop-word.invariant c.trace_target.ensures)

pub returns : goal.returns
returns c =
    let objects = c.args.heap.now.objects in
    let P = IsTargetBut objects c.args.but_itself c.args.object in
    let words = c.pointers-word-items.result.now in
    let all : take c.loop-word.word-index words ≡ pointers_of objects c.args.object = take_all c.loop-word.word-index words c.loop-word-test.false ∙ c.pointers-word-items.ensures in
    traces_as objects c.args.marker.now c.loop-word.marker (AnyOf (pointers_of objects c.args.object) P) _ (any_pointer objects c.args.but_itself c.args.object)
    (subst (λ (ws : List ℕ). Traces objects c.args.marker.now c.loop-word.marker (AnyOf ws P)) all c.loop-word.invariant)
