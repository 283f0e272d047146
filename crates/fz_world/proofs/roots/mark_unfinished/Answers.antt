use Rattle.std.proofs.Common.{◌∙◌, ap, arith, IsTrue}
use Rattle.std.proofs.lemmas.List.Elements.{All-contains}
use Rattle.std.specs.FinMap.{contains_key}
use Rattle.fz_model.specs.declared.answers.Entry.{Entry}
use Rattle.fz_marker.specs.Marking.{Marking}
use Rattle.fz_finalizers.specs.States.{unfinished}
use Rattle.fz_world.proofs.Marking.{held_none, held_next, held_all}
use Rattle.fz_world.proofs.roots.mark_unfinished.Goals as goal

pub loop-entry-init : goal.loop-entry-init
loop-entry-init c = held_none c.args.heap.now.objects c.args.marker.now (unfinished c.args.finalizers.now.state)

pub mark_entry-requires-clause-size : goal.mark_entry-requires-clause-size
mark_entry-requires-clause-size c = ap (λ (m : Marking). m.size) c.loop-entry.invariant.same ∙ c.requires.size

pub mark_entry-requires-clause-here : goal.mark_entry-requires-clause-here
mark_entry-requires-clause-here c = All-contains (λ (e : Entry). IsTrue (contains_key c.args.heap.now.objects e.obj)) (unfinished c.args.finalizers.now.state) c.in-Some.entry c.requires.here c.in-Some.ensures.next.member

pub overflow_add-from : goal.overflow_add-from
overflow_add-from c = let within = c.in-Some.ensures.within in let few = c.in-Some.ensures.few in omega (arith, within, few)

pub loop-entry-smaller : goal.loop-entry-smaller
loop-entry-smaller c = let within = c.in-Some.ensures.within in let after = c.in-Some.ensures.next.after in omega (arith, within, after)

pub loop-entry-preserved : goal.loop-entry-preserved
loop-entry-preserved c =
    held_next c.args.heap.now.objects c.args.marker.now c.loop-entry.marker c.mark_entry.new.marker (unfinished c.args.finalizers.now.state) c.loop-entry.from c.in-Some.entry c.in-Some.ensures.next c.loop-entry.invariant c.mark_entry.ensures

pub returns : goal.returns
returns c = held_all c.args.heap.now.objects c.args.marker.now c.loop-entry.marker (unfinished c.args.finalizers.now.state) c.loop-entry.from c.in_default.ensures.next c.loop-entry.invariant
