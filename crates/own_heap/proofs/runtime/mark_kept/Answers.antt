use Rattle.std.proofs.Common.{◌≡◌, ◌++◌, ◌∷◌, [], ◌∙◌, refl, sym, ap, subst}
use Rattle.fz_finalizers.specs.Walks.{somes}
use Rattle.fz_pass.specs.Marks.{IsClosed, Marks}
use Rattle.fz_pass.proofs.Walking.{one_on, all_of}
use Rattle.own_heap.specs.declared.records.Records.{Records}
use Rattle.own_heap.specs.Records.{objects_of, IsLedByWord}
use Rattle.own_heap.specs.Marking.{is_marked}
use Rattle.own_heap.specs.Collected.{IsLedByAny}
use Rattle.own_heap.proofs.Collected.{marks_on, marks_nothing, led_by_more}
use Rattle.own_heap.proofs.runtime.mark_kept.Goals as goal

pub loop-word-init : goal.loop-word-init
loop-word-init c =
    let objects = objects_of c.args.heap.now.records.slots.items in
    record { records = refl; roots = refl; marked = marks_nothing objects (is_marked c.args.heap.now.marks) c.requires; rest = refl }

pub mark_word-requires : goal.mark_word-requires
mark_word-requires c =
    record { closed = subst (λ (r : Records). IsClosed (objects_of r.slots.items) (is_marked c.loop-word.heap.marks)) (sym c.loop-word.invariant.records) c.loop-word.invariant.marked.closed }

pub loop-word-preserved : goal.loop-word-preserved
loop-word-preserved c =
    let inv = c.loop-word.invariant in
    let objects = objects_of c.args.heap.now.records.slots.items in
    let word = c.in-Some.word in
    let led = subst (λ (r : Records). Marks (Unit {0}) (objects_of r.slots.items) (is_marked c.loop-word.heap.marks) (is_marked c.mark_word.new.self.marks) (IsLedByWord (objects_of r.slots.items) word)) inv.records c.mark_word.ensures.marked in
    record {
      records = c.mark_word.ensures.rest.0 ∙ inv.records;
      roots = c.mark_word.ensures.rest.1 ∙ inv.roots;
      marked = marks_on (IsLedByAny objects (c.loop-word.yielded ++ word ∷ [])) inv.marked led (led_by_more objects c.loop-word.yielded word);
      rest = one_on c.loop-word.yielded (somes c.loop-word.word-iterator) _ (somes c.next.new.self) word inv.rest c.in-Some.ensures.steps;
    }

pub returns-clause-marked : goal.returns-clause-marked
returns-clause-marked c =
    let objects = objects_of c.args.heap.now.records.slots.items in
    let words = somes c.roots-word-items.result in
    let all : c.loop-word.yielded ≡ words = all_of c.loop-word.yielded _ words (c.loop-word.invariant.rest ∙ ap somes c.into_iter-word-iterator.ensures.into_iter_gives) c.in-None.ensures.steps.0 in
    record { words = words; yielded = c.roots-word-items.ensures.sort; marked = subst (λ ws. Marks (Unit {0}) objects (is_marked c.args.heap.now.marks) (is_marked c.loop-word.heap.marks) (IsLedByAny objects ws)) all c.loop-word.invariant.marked }
