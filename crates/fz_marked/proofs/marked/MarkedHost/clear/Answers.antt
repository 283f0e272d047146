use Rattle.std.proofs.Common.{◌∙◌, ap, sym, refl}
use Rattle.std.specs.FinMap.{keys}
use Rattle.fz_heap.specs.Contents.{Contents}
use Rattle.fz_marked.proofs.Carried.{written_or_not, keys-written}
use Rattle.fz_marked.proofs.marked.MarkedHost.clear.Goals as goal

pub returns-clause-objects : goal.returns-clause-objects
returns-clause-objects c = ap (λ (h : Contents). h.objects) (written_or_not c.args.self.now.heap c.write.new.self c.args.word 0 c.write.result c.write.ensures.judged c.write.ensures.unchanged c.write.ensures.written)

pub returns-clause-same : goal.returns-clause-same
returns-clause-same c =
    let heap = c.args.self.now.heap in
    let is = written_or_not heap c.write.new.self c.args.word 0 c.write.result c.write.ensures.judged c.write.ensures.unchanged c.write.ensures.written in
    record {
      heap_is = is ∙ ap (λ m. record heap { objects = m }) (ap (λ (h : Contents). h.objects) (sym is));
      starts = ap (λ (h : Contents). keys h.objects) is ∙ keys-written c.args.word 0 heap.objects;
      marker_is = refl;
    }
