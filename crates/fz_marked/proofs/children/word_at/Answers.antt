use Rattle.std.proofs.Common.{ℕ, ◌-◌, Option, sym, ap}
use Rattle.std.specs.Prelude.{option_and_then, option_map, slice_index, unwrap_or}
use Rattle.std.specs.FinMap.{get}
use Rattle.fz_model.specs.State.{Object}
use Rattle.fz_marked.proofs.Carried.{refused_nowhere}
use Rattle.fz_marked.proofs.children.word_at.Goals as goal

pub returns-in-Err : goal.returns-in-Err
returns-in-Err c =
    let objects = c.args.heap.now.objects in
    sym (ap (λ (p : Option ℕ). unwrap_or (option_and_then (λ start. option_map (λ (o : Object). slice_index o.words (c.args.address - start)) (get objects start)) p) 0) (refused_nowhere objects c.args.address c.in-Err.field-0 c.in-Err.ensures.judged))
