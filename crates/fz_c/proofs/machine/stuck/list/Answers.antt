use Rattle.std.proofs.Common.{rules, ◌≡◌, ◌∙◌, Option, Some, None, length, refl, sym, subst, inl}
use Rattle.fz_machine.specs.Machines.{Machine}
use Rattle.fz_c.specs.MachineWhy.{AreStuckBy, AsksThrough, ListsStuck}
use Rattle.fz_c.proofs.machine.stuck.list.Goals as goal

pub returns-in-Ok-Some : goal.returns-in-Ok-Some
returns-in-Ok-Some c =
    let s = c.args.session.now in
    let t : _ = record s { path = c.in-Ok-Some.objects } in
    let m = c.in-Some.it.value in
    let told = rw c.in-Ok-Some.is at c.stuck_by-reply.ensures in
    let listed = rw c.in-Ok-Some.field-0-is at told.1 in
    let here = subst (λ (k : Machine). (k.phase ≡ None) × AreStuckBy k s.snapshot c.in-Ok-Some.objects.items) (c.behind-it.view_is ∙ c.deref.ensures) (told.0, listed) in
    let count : c.len.result ≡ length c.in-Ok-Some.objects.items = search rules in
    let body : AsksThrough ListsStuck (Some m) (Some m) s t 0 c.args.count.now c.len.result = (refl, inl (refl, here.0, here.1, count, refl)) in
    subst (λ (o : Option Machine). AsksThrough ListsStuck o c.put.new.handle.value s t 0 c.args.count.now c.len.result) (sym c.in-Some.ensures.taken) (subst (λ (o : Option Machine). AsksThrough ListsStuck (Some m) o s t 0 c.args.count.now c.len.result) (sym c.put.ensures) body)
