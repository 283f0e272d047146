-- Entries that agree in all fields are one.
use Rattle.std.proofs.Common.{◌≡◌, ◌==◌, true, refl}
use Rattle.std.proofs.lemmas.Bool.{and_from, and_parts, eqb-true, eq-eqb}
use Rattle.fz_model.specs.declared.answers.Entry.{Entry}
use Rattle.fz_model.specs.Events.{same_entry}

pub one_entry : (d e : Entry) → same_entry d e ≡ true → d ≡ e
one_entry d e h =
    let seq = and_parts (d.seq == e.seq) _ h in
    let pass = and_parts (d.pass == e.pass) _ seq.1 in
    let reg = and_parts (d.reg == e.reg) _ pass.1 in
    let obj = and_parts (d.obj == e.obj) _ reg.1 in
    let birth = and_parts (d.birth == e.birth) _ obj.1 in
    let last = and_parts (d.proc == e.proc) (d.cd == e.cd) birth.1 in
    λ i. record {
      seq = eqb-true d.seq e.seq seq.0 i;
      pass = eqb-true d.pass e.pass pass.0 i;
      reg = eqb-true d.reg e.reg reg.0 i;
      obj = eqb-true d.obj e.obj obj.0 i;
      birth = eqb-true d.birth e.birth birth.0 i;
      proc = eqb-true d.proc e.proc last.0 i;
      cd = eqb-true d.cd e.cd last.1 i;
    }

pub same_itself : (e : Entry) → same_entry e e ≡ true
same_itself e =
    and_from _ _ (eq-eqb e.seq e.seq refl) (and_from _ _ (eq-eqb e.pass e.pass refl) (and_from _ _ (eq-eqb e.reg e.reg refl) (and_from _ _ (eq-eqb e.obj e.obj refl)
    (and_from _ _ (eq-eqb e.birth e.birth refl) (and_from _ _ (eq-eqb e.proc e.proc refl) (eq-eqb e.cd e.cd refl))))))
