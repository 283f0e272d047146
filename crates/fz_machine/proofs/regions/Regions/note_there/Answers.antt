use Rattle.std.proofs.Common.{◌≡◌, ◌∙◌, false, is_some, OnOk, nat_eq, map, take, ap, sym, subst, refl}
use Rattle.std.proofs.lemmas.Map.Made.{is_some-lookup}
use Rattle.std.specs.List.{list_any}
use Rattle.std.specs.Map.{keys_of, lookup}
use Rattle.fz_machine.specs.Regions.{Regions, IsNoted, placed, region_of, worded}
use Rattle.fz_machine.specs.declared.regions.Noted.{Noted}
use Rattle.fz_machine.proofs.Noting.{added, added_kept, added_noted, added_same, viewed, viewed_by}
use Rattle.fz_machine.proofs.regions.Regions.note_there.Goals as goal
use Rattle.fz_machine.proofs.regions.Regions.note_there.Goals.{in-Ok, in-Err}

module _ (c : goal.Joined-insert) where
  -- the table is the same, but for bits that aren't set
  view : viewed c.self.inside.noted.entries c.self.inside.heard c.self.inside.end c.self.inside.asked c.self.inside.complete ≡ record c.args.self.now { order = c.place.new.self.order }
  view = c.self.view_is ∙ c.place.ensures.same

  absent : is_some (lookup (nat_eq (region_of c.args.n)) c.place.new.self.order) ≡ false
  absent =
      is_some-lookup (nat_eq (region_of c.args.n)) c.place.new.self.order ∙ ap (list_any (nat_eq (region_of c.args.n))) c.place.ensures.keys ∙ sym (is_some-lookup (nat_eq (region_of c.args.n)) c.args.self.now.order)
      ∙ sym c.place.ensures.there ∙ sym c.is_some.ensures ∙ c.if-is_some.false

  abbrev v : Noted
  v = record { places = c.bit.result; told = 0 }

pub returns-clause-same : goal.returns-clause-same
returns-clause-same c = elim c.match-insert.branch [
  | in-Ok w ↦ added_same c.self.inside.noted.entries (record c.args.self.now { order = c.place.new.self.order }) c.self.inside.heard c.self.inside.end c.self.inside.asked c.self.inside.complete (view c) (c.region_of.result, v c) c.insert.new.self.entries c.self.invariant.0 c.self.invariant.1
      (added c.self.inside.noted.entries (record c.args.self.now { order = c.place.new.self.order }) c.self.inside.heard c.self.inside.end c.self.inside.asked c.self.inside.complete (view c) c.args.n c.region_of.result c.region_of.ensures (absent c) (v c) c.insert.new.self.entries c.self.inside.noted refl w.in-Ok.ensures.entries)
  | in-Err w ↦ viewed_by c.self.inside.noted.entries c.insert.new.self.entries (record c.args.self.now { order = c.place.new.self.order }) c.self.inside.heard c.self.inside.end c.self.inside.asked c.self.inside.complete (view c) (ap keys_of w.in-Err.ensures.err) (ap (λ xs. map worded (take c.self.inside.heard xs)) w.in-Err.ensures.err)
]

pub returns-clause-noted : goal.returns-clause-noted
returns-clause-noted c = elim c.match-insert.branch [
  | in-Ok w ↦ subst (λ r. OnOk r (IsNoted (map placed c.insert.new.self.entries) c.args.n)) (sym w.result-is)
      (added_noted c.self.inside.noted.entries (record c.args.self.now { order = c.place.new.self.order }) c.self.inside.heard c.self.inside.end c.self.inside.asked c.self.inside.complete (view c) c.args.n c.region_of.result c.region_of.ensures (absent c) (v c) c.insert.new.self.entries w.in-Ok.ensures.updates.0 c.place_in.result c.bit.result c.place_in.ensures c.bit.ensures refl)
  | in-Err w ↦ subst (λ r. OnOk r (IsNoted (map placed c.insert.new.self.entries) c.args.n)) (sym w.result-is) tt
]

pub returns-clause-kept : goal.returns-clause-kept
returns-clause-kept c = elim c.match-insert.branch [
  | in-Ok w ↦ λ other noted.
      added_kept c.self.inside.noted.entries (record c.args.self.now { order = c.place.new.self.order }) c.self.inside.heard c.self.inside.end c.self.inside.asked c.self.inside.complete (view c) c.args.n c.region_of.result c.region_of.ensures (absent c) (v c) c.insert.new.self.entries w.in-Ok.ensures.updates.0 other (c.place.ensures.kept other noted)
  | in-Err w ↦ λ other noted. subst (λ xs. IsNoted (map placed xs) other) (sym w.in-Err.ensures.err) (subst (λ (r : Regions). IsNoted r.order other) (sym c.self.view_is) (c.place.ensures.kept other noted))
]
