use Rattle.std.proofs.Common.{◌≡◌, inl, sym, ap, ◌∙◌}
use Rattle.std.specs.FinSet.{contains}
use Rattle.fz_bits.specs.Flags.{Flagged}
use Rattle.fz_model.proofs.Sets.{inserted_again}
use Rattle.fz_marker.proofs.Gaining.{not_off}
use Rattle.fz_marker.proofs.cycle.Cycle.visit.Goals as goal

pub returns-else-insert-clause-visited : goal.returns-else-insert-clause-visited
returns-else-insert-clause-visited c _ =
    let old = c.args.self.now in
    let known = not_off (contains old.scanned.members c.args.start) (sym c.insert.ensures.new ∙ c.if-insert.false) in
    let same : c.insert.new.self ≡ old.scanned = c.insert.ensures.inserted ∙ ap (λ m. record { size = old.scanned.size; members = m }) (inserted_again old.scanned.members c.args.start known) in
    inl (known, ap (λ (s : Flagged). record { marks = old.marks; scanned = s; scans = old.scans }) same)
