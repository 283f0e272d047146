use Rattle.std.proofs.Common.{◌≡◌, ◌≤◌, ℕ, Bool, true, false, refl, sym, ap, subst, arith}
use Rattle.std.specs.FinSet.{contains, insert, len}
use Rattle.fz_bits.specs.Flags.{Set, Flagged}
use Rattle.fz_model.proofs.Sets.{len_inserted, inserted_again}
use Rattle.fz_marker.specs.Frontiers.{IsAmong}
use Rattle.fz_marker.proofs.frontier.Frontier.enter.Goals as goal

no_fewer : (s : Set) (n : ℕ) (b : Bool) → contains s n ≡ b → len s ≤ len (insert s n)
no_fewer s n true known = let same = ap len (inserted_again s n known) in omega (arith, same)
no_fewer s n false fresh = let more = len_inserted s n fresh in omega (arith, more)

pub invariant_of-self : goal.invariant_of-self
invariant_of-self c =
    let set = c.self.inside.set in
    let more : len set.members ≤ len c.insert.new.self.members = subst (λ (f : Flagged). len set.members ≤ len f.members) (sym c.insert.ensures.inserted) (no_fewer set.members c.args.object (contains set.members c.args.object) refl) in
    let size : c.insert.new.self.size ≡ set.size = ap (λ (f : Flagged). f.size) c.insert.ensures.inserted in
    record {
      wait = omega (arith, more, c.self.invariant.wait);
      few = c.insert.ensures.room;
      room = omega (arith, size, c.self.invariant.room);
      within = λ a h. subst (λ n. IsAmong n a) (sym size) (c.self.invariant.within a h);
    }
