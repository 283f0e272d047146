use Rattle.std.proofs.Common.{◌≡◌, ◌≤◌, ◌+◌, ◌∷◌, [], ◌++◌, ◌∙◌, IsTrue, Contains, length, length-append, sym, ap, subst, arith, vec_capacity}
use Rattle.std.specs.FinSet.{contains, len}
use Rattle.fz_bits.specs.Flags.{Flagged}
use Rattle.fz_model.proofs.Sets.{len_inserted, inserted_again}
use Rattle.fz_marker.specs.Frontiers.{Frontier, Gains, HasRoom, IsAmong}
use Rattle.fz_marker.proofs.Gaining.{gains_known, gains_one, push_within, not_on, not_off}
use Rattle.fz_marker.proofs.frontier.Frontier.add.Goals as goal

pub put_last-requires : goal.put_last-requires
put_last-requires c =
    let set = c.self.inside.set in
    let fresh = not_on (contains set.members c.args.start) (sym c.insert.ensures.new ∙ c.if-insert.true) in
    let more : len c.insert.new.self.members ≡ len set.members + 1 = ap (λ (f : Flagged). len f.members) c.insert.ensures.inserted ∙ len_inserted set.members c.args.start fresh in
    let size : c.insert.new.self.size ≡ set.size = ap (λ (f : Flagged). f.size) c.insert.ensures.inserted in
    omega (arith, more, size, c.insert.ensures.room, c.self.invariant.wait, c.self.invariant.room)

pub invariant_of-self : goal.invariant_of-self
invariant_of-self c =
    let set = c.self.inside.set in
    let fresh = not_on (contains set.members c.args.start) (sym c.insert.ensures.new ∙ c.if-insert.true) in
    let more : len c.insert.new.self.members ≡ len set.members + 1 = ap (λ (f : Flagged). len f.members) c.insert.ensures.inserted ∙ len_inserted set.members c.args.start fresh in
    let size : c.insert.new.self.size ≡ set.size = ap (λ (f : Flagged). f.size) c.insert.ensures.inserted in
    let long : length c.put_last.new.work.items ≡ length c.self.inside.work.items + 1 = ap length c.put_last.ensures.items ∙ length-append c.self.inside.work.items (c.args.start ∷ []) in
    let among = subst (λ (v : Frontier). IsAmong v.size c.args.start) (sym c.self.view_is) c.requires in
    record {
      wait = omega (arith, more, long, c.self.invariant.wait);
      few = c.insert.ensures.room;
      room = omega (arith, size, c.put_last.ensures.capacity, c.self.invariant.room);
      within = λ a h. subst (λ n. IsAmong n a) (sym size) (push_within c.self.inside.work.items c.args.start set.size c.self.invariant.within among a (subst (λ ws. Contains ws a) c.put_last.ensures.items h));
    }

pub returns-then-insert : goal.returns-then-insert
returns-then-insert c =
    let f : Frontier = record { size = c.self.inside.set.size; members = c.self.inside.set.members; waiting = c.self.inside.work.items } in
    let fresh = not_on (contains f.members c.args.start) (sym c.insert.ensures.new ∙ c.if-insert.true) in
    let one = gains_one f c.args.start fresh (subst (λ (v : Flagged). len v.members ≤ v.size) c.insert.ensures.inserted c.insert.ensures.room) c.requires.0 in
    let with_set = subst (λ (v : Flagged). Gains f (record { size = v.size; members = v.members; waiting = f.waiting ++ c.args.start ∷ [] }) (λ a. a ≡ c.args.start)) (sym c.insert.ensures.inserted) one in
    let with_work = subst (λ ws. Gains f (record { size = c.insert.new.self.size; members = c.insert.new.self.members; waiting = ws }) (λ a. a ≡ c.args.start)) (sym c.put_last.ensures.items) with_set in
    record { gains = subst (λ (old : Frontier). Gains old (record { size = c.insert.new.self.size; members = c.insert.new.self.members; waiting = c.put_last.new.work.items }) (λ a. a ≡ c.args.start)) c.self.view_is with_work }

pub invariant_of-self-else-insert : goal.invariant_of-self-else-insert
invariant_of-self-else-insert c =
    let set = c.self.inside.set in
    let known = not_off (contains set.members c.args.start) (sym c.insert.ensures.new ∙ c.if-insert.false) in
    let same : c.insert.new.self ≡ set = c.insert.ensures.inserted ∙ ap (λ m. record { size = set.size; members = m }) (inserted_again set.members c.args.start known) in
    subst (λ (s : Flagged). HasRoom s c.self.inside.work.items (vec_capacity c.self.inside.work)) (sym same) c.self.invariant

pub returns-else-insert : goal.returns-else-insert
returns-else-insert c =
    let set = c.self.inside.set in
    let f : Frontier = record { size = set.size; members = set.members; waiting = c.self.inside.work.items } in
    let known = not_off (contains set.members c.args.start) (sym c.insert.ensures.new ∙ c.if-insert.false) in
    let same : c.insert.new.self ≡ set = c.insert.ensures.inserted ∙ ap (λ m. record { size = set.size; members = m }) (inserted_again set.members c.args.start known) in
    let kept = gains_known f (λ a. a ≡ c.args.start) c.self.invariant.few (λ a is. subst (λ y. IsTrue (contains f.members y)) (sym is) known) in
    let after = subst (λ (s : Flagged). Gains f (record { size = s.size; members = s.members; waiting = f.waiting }) (λ a. a ≡ c.args.start)) (sym same) kept in
    record { gains = subst (λ (v : Frontier). Gains v (record { size = c.insert.new.self.size; members = c.insert.new.self.members; waiting = c.self.inside.work.items }) (λ a. a ≡ c.args.start)) c.self.view_is after }
