use Rattle.std.proofs.Common.{◌≡◌, ◌∙◌, ◌||◌, true, ap, sym, arith, vec_capacity}
use Rattle.std.specs.FinMap.{len, contains_key}
use Rattle.fz_pass.specs.Keyed.{has_ephemeron}
use Rattle.fz_pass.proofs.Keyed.{one_more, short_in_place, long_in_place}
use Rattle.fz_pass.proofs.ephemerons.Ephemerons.register.Goals as goal
use Rattle.fz_pass.proofs.ephemerons.Ephemerons.register.Goals.{then-not-known+in_ok-reserve_lists, else-not-known}

pub invariant_of-self-in-Continue-branch-2 : goal.invariant_of-self-in-Continue-branch-2
invariant_of-self-in-Continue-branch-2 c =
    let links = ap len c.in_ok-put-in-Short.ensures.put.0 in
    let others = ap len c.in_ok-put-in-Short.ensures.put.1 in
    elim c.if-not-known.branch [
      | then-not-known+in_ok-reserve_lists w ↦
          let p = w.self-inside-is in
          let short : len c.if-not-known.self-inside.short.links ≡ len c.self.inside.short.links = λ i. len (p i).short.links in
          let long : len c.if-not-known.self-inside.long.links ≡ len c.self.inside.long.links = λ i. len (p i).long.links in
          let first : vec_capacity c.if-not-known.self-inside.waiting ≡ vec_capacity w.reserve_lists.new.waiting = λ i. vec_capacity (p i).waiting in
          let second : vec_capacity c.if-not-known.self-inside.rest ≡ vec_capacity w.reserve_lists.new.rest = λ i. vec_capacity (p i).rest in
          let few = one_more c.if-not-known.self-inside.short.links c.if-not-known.self-inside.long.links c.args.word c.args.key in
          let counts = w.len.ensures.count in
          let more_counts = w.len-then-not-known.ensures.count in
          let room = w.in_ok-reserve_lists.ensures.room in
          let waiting = room.0 in
          let rest = room.1 in
          record {
            none_waits = (λ i. (p i).waiting.items) ∙ w.reserve_lists.ensures.waiting;
            none_rests = (λ i. (p i).rest.items) ∙ w.reserve_lists.ensures.rest;
            waiting_has = omega (arith, links, others, short, long, first, few, counts, more_counts, waiting);
            rest_has = omega (arith, links, others, short, long, second, few, counts, more_counts, rest);
          }
      | else-not-known w ↦
          let p = w.self-inside-is in
          let has = c.self.invariant in
          let short : len c.if-not-known.self-inside.short.links ≡ len c.self.inside.short.links = λ i. len (p i).short.links in
          let long : len c.if-not-known.self-inside.long.links ≡ len c.self.inside.long.links = λ i. len (p i).long.links in
          let first : vec_capacity c.if-not-known.self-inside.waiting ≡ vec_capacity c.self.inside.waiting = λ i. vec_capacity (p i).waiting in
          let second : vec_capacity c.if-not-known.self-inside.rest ≡ vec_capacity c.self.inside.rest = λ i. vec_capacity (p i).rest in
          let known : (contains_key c.if-not-known.self-inside.short.links c.args.word || contains_key c.if-not-known.self-inside.long.links c.args.word) ≡ true = (λ i. contains_key (p i).short.links c.args.word || contains_key (p i).long.links c.args.word) ∙ (λ i. has_ephemeron (c.self.view_is i).ephemerons c.args.word) ∙ sym w.if-not-known.ensures in
          let few = short_in_place c.if-not-known.self-inside.short.links c.if-not-known.self-inside.long.links c.args.word c.args.key known in
          let waiting = has.waiting_has in
          let rest = has.rest_has in
          record {
            none_waits = (λ i. (p i).waiting.items) ∙ has.none_waits;
            none_rests = (λ i. (p i).rest.items) ∙ has.none_rests;
            waiting_has = omega (arith, links, others, short, long, first, few, waiting);
            rest_has = omega (arith, links, others, short, long, second, few, rest);
          }
    ]

pub invariant_of-self-in-Continue-branch-3 : goal.invariant_of-self-in-Continue-branch-3
invariant_of-self-in-Continue-branch-3 c =
    let links = ap len c.in_ok-put-in-Long.ensures.put.0 in
    let others = ap len c.in_ok-put-in-Long.ensures.put.1 in
    elim c.if-not-known.branch [
      | then-not-known+in_ok-reserve_lists w ↦
          let p = w.self-inside-is in
          let short : len c.if-not-known.self-inside.short.links ≡ len c.self.inside.short.links = λ i. len (p i).short.links in
          let long : len c.if-not-known.self-inside.long.links ≡ len c.self.inside.long.links = λ i. len (p i).long.links in
          let first : vec_capacity c.if-not-known.self-inside.waiting ≡ vec_capacity w.reserve_lists.new.waiting = λ i. vec_capacity (p i).waiting in
          let second : vec_capacity c.if-not-known.self-inside.rest ≡ vec_capacity w.reserve_lists.new.rest = λ i. vec_capacity (p i).rest in
          let few = one_more c.if-not-known.self-inside.long.links c.if-not-known.self-inside.short.links c.args.word c.args.key in
          let counts = w.len.ensures.count in
          let more_counts = w.len-then-not-known.ensures.count in
          let room = w.in_ok-reserve_lists.ensures.room in
          let waiting = room.0 in
          let rest = room.1 in
          record {
            none_waits = (λ i. (p i).waiting.items) ∙ w.reserve_lists.ensures.waiting;
            none_rests = (λ i. (p i).rest.items) ∙ w.reserve_lists.ensures.rest;
            waiting_has = omega (arith, links, others, short, long, first, few, counts, more_counts, waiting);
            rest_has = omega (arith, links, others, short, long, second, few, counts, more_counts, rest);
          }
      | else-not-known w ↦
          let p = w.self-inside-is in
          let has = c.self.invariant in
          let short : len c.if-not-known.self-inside.short.links ≡ len c.self.inside.short.links = λ i. len (p i).short.links in
          let long : len c.if-not-known.self-inside.long.links ≡ len c.self.inside.long.links = λ i. len (p i).long.links in
          let first : vec_capacity c.if-not-known.self-inside.waiting ≡ vec_capacity c.self.inside.waiting = λ i. vec_capacity (p i).waiting in
          let second : vec_capacity c.if-not-known.self-inside.rest ≡ vec_capacity c.self.inside.rest = λ i. vec_capacity (p i).rest in
          let known : (contains_key c.if-not-known.self-inside.short.links c.args.word || contains_key c.if-not-known.self-inside.long.links c.args.word) ≡ true = (λ i. contains_key (p i).short.links c.args.word || contains_key (p i).long.links c.args.word) ∙ (λ i. has_ephemeron (c.self.view_is i).ephemerons c.args.word) ∙ sym w.if-not-known.ensures in
          let few = long_in_place c.if-not-known.self-inside.short.links c.if-not-known.self-inside.long.links c.args.word c.args.key known in
          let waiting = has.waiting_has in
          let rest = has.rest_has in
          record {
            none_waits = (λ i. (p i).waiting.items) ∙ has.none_waits;
            none_rests = (λ i. (p i).rest.items) ∙ has.none_rests;
            waiting_has = omega (arith, links, others, short, long, first, few, waiting);
            rest_has = omega (arith, links, others, short, long, second, few, rest);
          }
    ]
