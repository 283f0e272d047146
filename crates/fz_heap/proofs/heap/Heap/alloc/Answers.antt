use Rattle.std.proofs.Common.{◌≡◌, ◌+◌, ◌-◌, ◌<◌, ◌∙◌, refl, sym, ap, subst, arith, rules, length, vec_len, length-set, false, nat_le, List, ℕ}
use Rattle.std.proofs.lemmas.Bool.{lt-leb}
use Rattle.std.proofs.lemmas.List.{with_items_is}
use Rattle.std.specs.Vec.{with_items}
use Rattle.fz_model.specs.declared.limits.TheConstants.{COUNT_LIMIT}
use Rattle.std.specs.FinMap.{len as len_of}
use Rattle.fz_model.specs.declared.extent.Extent.{Extent}
use Rattle.fz_model.proofs.Maps.{free_place_in}
use Rattle.fz_blocks.specs.Claimed.{Claimed}
use Rattle.fz_heap.specs.Layout.{words_in}
use Rattle.fz_heap.proofs.Totals.{len_more, total_more, few_words, few_live}
use Rattle.fz_heap.specs.Flat.{IsZeroedAt}
use Rattle.fz_heap.proofs.Flat.{extents_flat, new_within, new_start, still_heap, new_object_made}
use Rattle.fz_heap.proofs.heap.Heap.alloc.Goals as goal

pub returns-in_err-start-clause-judged : goal.returns-in_err-start-clause-judged
returns-in_err-start-clause-judged c =
    let few : nat_le COUNT_LIMIT c.self.inside.next_birth ≡ false = lt-leb COUNT_LIMIT c.self.inside.next_birth (omega arith) in
    rw (← c.self.view_is, extents_flat, few) (search rules)

pub overflow_sub-first : goal.overflow_sub-first
overflow_sub-first c =
    let made = c.in_ok-start.ensures in
    (new_within c.self.inside.map _ c.in_ok-start.start _ made.claimed made.apart made.within).0

pub zero-requires : goal.zero-requires
zero-requires c =
    let made = c.in_ok-start.ensures in
    let within = new_within c.self.inside.map _ c.in_ok-start.start _ made.claimed made.apart made.within in
    omega (arith, within, c.self.invariant.words_len, ap (length {A = ℕ}) c.deref_mut.ensures.value)

pub index_mut-requires : goal.index_mut-requires
index_mut-requires c =
    let made = c.in_ok-start.ensures in
    let within = new_within c.self.inside.map _ c.in_ok-start.start _ made.claimed made.apart made.within in
    let len : vec_len c.self.inside.births ≡ length c.self.inside.births.items = search rules in
    omega (arith, within, c.self.invariant.births_len, len)

pub overflow_add-self-2 : goal.overflow_add-self-2
overflow_add-self-2 c =
    let i = c.self.invariant in
    omega (arith, few_live c.self.inside.map.blocks c.self.inside.map.extents i.within, few_words c.self.inside.map.blocks c.self.inside.map.extents i.apart i.within, i.few, i.live_are)

pub overflow_add-self-3 : goal.overflow_add-self-3
overflow_add-self-3 c =
    let i = c.self.invariant in
    omega (arith, few_words c.self.inside.map.blocks c.self.inside.map.extents i.apart i.within, i.few, i.used_are, c.if-size-gt-MAX_OBJECT_WORDS.false)

pub invariant_of-self-2 : goal.invariant_of-self-2
invariant_of-self-2 c =
    let h = c.self.inside in
    let start = c.in_ok-start.start in
    let made = c.in_ok-start.ensures in
    let len = c.zero.ensures.len ∙ ap (length {A = ℕ}) c.deref_mut.ensures.value in
    let words = with_items_is h.words c.zero.new.words (len ∙ sym h.words.ok.0) in
    let free = free_place_in h.map.extents h.map.blocks c.args.size start c.args.kind made.place in
    let more = ap (λ (m : Claimed). len_of m.extents) made.claimed ∙ len_more h.map.extents start (record { size = c.args.size; kind = c.args.kind }) free in
    let words_more = ap (λ (m : Claimed). words_in m.extents) made.claimed ∙ total_more (λ (x : Extent). x.size) h.map.extents start (record { size = c.args.size; kind = c.args.kind }) free in
    record {
      heap = still_heap h.map _ start _ made.claimed made.apart made.within h.words.items h.births.items _ _ c.self.invariant.heap
          (ap (length {A = ℕ}) words ∙ len) (length-set h.births.items (start - 65536) h.next_birth);
      live_are = omega (arith, more, c.self.invariant.live_are);
      used_are = omega (arith, words_more, c.self.invariant.used_are);
    }

pub returns-clause-judged : goal.returns-clause-judged
returns-clause-judged c =
    let few : nat_le COUNT_LIMIT c.self.inside.next_birth ≡ false = lt-leb COUNT_LIMIT c.self.inside.next_birth (omega arith) in
    rw (← c.self.view_is, extents_flat, few) c.in_ok-start.ensures.judged

pub returns-clause-place : goal.returns-clause-place
returns-clause-place c = rw (← c.self.view_is, extents_flat) (c.in_ok-start.ensures.place, refl)

pub returns-clause-made : goal.returns-clause-made
returns-clause-made c =
    let h = c.self.inside in
    let start = c.in_ok-start.start in
    let made = c.in_ok-start.ensures in
    let within = new_within h.map _ start _ made.claimed made.apart made.within in
    let inside : start - 65536 < length h.births.items = omega (arith, within, c.self.invariant.births_len) in
    let words = with_items_is h.words c.zero.new.words (c.zero.ensures.len ∙ ap (length {A = ℕ}) c.deref_mut.ensures.value ∙ sym h.words.ok.0) in
    let zeroed = subst (λ (ws : List ℕ). IsZeroedAt ws (with_items h.words c.zero.new.words).items (start - 65536) c.args.size) c.deref_mut.ensures.value
    (subst (λ (ws : List ℕ). IsZeroedAt c.deref_mut.result.now ws (start - 65536) c.args.size) (sym words) c.zero.ensures) in
    let objects = new_object_made h.map _ start _ made.claimed made.apart made.within h.words.items (with_items h.words c.zero.new.words).items h.births.items h.next_birth zeroed inside in
    rw (← c.self.view_is) (λ i. record { blocks = (made.claimed i).blocks; objects = objects i; condemned = (made.claimed i).condemned; next_birth = h.next_birth + 1 })

pub returns-clause-start : goal.returns-clause-start
returns-clause-start c =
    let made = c.in_ok-start.ensures in
    rw extents_flat (new_start c.self.inside.map _ c.in_ok-start.start _ made.claimed made.apart made.within)

pub returns-clause-within : goal.returns-clause-within
returns-clause-within c =
    let made = c.in_ok-start.ensures in
    let within = new_within c.self.inside.map _ c.in_ok-start.start _ made.claimed made.apart made.within in
    rw (← c.self.view_is) (within.0, omega (arith, within))
