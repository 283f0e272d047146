use Rattle.std.proofs.Common.{◌≡◌, ◌-◌, ◌∙◌, ℕ, true, not, List, Some, refl, sym, ap, subst, arith}
use Rattle.std.specs.FinMap.{get, contains_key}
use Rattle.std.specs.FinSet.{insert}
use Rattle.fz_blocks.specs.Claimed.{Claimed}
use Rattle.fz_model.specs.State.{Map, Object}
use Rattle.fz_model.specs.declared.extent.Extent.{Extent}
use Rattle.fz_model.proofs.Sound.{is_some_of}
use Rattle.fz_heap.specs.Contents.{Contents}
use Rattle.fz_heap.specs.Flat.{object_at, objects_of}
use Rattle.fz_heap.specs.Layout.{IsCounted}
use Rattle.fz_heap.proofs.Mapped.{mapped-remove, has_key}
use Rattle.fz_heap.proofs.Extents.{apart_removed, within_removed, start_within}
use Rattle.fz_heap.proofs.Totals.{len_less, total_less}
use Rattle.fz_heap.proofs.heap.Heap.condemn.Goals as goal

is_key : (extents : Map Extent) (words births : List ℕ) (v : Contents) (a : ℕ) → objects_of extents words births ≡ v.objects → contains_key v.objects a ≡ true → contains_key extents a ≡ true
is_key extents words births v a is on = sym (has_key (object_at words births) extents a) ∙ ap (λ (m : Map Object). contains_key m a) is ∙ on

pub overflow_sub-start : goal.overflow_sub-start
overflow_sub-start c =
    let h = c.self.inside in
    (start_within h.map.blocks h.map.extents c.args.start c.self.invariant.within (is_key h.map.extents h.words.items h.births.items c.args.self.now c.args.start (ap (λ (v : Contents). v.objects) c.self.view_is) c.requires)).0

pub size_in-size-requires : goal.size_in-size-requires
size_in-size-requires c =
    let h = c.self.inside in
    let within = start_within h.map.blocks h.map.extents c.args.start c.self.invariant.within (is_key h.map.extents h.words.items h.births.items c.args.self.now c.args.start (ap (λ (v : Contents). v.objects) c.self.view_is) c.requires) in
    omega (arith, within)

pub overflow_sub-self : goal.overflow_sub-self
overflow_sub-self c =
    let h = c.self.inside in
    let found = is_some_of (get h.map.extents c.args.start) (ap not (is_key h.map.extents h.words.items h.births.items c.args.self.now c.args.start (ap (λ (v : Contents). v.objects) c.self.view_is) c.requires)) in
    omega (arith, len_less h.map.extents c.args.start found.0 found.1, c.self.invariant.live_are)

pub overflow_sub-self-2 : goal.overflow_sub-self-2
overflow_sub-self-2 c =
    let h = c.self.inside in
    let found = is_some_of (get h.map.extents c.args.start) (ap not (is_key h.map.extents h.words.items h.births.items c.args.self.now c.args.start (ap (λ (v : Contents). v.objects) c.self.view_is) c.requires)) in
    let own = c.size_in-size.ensures c.args.start found.0 found.1 refl in
    omega (arith, own, total_less (λ (x : Extent). x.size) h.map.extents c.args.start found.0 found.1, c.self.invariant.used_are)

pub condemn-requires : goal.condemn-requires
condemn-requires c =
    let h = c.self.inside in
    is_key h.map.extents h.words.items h.births.items c.args.self.now c.args.start (ap (λ (v : Contents). v.objects) c.self.view_is) c.requires

pub invariant_of-self : goal.invariant_of-self
invariant_of-self c =
    let h = c.self.inside in
    let found = is_some_of (get h.map.extents c.args.start) (ap not (is_key h.map.extents h.words.items h.births.items c.args.self.now c.args.start (ap (λ (v : Contents). v.objects) c.self.view_is) c.requires)) in
    let less = len_less h.map.extents c.args.start found.0 found.1 in
    let sum = total_less (λ (x : Extent). x.size) h.map.extents c.args.start found.0 found.1 in
    let own = c.size_in-size.ensures c.args.start found.0 found.1 refl in
    subst (λ (m : Claimed). IsCounted m h.words.items h.births.items (h.live - 1) (h.used - c.size_in-size.result)) (sym c.condemn.ensures)
    (record {
      heap = record {
        few = c.self.invariant.few;
        apart = apart_removed h.map.extents c.args.start c.self.invariant.apart;
        within = within_removed h.map.blocks h.map.extents c.args.start c.self.invariant.within;
        words_len = c.self.invariant.words_len;
        births_len = c.self.invariant.births_len;
      };
      live_are = omega (arith, less, c.self.invariant.live_are);
      used_are = omega (arith, sum, own, c.self.invariant.used_are);
    })

pub returns : goal.returns
returns c =
    let h = c.self.inside in
    rw (← c.self.view_is)
    (ap (λ (m : Claimed). record { blocks = m.blocks; objects = objects_of m.extents h.words.items h.births.items; condemned = m.condemned; next_birth = h.next_birth }) c.condemn.ensures
    ∙ ap (λ (m : Map Object). record { blocks = h.map.blocks; objects = m; condemned = insert h.map.condemned c.args.start; next_birth = h.next_birth }) (mapped-remove (object_at h.words.items h.births.items) h.map.extents c.args.start))
