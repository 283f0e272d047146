use Rattle.std.proofs.Common.{◌≡◌, ◌+◌, ◌*◌, ◌<◌, ◌∙◌, ◌||◌, ◌&&◌, not, ℕ, Bool, true, false, refl, ap, sym, arith}
use Rattle.std.specs.Int.{bit_not, w64}
use Rattle.std.specs.FinSet.{contains}
use Rattle.std.specs.FinMap.{retain_keys, contains_key}
use Rattle.fz_model.specs.State.{Map, Object}
use Rattle.fz_model.specs.declared.limits.TheConstants.{HEAP_START, BLOCK_WORDS}
use Rattle.fz_model.specs.Condemned.{stands_at}
use Rattle.fz_model.specs.Bits.{has_bit}
use Rattle.fz_model.specs.Extents.{IsInHeap}
use Rattle.fz_heap.specs.Contents.{Contents}
use Rattle.fz_model.proofs.Bits.{not_bit}
use Rattle.fz_marked.proofs.Condemned.{is_left, left_first, left_step, left_last, has_retained, retain_on, retain_all, retain_twice, of_keys, condemned_step}
use Rattle.fz_marked.proofs.reclaiming.condemn_outside.Goals as goal

none_yet : (there left was : Bool) → left ≡ true → was ≡ ((there && not left) || was)
none_yet true left was on = sym (ap (λ b. not b || was) on)
none_yet false left was on = refl

at_the_end : (there left kept was : Bool) → (there ≡ true → left ≡ kept) → ((there && not left) || was) ≡ ((there && not kept) || was)
at_the_end true left kept was same = ap (λ b. not b || was) (same refl)
at_the_end false left kept was same = refl

pub loop-block-init : goal.loop-block-init
loop-block-init c =
    let m = c.args.heap.now.objects in
    let kept = contains c.args.kept.now.members in
    record {
      rest = refl;
      objects = sym (retain_all m (is_left kept 0) (left_first kept));
      condemned = λ a. none_yet (contains_key m a) (is_left kept 0 a) (contains c.args.heap.now.condemned a) (left_first kept a);
      count = refl;
      more = omega arith;
    }

pub loop-block-preserved : goal.loop-block-preserved
loop-block-preserved c =
    let m = c.args.heap.now.objects in
    let kept = contains c.args.kept.now.members in
    let block = c.loop-block.block in
    let places = bit_not w64 c.word.result in
    let inv = c.loop-block.invariant in
    let call = c.condemn_in.ensures in
    let new = c.condemn_in.new.self in
    let outside : (place : ℕ) → place < 64 → has_bit places place ≡ not (kept (HEAP_START + BLOCK_WORDS * block + place)) =
    λ place lt. not_bit c.word.result place c.word.type_inv lt ∙ ap not (c.word.ensures place lt) in
    let step : (a : ℕ) → contains_key m a ≡ true → (not (stands_at block places a) && is_left kept block a) ≡ is_left kept (block + 1) a =
    λ a here. left_step kept block places outside a (of_keys m (IsInHeap c.args.heap.now.blocks) c.requires a here).0 in
    record {
      rest = call.rest ∙ ap (λ (h : Contents). record h { objects = new.objects; condemned = new.condemned }) inv.rest;
      objects = call.objects ∙ ap (λ (m : Map Object). retain_keys m (λ a. not (stands_at block places a))) inv.objects ∙ retain_twice m (is_left kept block) (λ a. not (stands_at block places a))
          ∙ retain_on m (λ a. not (stands_at block places a) && is_left kept block a) (is_left kept (block + 1)) step;
      condemned = λ a.
          call.condemned a ∙ ap (λ b. (b && stands_at block places a) || contains c.loop-block.heap.condemned a) (ap (λ (m : Map Object). contains_key m a) inv.objects ∙ has_retained m (is_left kept block) a)
          ∙ ap (λ b. ((contains_key m a && is_left kept block a) && stands_at block places a) || b) (inv.condemned a)
          ∙ condemned_step (contains_key m a) (stands_at block places a) (is_left kept block a) (is_left kept (block + 1) a) (contains c.args.heap.now.condemned a) (step a);
      count = omega (arith, call.count, call.fewer, inv.count);
      more = omega (arith, call.count, inv.more);
    }

pub returns-clause-objects : goal.returns-clause-objects
returns-clause-objects c =
    let m = c.args.heap.now.objects in
    let kept = contains c.args.kept.now.members in
    let last : (a : ℕ) → contains_key m a ≡ true → is_left kept c.loop-block.block a ≡ kept a =
    λ a here. left_last kept c.args.heap.now.blocks c.loop-block.block a (of_keys m (IsInHeap c.args.heap.now.blocks) c.requires a here) (omega (arith, c.loop-block-test.false, c.blocks-block-end.ensures.blocks)) in
    c.loop-block.invariant.objects ∙ retain_on m (is_left kept c.loop-block.block) kept last

pub returns-clause-condemned : goal.returns-clause-condemned
returns-clause-condemned c = λ a.
    let m = c.args.heap.now.objects in
    let kept = contains c.args.kept.now.members in
    c.loop-block.invariant.condemned a
    ∙ at_the_end (contains_key m a) (is_left kept c.loop-block.block a) (kept a) (contains c.args.heap.now.condemned a)
    (λ here. left_last kept c.args.heap.now.blocks c.loop-block.block a (of_keys m (IsInHeap c.args.heap.now.blocks) c.requires a here) (omega (arith, c.loop-block-test.false, c.blocks-block-end.ensures.blocks)))
