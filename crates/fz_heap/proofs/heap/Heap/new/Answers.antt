use Rattle.std.proofs.Common.{◌*◌, ◌∙◌, ap, sym, subst, length, nat_cmp, ℕ}
use Rattle.std.proofs.lemmas.List.{length-replicate}
use Rattle.fz_model.specs.declared.limits.TheConstants.{BLOCK_WORDS, MAX_BLOCKS}
use Rattle.std.specs.FinSet.{empty}
use Rattle.fz_model.specs.State.{Map, Object}
use Rattle.fz_blocks.specs.Claimed.{Claimed}
use Rattle.fz_heap.specs.Flat.{object_at, objects_of}
use Rattle.fz_heap.specs.Layout.{IsCounted}
use Rattle.fz_heap.proofs.Totals.{total_none}
use Rattle.fz_model.specs.declared.extent.Extent.{Extent}
use Rattle.std.specs.FinMap.{len-empty}
use Rattle.fz_heap.proofs.Mapped.{mapped-empty}
use Rattle.fz_heap.proofs.Extents.{few_opened, apart_empty, within_empty}
use Rattle.fz_heap.proofs.heap.Heap.new.Goals as goal

pub invariant_of-result : goal.invariant_of-result
invariant_of-result c =
    let words = c.in_ok-words.words.items in
    let births = c.in_ok-births.births.items in
    subst (λ (m : Claimed). IsCounted m words births 0 0) (sym c.in_ok-map.ensures.opened)
    (record {
      heap = record {
        few = few_opened MAX_BLOCKS c.args.blocks c.in_ok-map.ensures.judged;
        apart = apart_empty;
        within = within_empty c.args.blocks;
        words_len = ap (length {A = ℕ}) c.in_ok-words.ensures ∙ length-replicate (BLOCK_WORDS * c.args.blocks) 0;
        births_len = ap (length {A = ℕ}) c.in_ok-births.ensures ∙ length-replicate (BLOCK_WORDS * c.args.blocks) 0;
      };
      live_are = sym (len-empty nat_cmp Extent);
      used_are = sym (total_none (λ (x : Extent). x.size));
    })

pub returns-clause-opened : goal.returns-clause-opened
returns-clause-opened c =
    let words = c.in_ok-words.words.items in
    let births = c.in_ok-births.births.items in
    ap (λ (m : Claimed). record { blocks = m.blocks; objects = objects_of m.extents words births; condemned = m.condemned; next_birth = 0 }) c.in_ok-map.ensures.opened
    ∙ ap (λ (m : Map Object). record { blocks = c.args.blocks; objects = m; condemned = empty; next_birth = 0 }) (mapped-empty (object_at words births))
