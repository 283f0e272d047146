use Rattle.std.proofs.Common.{◌++◌, ◌∙◌, List, filter, drop, length, sym, ap, refl, subst, arith}
use Rattle.std.proofs.lemmas.List.{length-map}
use Rattle.std.specs.List.Sorted.{IsNonDecreasingBy}
use Rattle.fz_machine.specs.declared.rows.Row.{Row}
use Rattle.fz_machine.specs.Off.{Rows, count_off, key_of, tell_row, untold}
use Rattle.fz_machine.proofs.Index.{has, indexed_count, lacks, still_sorted, told_now, told_untold, written_whole}
use Rattle.fz_machine.proofs.rows.Rows.tell.Goals as goal

pub tell_rows-requires-clause-room : goal.tell_rows-requires-clause-room
tell_rows-requires-clause-room c =
    let old = c.args.self.now.off in
    let same = indexed_count old.index old c.make_index.new.self.off refl c.make_index.ensures.indexed in
    let view = ap (λ (r : Rows). count_off r.off) c.self.view_is in
    let value = ap (λ (xs : List Row). length (untold xs)) c.deref_mut.ensures.value in
    let few = c.requires.room in
    let more = c.make_index.ensures.room in
    let room = ap (λ (r : Rows). r.room) c.self.view_is in
    let ok = c.self.inside.told.ok.0 in
    omega (arith, same, view, value, few, more, room, ok)

pub overflow_sub-self-2 : goal.overflow_sub-self-2
overflow_sub-self-2 c =
    let told = told_now c.args.key c.deref_mut.result.now c.tell_rows.new.index c.self.inside.told.items c.tell_rows.new.told.items c.tell_rows.ensures.index c.tell_rows.ensures.told in
    let value = ap (λ (xs : List Row). length (untold xs)) c.deref_mut.ensures.value in
    let is = c.self.invariant.0 in
    let now = c.len.ensures in
    let before = c.len-before.ensures in
    let ok = c.tell_rows.new.told.ok.0 in
    let was = c.self.inside.told.ok.0 in
    omega (arith, told, value, is, now, before, ok, was)

pub invariant_of-self : goal.invariant_of-self
invariant_of-self c =
    let told = told_now c.args.key c.deref_mut.result.now c.tell_rows.new.index c.self.inside.told.items c.tell_rows.new.told.items c.tell_rows.ensures.index c.tell_rows.ensures.told in
    let value = ap (λ (xs : List Row). length (untold xs)) c.deref_mut.ensures.value in
    let is = c.self.invariant.0 in
    let now = c.len.ensures in
    let before = c.len-before.ensures in
    let ok = c.tell_rows.new.told.ok.0 in
    let was = c.self.inside.told.ok.0 in
    let long = ap length c.tell_rows.ensures.index ∙ length-map c.deref_mut.result.now (tell_row c.args.key) in
    let as_long = ap length c.deref_mut.ensures.value in
    let len = c.self.inside.index.ok.0 in
    let back = written_whole c.self.inside.index.len c.tell_rows.new.index (drop (length c.tell_rows.new.index) c.self.inside.index.items) (omega (arith, long, as_long, len)) in
    let same = ap (λ (xs : List Row). length (untold xs)) back in
    let sorted = still_sorted c.args.key c.deref_mut.result.now (subst (IsNonDecreasingBy key_of) (sym c.deref_mut.ensures.value) c.self.invariant.1) in
    (omega (arith, told, value, is, now, before, ok, was, same), subst (IsNonDecreasingBy key_of) (sym (back ∙ c.tell_rows.ensures.index)) sorted)

pub returns-clause-told : goal.returns-clause-told
returns-clause-told c =
    let key = c.args.key in
    let long = ap length c.tell_rows.ensures.index ∙ length-map c.deref_mut.result.now (tell_row key) in
    let as_long = ap length c.deref_mut.ensures.value in
    let len = c.self.inside.index.ok.0 in
    let back = written_whole c.self.inside.index.len c.tell_rows.new.index (drop (length c.tell_rows.new.index) c.self.inside.index.items) (omega (arith, long, as_long, len)) in
    let index =
    ap untold (back ∙ c.tell_rows.ensures.index) ∙ told_untold key c.deref_mut.result.now ∙ ap (λ (xs : List Row). filter (lacks key) (untold xs)) c.deref_mut.ensures.value
    ∙ ap (λ (r : Rows). filter (lacks key) r.off.index) c.self.view_is in
    let told =
    c.tell_rows.ensures.told ∙ ap (λ (xs : List Row). c.self.inside.told.items ++ filter (has key) (untold xs)) c.deref_mut.ensures.value
    ∙ ap (λ (r : Rows). r.off.told ++ filter (has key) r.off.index) c.self.view_is in
    (c.make_index.new.self.off, c.make_index.ensures.indexed, λ i. record { index = index i; stuck = (c.self.view_is i).off.stuck; told = told i; again = (c.self.view_is i).off.again })
