-- What lies under the lock stays in order.
use Rattle.std.proofs.Common.{◌≡◌, ℕ, ◌+◌, ◌<◌, ◌≤◌, ◌⊎◌, List, [], ◌++◌, length, take, drop, not, Some, None, Result, Ok, Err, Bool, true, false, true≢false, cond, inl, inr, ⊎_elim, refl, sym, ap, ◌∙◌, subst, arith, IsFalse, length-append, zero-add, filter, Contains}
use Rattle.std.proofs.lemmas.Bool.{not-false}
use Rattle.std.proofs.lemmas.Option.{same_Some, none-some}
use Rattle.std.proofs.lemmas.List.{take-append-le, length-take-le, length-drop}
use Rattle.std.proofs.Math.Seq.{take-add}
use Rattle.std.specs.List.{list_any}
use Rattle.fz_model.specs.declared.answers.Entry.{Entry}
use Rattle.fz_model.specs.declared.refusal.Refusal.{Refusal}
use Rattle.fz_model.specs.declared.refusal.Refusal.TheVariants.{NotHeld}
use Rattle.fz_model.specs.State.{Core, State, opening}
use Rattle.fz_model.specs.Events.{Event, Answer, Finish, same_entry, not_held}
use Rattle.fz_model.specs.Steps.{Step, StepsTo, NoStep, OneMore, any_call}
use Rattle.fz_model.specs.Joint.{is_finish}
use Rattle.fz_model.proofs.Sound.{first_none}
use Rattle.fz_model.proofs.Runs.{reached_sound}
use Rattle.fz_line.specs.Numbers.{AreNumberedFrom}
use Rattle.fz_line.proofs.Numbers.{numbered_rest}
use Rattle.fz_world.specs.World.{WorldView}
use Rattle.fz_world.specs.Does.{StandsFor, Does}
use Rattle.fz_line.specs.States.{OwnerState, owner_state}
use Rattle.fz_service.specs.States.{Origin, line_room, locked_state, IsReachedFrom, IsInOrder, IsReady, LetsGo, RunsCalls}
use Rattle.fz_service.proofs.Growing.{IsLonger, step_longer, steps_longer, steps_on}
use Rattle.fz_service.proofs.Finishing.{held_one, one_less}

pub opened : (origin : Origin) (world : WorldView) (shortages : ℕ) → StandsFor world (opening origin.blocks origin.frames) → world.forgotten ≡ 0 → IsInOrder origin (locked_state world [] 0 0 shortages)
opened origin world shortages stands none =
    let queue : length world.queue ≡ 0 = ap (λ (c : Core). length c.queue) stands.core in
    let held : length world.held ≡ 0 = ap (λ (c : Core). length c.held) stands.core in
    record {
      reached = record { state = opening origin.blocks origin.frames; steps = NoStep; stands = stands };
      sent = refl;
      within = omega arith;
      forgotten = omega (arith, none);
      finished = omega (arith, queue, held);
    }

-- another shortage
pub recounted : (origin : Origin) (world : WorldView) (sent : List Entry) (published finished old new : ℕ) → IsInOrder origin (locked_state world sent published finished old) → IsInOrder origin (locked_state world sent published finished new)
recounted origin world sent published finished old new h = record { reached = h.reached; sent = h.sent; within = h.within; forgotten = h.forgotten; finished = h.finished }

module _ (origin : Origin) (old new : WorldView) (sent : List Entry) (published finished shortages : ℕ) where
  grown : (s t : State) → new.forgotten ≡ old.forgotten → StandsFor old s → StandsFor new t → IsLonger s.core t.core → StepsTo any_call (opening origin.blocks origin.frames) t → IsInOrder origin (locked_state old sent published finished shortages) → IsInOrder origin (locked_state new sent published finished shortages)
  grown s t kept was stands longer steps h =
      let more : List Entry = longer.more in
      let queue : new.queue ≡ old.queue ++ more = ap (λ (c : Core). c.queue) stands.core ∙ longer.queue ∙ ap (λ (c : Core). c.queue ++ more) (sym was.core) in
      let held : new.held ≡ old.held ++ more = ap (λ (c : Core). c.held) stands.core ∙ longer.held ∙ ap (λ (c : Core). c.held ++ more) (sym was.core) in
      let queued : length new.queue ≡ length old.queue + length more = ap (λ (es : List Entry). length es) queue ∙ length-append old.queue more in
      let counted : length new.held ≡ length old.held + length more = ap (λ (es : List Entry). length es) held ∙ length-append old.held more in
      let within = h.within in
      let all = h.finished in
      let shown = h.forgotten in
      record {
        reached = record { state = t; steps = steps; stands = stands };
        sent = h.sent ∙ sym (take-append-le published old.queue more within) ∙ ap (take published) (sym queue);
        within = omega (arith, within, queued);
        forgotten = omega (arith, shown, kept);
        finished = omega (arith, all, queued, counted);
      }

  -- after a call of the world
  pub stepped : (e : Event) (reply : Result (Answer e) Refusal) → IsFalse (is_finish e) → Does old e reply new → IsInOrder origin (locked_state old sent published finished shortages) → IsInOrder origin (locked_state new sent published finished shortages)
  unfolding Does
  stepped e reply other does h =
      let r = h.reached in
      let next = does.1 r.state r.stands in
      grown r.state next.0 does.0 r.stands next.2 (step_longer r.state e reply next.0 other next.1) (OneMore e reply refl r.steps next.1) h

  -- after calls of a procedure
  pub ran : RunsCalls old new → IsInOrder origin (locked_state old sent published finished shortages) → IsInOrder origin (locked_state new sent published finished shortages)
  unfolding RunsCalls
  ran runs h =
      let r = h.reached in
      let next = runs.1 r.state r.stands in
      grown r.state next.0 runs.0 r.stands next.2 (steps_longer r.state next.0 next.1) (steps_on (opening origin.blocks origin.frames) r.state next.0 r.steps next.1) h

  -- what is forgotten was sent
  pub forgot : new ≡ record old { forgotten = new.forgotten; remembered = new.remembered } → ((s : State) → StandsFor old s → StandsFor new s) → (new.forgotten ≡ old.forgotten) ⊎ (new.forgotten ≡ length old.queue) → length old.queue ≤ published
      → IsInOrder origin (locked_state old sent published finished shortages) → IsInOrder origin (locked_state new sent published finished shortages)
  forgot same stands forgotten all h =
      let queue : new.queue ≡ old.queue = ap (λ (w : WorldView). w.queue) same in
      let count : length new.queue ≡ length old.queue = ap (λ (es : List Entry). length es) queue in
      let held : length new.held ≡ length old.held = ap (λ (w : WorldView). length w.held) same in
      let within = h.within in
      let every = h.finished in
      let shown = h.forgotten in
      record {
        reached = record { state = h.reached.state; steps = h.reached.steps; stands = stands h.reached.state h.reached.stands };
        sent = h.sent ∙ ap (take published) (sym queue);
        within = omega (arith, within, count);
        forgotten = ⊎_elim (λ is. omega (arith, is, shown)) (λ is. omega (arith, is, all)) forgotten;
        finished = omega (arith, every, count, held);
      }

  -- a finish is refused for one reason alone
  pub finish_refused : (entry : Entry) (r : Refusal) → Does old (Finish entry) (Err r) new → IsReachedFrom origin old → r ≡ NotHeld
  unfolding Does
  finish_refused entry r does reached =
      let next = does.1 reached.state reached.stands in
      ⊎_elim (λ cause. from (not (list_any (same_entry entry) reached.state.held)) cause) (λ lacks. absurd (true≢false (sym lacks.2))) next.1.0
    where
      from : (b : Bool) → cond b (Some NotHeld) None ≡ Some r → r ≡ NotHeld
      from true is = sym (same_Some NotHeld r is)
      from false is = absurd (none-some r is)

  -- after an accepted finish, and what it takes away
  pub finished_one : (given entry : Entry) → given ≡ entry → Does old (Finish given) (Ok tt) new → IsInOrder origin (locked_state old sent published finished shortages) → IsInOrder origin (locked_state new sent published (finished + 1) shortages) × LetsGo old new entry
  unfolding Does
  finished_one given entry is given_does h =
      let r = h.reached in
      let does = subst (λ (e : Entry). (s : State) → StandsFor old s → (t : State) × Step s (Finish e) (Ok tt) t × StandsFor new t) is given_does.1 in
      let shown = h.forgotten in
      let kept = given_does.0 in
      let s : State = r.state in
      let next = does s r.stands in
      let t : State = next.0 in
      let sound = reached_sound s (origin.blocks, origin.frames, r.steps) in
      let here : list_any (same_entry entry) s.held ≡ true = not-false _ (first_none (not_held s.held entry) [] next.1.0).0 in
      let core : t.core ≡ record s.core { held = filter (λ d. not (same_entry entry d)) s.held } = next.1.1 in
      let queue : new.queue ≡ old.queue = ap (λ (c : Core). c.queue) next.2.core ∙ ap (λ (c : Core). c.queue) core ∙ ap (λ (c : Core). c.queue) (sym r.stands.core) in
      let held : new.held ≡ filter (λ d. not (same_entry entry d)) s.held = ap (λ (c : Core). c.held) next.2.core ∙ ap (λ (c : Core). c.held) core in
      let was : s.held ≡ old.held = ap (λ (c : Core). c.held) (sym r.stands.core) in
      let left : length new.held + 1 ≡ length old.held = ap (λ (es : List Entry). length es + 1) held ∙ one_less s.held entry here sound.held_once ∙ ap (λ (es : List Entry). length es) was in
      let same : length new.queue ≡ length old.queue = ap (λ (es : List Entry). length es) queue in
      let within = h.within in
      let all = h.finished in
      let there = held_one s.held entry here in (
        record {
          reached = record { state = t; steps = OneMore (Finish entry) (Ok tt) refl r.steps next.1; stands = next.2 };
          sent = h.sent ∙ ap (take published) (sym queue);
          within = omega (arith, within, same);
          forgotten = omega (arith, shown, kept);
          finished = omega (arith, all, same, left);
        },
        record {
          held = subst (λ (es : List Entry). Contains es entry) was there;
          object = subst (λ (c : Core). (o : Rattle.fz_model.specs.State.Object) × (Rattle.std.specs.FinMap.get c.objects entry.obj ≡ Some o) × (o.birth ≡ entry.birth)) (sym r.stands.core) (sound.held_object entry there);
          gone = held ∙ ap (λ (es : List Entry). filter (λ d. not (same_entry entry d)) es) was;
        },
      )

module _ (origin : Origin) (world : WorldView) (sent : List Entry) (published finished shortages : ℕ) (h : IsInOrder origin (locked_state world sent published finished shortages)) where
  -- entries are numbered by their places
  pub numbered : AreNumberedFrom 0 world.queue
  numbered k e at =
      let r = h.reached in
      (reached_sound r.state (origin.blocks, origin.frames, r.steps)).numbered k e (ap (λ (c : Core). Rattle.std.proofs.Common.slice_get c.queue k) (sym r.stands.core) ∙ at) ∙ sym (zero-add k)

  pub sent_count : length sent ≡ published
  sent_count = ap (λ (es : List Entry). length es) h.sent ∙ length-take-le published world.queue h.within

  -- the outbox is numbered on from what was sent
  pub outbox_numbered : (outbox : List Entry) → outbox ≡ drop published world.queue → AreNumberedFrom (length sent) outbox
  outbox_numbered outbox is =
      subst (λ n. AreNumberedFrom n outbox) (zero-add published ∙ sym sent_count) (subst (λ (es : List Entry). AreNumberedFrom (0 + published) es) (sym is) (numbered_rest 0 world.queue published numbered))

  pub outbox_count : (outbox : List Entry) → outbox ≡ drop published world.queue → length sent + length outbox ≡ length world.queue
  outbox_count outbox is =
      let a = sent_count in
      let b : length outbox ≡ length (drop published world.queue) = ap (λ (es : List Entry). length es) is in
      let c = length-drop published world.queue in
      let w = h.within in
      omega (arith, a, b, c, w)

  -- after some of the outbox was sent
  pub published_more : (outbox : List Entry) (count after : ℕ) → outbox ≡ drop published world.queue → count ≤ length outbox → IsInOrder origin (locked_state world (sent ++ take count outbox) (published + count) finished after)
  published_more outbox count after is few =
      let all = outbox_count outbox is in
      let a = sent_count in
      record {
        reached = h.reached;
        sent = ap (λ (es : List Entry). es ++ take count outbox) h.sent ∙ ap (λ (es : List Entry). take published world.queue ++ take count es) is ∙ sym (take-add published count world.queue);
        within = omega (arith, all, a, few);
        forgotten = let shown = h.forgotten in omega (arith, shown);
        finished = h.finished;
      }

-- the owner after it sent more
pub sent_more : (origin : Origin) (old new : OwnerState) (parts amount : ℕ) (more : List Entry) → IsReady origin old parts amount → new ≡ record old { sent = old.sent ++ more } → IsReady origin new parts amount
sent_more origin old new parts amount more ready is = record {
  owner_is =
      let sent : new.sent ≡ old.sent ++ more = ap (λ (o : OwnerState). o.sent) is in
      is ∙ ap (λ (o : OwnerState). record o { sent = old.sent ++ more }) ready.owner_is ∙ ap (λ (es : List Entry). owner_state origin.line origin.workers (line_room origin.blocks) es []) (sym sent);
  no_parts = ready.no_parts;
  no_amount = ready.no_amount;
}
