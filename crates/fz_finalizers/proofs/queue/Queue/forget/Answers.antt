use Rattle.std.proofs.Common.{◌≡◌, ◌≤◌, ◌+◌, ◌-◌, ◌++◌, ℕ, nat_lt, List, take, drop, length, length-append, sym, ap, ◌∙◌, arith}
use Rattle.std.proofs.lemmas.Bool.{lt-ltb}
use Rattle.std.proofs.lemmas.List.{length-drop}
use Rattle.fz_model.specs.declared.answers.Entry.{Entry}
use Rattle.fz_finalizers.specs.Queue.{Queue}
use Rattle.fz_finalizers.proofs.Gathered.{few_placed, placed_all}
use Rattle.fz_finalizers.proofs.Queues.{length_queue, queue_forgets, held_forgets, ready_forgets}
use Rattle.fz_finalizers.proofs.queue.Queue.forget.Goals as goal

pub overflow_sub-finished : goal.overflow_sub-finished
overflow_sub-finished c =
    let i = c.self.inside in
    let few = few_placed i.held.members 0 i.entries.items in
    let counted = c.self.invariant.counted in
    omega (arith, few, counted, c.len.ensures, i.entries.ok)

-- the queue and what is held are all that stays the same
same_but : (old new : Queue) → new.queue ≡ old.queue → new.held ≡ old.held → new ≡ record old { forgotten = new.forgotten; remembered = new.remembered; room = new.room; places = new.places }
same_but old new queue held = λ i. record new { queue = queue i; held = held i }

-- what isn't finished, as the requirement has it
parts : (view : Queue) (early : List Entry) (taken : ℕ) (queue held : List Entry) → queue ≡ view.queue → held ≡ view.held → view.held ≡ early ++ drop taken view.queue → held ≡ early ++ drop taken queue
parts view early taken queue held same_queue same_held is = same_held ∙ is ∙ ap (λ q. early ++ drop taken q) (sym same_queue)

-- how many there are
count_parts : (view : Queue) (early : List Entry) (taken : ℕ) → taken ≤ length view.queue → view.held ≡ early ++ drop taken view.queue → length view.held + taken ≡ length early + length view.queue
count_parts view early taken le is =
    let both = ap length is ∙ length-append early (drop taken view.queue) in
    let rest = length-drop taken view.queue in
    omega (arith, both, rest, le)

pub overflow_sub-self : goal.overflow_sub-self
overflow_sub-self c =
    let count = count_parts c.args.self.now c.requires.open.0 c.args.taken c.requires.taken c.requires.open.1 in
    let now = c.gather.ensures.count ∙ ap length c.gather.ensures.kept in
    let held = ap (λ (r : Queue). length r.held) c.self.view_is in
    omega (arith, count, now, held, c.queued.ensures, c.requires.taken)

pub invariant_of-self : goal.invariant_of-self
invariant_of-self c =
    let i = c.self.inside in
    let p = take i.first i.past.entries in
    let all = length_queue p i.entries.items i.kept i.first i.held.members i.outstanding c.self.invariant in
    let queue = ap (λ (r : Queue). r.queue) c.self.view_is in
    let long = ap length queue in
    let held = ap (λ (r : Queue). r.held) c.self.view_is in
    let count = count_parts c.args.self.now c.requires.open.0 c.args.taken c.requires.taken c.requires.open.1 in
    let now = c.gather.ensures.count ∙ ap length c.gather.ensures.kept in
    let same = ap length held in
    let first = ap (λ (r : Queue). r.forgotten) c.self.view_is in
    ready_forgets p i.entries.items i.kept i.first i.held.members i.outstanding c.self.invariant c.whole-past.result.entries c.gather.new.entries.items c.requires.open.0 _ c.args.taken c.gather.new.held.members
    (c.whole-past.ensures ∙ sym queue) (c.gather.ensures.kept)
    (omega (arith, count, now, same, c.queued.ensures, c.requires.taken))
    (parts c.args.self.now c.requires.open.0 c.args.taken _ _ queue held c.requires.open.1)
    (omega (arith, c.requires.window, first)) (omega (arith, c.requires.taken, all, long))
    (λ n. c.gather.ensures.places n ∙ ap (nat_lt n) c.gather.ensures.count)

pub returns-clause-same : goal.returns-clause-same
returns-clause-same c =
    let i = c.self.inside in
    let p = take i.first i.past.entries in
    let all = length_queue p i.entries.items i.kept i.first i.held.members i.outstanding c.self.invariant in
    let queue = ap (λ (r : Queue). r.queue) c.self.view_is in
    let long = ap length queue in
    let held = ap (λ (r : Queue). r.held) c.self.view_is in
    let count = count_parts c.args.self.now c.requires.open.0 c.args.taken c.requires.taken c.requires.open.1 in
    let now = c.gather.ensures.count ∙ ap length c.gather.ensures.kept in
    let same = ap length held in
    let first = ap (λ (r : Queue). r.forgotten) c.self.view_is in
    let whole = c.whole-past.ensures ∙ sym queue in
    let left = c.gather.ensures.kept in
    let early = parts c.args.self.now c.requires.open.0 c.args.taken _ _ queue held c.requires.open.1 in
    let from : i.first ≤ c.args.taken = omega (arith, c.requires.window, first) in
    let le : c.args.taken ≤ i.first + length (drop i.kept i.entries.items) = omega (arith, c.requires.taken, all, long) in
    let places = λ (n : ℕ). c.gather.ensures.places n ∙ ap (nat_lt n) c.gather.ensures.count in
    same_but c.args.self.now _
    (queue_forgets p i.entries.items i.kept i.first i.held.members i.outstanding c.self.invariant c.whole-past.result.entries c.gather.new.entries.items c.requires.open.0 (c.gather.result - (c.queued.result - c.args.taken)) c.args.taken c.gather.new.held.members whole left (omega (arith, count, now, same, c.queued.ensures, c.requires.taken)) early from le places ∙ queue)
    (held_forgets p i.entries.items i.kept i.first i.held.members i.outstanding c.self.invariant c.whole-past.result.entries c.gather.new.entries.items c.requires.open.0 (c.gather.result - (c.queued.result - c.args.taken)) c.args.taken c.gather.new.held.members whole left (omega (arith, count, now, same, c.queued.ensures, c.requires.taken)) early from le places ∙ held)

pub returns-clause-few : goal.returns-clause-few
returns-clause-few c =
    let left = c.gather.new.entries.items in
    let all = placed_all c.gather.new.held.members 0 left (λ k lt. c.gather.ensures.places (0 + k) ∙ lt-ltb (0 + k) c.gather.result (let kept = c.gather.ensures.count in omega (arith, lt, kept))) in
    let count = ap length all in
    omega (arith, count)

pub returns-clause-room : goal.returns-clause-room
returns-clause-room c =
    let i = c.self.inside in
    let few = few_placed i.held.members 0 i.entries.items in
    let now = ap length c.gather.ensures.kept in
    let room = ap (λ (r : Queue). r.room) c.self.view_is in
    let counted = c.self.invariant.counted in
    omega (arith, few, now, room, counted, c.gather.ensures.capacity, c.gather.ensures.size, c.len.ensures, i.entries.ok, c.gather.new.entries.ok)
