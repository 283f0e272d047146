use Rattle.std.proofs.Common.{◌≡◌, ◌∙◌, List, ap}
use Rattle.fz_bits.specs.Flags.{Set}
use Rattle.fz_model.specs.declared.answers.Entry.{Entry}
use Rattle.fz_finalizers.specs.Queue.{Queue, placed_in, shown_in}
use Rattle.fz_finalizers.specs.Walks.{somes}
use Rattle.fz_finalizers.proofs.Shown.{somes_shown}
use Rattle.fz_finalizers.proofs.queue.Queue.unfinished.Goals as goal

shown_as : (read items : List Entry) (held : Set) → read ≡ items → somes (shown_in held 0 read) ≡ placed_in held 0 items
shown_as read items held is = ap (λ es. somes (shown_in held 0 es)) is ∙ somes_shown held 0 items

pub returns-clause-all : goal.returns-clause-all
returns-clause-all c = ap somes c.of.ensures ∙ shown_as c.deref.result.now c.self.inside.entries.items c.self.inside.held.members c.deref.ensures.value ∙ ap (λ (r : Queue). r.held) c.self.view_is
