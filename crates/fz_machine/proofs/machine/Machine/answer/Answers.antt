use Rattle.fz_machine.specs.declared.question.Question.{Question}
use Rattle.fz_machine.specs.Graph.{graph_of}
use Rattle.fz_machine.specs.Machines.{Answers, GoesTo, Words, next_of}
use Rattle.fz_machine.specs.Responds.{Responds}
use Rattle.fz_machine.specs.Asks.{bits_of}
use Rattle.std.proofs.Common.{refl, take}
use Rattle.fz_machine.proofs.Truly.{answers_respond, is_about, items_asked, of_value, of_value_and, regions_asked, words_respond}
use Rattle.fz_machine.proofs.machine.Machine.answer.Goals as goal

pub returns-then-asks_marks-clause-responds : goal.returns-then-asks_marks-clause-responds
returns-then-asks_marks-clause-responds g c =
    let old = c.args.self.now in
    let now = graph_of (g.H.Host.objects c.args.host.now) (g.H.Host.marked c.args.host.now) in
    let new = c.next_marks.new in
    let question : Question = record { ask = c.args.ask; about = c.args.about.now; count = c.args.count } in
    let (phase, at, regions) = regions_asked old question c.requires.asked (c.if-asks_marks.ensures.regions refl).1 in
    of_value_and c.next_marks.result (λ step. GoesTo old (Words c.words-words.result) new.self (next_of step new.about))
    (λ step. Responds g.H.Host.is_exact g.H.Host.place g.H.Values.value old now new.self (next_of step new.about) now) _
    (λ over step goes. words_respond g.H.Host.is_exact g.H.Host.place g.H.Values.value old new.self question (next_of step new.about) c.words-words.result now phase at regions c.words-words.ensures.honest (over phase question regions) goes)
    c.next_marks.ensures.goes c.next_marks.ensures.over

pub answers-bits-requires-clause-asked : goal.answers-bits-requires-clause-asked
answers-bits-requires-clause-asked g c =
    let old = c.args.self.now in
    let now = graph_of (g.H.Host.objects c.args.host.now) (g.H.Host.marked c.args.host.now) in
    let question : Question = record { ask = c.args.ask; about = c.args.about.now; count = c.args.count } in
    let (phase, at, items) = items_asked old question c.requires.asked (c.if-asks_marks.ensures.items refl) in
    (phase, old.walk.left, is_about g.H.Host.is_exact g.H.Host.place g.H.Values.value phase old.walk.left question now items.question (c.requires.askable phase at))

pub returns-clause-responds : goal.returns-clause-responds
returns-clause-responds g c =
    let old = c.args.self.now in
    let now = graph_of (g.H.Host.objects c.args.host.now) (g.H.Host.marked c.args.host.now) in
    let after = graph_of (g.H.Host.objects c.answers-bits.new.host) (g.H.Host.marked c.answers-bits.new.host) in
    let new = c.next_bits.new in
    let question : Question = record { ask = c.args.ask; about = c.args.about.now; count = c.args.count } in
    let (phase, at, items) = items_asked old question c.requires.asked (c.if-asks_marks.ensures.items refl) in
    let about = is_about g.H.Host.is_exact g.H.Host.place g.H.Values.value phase old.walk.left question now items.question (c.requires.askable phase at) in
    of_value c.next_bits.result (λ step. GoesTo old (Answers (take old.asked (bits_of c.answers-bits.result))) new.self (next_of step new.about))
    (λ step. Responds g.H.Host.is_exact g.H.Host.place g.H.Values.value old now new.self (next_of step new.about) after)
    (λ step goes. answers_respond g.H.Host.is_exact g.H.Host.place g.H.Values.value old new.self question (next_of step new.about) c.answers-bits.result now after phase at items (c.answers-bits.ensures.honest phase old.walk.left about) goes)
    c.next_bits.ensures.goes
