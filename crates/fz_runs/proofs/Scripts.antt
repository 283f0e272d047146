-- Scripts, reports and joint runs that go on by one line.
use Rattle.std.proofs.Common.{◌≡◌, ℕ, ◌≤◌, ◌+◌, ◌-◌, List, [], ◌∷◌, ◌++◌, Option, Some, None, Result, Bool, true, false, ◌∙◌, ap, sym, refl, subst, append-nil, append_assoc, arith, length, length-append, flat_map, map, count_by, is_some, is_err, cond}
use Rattle.std.proofs.lemmas.List.{map-append}
use Rattle.std.proofs.lemmas.List.Elements.{All-nil, All-push}
use Rattle.std.proofs.lemmas.List.Concat.{flat_map-append}
use Rattle.std.proofs.lemmas.List.Sums.{sum_by_push, sum_by-cons}
use Rattle.fz_model.specs.declared.answers.Entry.{Entry}
use Rattle.fz_model.specs.declared.refusal.Refusal.{Refusal}
use Rattle.fz_model.specs.State.{Core}
use Rattle.fz_model.specs.Joint.{Worker, Joint, JointStep, Move, MovesTo, joint_opening}
use Rattle.fz_script.specs.declared.step.Step.{Step}
use Rattle.fz_script.specs.declared.step.Step.TheVariants.{Open}
use Rattle.fz_script.specs.Spelling.{spelling, Fits}
use Rattle.fz_runs.specs.declared.script.machine.Machine.{Machine}
use Rattle.fz_runs.specs.declared.script.reply.StepReply.{StepReply}
use Rattle.fz_runs.specs.declared.script.answer.Answer.{Answer}
use Rattle.fz_runs.specs.declared.script.answer.Answer.TheVariants.{Skipped, Opened, Replied, Ended, Malformed}
use Rattle.fz_runs.specs.declared.script.run.Counts.{Counts}
use Rattle.fz_runs.specs.declared.script.run.Summary.{Summary}
use Rattle.fz_runs.specs.Script.{max_lines, IsScript, event_of}
use Rattle.fz_runs.specs.Lines.{is_kept, max_line}
use Rattle.fz_runs.proofs.Lines.{filter_kept, filter_skipped}
use Rattle.fz_runs.specs.Replies.{reply_line, end_words}
use Rattle.fz_runs.specs.Written.{text_line, done}
use Rattle.fz_runs.specs.Report.{Course, Reports, AsksFor, summary_of, closing_words, finishes, forfeits}
use Rattle.fz_runs.specs.Machines.{StandsForJoint, Gives, answer_text, stop_of, bit, no_counts, counts_after, counts_of, result_words, summary_at, ending_words, is_finish, is_forfeit}

-- ---- scripts

pub no_script : IsScript [] []
no_script = record { spelled = refl; fit = All-nil Fits; short = All-nil (λ line. length line ≤ max_line); few = omega arith }

pub script_skips : (lines : List (List ℕ)) (steps : List Step) (line : List ℕ) → IsScript lines steps → length line ≤ max_line → length lines + 1 ≤ max_lines → is_kept line ≡ false → IsScript (lines ++ line ∷ []) steps
script_skips lines steps line s short few skipped = record {
  spelled = filter_skipped lines line skipped ∙ s.spelled;
  fit = s.fit;
  short = All-push (λ l. length l ≤ max_line) lines line s.short short;
  few = omega (arith, length-append lines (line ∷ []));
}

pub script_asks : (lines : List (List ℕ)) (steps : List Step) (line : List ℕ) (step : Step) → IsScript lines steps → length line ≤ max_line → length lines + 1 ≤ max_lines → AsksFor line step → IsScript (lines ++ line ∷ []) (steps ++ step ∷ [])
script_asks lines steps line step s short few asks = record {
  spelled = filter_kept lines line asks.0 ∙ ap (λ l. l ++ line ∷ []) s.spelled ∙ ap (λ l. map spelling steps ++ l ∷ []) asks.2 ∙ sym (map-append spelling steps (step ∷ []));
  fit = All-push Fits steps step s.fit asks.1;
  short = All-push (λ l. length l ≤ max_line) lines line s.short short;
  few = omega (arith, length-append lines (line ∷ []));
}

-- ---- runs

moves_more : (j mid new : Joint) (ms : List Move) (m : Move) → MovesTo j ms mid → JointStep mid m.event m.reply new → MovesTo j (ms ++ m ∷ []) new
moves_more j mid new [] m run step = (new, subst (λ k. JointStep k m.event m.reply new) run step, refl)
moves_more j mid new (n ∷ ns) m run step = (run.0, run.1, moves_more run.0 mid new ns m run.2 step)

abbrev pub with_move : Course → Move → Joint → Course
with_move course m new = record { moves = course.moves ++ m ∷ []; end = new }

-- ---- the machine follows the course

abbrev pub Follows : Option Machine → Option Course → Type 0
Follows None None = Unit {0}
Follows None (Some course) = ⊥
Follows (Some machine) None = ⊥
Follows (Some machine) (Some course) = StandsForJoint machine course.end

pub follows_some : (machine : Option Machine) (course : Option Course) → Follows machine course → is_some machine ≡ is_some course
follows_some None None f = refl
follows_some None (Some course) f = absurd f
follows_some (Some machine) None f = absurd f
follows_some (Some machine) (Some course) f = refl

-- what the driver knows after these lines
pub record After (lines : List (List ℕ)) (text : List ℕ) (machine : Option Machine) (counts : Counts) : Type 0 where
  pub course : Option Course
  pub reports : Reports lines text course
  pub follows : Follows machine course
  pub counted : counts ≡ counts_of course

pub at_start : After [] [] None no_counts
at_start = record { course = None; reports = (no_script, refl); follows = tt; counted = refl }

reports_skip : (lines : List (List ℕ)) (text line : List ℕ) (course : Option Course) → Reports lines text course → length line ≤ max_line → length lines + 1 ≤ max_lines → is_kept line ≡ false → Reports (lines ++ line ∷ []) (text ++ []) course
reports_skip lines text line None r short few skipped = (script_skips lines [] line r.0 short few skipped, append-nil text ∙ r.1)
reports_skip lines text line (Some course) r short few skipped = record {
  blocks = r.blocks;
  frames = r.frames;
  workers = r.workers;
  steps = r.steps;
  script = script_skips lines (Open r.blocks r.frames r.workers ∷ r.steps) line r.script short few skipped;
  asked = r.asked;
  opened = r.opened;
  run = r.run;
  told = append-nil text ∙ r.told;
}

count_one : {X : Type 0} (p : X → Bool) (xs : List X) (x : X) (b : Bool) → b ≡ p x → count_by p xs + bit b ≡ count_by p (xs ++ x ∷ [])
count_one p xs x b e = ap (λ t. count_by p xs + bit t) e ∙ ap (λ n. count_by p xs + n) (one (p x)) ∙ sym (sum_by_push (λ y. cond (p y) 1 0) xs x)
  where
    one : (t : Bool) → bit t ≡ cond t 1 0
    one true = refl
    one false = refl

counts_more : (course : Course) (m : Move) (new : Joint) (result : Result StepReply Refusal) → is_err result ≡ is_err m.reply → is_finish result ≡ finishes m.event m.reply → is_forfeit result ≡ forfeits m.event m.reply
    → counts_after (counts_of (Some course)) (Replied result) ≡ counts_of (Some (with_move course m new))
counts_more course m new result refused finish forfeit =
    let steps = length course.moves + 1 in
    let a : steps + 1 ≡ length (course.moves ++ m ∷ []) + 1 = omega (arith, length-append course.moves (m ∷ [])) in
    let b = count_one (λ (n : Move). is_err n.reply) course.moves m (is_err result) refused in
    let c = count_one (λ (n : Move). finishes n.event n.reply) course.moves m (is_finish result) finish in
    let d = count_one (λ (n : Move). forfeits n.event n.reply) course.moves m (is_forfeit result) forfeit in
    same_counts _ _ _ _ _ _ _ _ a b c d
  where
    same_counts : (a a' b b' c c' d d' : ℕ) → a ≡ a' → b ≡ b' → c ≡ c' → d ≡ d'
        → ◌≡◌ {A = Counts} (record { steps = a; refused = b; finished = c; forfeited = d }) (record { steps = a'; refused = b'; finished = c'; forfeited = d' })
    same_counts a a' b b' c c' d d' e f g h = rw (e, f, g, h) refl

-- a line was carried out after which the run goes on
pub carried_out : (lines : List (List ℕ)) (text line : List ℕ) (number : ℕ) (old new : Option Machine) (counts : Counts) (answer : Answer) (course : Option Course)
    → Reports lines text course → Follows old course → counts ≡ counts_of course → length line ≤ max_line → length lines + 1 ≤ max_lines → Gives old line answer new → stop_of answer ≡ None
    → After (lines ++ line ∷ []) (text ++ answer_text number answer) new (counts_after counts answer)
carried_out lines text line number old new counts Skipped course r f e short few g go =
    record { course = course; reports = reports_skip lines text line course r short few g.0; follows = subst (λ m. Follows m course) (sym g.1) f; counted = e }
carried_out lines text line number old new counts Opened None r f e short few g go =
    let course : Course = record { moves = []; end = joint_opening g.3 g.4 g.5 } in record {
      course = Some course;
      reports = record {
        blocks = g.3;
        frames = g.4;
        workers = g.5;
        steps = [];
        script = script_asks lines [] line (Open g.3 g.4 g.5) r.0 short few g.6;
        asked = refl;
        opened = g.7;
        run = refl;
        told = ap (λ t. t ++ text_line done) r.1 ∙ sym (append-nil (text_line done));
      };
      follows = subst (λ m. Follows m (Some course)) (sym g.2) g.8;
      counted = ap (λ c. counts_after c Opened) e;
    }
carried_out lines text line number old new counts Opened (Some course) r f e short few g go = absurd (subst (λ m. Follows m (Some course)) g.0 f)
carried_out lines text line number old new counts (Replied result) None r f e short few g go = absurd (subst (λ m. Follows m None) g.1 f)
carried_out lines text line number old new counts (Replied result) (Some course) r f e short few g go =
    let does = g.6 in
    let d = does.does course.end (subst (λ m. Follows m (Some course)) g.1 f) in
    let m : Move = record { event = does.event; reply = does.reply } in
    let course' : Course = with_move course m d.0 in record {
      course = Some course';
      reports = record {
        blocks = r.blocks;
        frames = r.frames;
        workers = r.workers;
        steps = r.steps ++ g.4 ∷ [];
        script = script_asks lines (Open r.blocks r.frames r.workers ∷ r.steps) line g.4 r.script short few g.5;
        asked = map-append event_of r.steps (g.4 ∷ []) ∙ ap (λ l. l ++ event_of g.4 ∷ []) r.asked ∙ ap (λ o. map (λ (n : Move). Some n.event) course.moves ++ o ∷ []) does.asked ∙ sym (map-append (λ (n : Move). Some n.event) course.moves (m ∷ []));
        opened = r.opened;
        run = moves_more (joint_opening r.blocks r.frames r.workers) course.end d.0 course.moves m r.run d.1;
        told = ap (λ t. t ++ text_line (result_words result)) r.told
            ∙ append_assoc (text_line done) (flat_map reply_line course.moves) (text_line (result_words result))
            ∙ ap (λ t. text_line done ++ (flat_map reply_line course.moves ++ t)) (ap text_line does.tells.words ∙ sym (append-nil (reply_line m)))
            ∙ ap (λ t. text_line done ++ t) (sym (flat_map-append reply_line course.moves (m ∷ [])));
      };
      follows = subst (λ w. Follows w (Some course')) (sym g.3) d.2;
      counted = ap (λ c. counts_after c (Replied result)) e ∙ counts_more course m d.0 result does.tells.refused does.tells.finish does.tells.forfeit;
    }
carried_out lines text line number old new counts (Ended refusal) course r f e short few g go = absurd cc
carried_out lines text line number old new counts Malformed course r f e short few g go = absurd cc

-- ---- the numbers at the end

in_hands : (ws : List Worker) → count_by is_some (map (λ (w : Worker). w.hand) ws) ≡ count_by (λ (w : Worker). is_some w.hand) ws
in_hands [] = refl
in_hands (w ∷ ws) =
    sum_by-cons (λ (h : Option Entry). cond (is_some h) 1 0) w.hand (map (λ (w : Worker). w.hand) ws)
    ∙ ap (λ n. cond (is_some w.hand) 1 0 + n) (in_hands ws)
    ∙ sym (sum_by-cons (λ (w : Worker). cond (is_some w.hand) 1 0) w ws)

pub same_summary : (machine : Machine) (course : Course) (counts : Counts) → StandsForJoint machine course.end → counts ≡ counts_of (Some course) → summary_at machine counts ≡ summary_of course
same_summary machine course counts s e =
    same_numbers counts (counts_of (Some course)) (length machine.world.queue) (length course.end.state.queue) (count_by is_some machine.hands.items) (count_by (λ (w : Worker). is_some w.hand) course.end.workers) machine.line course.end.taken e
    (ap (λ (c : Core). length c.queue) s.world.core) (ap (count_by is_some) s.hands ∙ in_hands course.end.workers) s.line
  where
    same_numbers : (c d : Counts) (q r h i l m : ℕ) → c ≡ d → q ≡ r → h ≡ i → l ≡ m
        → ◌≡◌ {A = Summary} (record { steps = c.steps; refused = c.refused; enqueued = q; finished = c.finished; forfeited = c.forfeited; in_hand = h; left = q - l })
        (record { steps = d.steps; refused = d.refused; enqueued = r; finished = d.finished; forfeited = d.forfeited; in_hand = i; left = r - m })
    same_numbers c d q r h i l m e f g k = rw (e, f, g, k) refl

pub same_ending : (number : ℕ) (machine : Option Machine) (course : Option Course) (counts : Counts) → Follows machine course → counts ≡ counts_of course → ending_words number machine counts ≡ closing_words number course
same_ending number None None counts f e = refl
same_ending number None (Some course) counts f e = absurd f
same_ending number (Some machine) None counts f e = absurd f
same_ending number (Some machine) (Some course) counts f e = ap end_words (same_summary machine course counts f e)
