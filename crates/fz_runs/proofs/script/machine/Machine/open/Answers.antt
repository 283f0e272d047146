use Rattle.std.proofs.Common.{◌≡◌, ℕ, zero, suc, ◌∷◌, [], List, Option, None, map, replicate, refl, ap, ◌∙◌, ◌&&◌, nat_le, arith}
use Rattle.std.proofs.lemmas.Bool.{and_from, le-leb, not_from_true}
use Rattle.fz_model.specs.declared.answers.Entry.{Entry}
use Rattle.fz_model.specs.declared.refusal.Refusal.TheVariants.{BadCount}
use Rattle.fz_model.specs.Causes.{bad_count, first_cause}
use Rattle.fz_model.specs.Joint.{Worker, idle}
use Rattle.fz_world.specs.Does.{open_causes}
use Rattle.fz_model.proofs.Judged.{judged_more}
use Rattle.fz_runs.proofs.script.machine.Machine.open.Goals as goal

abbrev empty_hand : Option Entry
empty_hand = None

hands_of_idle : (n : ℕ) → replicate n empty_hand ≡ map (λ (w : Worker). w.hand) (replicate n idle)
hands_of_idle zero = refl
hands_of_idle (suc n) = ap (λ (hands : List (Option Entry)). empty_hand ∷ hands) (hands_of_idle n)

pub returns-clause-opened : goal.returns-clause-opened
returns-clause-opened c =
    let enough = le-leb 1 c.args.workers (omega (arith, c.if-workers-lt1.false)) in
    let few = le-leb c.args.workers 8 (omega (arith, c.if-workers-gt-MAX_WORKERS.false)) in
    let count = not_from_true (nat_le 1 c.args.workers && nat_le c.args.workers 8) (and_from _ _ enough few) in (
      judged_more (bad_count 8 c.args.workers ∷ []) (open_causes c.args.blocks c.args.frames) (ap (λ b. first_cause ((b, BadCount) ∷ [])) count) ∙ c.in_ok-world.ensures.judged,
      record {
        world = c.in_ok-world.ensures.opened;
        shown = c.in_ok-world.ensures.forgotten;
        line = c.new.ensures;
        hands = c.empty_hands.ensures ∙ hands_of_idle c.args.workers;
      },
    )
