use Rattle.std.proofs.Common.{◌≡◌, ◌∙◌, ℕ, List, Bor, Some, codes, map, option_map, ap, subst, sym}
use Rattle.clap.specs.Words.{Row, Text, app_of, found_of, subcommand_of}
use Rattle.clap.proofs.WalkLemmas.{first_value-rows}
use Rattle.fz_runs.specs.Commands.{file_in}
use Rattle.fz_runs.proofs.ArgumentWords.{found-file, no-file}
use Rattle.fz_runs.proofs.arguments.file_of.Goals as goal
use Rattle.fz_runs.proofs.arguments.file_of.Goals.{in-Some, in-None}

pub returns-clause-found : goal.returns-clause-found
returns-clause-found g c = λ file ask.
    let app = app_of c.in_ok-command.command in
    let parsed = c.in_ok-matches.ensures.matches c.in_ok-command.ensures.simple in
    let rows = ap (option_map (λ (found : Text × List Row). found.1)) parsed.1 in
    let found = subst (λ (words : List (List ℕ)). file_in (subcommand_of app words) ≡ Some file) (sym ask.1) (c.in_ok-command.ensures.finds_it ask.0 file ask.2) in
    elim c.match-subcommand.branch [
      | in-Some w ↦ ap (option_map (λ (word : Bor (List ℕ)). word.now)) w.result-is ∙ w.get_str.ensures ∙ first_value-rows (found_of w.in-Some.program.now) (codes "FILE") ∙ found-file (subcommand_of app (map g.S.AsStr.text c.args.words.now)) _ file (w.in-Some.ensures.rows ∙ rows) found
      | in-None w ↦ absurd (no-file (subcommand_of app (map g.S.AsStr.text c.args.words.now)) file (w.in-None.ensures.rows ∙ rows) found)
    ]
