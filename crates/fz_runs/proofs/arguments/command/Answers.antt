use Rattle.std.proofs.Common.{rules, ◌≡◌, ◌∙◌, codes, true, ap, ap₂, subst, sym}
use Rattle.std.proofs.lemmas.Result.{IfOk-weaker}
use Rattle.clap.specs.Words.{App, app_of, with_rule, with_subcommand}
use Rattle.clap.specs.Simple.{app_of_fields}
use Rattle.clap.specs.declared.builder.Command.{Command}
use Rattle.clap.specs.declared.builder.command.Command.TheOpen.{Command-F}
use Rattle.fz_runs.specs.Commands.{TakesFiles}
use Rattle.fz_runs.proofs.ArgumentWords.{bare, leaf, whole, TakesFiles-whole}
use Rattle.fz_runs.proofs.arguments.command.Goals as goal

pub returns : goal.returns
returns c =
    let run_is : app_of c.in_ok-run.run' ≡ leaf (codes "run") = c.in_ok-run.ensures.shape (search rules) ∙ ap₂ with_rule c.new.ensures.app (search rules) in
    let threads_is : app_of c.in_ok-threads.threads ≡ leaf (codes "threads") = c.in_ok-threads.ensures.shape (search rules) ∙ ap₂ with_rule c.new-3.ensures.app (search rules) in
    let bare_is : app_of c.subcommand_required.result ≡ bare = ap app_of_fields c.subcommand_required.ensures
    ∙ ap (λ (fields : Command-F Command). app_of_fields (record fields { subcommand_required = true })) c.no_binary_name.ensures
    ∙ ap (λ (a : App). record a { top = record a.top { no_binary_name = true; subcommand_required = true } }) c.new-5.ensures.app in
    let first_is : app_of c.in_ok-subcommand.field-0 ≡ with_subcommand bare (leaf (codes "run")).top = c.in_ok-subcommand.ensures.shape (search rules) ∙ ap₂ with_subcommand bare_is (ap (λ (a : App). a.top) run_is) in
    IfOk-weaker c.subcommand-2.result _ _ (λ command adds.
    let whole_is : app_of command ≡ whole = adds.shape (search rules) ∙ ap₂ with_subcommand first_is (ap (λ (a : App). a.top) threads_is) in
    subst TakesFiles (sym whole_is) TakesFiles-whole) c.subcommand-2.ensures
