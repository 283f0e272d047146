use Rattle.std.proofs.Common.{◌∙◌, ap}
use Rattle.fz_finalizers.specs.Walks.{words_of}
use Rattle.fz_finalizers.specs.States.{unfinished}
use Rattle.fz_finalizers.proofs.Shown.{somes_words}
use Rattle.fz_finalizers.proofs.finalizers.Finalizers.roots.Goals as goal

pub returns-clause-sort : goal.returns-clause-sort
returns-clause-sort c = (
  c.iter.result,
  c.iter_cleanups.result,
  c.iter.ensures.all,
  c.iter_cleanups.ensures.all,
  somes_words c.args.root c.entries.result c.of.result ∙ ap (λ es. words_of c.args.root es c.of.result) c.entries.ensures.all
      ∙ ap (λ ws. words_of c.args.root (unfinished c.args.self.now.state) ws) c.of.ensures,
)
