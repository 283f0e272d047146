use Rattle.weak_cache.proofs.Opening.{opened}
use Rattle.weak_cache.proofs.Refusing.{not_opened}
use Rattle.weak_cache.proofs.cache.Cache.open.Goals as goal

pub invariant_of-result : goal.invariant_of-result
invariant_of-result c = (opened _ _ _ _ _ _ c.in_ok-world.ensures.opened c.in_ok-world.ensures.forgotten c.in_ok-alloc.ensures.step).whole

pub returns-clause-empty : goal.returns-clause-empty
returns-clause-empty c = (opened _ _ _ _ _ _ c.in_ok-world.ensures.opened c.in_ok-world.ensures.forgotten c.in_ok-alloc.ensures.step).empty

pub returns-in_err-world-clause-judged : goal.returns-in_err-world-clause-judged
returns-in_err-world-clause-judged c = not_opened c.args.blocks c.args.keys c.from_residual.result _ c.from_residual.ensures.1 c.in_err-world.ensures.judged

pub returns-clause-opened : goal.returns-clause-opened
returns-clause-opened c = (c.in_ok-world.world, c.in_ok-alloc.field-0, c.in_ok-world.ensures.opened, c.in_ok-alloc.ensures.step)
