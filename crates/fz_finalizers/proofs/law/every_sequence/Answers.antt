use Rattle.fz_finalizers.proofs.Alike.{passes_alike}
use Rattle.fz_finalizers.proofs.Promised.{promised}
use Rattle.fz_finalizers.proofs.Walked.{walked, yield_all}
use Rattle.fz_finalizers.proofs.Recorded.{recorded}
use Rattle.fz_finalizers.proofs.Keying.{changes_ephemerons, single}
use Rattle.fz_finalizers.proofs.Lawful.{changes_links, numbers_passes}
use Rattle.fz_finalizers.proofs.law.every_sequence.Goals as goal

pub returns-clause-promises : goal.returns-clause-promises
returns-clause-promises c = promised

pub returns-clause-walked : goal.returns-clause-walked
returns-clause-walked c = walked

pub returns-clause-recorded : goal.returns-clause-recorded
returns-clause-recorded c = recorded

pub returns-clause-single : goal.returns-clause-single
returns-clause-single c = single

pub returns-clause-links : goal.returns-clause-links
returns-clause-links c = changes_links

pub returns-clause-ephemerons : goal.returns-clause-ephemerons
returns-clause-ephemerons c = changes_ephemerons

pub returns-clause-passes : goal.returns-clause-passes
returns-clause-passes c = numbers_passes

pub returns-clause-walks : goal.returns-clause-walks
returns-clause-walks c = yield_all

pub returns-clause-cleanups : goal.returns-clause-cleanups
returns-clause-cleanups c = λ place old new. (passes_alike (Unit {0}) place old new, passes_alike ⊥ place old new)
