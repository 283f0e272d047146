use Rattle.fz_why.proofs.asking.why.Goals as goal

pub why_registered-requires-clause-sound : goal.why_registered-requires-clause-sound
why_registered-requires-clause-sound g c = record { registered = c.requires.registered; short = c.requires.short; keys = c.requires.keys; zero = c.requires.zero }
