use Rattle.std.proofs.Common.{ap}
use Rattle.fz_script.specs.Reading.{words_in}
use Rattle.fz_script.proofs.Parts.{first_word, only_word}
use Rattle.fz_script.proofs.words.Words.next.Goals as goal

pub returns-in-Some : goal.returns-in-Some
returns-in-Some c = first_word c.in_ok-rest.rest.now c.in-Some.at _ (ap words_in c.in_ok-rest.was) c.in-Some.ensures

pub returns-in-None : goal.returns-in-None
returns-in-None c = only_word c.in_ok-rest.rest.now _ (ap words_in c.in_ok-rest.was) c.in-None.ensures
