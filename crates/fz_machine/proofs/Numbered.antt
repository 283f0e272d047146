-- What is asked is told by its number.
use Rattle.std.proofs.Common.{◌≡◌, ℕ, zero, suc, refl, sym, ap, ◌∙◌}
use Rattle.fz_machine.specs.declared.question.Ask.{Ask}
use Rattle.fz_machine.specs.declared.question.Ask.TheVariants.{IsMarked, MarkChildren, MarkOthers, Mark, MarkAlone, Clear, IsHolderMarked, Marks, Live, MarkValue}
use Rattle.fz_machine.specs.Asks.{number_of}

abbrev ask_of : ℕ → Ask
ask_of zero = IsMarked
ask_of (suc zero) = IsMarked
ask_of (suc (suc zero)) = MarkChildren
ask_of (suc (suc (suc zero))) = MarkOthers
ask_of (suc (suc (suc (suc zero)))) = Mark
ask_of (suc (suc (suc (suc (suc zero))))) = MarkAlone
ask_of (suc (suc (suc (suc (suc (suc zero)))))) = Clear
ask_of (suc (suc (suc (suc (suc (suc (suc zero))))))) = IsHolderMarked
ask_of (suc (suc (suc (suc (suc (suc (suc (suc zero)))))))) = Marks
ask_of (suc (suc (suc (suc (suc (suc (suc (suc (suc zero))))))))) = Live
ask_of (suc (suc (suc (suc (suc (suc (suc (suc (suc (suc n)))))))))) = MarkValue

back : (ask : Ask) → ask_of (number_of ask) ≡ ask
back IsMarked = refl
back MarkChildren = refl
back MarkOthers = refl
back Mark = refl
back MarkAlone = refl
back Clear = refl
back IsHolderMarked = refl
back Marks = refl
back Live = refl
back MarkValue = refl

pub same_ask : (a b : Ask) → number_of a ≡ number_of b → a ≡ b
same_ask a b same = sym (back a) ∙ ap ask_of same ∙ back b
