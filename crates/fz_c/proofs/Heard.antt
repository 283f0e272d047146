-- What a machine hears from C.
use Rattle.std.proofs.Common.{◌≡◌, ◌<◌, [], ◌∷◌, ℕ, Bool, List, length, take, ap, refl, arith}
use Rattle.fz_machine.specs.Machines.{Answers, Words}
use Rattle.fz_c.specs.MachinePassing.{heard_of}

-- after a question about regions it hears words
pub of_regions : (regions : List ℕ) (asked : ℕ) (bits : List Bool) (words : List ℕ) → 0 < length regions → Words words ≡ heard_of regions asked bits words
of_regions [] asked bits words some = absurd (omega (arith, some))
of_regions (region ∷ regions) asked bits words some = refl

-- and else bits
pub of_items : (regions : List ℕ) (asked : ℕ) (bits : List Bool) (words : List ℕ) → regions ≡ [] → Answers (take asked bits) ≡ heard_of regions asked bits words
of_items [] asked bits words none = refl
of_items (region ∷ regions) asked bits words none = absurd (let long = ap length none in omega (arith, long))
