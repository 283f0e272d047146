-- What a pointer owns: the box of its value, or nothing if it is null.
-- code: fz_c/src/handle/pointer.rt
use Rattle.std.specs.Prelude.{◌≡◌, Option, Some, None}
use Rattle.std.specs.Box.Ownership.{box_owns}
use Rattle.std.specs.Global.{Global}
use Rattle.std_heap.specs.contracts.GlobalAllocator.TheImpl.{ghosts}
use base.Fml.{Fml, ftrue, fex}
use denote.RattleType.{RattleType}
use denote.RawPtr.{Ptr, null_ptr}

abbrev pub maybe_owns : (R : RattleType) → Global → Ptr → Option R.Denot → Fml
maybe_owns R g p None = fex (p ≡ null_ptr) (λ _. ftrue)
maybe_owns R g p (Some x) = box_owns (ghosts.dealloc_token g) R p x
