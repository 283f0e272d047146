-- Which machine values are well formed.
use mathlib.Core.Bool.{Bool, true, false, ◌&&◌}
use lib.Dec.{T}
use Rattle.std.proofs.Common.{arith}
use mir.Syntax.{ty_ptr}
use mir.Val.{has_ty, WT}
use denote.RawPtr.{Ptr, block_ptr, null_ptr, ptr_val}

pub ptr_typed : (p : Ptr) → T (has_ty ty_ptr (ptr_val p)) × WT (ptr_val p)
ptr_typed (block_ptr b o) = (tt, tt)
ptr_typed null_ptr = (tt, omega arith)

pub both_tt : (x y : Bool) → T x → T y → T (x && (y && true))
both_tt true true s t = tt
both_tt true false s t = absurd t
both_tt false y s t = absurd s
