-- What a pointer owns may go to another thread if its value may: the value in the box, and the right to free the block.
use Rattle.std.specs.Prelude.{Option, Some, None}
use Rattle.std.specs.Global.{Global}
use mir.Raw.{raw}
use base.Shift.{Keyless}
use denote.Memory.{lone}
use denote.RattleType.{RattleType}
use denote.RawPtr.{Ptr}
use denote.Param.Send.{IsSend}
use Rattle.std.proofs.Crossing as heap
use Rattle.std_alloc.proofs.SendSync.{lies}
pub use Rattle.std_alloc.proofs.SendSync.{quiet}
pub use Rattle.std_heap.proofs.Global.TheSendSync.{the_field_send as heap_send}
use Rattle.fz_c.specs.Pointers.{maybe_owns}

pub owned : (X : RattleType) → IsSend X → (g : Global) (p : Ptr) (o : Option X.Denot) → Keyless (maybe_owns X g p o)
owned X s g p None = λ _. tt
owned X s g p (Some x) = (lies X s p x, heap.frees.frees g (raw (lone X.mir)) p)
