-- A pointer may go to another thread if its value may.
use denote.RattleType.{RattleType}
use denote.Struct.Struct.{exits_of}
use denote.Struct.Owning.{shape, fields, to}
use denote.Param.Send.{IsSend, AllSend, owning_send, struct_send, sendable}
use Rattle.fz_c.proofs.Sent.{heap_send, owned, quiet}
use Rattle.fz_c.specs.contracts.handle.pointer.Pointer.{the_row, the_type}

pub send : (X : RattleType) → IsSend X → IsSend (the_row X)
send X s =
    let O = the_type X in let all : AllSend (fields O) = (search sendable, (heap_send, tt)) in
    owning_send O all (λ d. owned X s d.alloc d.at d.value) (λ k. quiet (to O) (exits_of k (fields O)) ((struct_send (shape O) all).leaving k))
