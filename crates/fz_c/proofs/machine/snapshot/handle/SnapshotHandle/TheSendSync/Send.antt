-- A handle may go to another thread, since its session may.
use denote.Struct.Struct.{exits_of}
use denote.Struct.Owning.{shape, fields, to}
use denote.Param.Send.{IsSend, AllSend, owning_send, struct_send, sendable}
use Rattle.fz_c.proofs.Sent.{heap_send, owned, quiet}
use Rattle.fz_c.specs.contracts.machine.snapshot.session.SnapshotSession.{the_row as held}
use Rattle.fz_c.proofs.machine.snapshot.session.SnapshotSession.TheSendSync.{the_send as held_send}
use Rattle.fz_c.specs.contracts.machine.snapshot.handle.SnapshotHandle.{the_row, the_type}

pub send : IsSend the_row
send =
    let all : AllSend (fields the_type) = (search sendable, (heap_send, tt)) in
    owning_send the_type all (λ d. owned held held_send d.alloc d.at d.value) (λ k. quiet (to the_type) (exits_of k (fields the_type)) ((struct_send (shape the_type) all).leaving k))
