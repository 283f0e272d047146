use Rattle.std.proofs.Common.{◌*◌, arith}
use Rattle.fz_model.specs.declared.limits.TheConstants.{BLOCK_WORDS}
use Rattle.fz_marker.proofs.Marked.{empty_marker}
use Rattle.fz_marker.proofs.marker.Marker.new.Goals as goal

pub invariant_of-result : goal.invariant_of-result
invariant_of-result c =
    empty_marker (BLOCK_WORDS * c.args.blocks) 0 c.in_ok-marks.marks c.in_ok-traces.traces c.in_ok-scanned.scanned c.in_ok-marks.ensures.made c.in_ok-scanned.ensures.made c.in_ok-traces.ensures.made (omega (arith, c.requires))
