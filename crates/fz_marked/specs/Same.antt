-- What a pass leaves unchanged in a heap and its marker: all but words and the second set of marks.
use Rattle.std.specs.Prelude.{◌≡◌, refl}
use Rattle.std.proofs.Common.{ap, ◌∙◌}
use Rattle.std.specs.FinMap.{keys}
use Rattle.fz_heap.specs.Contents.{Contents}
use Rattle.fz_marker.specs.Marking.{Marking}

pub record IsSame (old new : Contents) (marker new_marker : Marking) : Type 0 where
  pub heap_is : new ≡ record old { objects = new.objects }
  pub starts : keys new.objects ≡ keys old.objects
  pub marker_is : new_marker ≡ record marker { traced = new_marker.traced }

pub same_itself : (heap : Contents) (marker : Marking) → IsSame heap heap marker marker
same_itself heap marker = record { heap_is = refl; starts = refl; marker_is = refl }

pub same_then : (old mid new : Contents) (marker mid_marker new_marker : Marking) → IsSame old mid marker mid_marker → IsSame mid new mid_marker new_marker → IsSame old new marker new_marker
same_then old mid new marker mid_marker new_marker first then = record {
  heap_is = then.heap_is ∙ ap (λ (h : Contents). record h { objects = new.objects }) first.heap_is;
  starts = then.starts ∙ first.starts;
  marker_is = then.marker_is ∙ ap (λ (m : Marking). record m { traced = new_marker.traced }) first.marker_is;
}
