-- A registration goes, or an entry is finished; everything else of a world stays.
use Rattle.std.proofs.Common.{◌≡◌, ℕ, Bool, Result, Ok, Err, OnOk, OnErr, sym, subst, filter, not}
use Rattle.std.specs.FinMap.{remove}
use Rattle.fz_model.specs.declared.answers.Entry.{Entry}
use Rattle.fz_heap.specs.Contents.{Contents}
use Rattle.fz_dirty.specs.Pages.{Pages}
use Rattle.fz_marker.specs.Marking.{Marking}
use Rattle.fz_model.specs.Events.{same_entry}
use Rattle.fz_finalizers.specs.declared.refused.Refused.{Refused}
use Rattle.fz_finalizers.specs.Follows.{Follows, Finish}
use Rattle.fz_finalizers.specs.States.{State}
use Rattle.fz_world.proofs.Linking.{IsKept}
use Rattle.fz_world.proofs.Whole.{world_removed, world_finished}

module _ (heap : Contents) (marker : Marking) (pages : Pages) (cycle : Bool) where
  abbrev Kept : State → Type 0
  Kept s = IsKept heap marker pages cycle s

  pub unregistered : (s new : State) (object : ℕ) → new ≡ record s { registrations = remove s.registrations object } → IsKept heap marker pages cycle s → IsKept heap marker pages cycle new
  unregistered s new object is h = subst Kept (sym is) (world_removed heap s marker pages cycle object h.0, h.1, h.2, h.3)

  pub finished : (s new : State) (keep : Entry → Bool) → new ≡ record s { held = filter keep s.held } → IsKept heap marker pages cycle s → IsKept heap marker pages cycle new
  finished s new keep is h = subst Kept (sym is) (world_finished heap s marker pages cycle keep h.0, h.1, h.2, h.3)

  pub finishes : (s new : State) (entry : Entry) (result : Result Unit Refused) → OnErr result (new ≡ s) → OnOk result (Follows s (Finish entry) new) → IsKept heap marker pages cycle s → IsKept heap marker pages cycle new
  finishes s new entry (Err r) same follows h = subst Kept (sym same) h
  finishes s new entry (Ok x) same follows h = finished s new (λ h. not (same_entry entry h)) follows.1 h
