-- How a seat grows while a worker serves.
use Rattle.std.proofs.Common.{◌≡◌, ◌+◌, ◌≤◌, List, [], ◌∷◌, ◌++◌, Bool, true, false, refl, sym, ap, ◌∙◌, append-nil, append_assoc, length, length-append, subst, arith}
use mir.Val.{bool_byte}
use Rattle.fz_model.specs.declared.answers.Entry.{Entry}
use Rattle.fz_line.specs.States.{SeatState, DutyState}
use Rattle.fz_line.specs.Takes.{GainsEntry}
use Rattle.fz_service.specs.Workers.{Extends, Serves}

pub same_seat : (s : SeatState) → Extends s s
same_seat s = record { line = refl; index = refl; since = []; took = sym (append-nil s.took) }

pub extends_same : (old mid new : SeatState) → Extends old mid → new ≡ mid → Extends old new
extends_same old mid new before same = subst (λ (s : SeatState). Extends old s) (sym same) before

-- one entry more
pub served : (old mid new : SeatState) (duty : DutyState) (done : Bool) → Extends old mid → GainsEntry mid duty → Serves duty new done → Extends old new
served old mid new duty done before gains serves = record {
  line = (seat_is done serves).0 ∙ before.line;
  index = (seat_is done serves).1 ∙ before.index;
  since = before.since ++ duty.entry ∷ [];
  took = (seat_is done serves).2 ∙ ap (λ (es : List Entry). es ++ duty.entry ∷ []) before.took ∙ append_assoc old.took before.since (duty.entry ∷ []);
}
  where
    seat_is : (done : Bool) → Serves duty new done → (new.line ≡ mid.line) × (new.index ≡ mid.index) × (new.took ≡ mid.took ++ duty.entry ∷ [])
    seat_is true is = (ap (λ (s : SeatState). s.line) is ∙ ap (λ (s : SeatState). s.line) gains.0, ap (λ (s : SeatState). s.index) is ∙ ap (λ (s : SeatState). s.index) gains.0, ap (λ (s : SeatState). s.took) is ∙ ap (λ (s : SeatState). s.took) gains.0)
    seat_is false is = (ap (λ (s : SeatState). s.line) is ∙ ap (λ (s : SeatState). s.line) gains.0, ap (λ (s : SeatState). s.index) is ∙ ap (λ (s : SeatState). s.index) gains.0, ap (λ (s : SeatState). s.took) is ∙ ap (λ (s : SeatState). s.took) gains.0)

-- and counted
pub counted : (mid new : SeatState) (duty : DutyState) (done : Bool) → GainsEntry mid duty → Serves duty new done → (new.finished ≡ mid.finished + bool_byte done) × (bool_byte done ≤ 1)
counted mid new duty true gains is = (ap (λ (s : SeatState). s.finished) is ∙ ap (λ (s : SeatState). s.finished + 1) gains.0, omega arith)
counted mid new duty false gains is = (ap (λ (s : SeatState). s.finished) is ∙ ap (λ (s : SeatState). s.finished) gains.0 ∙ (let e : mid.finished ≡ mid.finished + 0 = omega arith in e), omega arith)

-- its list gains the entry
pub one_more : (mid new : SeatState) (duty : DutyState) (done : Bool) → GainsEntry mid duty → Serves duty new done → length new.took ≡ length mid.took + 1
one_more mid new duty true gains is =
    ap (λ (s : SeatState). length s.took) is ∙ ap (λ (s : SeatState). length s.took) gains.0 ∙ length-append mid.took (duty.entry ∷ [])
one_more mid new duty false gains is =
    ap (λ (s : SeatState). length s.took) is ∙ ap (λ (s : SeatState). length s.took) gains.0 ∙ length-append mid.took (duty.entry ∷ [])
