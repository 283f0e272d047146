-- `into_pointer` moves the two fields back, and what they own goes with them.
use mathlib.Core.Path.{refl}
use mathlib.Core.List.{[], ◌∷◌}
use base.Logic.{emp, id⊢}
use base.Fml.{ftrue, fsep}
use prog.Wp.{WpFn, Tables}
use types.Kit.{‵, raw, ◌⊛◌, ◌$◌, ◌∵◌, !, qed, by, keep, drop, use1, join, split, fsplit, fjoin, suffices, done}
use contract.Running.{tables, tables_of}
use sound.WpLaws.{WpFn-mono}
use denote.Exit.{yes}
use denote.Signature.{plain}
use denote.Steps.{nothing}
use denote.Triple.Spec.{triple_of}
use denote.Triple.Table.{entered}
use denote.Triple.Walked.{says, Stays, stay_dropped, walk_of, ends_at, Goes-dropped, walk_Meets}
use Rattle.fz_c.proofs.AsBox.{PointerRow}
use Rattle.fz_c.proofs.Moves.{moves}
use Rattle.fz_c.specs.contracts.line.handle.LineHandle.{the_row}
use Rattle.fz_c.specs.contracts.line.handle.LineHandleHandle.into_pointer as F
use Rattle.fz_c.specs.contracts.line.handle.LineHandleHandle.into_pointer.Key.{name as #self}
use Rattle.fz_c.specs.contracts.line.line_session.LineSession.{the_row as held}
use Rattle.fz_c.proofs.line.line_session.LineSession.TheLaws.{the_row_laws as held_laws}
use Rattle.fz_c.proofs.line.handle.LineHandleHandle.into_pointer.Statement.{statement}
use Rattle.fz_c.proofs.line.handle.LineHandleHandle.into_pointer.Code as code

pub into_pointer_spec : {M : Type 1} → statement M
unfolding tables_of
into_pointer_spec 𝓤 𝓛 𝓜 𝓡 wired =
    let 𝓣 : Tables 𝓤 𝓛.H = tables_of 𝓤 𝓛.H 𝓜 (tables 𝓤 𝓛.H 𝓜 𝓡 𝓡.env) in let c = F.clauses 𝓛 𝓜.mem 𝓡.returns in
    let From = plain (λ _. the_row) in let hs : Stays (F.ended).signature.params (F.ended).kept = (stay_dropped From yes, tt) in
    entered 𝓤 𝓛.H (triple_of 𝓛 F.signature (F.spec 𝓛 𝓜.mem 𝓡.returns)) 𝓣.C 𝓣.Λ #self code.function (code.unfolded 𝓤 𝓛.H 𝓜 𝓡 wired)
    (walk_Meets 𝓛 F.ended hs (Goes-dropped 𝓛 0 From yes (λ κs x f. refl), tt) c (WpFn 𝓤 𝓛.H 𝓣.C 𝓣.Λ code.function) (WpFn-mono 𝓤 𝓛.H 𝓛.laws 𝓣 code.function) (λ z.
    let made : (PointerRow held).Denot = record { at = z.0.3.0.at; alloc = z.0.3.0.alloc; value = z.0.3.0.value } in
    qed 𝓛 ((‵ ftrue ⊛ ‵ (fsep (the_row.own_val z.0.3.0 z.0.4.0) ftrue)) ∷ raw (emp 𝓤) ∷ []) ∵ split ! $ drop ! $ fsplit ! $ keep ! (0 ∷ []) $ use1 𝓛 (‵ ((PointerRow held).own_val made z.0.4.0)) (id⊢ 𝓤 _) $
    by ! (moves held held_laws 𝓛 𝓣 _ _ made z.0.4.0 ((walk_of 𝓛 F.ended hs c).post z) (λ v. qed 𝓛 (‵ ((PointerRow held).own_val made (v ∷ [])) ∷ []) ∵ suffices ! _ (ends_at 𝓛 F.ended hs c z v made (tt, tt) (tt, tt)) $ says ! refl $
    nothing ! $ nothing ! $ fjoin ! $ join ! $ nothing ! $ join ! $ done !))))
