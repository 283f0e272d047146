-- `into_parts` tests the pointer: at null there was nothing, and else its box goes with the two fields.
use mathlib.Core.Path.{◌≡◌, refl, sym, subst}
use mathlib.Core.Bool.{true}
use mathlib.Core.List.{List, [], ◌∷◌, ◌++◌}
use lib.Dec.{T, lit<}
use Rattle.std.specs.Prelude.{Option, Some, None}
use seplogic.Ra.Ura.{Ura}
use mir.Syntax.{Fn}
use mir.MapTy.{inst_fn}
use mir.Raw.{raw as bare}
use mir.Val.{Val, vnull, vstruct, vcons, vnil, of_list, has_ty, WT}
use base.Logic.{SProp, ent, guard_i, id⊢}
use base.Fml.{ftrue, fsep, flft}
use prog.Memory.{Memory}
use prog.Routine.{Routine}
use prog.Wp.{WpFn, Tables}
use types.Logic.{Logic, sem}
use types.Kit.{Item, at_ret, given, ‵, raw, ◌⊛◌, ◌$◌, ◌∵◌, !, qed, by, move, keep, drop, rewrite, use0, use1, join, split, fsplit, fjoin, fpick, feq_l, learn, suffices, done}
use types.Match.{live}
use types.Part.{whole, sub, agg}
use types.Run.{bin, lit, stop, fld, no_more, and_then, of_opd, returns, enter, first, branches, exec}
use types.ByLocal.{alloc_all, pass_all, free_all, look_at, get, get_in, sets, sets_last, env}
use contract.Monad.{Fun, fact_use}
use contract.Running.{tables, tables_of}
use sound.WpLaws.{WpFn-mono}
use denote.Exit.{no}
use denote.Param.{layout}
use denote.Param.Laws.{Laws}
use denote.RattleType.{RattleType}
use denote.RawPtr.{Ptr, block_ptr, ptr_val, tests_null, Testable}
use denote.Signature.{type_at, plain}
use denote.Steps.{nothing}
use denote.Triple.Clauses.{Ended, Clauses}
use denote.Triple.Spec.{triple_of}
use denote.Triple.Table.{entered}
use denote.Triple.Walked.{says, Stays, stay_dropped, walk_of, ends_at, walk_Meets}
use Rattle.core.proofs.alloc.Calls.{α, token, handle_tells, Goes-blank}
use Rattle.core.proofs.alloc.Shapes.{after}
use Rattle.core.proofs.cell.Inside.{Good}
use Rattle.core.proofs.option.Made.{Some-of, none_of}
use Rattle.std.proofs.GlobalToken.{dealloc_token-Testable}
use Rattle.std_alloc.proofs.ResultValues.{and_tt}
use Rattle.std_alloc.proofs.BoxSteps.Form.{Bx, D, B, τ, box_ty, word, box_typed}
use Rattle.std_alloc.proofs.BoxSteps.Steps.{box_out, box_in}
use Rattle.fz_c.proofs.Typed.{both_tt}
use Rattle.fz_c.proofs.AsBox.{args, boxed, PartsRow, PointerRow}
use Rattle.fz_c.specs.contracts.handle.pointer.Pointer.into_parts as F
use Rattle.fz_c.specs.contracts.handle.pointer.Pointer.into_parts.Key.{name as #self}
use Rattle.fz_c.proofs.handle.pointer.Pointer.into_parts.Statement as stated
use Rattle.fz_c.proofs.handle.pointer.Pointer.into_parts.Code as code

module _ (X : RattleType) (L : Laws X) where
  abbrev E : Bx
  E = boxed X L

  abbrev fn' : Fn
  fn' = inst_fn (args X) code.function

  abbrev ended : Ended
  ended = F.ended X

  abbrev stayed : Stays ended.signature.params ended.kept
  stayed = (stay_dropped (plain (λ _. PointerRow X)) no, tt)

  module _ {M : Type 1} {𝓤 : Ura M} (𝓛 : Logic 𝓤) (at_mem : Memory → SProp 𝓤) (run : Routine → Fun 𝓤) (𝓣 : Tables 𝓤 𝓛.H) where
    open 𝓛 use {H}

    abbrev held : Clauses 𝓤 ended
    held = F.clauses X 𝓛 at_mem run

    module _ (z : (walk_of 𝓛 ended stayed held).Ghost) where
      abbrev Post : Val → SProp 𝓤
      Post = (walk_of 𝓛 ended stayed held).post z

      abbrev us : List Val
      us = z.0.4.0

      abbrev Out : RattleType
      Out = type_at ended.signature.result z.0.0

      abbrev ts : Item 𝓤
      ts = ‵ (flft z.0.0.0 z.0.1.0) ⊛ ‵ ftrue

      abbrev needs : Item 𝓤
      needs = raw ((held z.0.0 z.0.3).requires z.1)

      abbrev Goes : Type 1
      Goes = ent 𝓤 ((walk_of 𝓛 ended stayed held).pre z) (WpFn 𝓤 H 𝓣.C 𝓣.Λ fn' (us ++ []) Post)

      at : (o : Option X.Denot) → z.0.3.0.value ≡ o → Goes
      at None e =
          let a = z.0.3.0.alloc in
          qed 𝓛 ((ts ⊛ ‵ (fsep ((PointerRow X).own_val z.0.3.0 us) ftrue)) ∷ needs ∷ []) ∵ split ! $ move ! (1 ∷ []) $ fsplit ! $
          rewrite ! 0 (λ (o : Option X.Denot). ‵ ((PointerRow X).own_val (record { at = z.0.3.0.at; alloc = a; value = o }) us)) e refl $
          fsplit ! $ fpick ! (λ vss. fsplit ! $ feq_l ! (λ ev. fsplit ! $ feq_l ! (λ ep. fsplit ! $ handle_tells E.al ! a vss.1.0 (λ hv ea fa. move ! (1 ∷ []) $ drop ! $ move ! (1 ∷ []) $ fpick ! (λ is. keep ! (3 ∷ []) $
          let w : Val = vstruct (vcons vnull (vcons hv vnil)) in
          let typed : T (has_ty (box_ty E) w) × WT w = (both_tt true (has_ty (α E.al) hv) tt fa.0, (record { fits = lit< tt }, (fa.1, tt))) in
          let Ev = env fn'.locals in
          let ws : us ≡ w ∷ [] =
          subst (λ (p : Ptr). us ≡ vstruct (of_list (ptr_val p ∷ hv ∷ [])) ∷ []) is
          (subst (λ (vs : List Val). us ≡ vstruct (of_list (ptr_val z.0.3.0.at ∷ (vs ++ []))) ∷ []) ea (subst (λ (ps : List Val). us ≡ vstruct (of_list (ps ++ (vss.1.0 ++ []))) ∷ []) ep ev)) in
          by ! (subst (λ (vs : List Val). ent 𝓤 (types.Kit.⋆ 𝓛 (ts ∷ [])) (WpFn 𝓤 H 𝓣.C 𝓣.Λ fn' (vs ++ []) Post)) (sym ws)
          (qed 𝓛 (ts ∷ []) ∵ enter ! 𝓣.C 𝓣.Λ fn' (w ∷ []) _ $ alloc_all ! (λ ls. pass_all ! refl (typed, tt) $
          sets ! (of_opd ! (get_in ! (fld ! refl (stop !)) (sub ! 0 refl (whole !)))) refl (tt, record { fits = lit< tt }) $ sets ! (of_opd ! (get_in ! (fld ! refl (stop !)) (sub ! 1 refl (whole !)))) refl fa $
          sets ! (bin ! (get ! refl) (lit ! tt) tt) refl (tt, tt) $ first ! $ branches ! (get ! refl)
          (λ _. sets_last ! (agg ! (and_then ! (lit ! tt) (no_more !))) refl (tt, (record { fits = lit< tt }, tt)) $ exec ! 𝓣.C 𝓣.Λ (Ev ls) (after 4 fn'.body) (at_ret (Ev ls) Post) $
          sets ! (of_opd ! (get ! refl)) refl (tt, (record { fits = lit< tt }, tt)) $ returns ! (look_at ! 0 refl) $ free_all ! refl $
          use0 𝓛 (‵ (Out.own_val None (live 0 (of_list []) ∷ []))) (none_of 𝓛 (PartsRow X)) $
          suffices ! _ (ends_at 𝓛 ended stayed held z (live 0 (of_list [])) None (tt, tt) (tt, tt)) $ says ! e $
          nothing ! $ nothing ! $ fjoin ! $ join ! $ move ! (1 ∷ 0 ∷ []) $ join ! $ done !)
          (λ wrong. absurd wrong)))))))))
      at (Some x) e =
          let a = z.0.3.0.alloc in
          let v : D E = record { ptr = z.0.3.0.at; alloc = a; value = x } in
          qed 𝓛 ((ts ⊛ ‵ (fsep ((PointerRow X).own_val z.0.3.0 us) ftrue)) ∷ needs ∷ []) ∵ split ! $ move ! (1 ∷ []) $ fsplit ! $
          rewrite ! 0 (λ (o : Option X.Denot). ‵ ((PointerRow X).own_val (record { at = z.0.3.0.at; alloc = a; value = o }) us)) e refl $ use1 𝓛 (‵ ((B E).own_val v us)) (id⊢ 𝓤 _) $
          box_out E ! v us (λ b o hv ep ws fa.
          let p : Ptr = block_ptr b o in let tok = token E.al a (bare (τ E)) p in
          move ! (1 ∷ []) $ use1 𝓛 (given (Testable p) (‵ tok)) (fact_use 𝓤 (Testable p) (dealloc_token-Testable 𝓛 a (bare (τ E)) p) (guard_i 𝓤 (Testable p) (sem 𝓛 tok))) $ learn ! (λ t. move ! (1 ∷ 0 ∷ 2 ∷ []) $
          let made : (PartsRow X).Denot = record { ptr = v.ptr; alloc = a; value = x } in
          let w = word E hv b o in let typed = box_typed E hv b o fa in let v₁ : Val = live 1 (vcons w vnil) in
          let good : Good (layout Out) v₁ = (and_tt _ typed.0, (record { fits = lit< tt }, (typed.1, tt))) in
          let Ev = env fn'.locals in
          box_in E ! v b o x ep refl $ use1 𝓛 (‵ ((PartsRow X).own_val made (w ∷ []))) (id⊢ 𝓤 _) $ use1 𝓛 (‵ (Out.own_val (Some made) (v₁ ∷ []))) (Some-of 𝓛 (PartsRow X) made w) $ keep ! (0 ∷ 2 ∷ []) $
          let Γ : List (Item 𝓤) = ‵ (Out.own_val (Some made) (v₁ ∷ [])) ∷ ts ∷ [] in
          by ! (subst (λ (vs : List Val). ent 𝓤 (types.Kit.⋆ 𝓛 Γ) (WpFn 𝓤 H 𝓣.C 𝓣.Λ fn' (vs ++ []) Post)) (sym ws)
          (qed 𝓛 Γ ∵ enter ! 𝓣.C 𝓣.Λ fn' (w ∷ []) _ $ alloc_all ! (λ ls. pass_all ! refl (typed, tt) $
          sets ! (of_opd ! (get_in ! (fld ! refl (stop !)) (sub ! 0 refl (whole !)))) refl (tt, tt) $ sets ! (of_opd ! (get_in ! (fld ! refl (stop !)) (sub ! 1 refl (whole !)))) refl fa $
          sets ! (bin ! (get ! refl) (lit ! tt) (tests_null p t)) refl (tt, tt) $ first ! $ branches ! (get ! refl) (λ wrong. absurd wrong)
          (λ _. sets ! (agg ! (and_then ! (get ! refl) (and_then ! (get ! refl) (no_more !)))) refl typed $
          sets_last ! (agg ! (and_then ! (lit ! tt) (and_then ! (get ! refl) (no_more !)))) refl good $ exec ! 𝓣.C 𝓣.Λ (Ev ls) (after 4 fn'.body) (at_ret (Ev ls) Post) $
          sets ! (of_opd ! (get ! refl)) refl good $ returns ! (look_at ! 0 refl) $ free_all ! refl $
          suffices ! _ (ends_at 𝓛 ended stayed held z v₁ (Some made) (tt, tt) (tt, tt)) $ says ! e $
          nothing ! $ nothing ! $ fjoin ! $ join ! $ move ! (1 ∷ 0 ∷ []) $ join ! $ done !))))))

pub into_parts_spec : {M : Type 1} → stated.statement M
unfolding tables_of
into_parts_spec 𝓤 𝓛 𝓜 𝓡 wired X L =
    let 𝓣 : Tables 𝓤 𝓛.H = tables_of 𝓤 𝓛.H 𝓜 (tables 𝓤 𝓛.H 𝓜 𝓡 𝓡.env) in
    let fn = fn' X L in
    entered 𝓤 𝓛.H (triple_of 𝓛 (ended X L).signature (F.spec X 𝓛 𝓜.mem 𝓡.returns)) 𝓣.C 𝓣.Λ (#self (args X)) fn (code.unfolded 𝓤 𝓛.H 𝓜 𝓡 wired (X, tt))
    (walk_Meets 𝓛 (ended X L) (stayed X L) (Goes-blank 𝓛 1 (plain (λ _. PointerRow X)) no (λ κs x f. tt), tt) (held X L 𝓛 𝓜.mem 𝓡.returns 𝓣) (WpFn 𝓤 𝓛.H 𝓣.C 𝓣.Λ fn) (WpFn-mono 𝓤 𝓛.H 𝓛.laws 𝓣 fn)
    (λ z. at X L 𝓛 𝓜.mem 𝓡.returns 𝓣 z z.0.3.0.value refl))
