-- The code that moves the two fields of a pointer into another struct, or back from one: what they own goes with them. Assumes `Logic`.
--     moving        that code, from a struct of the one name to a struct of the other
--     moves         what it leaves is what it was given
use mathlib.Core.Path.{◌≡◌, refl, sym, subst}
use mathlib.Core.List.{List, [], ◌∷◌, ◌++◌}
use lib.Dec.{T}
use seplogic.Ra.Ura.{Ura}
use mir.Syntax.{Sym, Ty, Fn, ty_struct, ty_ptr, tcons, tnil, local, value_local, place, field, copy, rv_opd, aggregate, seq, assign, return}
use mir.Val.{Val, vstruct, vcons, vnil, of_list, has_ty, WT}
use base.Logic.{SProp, ent, id⊢}
use prog.Wp.{WpFn, Tables}
use types.Logic.{Logic, sem}
use types.Kit.{Item, ‵, ◌$◌, ◌∵◌, !, qed, by, move, drop, use1, fsplit, fjoin, fpick, fpack, feq_l, feq_i, suffices, done}
use types.Part.{whole, sub, agg}
use types.Run.{stop, fld, no_more, and_then, of_opd, returns, enter}
use types.ByLocal.{alloc_all, pass_all, free_all, look_at, get, get_in, sets}
use denote.Param.{layout}
use denote.Param.Laws.{Laws}
use denote.RattleType.{RattleType, Valss}
use denote.RawPtr.{RawPtr, ptr_val}
use denote.Steps.{nothing}
use denote.Struct.Struct.{within}
use denote.Struct.Owning.{shape}
use Rattle.core.proofs.alloc.Calls.{α, handle_tells}
use Rattle.std_alloc.proofs.BoxSteps.Form.{Bx, P, owning, box_ty}
use Rattle.std_heap.specs.contracts.Global as Heap
use Rattle.fz_c.proofs.AsBox.{boxed, PointerRow}
use Rattle.fz_c.proofs.Typed.{ptr_typed, both_tt}

abbrev pub holder : Sym → Ty
holder name = ty_struct name (tcons ty_ptr (tcons (layout Heap.the_row) tnil))

abbrev pub moving : Sym → Sym → Fn
moving from to = record {
  lifetimes = 0;
  outlives = [];
  ty_params = [];
  givens = 0;
  params = 1;
  locals = local (holder to) value_local ∷ local (holder from) value_local ∷ local ty_ptr value_local ∷ local (layout Heap.the_row) value_local ∷ local ty_ptr value_local ∷ [];
  body = seq (assign (place 2 []) (rv_opd (copy (place 1 (field 0 ∷ []))))) (seq (assign (place 3 []) (rv_opd (copy (place 1 (field 1 ∷ [])))))
      (seq (assign (place 4 []) (rv_opd (copy (place 2 [])))) (seq (assign (place 0 []) (aggregate (copy (place 4 []) ∷ copy (place 3 []) ∷ []))) return)));
}

module _ (X : RattleType) (L : Laws X) {M : Type 1} {𝓤 : Ura M} (𝓛 : Logic 𝓤) (𝓣 : Tables 𝓤 𝓛.H) where
  open 𝓛 use {H}

  abbrev E : Bx
  E = boxed X L

  pub moves : (from to : Sym) (d : (PointerRow X).Denot) (us : List Val) (Post : Val → SProp 𝓤) → ((v : Val) → ent 𝓤 (sem 𝓛 ((PointerRow X).own_val d (v ∷ []))) (Post v))
      → ent 𝓤 (sem 𝓛 ((PointerRow X).own_val d us)) (WpFn 𝓤 H 𝓣.C 𝓣.Λ (moving from to) (us ++ []) Post)
  moves from to d us Post ends =
      let p = d.at in let a = d.alloc in
      qed 𝓛 (‵ ((PointerRow X).own_val d us) ∷ []) ∵ fsplit ! $ fpick ! (λ vss. fsplit ! $ feq_l ! (λ ev. fsplit ! $ feq_l ! (λ ep. fsplit ! $ handle_tells E.al ! a vss.1.0 (λ hv ea fa. move ! (1 ∷ []) $ drop ! $
      let w : Val = vstruct (vcons (ptr_val p) (vcons hv vnil)) in
      let tp = ptr_typed p in
      let typed : T (has_ty (box_ty E) w) × WT w = (both_tt (has_ty ty_ptr (ptr_val p)) (has_ty (α E.al) hv) tp.0 fa.0, (tp.1, (fa.1, tt))) in
      let ws : us ≡ w ∷ [] = subst (λ (vs : List Val). us ≡ vstruct (of_list (ptr_val p ∷ (vs ++ []))) ∷ []) ea (subst (λ (ps : List Val). us ≡ vstruct (of_list (ps ++ (vss.1.0 ++ []))) ∷ []) ep ev) in
      nothing ! $ move ! (1 ∷ 0 ∷ []) $ fjoin ! $ feq_i ! (List Val) (ptr_val p ∷ []) (ptr_val p ∷ []) refl $ fjoin ! $ feq_i ! (List Val) (w ∷ []) (w ∷ []) refl $ fjoin ! $
      fpack ! (Valss (RawPtr ∷ P E ∷ [])) (within (shape (owning E)) (p, (a, tt)) (w ∷ [])) (ptr_val p ∷ [], (hv ∷ [], tt)) $ fjoin ! $
      use1 𝓛 (‵ ((PointerRow X).own_val d (w ∷ []))) (id⊢ 𝓤 _) $
      let Γ : List (Item 𝓤) = ‵ ((PointerRow X).own_val d (w ∷ [])) ∷ [] in
      by ! (subst (λ (vs : List Val). ent 𝓤 (types.Kit.⋆ 𝓛 Γ) (WpFn 𝓤 H 𝓣.C 𝓣.Λ (moving from to) (vs ++ []) Post)) (sym ws)
      (qed 𝓛 Γ ∵ enter ! 𝓣.C 𝓣.Λ (moving from to) (w ∷ []) _ $ alloc_all ! (λ ls. pass_all ! refl (typed, tt) $
      sets ! (of_opd ! (get_in ! (fld ! refl (stop !)) (sub ! 0 refl (whole !)))) refl tp $ sets ! (of_opd ! (get_in ! (fld ! refl (stop !)) (sub ! 1 refl (whole !)))) refl fa $
      sets ! (of_opd ! (get ! refl)) refl tp $ sets ! (agg ! (and_then ! (get ! refl) (and_then ! (get ! refl) (no_more !)))) refl typed $ returns ! (look_at ! 0 refl) $ free_all ! refl $
      suffices ! _ (ends w) $ done !)))))))
