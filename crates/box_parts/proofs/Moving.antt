-- A function that moves a pointer and a handle out of one struct into another, which owns the same.
use mathlib.Core.Path.{◌≡◌, refl, sym, subst}
use mathlib.Core.List.{List, [], ◌∷◌, ◌++◌}
use seplogic.Ra.Ura.{Ura}
use lib.Dec.{T}
use mir.Syntax.{Sym, Callee, Ty, ty_ptr, ty_struct, tnil, tcons, Fn, local, value_local, place, field, copy, rv_opd, aggregate, assign, seq, return}
use mir.Val.{Val, vstruct, of_list, has_ty, WT}
use base.Logic.{SProp, ent, emp}
use base.Fml.{Fml, ftrue, fsep, fex, feq}
use prog.Wp.{WpFn, Tables, Closed}
use sound.WpLaws.{WpFn-mono}
use types.Logic.{Logic, sem}
use types.Kit.{Item, ‵, raw, ◌⊛◌, ◌$◌, ◌∵◌, !, qed, by, move, drop, join, split, fsplit, fjoin, fpick, fpack, feq_l, feq_i, suffices, done}
use types.Part.{whole, sub, agg}
use types.Run.{stop, fld, no_more, and_then, of_opd, returns, enter}
use types.ByLocal.{alloc_all, pass_all, free_all, look_at, get, get_in, sets}
use contract.Monad.{fact}
use denote.Exit.{Kept, Last}
use denote.RattleType.{RattleType, Valss, flat, owns}
use denote.RawPtr.{Ptr, RawPtr, ptr_val, rawptr_Lawful}
use denote.Signature.{plain}
use denote.Steps.{nothing}
use denote.Triple.Clauses.{Ended, Clauses, closing}
use denote.Triple.Spec.{triple_of}
use denote.Triple.Statement.{Triple}
use denote.Triple.Table.{entered}
use denote.Triple.Walked.{says, Silent, Stays, stay_dropped, walk_of, ends_at, Goes-dropped, walk_Meets}
use Rattle.core.proofs.alloc.Calls.{α, handle_tells}
use Rattle.std_alloc.proofs.ResultValues.{and_tt}
use Rattle.std_heap.specs.contracts.Global as Heap
use Rattle.box_parts.proofs.Boxes.{both, heap}

-- what a struct of both owns, and this beside it
abbrev fields : List RattleType
fields = RawPtr ∷ Heap.the_row ∷ []

abbrev pub Owns : Ptr → Heap.the_row.Denot → Fml → List Val → Fml
Owns at alloc beside vs = fsep (fex (Valss fields) (λ vss. fsep (feq (List Val) vs (vstruct (of_list (flat fields vss)) ∷ [])) (owns fields (at, (alloc, tt)) vss))) beside

-- the function, between structs of these names
abbrev pair : Sym → Ty
pair name = ty_struct name (tcons ty_ptr (tcons (α heap) tnil))

abbrev pub moves : (from to : Sym) → Fn
moves from to = record {
  lifetimes = 0;
  outlives = [];
  ty_params = [];
  givens = 0;
  params = 1;
  locals = local (pair to) value_local ∷ local (pair from) value_local ∷ local ty_ptr value_local ∷ local (α heap) value_local ∷ [];
  body = seq (assign (place 2 []) (rv_opd (copy (place 1 (field 0 ∷ []))))) (seq (assign (place 3 []) (rv_opd (copy (place 1 (field 1 ∷ [])))))
      (seq (assign (place 0 []) (aggregate (copy (place 2 []) ∷ copy (place 3 []) ∷ []))) return));
}

module _ {M : Type 1} {𝓤 : Ura M} (𝓛 : Logic 𝓤) (𝓣 : Tables 𝓤 𝓛.H) where
  open 𝓛 use {H}

  walked : (from to : Sym) (at : Ptr) (alloc : Heap.the_row.Denot) (beside : Fml) (vs : List Val) (Post : Val → SProp 𝓤)
      → ((w : Val) → ent 𝓤 (sem 𝓛 (Owns at alloc beside (w ∷ []))) (Post w))
      → ent 𝓤 (types.Kit.⋆ 𝓛 ((‵ ftrue ⊛ ‵ (fsep (Owns at alloc beside vs) ftrue)) ∷ raw (emp 𝓤) ∷ [])) (WpFn 𝓤 H 𝓣.C 𝓣.Λ (moves from to) (vs ++ []) Post)
  walked from to at alloc beside vs Post ends =
      qed 𝓛 ((‵ ftrue ⊛ ‵ (fsep (Owns at alloc beside vs) ftrue)) ∷ raw (emp 𝓤) ∷ []) ∵ split ! $ drop ! $ fsplit ! $ fsplit ! $
      fpick ! (λ vss. fsplit ! $ feq_l ! (λ ev. fsplit ! $ feq_l ! (λ ep. fsplit ! $ handle_tells heap ! alloc vss.1.0 (λ hv ea fa.
      let w = vstruct (of_list (ptr_val at ∷ hv ∷ [])) in
      let typed = ((rawptr_Lawful 𝓛).typed at _ refl).0 in
      let fits : T (has_ty (pair from) w) × WT w = (both _ _ typed.0 (and_tt _ fa.0), (typed.1, (fa.1, tt))) in
      let is : vs ≡ w ∷ [] = subst (λ (ws : List Val). vs ≡ vstruct (of_list (ptr_val at ∷ (ws ++ []))) ∷ []) ea (subst (λ (ps : List Val). vs ≡ vstruct (of_list (ps ++ (vss.1.0 ++ []))) ∷ []) ep ev) in
      -- [the handle; true; what is beside; true; nothing]
      fjoin ! $ feq_i ! (List Val) (ptr_val at ∷ []) (ptr_val at ∷ []) refl $ fjoin ! $ feq_i ! (List Val) (w ∷ []) (w ∷ []) refl $ fjoin ! $
      fpack ! (Valss fields) (λ vss. fsep (feq (List Val) (w ∷ []) (vstruct (of_list (flat fields vss)) ∷ [])) (owns fields (at, (alloc, tt)) vss)) (ptr_val at ∷ [], (hv ∷ [], tt)) $ fjoin ! $
      move ! (1 ∷ 2 ∷ []) $ drop ! $ drop ! $
      let Γ : List (Item 𝓤) = ‵ (Owns at alloc beside (w ∷ [])) ∷ [] in
      by ! (subst (λ (us : List Val). ent 𝓤 (types.Kit.⋆ 𝓛 Γ) (WpFn 𝓤 H 𝓣.C 𝓣.Λ (moves from to) (us ++ []) Post)) (sym is)
      (qed 𝓛 Γ ∵ enter ! 𝓣.C 𝓣.Λ (moves from to) (w ∷ []) _ $ alloc_all ! (λ ls. pass_all ! refl (fits, tt) $
      sets ! (of_opd ! (get_in ! (fld ! refl (stop !)) (sub ! 0 refl (whole !)))) refl typed $ sets ! (of_opd ! (get_in ! (fld ! refl (stop !)) (sub ! 1 refl (whole !)))) refl fa $
      sets ! (agg ! (and_then ! (get ! refl) (and_then ! (get ! refl) (no_more !)))) refl fits $ returns ! (look_at ! 0 refl) $ free_all ! refl $ by ! (ends w))))))))

module _ (From To : RattleType) (k : Kept) (last : (d : From.Denot) → Last (From.exit k) d) (at : From.Denot → Ptr) (alloc : From.Denot → Heap.the_row.Denot) (beside : From.Denot → Fml)
    (turn : From.Denot → To.Denot) (Same : From.Denot → To.Denot → Type 0) (same : (d : From.Denot) → Same d (turn d))
    (from_owns : (d : From.Denot) (vs : List Val) → From.own_val d vs ≡ Owns (at d) (alloc d) (beside d) vs)
    (to_owns : (d : From.Denot) (vs : List Val) → To.own_val (turn d) vs ≡ Owns (at d) (alloc d) (beside d) vs) where
  abbrev ended : Ended
  ended = record { signature = record { lifetimes = 0; outlives = []; params = plain (λ _. From) ∷ []; result = plain (λ _. To) }; kept = (k, tt) }

  abbrev clauses : {M : Type 1} (𝓤 : Ura M) → Clauses 𝓤 ended
  clauses 𝓤 κs a = record { ghost = Unit {0}; requires = λ g. emp 𝓤; ensures = λ g r e. fact 𝓤 (Same a.0 r) }

  abbrev stayed : Stays ended.signature.params ended.kept
  stayed = (stay_dropped (plain (λ _. From)) k, tt)

  module _ {M : Type 1} {𝓤 : Ura M} (𝓛 : Logic 𝓤) (𝓣 : Tables 𝓤 𝓛.H) (silent : Silent 𝓛 0 (plain (λ _. From)) k) (from to : Sym) where
    open 𝓛 use {H}

    ends : (z : (walk_of 𝓛 ended stayed (clauses 𝓤)).Ghost) (w : Val) → ent 𝓤 (sem 𝓛 (To.own_val (turn z.0.3.0) (w ∷ []))) ((walk_of 𝓛 ended stayed (clauses 𝓤)).post z w)
    ends z w =
        let d = z.0.3.0 in
        qed 𝓛 (‵ (To.own_val (turn d) (w ∷ [])) ∷ []) ∵ suffices ! _ (ends_at 𝓛 ended stayed (clauses 𝓤) z w (turn d) (last d, tt) (tt, tt)) $ says ! (same d) $
        nothing ! $ nothing ! $ fjoin ! $ join ! $ nothing ! $ join ! $ done !

    walk : (z : (walk_of 𝓛 ended stayed (clauses 𝓤)).Ghost)
        → ent 𝓤 ((walk_of 𝓛 ended stayed (clauses 𝓤)).pre z) (WpFn 𝓤 H 𝓣.C 𝓣.Λ (moves from to) (z.0.4.0 ++ []) ((walk_of 𝓛 ended stayed (clauses 𝓤)).post z))
    walk z =
        let d = z.0.3.0 in let vs = z.0.4.0 in let Post = (walk_of 𝓛 ended stayed (clauses 𝓤)).post z in
        subst (λ (own : Fml). ent 𝓤 (types.Kit.⋆ 𝓛 ((‵ ftrue ⊛ ‵ (fsep own ftrue)) ∷ raw (emp 𝓤) ∷ [])) (WpFn 𝓤 H 𝓣.C 𝓣.Λ (moves from to) (vs ++ []) Post)) (sym (from_owns d vs))
        (walked 𝓛 𝓣 from to (at d) (alloc d) (beside d) vs Post (λ w. subst (λ (own : Fml). ent 𝓤 (sem 𝓛 own) (Post w)) (to_owns d (w ∷ [])) (ends z w)))

    pub moved : (name : Callee) → Closed 𝓤 H 𝓣.C 𝓣.Λ name (moves from to) → Triple 𝓤 (𝓣.C name) (triple_of 𝓛 ended.signature (closing 𝓛 ended (clauses 𝓤)))
    moved name closed =
        entered 𝓤 H (triple_of 𝓛 ended.signature (closing 𝓛 ended (clauses 𝓤))) 𝓣.C 𝓣.Λ name (moves from to) closed
        (walk_Meets 𝓛 ended stayed (Goes-dropped 𝓛 0 (plain (λ _. From)) k silent, tt) (clauses 𝓤) (WpFn 𝓤 H 𝓣.C 𝓣.Λ (moves from to)) (WpFn-mono 𝓤 H 𝓛.laws 𝓣 (moves from to)) walk)
