-- `into_loose` tests the pointer: null gives nothing, otherwise the box comes out.
use mathlib.Core.Path.{refl, sym, subst, ap, ◌∙◌}
use mathlib.Core.List.{List, [], ◌∷◌, ◌++◌}
use lib.Dec.{lit<}
use seplogic.Ra.Ura.{Ura}
use mir.Val.{Val, vptr, vcons, vnil}
use base.Logic.{SProp, ent, emp}
use base.Fml.{ftrue, fsep}
use prog.Memory.{Memory}
use prog.Routine.{Routine}
use prog.Wp.{WpFn, Tables}
use types.Logic.{Logic}
use contract.Monad.{Fun}
use contract.Running.{tables, tables_of}
use sound.WpLaws.{WpFn-mono}
use types.Kit.{Item, at_ret, ‵, raw, ◌⊛◌, ◌$◌, ◌∵◌, !, qed, by, move, drop, use0, use1, join, split, fsplit, fjoin, feq_i, suffices, done}
use types.Part.{whole, sub, agg}
use types.Run.{stop, fld, lit, bin, no_more, and_then, of_opd, first, branches, exec, returns, enter}
use types.ByLocal.{alloc_all, pass_all, free_all, look_at, get, get_in, sets, sets_last, env}
use types.Match.{live}
use denote.Exit.{yes}
use denote.RawPtr.{Ptr, block_ptr, null_ptr, ptr_val, tests_null}
use denote.Signature.{plain, type_at}
use denote.Steps.{nothing}
use denote.Triple.Spec.{triple_of}
use denote.Triple.Table.{entered}
use denote.Triple.Walked.{says, Stays, stay_dropped, walk_of, ends_at, Goes-dropped, walk_Meets}
use Rattle.std.proofs.alloc.Shapes.{after}
use Rattle.std.proofs.option.Made.{Some-of, none_of}
use Rattle.std.proofs.cell.Inside.{Good}
use Rattle.std.proofs.ResultValues.{and_tt}
use denote.Param.{layout}
use Rattle.std.specs.declared.option.Option.TheVariants.{None, Some}
use denote.RattleType.{RattleType}
use mir.Syntax.{Fn}
use Rattle.std.proofs.alloc.Global.TheLaws as heap_laws
use Rattle.std.specs.contracts.impls.GlobalAllocator.TheImpl.{ghosts}
use Rattle.boddurci_handles.specs.contracts.job.Job as store
use Rattle.boddurci_handles.proofs.Values.{both, Loose, loose_good, loose_in}
use Rattle.boddurci_handles.proofs.Tickets.{H', Z, shut_good, ticket_out, either}
use Rattle.boddurci_handles.specs.contracts.ticket.Ticket.into_loose as F
use Rattle.boddurci_handles.specs.contracts.ticket.Ticket.into_loose.Key.{name as #self}
use Rattle.boddurci_handles.proofs.ticket.Ticket.into_loose.Statement as stated
use Rattle.boddurci_handles.proofs.ticket.Ticket.into_loose.Code as code

abbrev To : RattleType
To = Loose store.the_row Z heap_laws.the_row_laws ghosts

abbrev stayed : Stays (F.ended).signature.params (F.ended).kept
stayed = (stay_dropped (plain (λ _. H')) yes, tt)

abbrev fn : Fn
fn = code.function

module _ {M : Type 1} {𝓤 : Ura M} (𝓛 : Logic 𝓤) (at_mem : Memory → SProp 𝓤) (run : Routine → Fun 𝓤) (𝓣 : Tables 𝓤 𝓛.H) where
  open 𝓛 use {H}

  walk : (z : (walk_of 𝓛 F.ended stayed (F.clauses 𝓛 at_mem run)).Ghost)
      → ent 𝓤 ((walk_of 𝓛 F.ended stayed (F.clauses 𝓛 at_mem run)).pre z) (WpFn 𝓤 H 𝓣.C 𝓣.Λ fn (z.0.4.0 ++ []) ((walk_of 𝓛 F.ended stayed (F.clauses 𝓛 at_mem run)).post z))
  walk z =
      let Post = (walk_of 𝓛 F.ended stayed (F.clauses 𝓛 at_mem run)).post z in let v = z.0.3.0 in let a = v.alloc in let Out = type_at (F.signature).result tt in
      qed 𝓛 ((‵ ftrue ⊛ ‵ (fsep (H'.own_val v z.0.4.0) ftrue)) ∷ raw (emp 𝓤) ∷ []) ∵ split ! $ drop ! $ fsplit ! $
      ticket_out ! v z.0.4.0 (λ h ws fits. either ! a v.at v.asked
      (λ is none. let w : Val = both (ptr_val null_ptr) h in
      drop ! $ drop ! $ drop ! $
      by ! (subst (λ (us : List Val). ent 𝓤 (types.Kit.⋆ 𝓛 []) (WpFn 𝓤 H 𝓣.C 𝓣.Λ fn (us ++ []) Post)) (sym (ws ∙ ap (λ (p : Ptr). both (ptr_val p) h ∷ []) is))
      (qed 𝓛 [] ∵ enter ! 𝓣.C 𝓣.Λ fn (w ∷ []) _ $ alloc_all ! (λ ls. let Ev = env fn.locals ls in pass_all ! refl (shut_good h fits, tt) $
      sets ! (of_opd ! (get_in ! (fld ! refl (stop !)) (sub ! 0 refl (whole !)))) refl (tt, record { fits = lit< tt }) $ sets ! (of_opd ! (get_in ! (fld ! refl (stop !)) (sub ! 1 refl (whole !)))) refl fits $
      sets ! (bin ! (get ! refl) (lit ! tt) tt) refl (tt, tt) $ first ! $ branches ! (get ! refl)
      (λ _. sets_last ! (agg ! (and_then ! (lit ! tt) (no_more !))) refl (tt, (record { fits = lit< tt }, tt)) $ exec ! 𝓣.C 𝓣.Λ Ev (after 4 fn.body) (at_ret Ev Post) $
      sets ! (of_opd ! (get ! refl)) refl (tt, (record { fits = lit< tt }, tt)) $ use0 𝓛 (‵ (Out.own_val None (live 0 vnil ∷ []))) (none_of 𝓛 To) $
      returns ! (look_at ! 0 refl) $ free_all ! refl $ suffices ! _ (ends_at 𝓛 F.ended stayed (F.clauses 𝓛 at_mem run) z (live 0 vnil) None (tt, tt) (tt, tt)) $ says ! (sym none) $
      nothing ! $ nothing ! $ fjoin ! $ join ! $ nothing ! $ join ! $ done !) (λ wrong. absurd wrong)))))
      (λ b o x is some t. let w : Val = both (vptr b o) h in let typed = loose_good store.the_row Z heap_laws.the_row_laws ghosts b o h fits in let d : To.Denot = record { at = block_ptr b o; alloc = a; value = x } in
      let Γ : List (Item 𝓤) = ‵ (To.own_val d (w ∷ [])) ∷ [] in
      loose_in store.the_row Z heap_laws.the_row_laws ghosts ! b o h a x $ move ! (1 ∷ 2 ∷ []) $ drop ! $ drop ! $
      by ! (subst (λ (us : List Val). ent 𝓤 (types.Kit.⋆ 𝓛 Γ) (WpFn 𝓤 H 𝓣.C 𝓣.Λ fn (us ++ []) Post)) (sym (ws ∙ ap (λ (p : Ptr). both (ptr_val p) h ∷ []) is))
      (qed 𝓛 Γ ∵ enter ! 𝓣.C 𝓣.Λ fn (w ∷ []) _ $ alloc_all ! (λ ls. let Ev = env fn.locals ls in pass_all ! refl (typed, tt) $
      sets ! (of_opd ! (get_in ! (fld ! refl (stop !)) (sub ! 0 refl (whole !)))) refl (tt, tt) $ sets ! (of_opd ! (get_in ! (fld ! refl (stop !)) (sub ! 1 refl (whole !)))) refl fits $
      sets ! (bin ! (get ! refl) (lit ! tt) (tests_null (block_ptr b o) t)) refl (tt, tt) $ first ! $ branches ! (get ! refl) (λ wrong. absurd wrong) (λ _.
      sets ! (of_opd ! (get ! refl)) refl (tt, tt) $
      sets ! (agg ! (and_then ! (get ! refl) (and_then ! (get ! refl) (no_more !)))) refl typed $
      let v₁ : Val = live 1 (vcons w vnil) in let good : Good (layout Out) v₁ = (and_tt _ typed.0, (record { fits = lit< tt }, (typed.1, tt))) in
      sets_last ! (agg ! (and_then ! (lit ! tt) (and_then ! (get ! refl) (no_more !)))) refl good $ exec ! 𝓣.C 𝓣.Λ Ev (after 4 fn.body) (at_ret Ev Post) $ sets ! (of_opd ! (get ! refl)) refl good $
      use1 𝓛 (‵ (Out.own_val (Some d) (v₁ ∷ []))) (Some-of 𝓛 To d w) $
      returns ! (look_at ! 0 refl) $ free_all ! refl $ suffices ! _ (ends_at 𝓛 F.ended stayed (F.clauses 𝓛 at_mem run) z v₁ (Some d) (tt, tt) (tt, tt)) $ says ! (sym some) $
      nothing ! $ nothing ! $ fjoin ! $ join ! $ nothing ! $ join ! $ done !))))))

pub into_loose_spec : {M : Type 1} → stated.statement M
unfolding tables_of
into_loose_spec 𝓤 𝓛 𝓜 𝓡 wired =
    let 𝓣 : Tables 𝓤 𝓛.H = tables_of 𝓤 𝓛.H 𝓜 (tables 𝓤 𝓛.H 𝓜 𝓡 𝓡.env) in
    entered 𝓤 𝓛.H (triple_of 𝓛 F.signature (F.spec 𝓛 𝓜.mem 𝓡.returns)) 𝓣.C 𝓣.Λ #self fn (code.unfolded 𝓤 𝓛.H 𝓜 𝓡 wired)
    (walk_Meets 𝓛 F.ended stayed (Goes-dropped 𝓛 0 (plain (λ _. H')) yes (λ κs x f. refl), tt) (F.clauses 𝓛 𝓜.mem 𝓡.returns) (WpFn 𝓤 𝓛.H 𝓣.C 𝓣.Λ fn) (WpFn-mono 𝓤 𝓛.H 𝓛.laws 𝓣 fn)
    (walk 𝓛 𝓜.mem 𝓡.returns 𝓣))
