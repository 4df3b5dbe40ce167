-- `with_save` makes a value of no bytes, whose ghost field is that of `self` followed by a save.
use Rattle.std.proofs.Common.{[], ◌∷◌, ◌++◌, refl}
use mir.Val.{Val, vstruct, vnil}
use base.Fml.{Fml}
use base.Logic.{emp}
use types.Kit.{‵, raw, ◌⊛◌, ◌$◌, ◌∵◌, !, qed, split, keep, use0, join, move, suffices, done}
use types.Run.{no_more, enter, returns}
use types.Part.{agg}
use types.ByLocal.{alloc_all, pass_all, free_all, look_at, sets}
use denote.Builtin.{RefOf}
use denote.Exit.{yes}
use denote.RattleType.{owns}
use denote.Ref.{shr_vals, shr_Tells}
use denote.Shadow.{makes_shadow}
use denote.Signature.{type_at, types_at, plain}
use denote.Steps.{nothing}
use mir.Syntax.{named}
use denote.Triple.Entry.{Res, alive}
use denote.Triple.Walked.{says, Stays, stay_dropped, walk_of, Goes-dropped, ends_at}
use Rattle.std.proofs.raw_atomic.Walks.{proved}
use Rattle.dbm_files.specs.contracts.receipt.Receipt as receipt
use Rattle.dbm_session.specs.HostCalls.{DidSave}
use Rattle.dbm_shell.specs.contracts.host_log.HostLog.{the_row}
use Rattle.dbm_shell.specs.contracts.host_log.HostLog.with_save as f
use Rattle.dbm_shell.proofs.host_log.HostLog.with_save.Statement.{statement}
use Rattle.dbm_shell.proofs.host_log.HostLog.with_save.Code as code

abbrev stayed : Stays f.ended.signature.params f.ended.kept
stayed = (stay_dropped _ yes, (stay_dropped _ yes, tt))

pub with_save_spec : {M : Type 1} → statement M
with_save_spec 𝓤 𝓛 𝓜 𝓡 wired =
    let c = f.clauses 𝓛 𝓜.mem 𝓡.returns in let W = walk_of 𝓛 f.ended stayed c in
    proved 𝓛 f.ended stayed c 𝓜 𝓡
    (Goes-dropped 𝓛 2 (RefOf (0 ∷ []) tt (plain (λ _. the_row)) (λ _. tt)) yes (λ κs x w. refl), (Goes-dropped 𝓛 2 (RefOf (1 ∷ []) tt (plain (λ _. receipt.the_row)) (λ _. tt)) yes (λ κs x w. refl), tt))
    f.Key.name code.function (code.unfolded 𝓤 𝓛.H 𝓜 𝓡 wired)
    (λ κs. (shr_vals, (shr_vals, tt))) (λ κs. (shr_Tells (named 0) κs.0 the_row, (shr_Tells (named 1) κs.1.0 receipt.the_row, tt))) (λ κs qs bounds a _ are.
    let y : W.Ghost = ((κs, qs, bounds, a, (shr_vals a.0, (shr_vals a.1.0, tt))), tt) in
    let v : Val = vstruct vnil in let r : Res f.signature κs = record { calls = a.0.now.calls ++ DidSave a.1.0.now ∷ [] } in
    let O : Fml = (type_at f.signature.result κs).own_val r (v ∷ []) in
    qed 𝓛 ((raw (alive 𝓛 f.signature κs qs) ⊛ ‵ (owns (types_at f.signature.params κs) a y.0.4)) ∷ raw (emp 𝓤) ∷ []) ∵ split ! $ keep ! (0 ∷ []) $
    enter ! _ _ _ _ _ $ alloc_all ! (λ l. pass_all ! refl ((tt, tt), ((tt, tt), tt)) $
    sets ! (agg ! (no_more !)) refl (tt, tt) $
    returns ! (look_at ! 0 refl) $ free_all ! refl $
    use0 𝓛 (‵ O) (makes_shadow 𝓛 O ((λ vss. (tt, tt)), tt) ((tt, (refl, tt)), tt)) $
    suffices ! _ (ends_at 𝓛 f.ended stayed c y v r (tt, (tt, tt)) (tt, (tt, tt))) $ says ! refl $
    nothing ! $ nothing ! $ join ! $ nothing ! $ join ! $ move ! (2 ∷ []) $ done !))
