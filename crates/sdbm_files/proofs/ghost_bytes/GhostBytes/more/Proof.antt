-- `more` makes a value without bytes; its ghost field is the previous one followed by the slice.
use Rattle.std.proofs.Common.{[], ◌∷◌, ◌++◌, refl}
use mir.Val.{Val, vstruct, vnil}
use base.Fml.{Fml}
use base.Logic.{emp}
use types.Kit.{‵, raw, ◌⊛◌, ◌$◌, ◌∵◌, !, qed, split, keep, use0, join, move, suffices, done}
use types.Run.{no_more, enter, returns}
use types.Part.{agg}
use types.ByLocal.{alloc_all, pass_all, free_all, look_at, sets}
use denote.Builtin.{RefOf, SliceRefOf, u8}
use denote.Exit.{yes}
use denote.RattleType.{owns}
use denote.Ref.{shr_vals, shr_Tells}
use denote.Slice.{shr_slice_vals, shr_slice_Tells, shr_slice_Lawful}
use denote.Shadow.{makes_shadow}
use denote.Signature.{type_at, types_at, plain}
use denote.Steps.{nothing}
use mir.Syntax.{named}
use denote.Triple.Entry.{Res, alive}
use denote.Triple.Walked.{says, Stays, stay_dropped, walk_of, Goes-dropped, ends_at}
use Rattle.std.proofs.raw_atomic.Walks.{proved}
use Rattle.sdbm_files.specs.contracts.ghost_bytes.GhostBytes.{the_row}
use Rattle.sdbm_files.specs.contracts.ghost_bytes.GhostBytes.more as f
use Rattle.sdbm_files.proofs.ghost_bytes.GhostBytes.more.Statement.{statement}
use Rattle.sdbm_files.proofs.ghost_bytes.GhostBytes.more.Code as code

abbrev stayed : Stays f.ended.signature.params f.ended.kept
stayed = (stay_dropped _ yes, (stay_dropped _ yes, tt))

pub more_spec : {M : Type 1} → statement M
more_spec 𝓤 𝓛 𝓜 𝓡 wired =
    let c = f.clauses 𝓛 𝓜.mem 𝓡.returns in let W = walk_of 𝓛 f.ended stayed c in
    proved 𝓛 f.ended stayed c 𝓜 𝓡
    (Goes-dropped 𝓛 2 (RefOf (0 ∷ []) tt (plain (λ _. the_row)) (λ _. tt)) yes (λ κs x w. refl), (Goes-dropped 𝓛 2 (SliceRefOf (1 ∷ []) tt (plain (λ _. u8)) (λ _. tt)) yes (λ κs x w. refl), tt))
    f.Key.name code.function (code.unfolded 𝓤 𝓛.H 𝓜 𝓡 wired)
    (λ κs. (shr_vals, (shr_slice_vals, tt))) (λ κs. (shr_Tells (named 0) κs.0 the_row, (shr_slice_Tells (named 1) κs.1.0 u8, tt))) (λ κs qs bounds a _ are.
    let y : W.Ghost = ((κs, qs, bounds, a, (shr_vals a.0, (shr_slice_vals a.1.0, tt))), tt) in
    let v : Val = vstruct vnil in let r : Res f.signature κs = record { bytes = a.0.now.bytes ++ a.1.0.now } in
    let O : Fml = (type_at f.signature.result κs).own_val r (v ∷ []) in
    qed 𝓛 ((raw (alive 𝓛 f.signature κs qs) ⊛ ‵ (owns (types_at f.signature.params κs) a y.0.4)) ∷ raw (emp 𝓤) ∷ []) ∵ split ! $ keep ! (0 ∷ []) $
    enter ! _ _ _ _ _ $ alloc_all ! (λ l. pass_all ! refl ((tt, tt), (shr_slice_Lawful 𝓛 (named 1) κs.1.0 u8).typed a.1.0 _ are.1.0) $
    sets ! (agg ! (no_more !)) refl (tt, tt) $
    returns ! (look_at ! 0 refl) $ free_all ! refl $
    use0 𝓛 (‵ O) (makes_shadow 𝓛 O ((λ vss. (tt, tt)), tt) ((tt, (refl, tt)), tt)) $
    suffices ! _ (ends_at 𝓛 f.ended stayed c y v r (tt, (tt, tt)) (tt, (tt, tt))) $ says ! refl $
    nothing ! $ nothing ! $ join ! $ nothing ! $ join ! $ move ! (2 ∷ []) $ done !))
