-- `none` makes a value without bytes; its ghost field is empty.
use Rattle.std.proofs.Common.{[], ◌∷◌, refl}
use mir.Val.{Val, vstruct, vnil}
use base.Fml.{Fml}
use base.Logic.{emp}
use types.Kit.{‵, raw, ◌$◌, ◌∵◌, !, qed, drop, use0, suffices, done}
use types.Run.{no_more, enter, returns}
use types.Part.{agg}
use types.ByLocal.{alloc_all, pass_all, free_all, look_at, sets}
use denote.Shadow.{makes_shadow}
use denote.Signature.{type_at}
use denote.Steps.{nothing}
use denote.Triple.Entry.{Res, on_entry}
use denote.Triple.Walked.{says, Stays, walk_of, ends_at}
use Rattle.std.proofs.raw_atomic.Walks.{proved}
use Rattle.sdbm_files.specs.contracts.ghost_bytes.GhostBytes.none as f
use Rattle.sdbm_files.proofs.ghost_bytes.GhostBytes.none.Statement.{statement}
use Rattle.sdbm_files.proofs.ghost_bytes.GhostBytes.none.Code as code

abbrev stayed : Stays f.ended.signature.params f.ended.kept
stayed = tt

pub none_spec : {M : Type 1} → statement M
none_spec 𝓤 𝓛 𝓜 𝓡 wired =
    let c = f.clauses 𝓛 𝓜.mem 𝓡.returns in let W = walk_of 𝓛 f.ended stayed c in
    proved 𝓛 f.ended stayed c 𝓜 𝓡 tt
    f.Key.name code.function (code.unfolded 𝓤 𝓛.H 𝓜 𝓡 wired)
    (λ κs. tt) (λ κs. tt) (λ κs qs bounds a _ are.
    let y : W.Ghost = ((κs, qs, bounds, a, tt), tt) in
    let v : Val = vstruct vnil in let r : Res f.signature κs = record { bytes = [] } in
    let O : Fml = (type_at f.signature.result κs).own_val r (v ∷ []) in
    qed 𝓛 (raw (on_entry 𝓛 f.signature κs qs a y.0.4) ∷ raw (emp 𝓤) ∷ []) ∵ drop ! $ drop ! $
    enter ! _ _ _ _ _ $ alloc_all ! (λ l. pass_all ! refl tt $
    sets ! (agg ! (no_more !)) refl (tt, tt) $
    returns ! (look_at ! 0 refl) $ free_all ! refl $
    use0 𝓛 (‵ O) (makes_shadow 𝓛 O ((λ vss. (tt, tt)), tt) ((tt, (refl, tt)), tt)) $
    suffices ! _ (ends_at 𝓛 f.ended stayed c y v r tt tt) $ says ! refl $
    nothing ! $ nothing ! $ done !))
