-- An empty handle owns nothing.
use Rattle.std.proofs.Common.{◌≡◌, [], ◌∷◌, refl, lit<}
use Rattle.std.specs.Prelude.{Option, None}
use mir.Val.{Val}
use base.Logic.{SProp, emp}
use contract.Monad.{fact, fact_i}
use contract.Running.{tables}
use types.Kit.{‵, raw, ◌$◌, ◌∵◌, !, qed, by, drop, use0}
use types.Run.{and_then, no_more, returns, enter, lit}
use types.ByLocal.{alloc_all, pass_all, free_all, look_at, sets}
use types.Part.{agg}
use base.Logic.{id⊢}
use denote.RawPtr.{null_ptr}
use denote.Steps.{nothing}
use denote.Triple.Walked.{Stays, walk_of}
use Rattle.std.proofs.raw_atomic.Walks.{proved_at, leaves}
use Rattle.nagsched_handles.specs.declared.target.HandleTarget.{HandleTarget}
use Rattle.nagsched_handles.specs.Ownership.{owned_at}
use Rattle.nagsched_handles.specs.contracts.target.HandleTarget.{the_row as target_row}
use Rattle.nagsched_handles.proofs.Raws.{address, raw_in}
use Rattle.nagsched_handles.specs.contracts.raw.Raw.none as f
use Rattle.nagsched_handles.specs.contracts.raw.Raw.none.Key.{name as #self}
use Rattle.nagsched_handles.proofs.raw.Raw.none.Statement.{statement}
use Rattle.nagsched_handles.proofs.raw.Raw.none.Code as code

pub none_spec : {M : Type 1} → statement M
none_spec 𝓤 𝓛 𝓜 𝓡 wired =
    let H = 𝓛.H in let 𝓣 = tables 𝓤 H 𝓜 𝓡 𝓡.env in let c = f.clauses 𝓛 𝓜.mem 𝓡.returns in
    let hs : Stays f.ended.signature.params f.ended.kept = tt in
    proved_at 𝓛 f.ended hs c 𝓜 𝓡 tt #self code.function (code.unfolded 𝓤 H 𝓜 𝓡 wired) (λ z are.
    let empty : Option HandleTarget = None in let Post : Val → SProp 𝓤 = (walk_of 𝓛 f.ended hs c).post z in
    qed 𝓛 (raw ((walk_of 𝓛 f.ended hs c).pre z) ∷ []) ∵ drop ! $
    enter ! 𝓣.C 𝓣.Λ code.function [] Post $ alloc_all ! (λ l. pass_all ! refl tt $
    sets ! (agg ! (and_then ! (lit ! tt) (no_more !))) refl (tt, (record { fits = lit< tt }, tt)) $
    returns ! (look_at ! 0 refl) $ free_all ! refl $
    use0 𝓛 (raw (fact 𝓤 (empty ≡ empty))) (fact_i 𝓤 (empty ≡ empty) (emp 𝓤) refl) $
    use0 𝓛 (‵ (owned_at target_row null_ptr None)) (id⊢ 𝓤 _) $ raw_in ! null_ptr None $ nothing ! $ nothing ! $
    by ! (leaves 𝓛 f.ended hs c z (address null_ptr) (record { at = null_ptr; value = None }) tt tt)))
