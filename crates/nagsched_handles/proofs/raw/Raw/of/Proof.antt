-- An address owns what the parts of the box owned.
use Rattle.std.proofs.Common.{◌≡◌, [], ◌∷◌, ◌++◌, refl}
use Rattle.std.specs.Prelude.{Option, Some}
use mir.Val.{Val}
use base.Logic.{emp, id⊢}
use base.Fml.{ftrue}
use contract.Monad.{fact, fact_i}
use types.Kit.{‵, raw, ◌⊛◌, ◌$◌, ◌∵◌, !, qed, by, move, keep, drop, split, fsplit, fjoin, use0, use1}
use types.Run.{stop, fld, of_opd, and_then, no_more, returns}
use types.ByLocal.{alloc_all, pass_all, free_all, look_at, get, get_in, sets}
use types.Part.{agg, sub, whole}
use denote.Exit.{yes}
use denote.RattleType.{owns}
use denote.Signature.{types_at, plain}
use denote.RawPtr.{block_ptr}
use denote.Steps.{nothing}
use denote.Triple.Walked.{Stays, stay_dropped}
use Rattle.core.proofs.alloc.Calls.{Goes-blank}
use Rattle.std.proofs.raw_atomic.Walks.{proved_at, leaves}
use Rattle.nagsched_handles.proofs.Walks.{enters}
use Rattle.nagsched_handles.specs.declared.target.HandleTarget.{HandleTarget}
use Rattle.nagsched_handles.specs.Ownership.{owned_at}
use Rattle.nagsched_handles.specs.contracts.target.HandleTarget.{the_row as target_row}
use Rattle.nagsched_handles.proofs.Raws.{Apart, address, with_alloc, is_typed, apart_out, raw_in}
use Rattle.nagsched_handles.specs.contracts.raw.Raw.of as f
use Rattle.nagsched_handles.specs.contracts.raw.Raw.of.Key.{name as #self}
use Rattle.nagsched_handles.proofs.raw.Raw.of.Statement.{statement}
use Rattle.nagsched_handles.proofs.raw.Raw.of.Code as code

pub of_spec : {M : Type 1} → statement M
of_spec 𝓤 𝓛 𝓜 𝓡 wired =
    let c = f.clauses 𝓛 𝓜.mem 𝓡.returns in
    let hs : Stays f.ended.signature.params f.ended.kept = (stay_dropped (plain (λ _. Apart)) yes, tt) in
    proved_at 𝓛 f.ended hs c 𝓜 𝓡 (Goes-blank 𝓛 0 (plain (λ _. Apart)) yes (λ κs x l. tt), tt) #self code.function (code.unfolded 𝓤 𝓛.H 𝓜 𝓡 wired) (λ z are.
    let v = z.0.3.0 in
    let new : Option HandleTarget = Some v.value in
    qed 𝓛 ((‵ ftrue ⊛ ‵ (owns (types_at f.ended.signature.params z.0.0) z.0.3 z.0.4)) ∷ raw ((c z.0.0 z.0.3).requires z.1) ∷ []) ∵ split ! $ drop ! $ fsplit ! $
    apart_out ! v z.0.4.0 (λ b o h ws fits. keep ! (0 ∷ []) $
    let w : Val = with_alloc b o h in
    enters 𝓛 𝓜 𝓡 f.ended hs c code.function z ! (w ∷ []) (λ i. ws i ++ []) $ alloc_all ! (λ l. pass_all ! refl (is_typed b o h fits, tt) $
    sets ! (of_opd ! (get_in ! (fld ! refl (stop !)) (sub ! 0 refl (whole !)))) refl (tt, tt) $ sets ! (of_opd ! (get ! refl)) refl (tt, tt) $
    sets ! (agg ! (and_then ! (get ! refl) (no_more !))) refl (tt, (tt, tt)) $
    returns ! (look_at ! 0 refl) $ free_all ! refl $
    use1 𝓛 (‵ (owned_at target_row (block_ptr b o) new)) (id⊢ 𝓤 _) $ raw_in ! (block_ptr b o) new $
    use0 𝓛 (raw (fact 𝓤 (new ≡ new))) (fact_i 𝓤 (new ≡ new) (emp 𝓤) refl) $ nothing ! $ nothing ! $ fjoin ! $ nothing ! $ move ! (0 ∷ 1 ∷ 3 ∷ 2 ∷ []) $
    by ! (leaves 𝓛 f.ended hs c z (address (block_ptr b o)) (record { at = block_ptr b o; value = new }) (tt, tt) (tt, tt)))))
