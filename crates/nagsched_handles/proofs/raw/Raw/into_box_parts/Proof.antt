-- What an address owns goes to the parts of the box.
use Rattle.std.proofs.Common.{◌≡◌, [], ◌∷◌, ◌++◌, refl, ap, ◌∙◌}
use Rattle.std.specs.Prelude.{Option, Some}
use mir.Raw.{raw as bare}
use mir.Val.{Val}
use base.Logic.{emp, never, fst∗}
use base.Fml.{ftrue}
use contract.Monad.{fact, fact_i}
use types.Logic.{sem}
use types.Kit.{‵, raw, ◌⊛◌, ◌$◌, ◌∵◌, !, qed, by, move, keep, drop, split, fsplit, fjoin, rewrite, use0}
use types.Run.{stop, fld, of_opd, and_then, no_more, returns}
use types.ByLocal.{alloc_all, pass_all, free_all, look_at, get, get_in, sets}
use types.Part.{agg, sub, whole}
use denote.Exit.{yes}
use denote.Memory.{lone}
use denote.RattleType.{owns}
use denote.Signature.{types_at, plain}
use denote.RawPtr.{Ptr, block_ptr, null_ptr, in_a_block}
use denote.Steps.{nothing, heard}
use denote.Triple.Walked.{Stays, stay_dropped}
use Rattle.core.proofs.alloc.Calls.{Goes-blank, handle_tells}
use Rattle.std.proofs.raw_atomic.Walks.{proved_at, leaves}
use Rattle.std.specs.Box.Ownership.{box_owns}
use Rattle.std.specs.contracts.alloc.Global.{the_row as global_row}
use Rattle.std.specs.contracts.impls.GlobalAllocator.TheImpl.{ghosts}
use Rattle.nagsched_handles.proofs.Walks.{enters}
use Rattle.nagsched_handles.specs.declared.target.HandleTarget.{HandleTarget}
use Rattle.nagsched_handles.specs.Ownership.{heap, owned_at}
use Rattle.nagsched_handles.specs.contracts.target.HandleTarget.{the_row as target_row}
use Rattle.nagsched_handles.proofs.Raws.{Raw, address, with_alloc, the_heap, is_typed, apart_in, raw_out}
use Rattle.nagsched_handles.specs.contracts.raw.Raw.into_box_parts as f
use Rattle.nagsched_handles.specs.contracts.raw.Raw.into_box_parts.Key.{name as #self}
use Rattle.nagsched_handles.proofs.raw.Raw.into_box_parts.Statement.{statement}
use Rattle.nagsched_handles.proofs.raw.Raw.into_box_parts.Code as code

pub into_box_parts_spec : {M : Type 1} → statement M
into_box_parts_spec 𝓤 𝓛 𝓜 𝓡 wired =
    let c = f.clauses 𝓛 𝓜.mem 𝓡.returns in
    let hs : Stays f.ended.signature.params f.ended.kept = (stay_dropped (plain (λ _. Raw)) yes, (stay_dropped (plain (λ _. global_row)) yes, tt)) in
    proved_at 𝓛 f.ended hs c 𝓜 𝓡 (Goes-blank 𝓛 0 (plain (λ _. Raw)) yes (λ κs x l. tt), (Goes-blank 𝓛 0 (plain (λ _. global_row)) yes (λ κs x l. tt), tt)) #self code.function (code.unfolded 𝓤 𝓛.H 𝓜 𝓡 wired) (λ z are.
    let v = z.0.3.0 in let a = z.0.3.1.0 in
    let Full : Type 0 = (x : HandleTarget) × (v.value ≡ Some x) in
    qed 𝓛 ((‵ ftrue ⊛ ‵ (owns (types_at f.ended.signature.params z.0.0) z.0.3 z.0.4)) ∷ raw (fact 𝓤 Full) ∷ []) ∵ move ! (1 ∷ []) $ heard ! Full (λ full. let x : HandleTarget = full.0 in
    split ! $ drop ! $ fsplit ! $ raw_out ! v z.0.4.0 (λ ws. rewrite ! 0 (λ (y : Option HandleTarget). ‵ (owned_at target_row v.at y)) full.1 refl $
    in_a_block ! v.at (λ p. box_owns (ghosts.dealloc_token heap) target_row p x) (fst∗ 𝓤 (never 𝓤) (sem 𝓛 (ghosts.dealloc_token heap (bare (lone target_row.mir)) null_ptr))) (λ b o e.
    move ! (1 ∷ []) $ fsplit ! $ handle_tells the_heap ! a z.0.4.1.0 (λ h eh fits. move ! (2 ∷ 0 ∷ []) $
    -- [the box; the allocator; nothing]
    let w : Val = address (block_ptr b o) in let both_are : z.0.4.0 ++ (z.0.4.1.0 ++ []) ≡ w ∷ h ∷ [] = λ i. (ws ∙ ap (λ (p : Ptr). address p ∷ []) e) i ++ (eh i ++ []) in
    let new = is_typed b o h fits in
    enters 𝓛 𝓜 𝓡 f.ended hs c code.function z ! (w ∷ h ∷ []) both_are $ alloc_all ! (λ l. pass_all ! refl ((tt, (tt, tt)), (fits, tt)) $
    sets ! (of_opd ! (get_in ! (fld ! refl (stop !)) (sub ! 0 refl (whole !)))) refl (tt, tt) $ sets ! (of_opd ! (get ! refl)) refl (tt, tt) $
    sets ! (agg ! (and_then ! (get ! refl) (and_then ! (get ! refl) (no_more !)))) refl new $
    apart_in ! b o h a x $
    returns ! (look_at ! 0 refl) $ free_all ! refl $ keep ! (0 ∷ []) $
    use0 𝓛 (raw (fact 𝓤 (v.value ≡ Some x))) (fact_i 𝓤 (v.value ≡ Some x) (emp 𝓤) full.1) $
    nothing ! $ nothing ! $ fjoin ! $ nothing ! $ fjoin ! $ nothing ! $ move ! (0 ∷ 1 ∷ 3 ∷ 2 ∷ []) $
    by ! (leaves 𝓛 f.ended hs c z (with_alloc b o h) (record { at = block_ptr b o; alloc = a; value = x }) (tt, (tt, tt)) (tt, (tt, tt)))))))))
