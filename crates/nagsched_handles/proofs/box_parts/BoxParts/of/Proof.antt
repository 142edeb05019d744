-- A box is taken apart by `into_raw_with_allocator`; the parts own what it owned.
use Rattle.std.proofs.Common.{◌≡◌, [], ◌∷◌, ◌++◌, refl, ap, ◌∙◌}
use mir.Raw.{raw as bare}
use mir.Val.{vstruct, of_list}
use mir.MapTy.{inst_fn}
use base.Logic.{emp, never, id⊢, fst∗}
use types.Logic.{sem}
use types.Kit.{‵, raw, ◌⊛◌, ◌$◌, ◌∵◌, !, qed, by, move, keep, drop, split, split3, join, fsplit, fjoin, fpick, pick, use0, use1, await, rewrite, feq_l}
use types.Run.{stop, fld, of_opd, no_more, and_then, returns}
use types.ByLocal.{alloc_all, pass_all, free_all, look_at, get, get_in, sets, lands_as}
use types.Part.{agg, sub, whole}
use contract.Monad.{fact, fact_i}
use denote.Exit.{no}
use denote.RattleType.{owns}
use denote.Signature.{types_at, plain}
use denote.RawPtr.{Ptr, block_ptr, null_ptr, ptr_val, in_a_block}
use denote.Steps.{nothing, only, heard}
use denote.Triple.Call.{calls_at}
use denote.Triple.Walked.{Stays}
use Rattle.core.proofs.alloc.Calls.{token, Goes-blank, handle_tells}
use Rattle.core.proofs.atomic.Steps.{fm}
use Rattle.std_alloc.specs.Box.Ownership.{box_owns}
use Rattle.std_alloc.proofs.BoxSteps.Form.{D, τ, R, B, word, box_typed}
use Rattle.std_alloc.proofs.BoxSteps.Steps.{box_out, box_in}
use Rattle.std.proofs.raw_atomic.Walks.{proved_at, leaves}
use Rattle.std_alloc.proofs.boxed.Box.into_raw_with_allocator.Met.{met}
use Rattle.nagsched_handles.proofs.Walks.{enters}
use Rattle.nagsched_handles.proofs.BoxPartsLemmas.{Apart, alive, box_at, passed, tokens, used_up, parts, Opens, Opened}
use Rattle.nagsched_handles.specs.contracts.box_parts.BoxParts.of.{ended, clauses}
use Rattle.nagsched_handles.specs.contracts.box_parts.BoxParts.of.Key.{name as #self}
use Rattle.nagsched_handles.proofs.box_parts.BoxParts.of.Statement.{statement}
use Rattle.nagsched_handles.proofs.box_parts.BoxParts.of.Code as code

pub of_spec : {M : Type 1} → statement M
of_spec 𝓤 𝓛 𝓜 𝓡 wired T A LT LA g d dt da allocator drops frees =
    let E = box_at T A LT LA g d da in let fn = inst_fn (passed E dt) code.function in
    let En = ended T A g d dt da in let c = clauses T A g d dt da 𝓛 𝓜.mem 𝓡.returns in let hs : Stays En.signature.params En.kept = used_up (B E) in
    proved_at 𝓛 En hs c 𝓜 𝓡 (Goes-blank 𝓛 2 (plain (λ _. B E)) no (λ κs x f. tt), tt) (#self (passed E dt)) fn (code.unfolded 𝓤 𝓛.H 𝓜 𝓡 wired (T, (A, tt)) d dt da) (λ z are.
    let κs = z.0.0 in let qs = z.0.1 in let v = z.0.3.0 in
    qed 𝓛 ((tokens E κs qs ⊛ ‵ (owns (types_at En.signature.params κs) z.0.3 z.0.4)) ∷ alive E κs ∷ []) ∵ split ! $ move ! (1 ∷ []) $ fsplit ! $
    box_out E ! v z.0.4.0 (λ b o h e ws fits. box_in E ! v b o v.value e refl $
    let w = word E h b o in let O = Opens E 𝓛 𝓜.mem 𝓡.returns dt in let y : O.Ghost = ((κs, qs, tt, (v, tt), (w ∷ [], tt)), tt) in
    fjoin ! $ move ! (1 ∷ 0 ∷ []) $ join ! $ join ! $ use1 𝓛 (raw (O.pre y)) (id⊢ 𝓤 _) $
    enters 𝓛 𝓜 𝓡 En hs c fn z ! (w ∷ []) (λ i. ws i ++ []) $ alloc_all ! (λ l. pass_all ! refl (box_typed E h b o fits, tt) $ sets ! (of_opd ! (get ! refl)) refl (box_typed E h b o fits) $
    calls_at ! (fm 𝓛 𝓜 𝓡) O (met 𝓤 𝓛 𝓜 𝓡 (code.calls-std_alloc::boxed::Box::into_raw_with_allocator 𝓡.env wired) T A LT LA g d da dt allocator frees drops) y (and_then ! (get ! refl) (no_more !)) (λ u.
    use1 𝓛 (Opened E κs qs v.alloc v.value u) (id⊢ 𝓤 (O.post y u)) $ await ! tt $ pick ! (λ r. split ! $ move ! (1 ∷ []) $ pick ! (λ _. split3 ! $ drop ! $ heard ! (r.1 ≡ v.alloc) (λ same.
    in_a_block ! r.0 (λ p. box_owns (token E.al v.alloc) (R E) p v.value) (fst∗ 𝓤 (never 𝓤) (sem 𝓛 (token E.al v.alloc (bare (τ E)) null_ptr))) (λ b' o' e'.
    -- [what the box owned; the tokens with the pair of address and allocator]
    move ! (1 ∷ []) $ split ! $ move ! (1 ∷ []) $ fpick ! (λ vss. fsplit ! $ feq_l ! (λ pair. fsplit ! $ feq_l ! (λ address. fsplit ! $
    rewrite ! 0 (λ (s : E.al.row.Denot). ‵ (E.al.row.own_val s vss.1.0)) same refl $ handle_tells E.al ! v.alloc vss.1.0 (λ h' is fits'.
    let made = box_typed E h' b' o' fits' in
    lands_as ! (ap only (pair ∙ (λ j. vstruct (of_list ((address ∙ ap (λ (p : Ptr). ptr_val p ∷ []) e') j ++ (is j ++ []))) ∷ []))) refl made $
    sets ! (of_opd ! (get_in ! (fld ! refl (stop !)) (sub ! 0 refl (whole !)))) refl (tt, tt) $
    sets ! (of_opd ! (get_in ! (fld ! refl (stop !)) (sub ! 1 refl (whole !)))) refl fits' $ sets ! (of_opd ! (get ! refl)) refl fits' $
    sets ! (agg ! (and_then ! (get ! refl) (and_then ! (get ! refl) (no_more !)))) refl made $
    returns ! (look_at ! 0 refl) $ free_all ! refl $
    -- [the allocator; nothing; the tokens; what the box owned]
    move ! (3 ∷ []) $ fsplit ! $ let whole_is : D E = record { ptr = block_ptr b' o'; alloc = v.alloc; value = v.value } in let apart = parts E (block_ptr b' o') v.alloc v.value in
    box_in E ! whole_is b' o' v.value refl refl $ use1 𝓛 (‵ ((Apart E).own_val apart (word E h' b' o' ∷ []))) (id⊢ 𝓤 _) $
    use0 𝓛 (raw (fact 𝓤 (v.value ≡ v.value))) (fact_i 𝓤 (v.value ≡ v.value) (emp 𝓤) refl) $ nothing ! $ nothing ! $ fjoin ! $
    keep ! (4 ∷ 0 ∷ 2 ∷ 1 ∷ []) $ by ! (leaves 𝓛 En hs c z (word E h' b' o') apart ((tt, (tt, tt)), tt) (tt, tt))))))))))))))
