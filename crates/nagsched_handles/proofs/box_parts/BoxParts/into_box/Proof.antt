-- The parts of a box are handed to `from_raw`, which makes it whole.
use Rattle.std.proofs.Common.{List, [], ◌∷◌, ◌++◌, refl, sym, ap, subst}
use lib.Dec.{T as IsTrue}
use mir.Val.{Val, vptr, has_ty, WT}
use mir.MapTy.{inst_fn}
use base.Logic.{SProp, id⊢}
use types.Kit.{‵, raw, ◌⊛◌, at_ret, ◌$◌, ◌∵◌, !, qed, by, move, keep, drop, split, split3, join, fsplit, fjoin, pick, use1, await, rewrite, feq_i}
use types.Run.{stop, fld, of_opd, no_more, and_then, first, blocks, exec, returns}
use types.ByLocal.{alloc_all, pass_all, free_all, look_at, get, get_in, sets, lands_last, env}
use types.Part.{sub, whole}
use contract.Running.{tables}
use denote.Exit.{no}
use denote.RattleType.{owns}
use denote.Signature.{types_at, plain}
use denote.RawPtr.{block_ptr}
use denote.Steps.{nothing, only}
use denote.Triple.Call.{calls_at_last}
use denote.Triple.Walked.{Stays, walk_of}
use Rattle.core.proofs.alloc.Calls.{Goes-blank}
use Rattle.core.proofs.alloc.Shapes.{after}
use Rattle.core.proofs.atomic.Steps.{fm}
use Rattle.std_alloc.proofs.BoxSteps.Form.{D, B, word, box_ty, box_typed}
use Rattle.std_alloc.proofs.BoxSteps.Steps.{box_out, box_in}
use Rattle.std.proofs.raw_atomic.Walks.{proved_at, leaves}
use Rattle.std_alloc.proofs.boxed.Box.from_raw.Met.{met}
use Rattle.nagsched_handles.proofs.Walks.{enters}
use Rattle.nagsched_handles.proofs.BoxPartsLemmas.{Apart, alive, box_at, passed, tokens, used_up, Shuts, Shut}
use Rattle.nagsched_handles.specs.contracts.box_parts.BoxParts.into_box.{ended, clauses}
use Rattle.nagsched_handles.specs.contracts.box_parts.BoxParts.into_box.Key.{name as #self}
use Rattle.nagsched_handles.proofs.box_parts.BoxParts.into_box.Statement.{statement}
use Rattle.nagsched_handles.proofs.box_parts.BoxParts.into_box.Code as code

pub into_box_spec : {M : Type 1} → statement M
into_box_spec 𝓤 𝓛 𝓜 𝓡 wired T A LT LA g d dt da allocator drops frees =
    let 𝓣 = tables 𝓤 𝓛.H 𝓜 𝓡 𝓡.env in let E = box_at T A LT LA g d da in let fn = inst_fn (passed E dt) code.function in
    let En = ended T A g d dt da in let c = clauses T A g d dt da 𝓛 𝓜.mem 𝓡.returns in let hs : Stays En.signature.params En.kept = used_up (Apart E) in
    proved_at 𝓛 En hs c 𝓜 𝓡 (Goes-blank 𝓛 2 (plain (λ _. Apart E)) no (λ κs x f. tt), tt) (#self (passed E dt)) fn (code.unfolded 𝓤 𝓛.H 𝓜 𝓡 wired (T, (A, tt)) d dt da) (λ z are.
    let κs = z.0.0 in let qs = z.0.1 in let v = z.0.3.0 in let Post : Val → SProp 𝓤 = (walk_of 𝓛 En hs c).post z in
    let whole_is : D E = record { ptr = v.at; alloc = v.alloc; value = v.value } in
    qed 𝓛 ((tokens E κs qs ⊛ ‵ (owns (types_at En.signature.params κs) z.0.3 z.0.4)) ∷ alive E κs ∷ []) ∵ split ! $ move ! (1 ∷ []) $ fsplit ! $
    box_out E ! whole_is z.0.4.0 (λ b o h e ws fits. fjoin ! $
    let w = word E h b o in let S = Shuts E 𝓛 𝓜.mem 𝓡.returns in
    let y : S.Ghost = ((κs, qs, tt, (v.alloc, (block_ptr b o, tt)), (h ∷ [], (vptr b o ∷ [], tt))), v.value) in
    -- [what the box owned; the allocator; nothing; the tokens; that they are alive]
    move ! (4 ∷ []) $ split3 ! $ move ! (2 ∷ []) $ drop ! $ move ! (1 ∷ 2 ∷ []) $ join ! $ move ! (1 ∷ 0 ∷ []) $ join ! $
    move ! (2 ∷ []) $ feq_i ! (List Val) (vptr b o ∷ []) (vptr b o ∷ []) refl $ fjoin ! $ move ! (2 ∷ 0 ∷ []) $ fjoin ! $ move ! (2 ∷ 0 ∷ []) $ join ! $ join ! $ use1 𝓛 (raw (S.pre y)) (id⊢ 𝓤 _) $
    enters 𝓛 𝓜 𝓡 En hs c fn z ! (w ∷ []) (λ i. ws i ++ []) $ alloc_all ! (λ l. pass_all ! refl (box_typed E h b o fits, tt) $
    sets ! (of_opd ! (get_in ! (fld ! refl (stop !)) (sub ! 0 refl (whole !)))) refl (tt, tt) $
    sets ! (of_opd ! (get_in ! (fld ! refl (stop !)) (sub ! 1 refl (whole !)))) refl fits $
    first ! $ blocks ! $ sets ! (of_opd ! (get ! refl)) refl fits $
    calls_at_last ! (fm 𝓛 𝓜 𝓡) S (met 𝓤 𝓛 𝓜 𝓡 (code.calls-std_alloc::boxed::Box::from_raw 𝓡.env wired) T A LT LA g d da allocator frees) y (and_then ! (get ! refl) (and_then ! (get ! refl) (no_more !))) (λ u.
    use1 𝓛 (Shut E κs qs v.alloc v.value u) (id⊢ 𝓤 (S.post y u)) $ await ! tt $ pick ! (λ r. split ! $ move ! (1 ∷ []) $ pick ! (λ _. split3 ! $ drop ! $ move ! (2 ∷ []) $ split ! $ move ! (1 ∷ []) $
    box_out E ! r (u ∷ []) (λ b' o' h' e' us fits'. box_in E ! r b' o' r.value e' refl $ rewrite ! 0 (λ (xs : List Val). ‵ ((B E).own_val r xs)) (sym us) refl $
    let good : IsTrue (has_ty (box_ty E) u) × WT u = subst (λ (x : Val). IsTrue (has_ty (box_ty E) x) × WT x) (sym (ap only us)) (box_typed E h' b' o' fits') in
    lands_last ! refl good $ exec ! 𝓣.C 𝓣.Λ (env fn.locals l) (after 3 fn.body) (at_ret (env fn.locals l) Post) $
    sets ! (of_opd ! (get ! refl)) refl good $ nothing ! $ nothing ! $ fjoin ! $
    returns ! (look_at ! 0 refl) $ free_all ! refl $ keep ! (2 ∷ 0 ∷ 1 ∷ 3 ∷ []) $ by ! (leaves 𝓛 En hs c z u r ((tt, (tt, tt)), tt) (tt, tt)))))))))
