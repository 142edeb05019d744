-- What an address owns, as the machine sees it, and the parts of the box that it came from.
use Rattle.std.proofs.Common.{◌≡◌, ℕ, List, [], ◌∷◌, ◌++◌, refl, ◌∙◌, true, ◌&&◌}
use lib.Dec.{T}
use seplogic.Ra.Ura.{Ura}
use mir.Syntax.{impl, tnil, dnil}
use mir.Raw.{raw as bare}
use mir.Val.{Val, vptr, vstruct, vcons, vnil, of_list, has_ty, WT}
use base.Logic.{never, fst∗}
use types.Logic.{Logic, sem}
use types.Kit.{Item, Goal, Seq, Step, step, ‵, ◌$◌, move, drop, fsplit, fjoin, fpick, fpack, feq_i, feq_l}
use denote.RattleType.{RattleType, Valss}
use denote.Builtin.{RawPtr}
use denote.Memory.{lone}
use denote.RawPtr.{Ptr, block_ptr, null_ptr, ptr_val, in_a_block}
use denote.Steps.{nothing}
use denote.Param.{layout}
use denote.Struct.Struct.{within}
use denote.Struct.Owning.{shape}
use Rattle.core.proofs.alloc.Calls.{Al, handle_tells}
use Rattle.core.proofs.cell.Inside.{Good}
use Rattle.std_alloc.specs.Box.Ownership.{box_owns}
use Rattle.std_alloc.proofs.ResultValues.{and_tt}
use Rattle.std.specs.Prelude.{Option}
use Rattle.std.specs.contracts.alloc.Global.{the_row as global_row}
use Rattle.std.proofs.alloc.Global.TheLaws.{the_row_laws as global_laws}
use Rattle.std.specs.contracts.impls.GlobalAllocator.TheImpl.{ghosts}
use Rattle.nagsched_handles.specs.Ownership.{owned_at}
use Rattle.nagsched_handles.specs.contracts.target.HandleTarget.{the_row as target_row}
use Rattle.nagsched_handles.specs.contracts.raw.Raw as raws
use Rattle.nagsched_handles.specs.contracts.box_parts.BoxParts as box_parts

-- an address, and an address with the allocator, as the machine has them
abbrev pub address : Ptr → Val
address p = vstruct (vcons (ptr_val p) vnil)

abbrev pub with_alloc : ℕ → ℕ → Val → Val
with_alloc b o h = vstruct (vcons (vptr b o) (vcons h vnil))

abbrev pub Raw : RattleType
Raw = raws.the_row

abbrev pub Apart : RattleType
Apart = box_parts.the_row target_row global_row ghosts

abbrev pub the_heap : Al
the_heap = record { row = global_row; laws = global_laws; g = ghosts; d = impl [] tnil dnil; drops = impl [] tnil dnil }

pub is_typed : (b o : ℕ) (h : Val) → Good (layout global_row) h → T (has_ty (layout global_row) h && true) × WT (with_alloc b o h)
is_typed b o h fits = (and_tt (has_ty (layout global_row) h) fits.0, (tt, (fits.1, tt)))

module _ {M : Type 1} {𝓤 : Ura M} {𝓛 : Logic 𝓤} {K : Type 0} {Γ : List (Item 𝓤)} {G : Goal 𝓤 𝓛.H} where
  -- an address apart: what it owns
  pub raw_out : K → (d : Raw.Denot) (vs : List Val) → (vs ≡ address d.at ∷ [] → Seq K 𝓛 (‵ (owned_at target_row d.at d.value) ∷ Γ) G) → Seq K 𝓛 (‵ (Raw.own_val d vs) ∷ Γ) G
  raw_out t d vs k = fsplit t $ fpick t (λ vss. fsplit t $ feq_l t (λ ev. fsplit t $ feq_l t (λ ep. drop t $ k (ev ∙ (λ i. vstruct (of_list (ep i ++ [])) ∷ [])))))

  -- and together again
  pub raw_in : K → (p : Ptr) (x : Option target_row.Denot) → Step K 𝓛 (‵ (Raw.own_val (record { at = p; value = x }) (address p ∷ [])) ∷ Γ) G (‵ (owned_at target_row p x) ∷ Γ) G
  raw_in t p x = step (λ s. nothing t $ feq_i t (List Val) (ptr_val p ∷ []) (ptr_val p ∷ []) refl $ fjoin t $ feq_i t (List Val) (address p ∷ []) (address p ∷ []) refl $ fjoin t $
      fpack t (Valss (RawPtr ∷ [])) (within (shape raws.the_type) (p, tt) (address p ∷ [])) (ptr_val p ∷ [], tt) $ fjoin t $ s)

  -- the parts of a box: what the box owned, and the allocator
  pub apart_out : K → (d : Apart.Denot) (vs : List Val)
      → ((b o : ℕ) (h : Val) → vs ≡ with_alloc b o h ∷ [] → Good (layout global_row) h
      → Seq K 𝓛 (‵ (box_owns (ghosts.dealloc_token d.alloc) target_row (block_ptr b o) d.value) ∷ ‵ (global_row.own_val d.alloc (h ∷ [])) ∷ Γ) G)
      → Seq K 𝓛 (‵ (Apart.own_val d vs) ∷ Γ) G
  apart_out t d vs k =
      fsplit t $ fpick t (λ vss. fsplit t $ feq_l t (λ parts. fsplit t $ feq_l t (λ place. fsplit t $
      handle_tells the_heap t d.alloc vss.1.0 (λ h is fits. move t (1 ∷ []) $ drop t $ move t (1 ∷ []) $
      in_a_block t d.at (λ p. box_owns (ghosts.dealloc_token d.alloc) target_row p d.value) (fst∗ 𝓤 (never 𝓤) (sem 𝓛 (ghosts.dealloc_token d.alloc (bare (lone target_row.mir)) null_ptr))) (λ b o e.
      k b o h (parts ∙ (λ i. vstruct (of_list ((place ∙ (λ j. ptr_val (e j) ∷ [])) i ++ (is i ++ []))) ∷ [])) fits)))))

  pub apart_in : K → (b o : ℕ) (h : Val) (a : global_row.Denot) (x : target_row.Denot)
      → Step K 𝓛 (‵ (Apart.own_val (record { at = block_ptr b o; alloc = a; value = x }) (with_alloc b o h ∷ [])) ∷ Γ) G (‵ (box_owns (ghosts.dealloc_token a) target_row (block_ptr b o) x) ∷ ‵ (global_row.own_val a (h ∷ [])) ∷ Γ) G
  apart_in t b o h a x = step (λ s. let v : Val = with_alloc b o h in
      nothing t $ move t (2 ∷ 0 ∷ []) $ fjoin t $ feq_i t (List Val) (vptr b o ∷ []) (vptr b o ∷ []) refl $ fjoin t $ feq_i t (List Val) (v ∷ []) (v ∷ []) refl $ fjoin t $
      fpack t (Valss (RawPtr ∷ global_row ∷ [])) (within (shape (box_parts.the_type target_row global_row ghosts)) (block_ptr b o, (a, tt)) (v ∷ [])) (vptr b o ∷ [], (h ∷ [], tt)) $ fjoin t $ s)
