-- What both walks of `BoxParts` share: the type at its parameters, what each begins with, and what the calls that take a box apart and make
-- it whole again ask and give. Parts own what the box owned: the two are one to the logic.
use mathlib.Core.List.{[], ◌∷◌}
use mathlib.Core.Path.{◌≡◌}
use seplogic.Ra.Ura.{Ura}
use mir.Syntax.{Args, Dict, a_type, dcons, dnil}
use mir.Val.{Val}
use base.Logic.{SProp}
use base.Fml.{flft, ftrue, fsep}
use contract.BorrowLft.{◌⊑◌}
use contract.Lifetimes.{Lfts, Shares}
use contract.Monad.{Fun, fact}
use prog.Memory.{Memory}
use prog.Routine.{Routine}
use types.Logic.{Logic}
use types.Kit.{Item, ‵, raw, ◌⊛◌, some, later}
use denote.Builtin.{RawPtr}
use denote.Exit.{no}
use denote.Param.{bounded}
use denote.Param.Laws.{Laws}
use denote.RattleType.{RattleType}
use denote.RawPtr.{Ptr}
use denote.Signature.{plain}
use denote.Struct.Tuple.{Tuple}
use denote.Triple.Spec.{triple_of}
use denote.Triple.Statement.{Contract}
use denote.Triple.Walked.{Stay, stay_dropped}
use Rattle.core.specs.declared.alloc.Allocator.{Ghosts}
use Rattle.core.proofs.alloc.Calls.{token}
use Rattle.std_alloc.specs.Box.Ownership.{box_owns}
use Rattle.std_alloc.proofs.BoxSteps.Form.{Bx, D, R, P, B}
use Rattle.std_alloc.specs.contracts.boxed.Box.from_raw as shutting
use Rattle.std_alloc.specs.contracts.boxed.Box.into_raw_with_allocator as opening
use Rattle.nagsched_handles.specs.contracts.box_parts.BoxParts as box_parts

-- the box type of these parameters, with their laws
abbrev pub box_at : (T A : RattleType) → Laws T → Laws A → Ghosts A.Denot → Dict → Dict → Bx
box_at T A of_value of_alloc ghosts frees drops = record { row = T; laws = of_value; al = record { row = A; laws = of_alloc; g = ghosts; d = frees; drops = drops } }

-- what is known of a function's one parameter, which it uses up
abbrev pub used_up : (R : RattleType) → Stay {n = 2} (plain (λ _. R)) no × Unit {1}
used_up R = (stay_dropped (plain (λ _. R)) no, tt)

module _ (E : Bx) where
  -- what a call passes for the parameters: beside what is passed for the box how its value is dropped
  abbrev pub passed : Dict → Args
  passed drops = bounded (a_type ∷ a_type ∷ []) (E.row, (E.al.row, tt)) (dcons E.al.d (dcons drops (dcons E.al.drops dnil)))

  -- the parts of a box of E
  abbrev pub Apart : RattleType
  Apart = box_parts.the_row (R E) (P E) E.al.g

  abbrev pub parts : Ptr → E.al.row.Denot → E.row.Denot → Apart.Denot
  parts at alloc value = record { at = at; alloc = alloc; value = value }

  module _ {M : Type 1} {𝓤 : Ura M} (𝓛 : Logic 𝓤) (at_mem : Memory → SProp 𝓤) (run : Routine → Fun 𝓤) where
    abbrev pub Opens : Dict → Contract 𝓤
    Opens dx = triple_of 𝓛 (opening.signature E.row E.al.row E.al.g E.al.d E.al.drops dx) (opening.spec E.row E.al.row E.al.g E.al.d E.al.drops dx 𝓛 at_mem run)

    abbrev pub Shuts : Contract 𝓤
    Shuts = triple_of 𝓛 (shutting.signature E.row E.al.row E.al.g E.al.d E.al.drops) (shutting.spec E.row E.al.row E.al.g E.al.d E.al.drops 𝓛 at_mem run)

  module _ {M : Type 1} {𝓤 : Ura M} (κs : Lfts 2) where
    -- that the two parameters live as long as these lifetimes
    abbrev pub alive : Item 𝓤
    alive = raw (fact 𝓤 (κs.0 ⊑ E.row.lives)) ⊛ raw (fact 𝓤 (κs.1.0 ⊑ E.al.row.lives)) ⊛ ‵ ftrue

    -- the tokens of these lifetimes
    abbrev pub tokens : Shares 2 → Item 𝓤
    tokens qs = ‵ (flft κs.0 qs.0) ⊛ ‵ (flft κs.1.0 qs.1.0) ⊛ ‵ ftrue

    -- what a box taken apart leaves, beside the tokens: an address and the allocator, and what the box owned
    abbrev pub Opened : Shares 2 → E.al.row.Denot → E.row.Denot → Val → Item 𝓤
    Opened qs alloc value u = later (some (λ (r : Ptr × E.al.row.Denot). (tokens qs ⊛ ‵ ((Tuple (RawPtr ∷ P E ∷ [])).own_val r (u ∷ []))) ⊛
        some (λ (_ : (Unit {0} × (Unit {0} × Unit {0})) × Unit {0}). ‵ (fsep (fsep ftrue (fsep ftrue ftrue)) ftrue) ⊛ (raw (fact 𝓤 (r.1 ≡ alloc)) ⊛ ‵ (box_owns (token E.al alloc) (R E) r.0 value)))))

    -- what a box made whole is
    abbrev pub Shut : Shares 2 → E.al.row.Denot → E.row.Denot → Val → Item 𝓤
    Shut qs alloc value u = later (some (λ (r : D E). (tokens qs ⊛ ‵ ((B E).own_val r (u ∷ []))) ⊛
        some (λ (_ : Unit {0} × (Unit {0} × Unit {0})). ‵ (fsep ftrue (fsep ftrue ftrue)) ⊛ (raw (fact 𝓤 (r.value ≡ value)) ⊛ raw (fact 𝓤 (r.alloc ≡ alloc))))))
