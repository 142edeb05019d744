-- Nothing is lost of a refusal of a saved state on the way to C.
use Rattle.std.proofs.Common.{◌≡◌, ◌∙◌, ◌==◌, true, false, refl, sym, ap}
use mathlib.Core.Logic.{◌≢◌}
use Rattle.setup_model.specs.declared.error.LoadError.{LoadError}
use Rattle.setup_model.specs.declared.error.LoadError.TheVariants as load
use Rattle.setup_model.specs.LoadError.{error_number}
use Rattle.check_saved_state.specs.declared.fault.SavedFault.{SavedFault}
use Rattle.check_saved_state.specs.declared.fault.SavedFault.TheVariants as fault
use Rattle.nagsched_handles.specs.declared.structs.CRefusal.{CRefusal}
use Rattle.nagsched_handles.specs.Structs.{c_refusal}
use Rattle.nagsched_handles.specs.SavedFaults.{fault_from_c, c_fault, IsNoFault}
use Rattle.nagsched_handles.proofs.StructLaws.{none_has, number_is, refusal_from_c, refusal_is, output}

fault_is : (e : SavedFault) → fault_from_c (c_fault e) ≡ e
fault_is fault.TooLong = refl
fault_is fault.NotJson = refl
fault_is fault.Version = refl
fault_is (fault.Shape index) = ap fault.Shape (number_is index)
fault_is fault.TooMany = refl
fault_is (fault.BadName index) = refl
fault_is (fault.Duplicate index) = refl
fault_is (fault.Range index) = ap fault.Range (number_is index)
fault_is (fault.Unlawful index) = refl
fault_is fault.Memory = refl

pub faults_distinct : (a b : SavedFault) → c_fault a ≡ c_fault b → a ≡ b
faults_distinct = output fault_from_c c_fault fault_is

pub no_fault : (plain : CRefusal) → c_fault (fault_from_c plain) ≢ plain → IsNoFault plain
no_fault plain other e memory = none_has fault_from_c c_fault fault_is plain other e

-- ---- apart from a document's

-- read as a document's refusal, the struct of a saved state's refusal is out of memory
no_document : (f : SavedFault) → refusal_from_c (c_fault f) ≡ load.Memory
no_document fault.TooLong = refl
no_document fault.NotJson = refl
no_document fault.Version = refl
no_document (fault.Shape index) = refl
no_document fault.TooMany = refl
no_document (fault.BadName index) = refl
no_document (fault.Duplicate index) = refl
no_document (fault.Range index) = refl
no_document (fault.Unlawful index) = refl
no_document fault.Memory = refl

-- a struct of both would be out of memory twice, under two numbers
pub apart : (e : LoadError) (f : SavedFault) → c_refusal e ≢ c_fault f
apart e f same =
    let out : e ≡ load.Memory = sym (refusal_is e) ∙ ap refusal_from_c same ∙ no_document f in
    let same' : c_refusal load.Memory ≡ c_fault f = sym (ap c_refusal out) ∙ same in
    let out' : fault.Memory ≡ f = ap fault_from_c same' ∙ fault_is f in
    let both : true ≡ false = ap (λ p. error_number load.Memory == p.kind) (same' ∙ sym (ap c_fault out')) in cc
