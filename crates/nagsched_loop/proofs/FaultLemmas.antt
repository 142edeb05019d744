-- Why no book is resumed from a text.
use Rattle.std.proofs.Common.{◌≡◌, ℕ, List, Result, Err, refl, subst, sym}
use Rattle.std.specs.Prelude.{Some, IsErr}
use Rattle.check_saved_state.specs.Saved.{Saved}
use Rattle.check_saved_state.specs.SavedFault.{IsExpectedResult}
use Rattle.check_saved_state.specs.Text.{saved_of_text}
use Rattle.check_saved_state.specs.declared.fault.SavedFault.{SavedFault}
use Rattle.check_saved_state.specs.declared.fault.SavedFault.TheVariants as saved
use Rattle.nagsched_loop.specs.Faults.{IsLoopFault, fault_of_text}

-- a text that is refused isn't read
refused : (text : List ℕ) (e : SavedFault) → saved_of_text text ≡ Err e → IsErr (saved_of_text text)
refused text e is = subst (λ (r : Result Saved SavedFault). IsErr r) (sym is) refl

-- the code's refusal, as the fault of the program
pub not_read : (text : List ℕ) (e : SavedFault) → IsExpectedResult (λ (s : Saved). s) (Err e) (saved_of_text text) → IsLoopFault (Some text) (fault_of_text e)
not_read text saved.Memory is = tt
not_read text saved.TooLong is = refused text _ is
not_read text saved.NotJson is = refused text _ is
not_read text saved.Version is = refused text _ is
not_read text (saved.Shape index) is = refused text _ is
not_read text saved.TooMany is = refused text _ is
not_read text (saved.BadName index) is = refused text _ is
not_read text (saved.Duplicate index) is = refused text _ is
not_read text (saved.Range index) is = refused text _ is
not_read text (saved.Unlawful index) is = refused text _ is
