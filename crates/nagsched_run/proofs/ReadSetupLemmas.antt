-- A setup that was read is one.
use Rattle.std.proofs.Common.{◌≡◌, ℕ, Bool, true, false, cond, List, Result, Ok, Err, refl, ap, sym, subst}
use Rattle.setup_order.specs.Cycles.{has_cycle}
use Rattle.setup_model.specs.Agreement.{with_error}
use Rattle.setup_model.specs.declared.error.LoadError.TheVariants as errors
use Rattle.setup_model.specs.ParsedSetup.{ParsedSetup}
use Rattle.setup_model.specs.Fault.{load_error}
use Rattle.setup_reader.specs.Reading.{parsed_setup}
use Rattle.setup_reader.proofs.ReadLemmas.{next, ok_is}
use Rattle.setup_reader.specs.Verification.{verification}
use Rattle.check_objects.specs.Configuration.{Configuration, IsSetup, masters_of, parents_by_host}
use Rattle.check_objects.specs.Numbering.{configuration}
use Rattle.check_objects.specs.Setup.{document_tree, verified_setup, setup_of, setup_of_tree, without_cycles, without_dependency_cycle, without_parent_cycle}
use Rattle.check_objects.proofs.SetupLemmas.{configuration_is_setup}

no_fault : {A E F : Type 0} (see : E → F) (r : Result A E) (a : A) → with_error see r ≡ Ok a → r ≡ Ok a
no_fault see (Ok x) a e = ap Ok (ok_is x a e)
no_fault see (Err why) a e = cc

past : {A E : Type 0} (wrong : Bool) (why : E) (r : Result A E) (a : A) → cond wrong (Err why) r ≡ Ok a → (wrong ≡ false) × (r ≡ Ok a)
past true why r a e = cc
past false why r a e = (refl, e)

parsed_read : (ds : ParsedSetup) (c : Configuration) → verification ds ≡ Ok tt → without_cycles (configuration ds) ≡ Ok c → IsSetup c
parsed_read ds c faultless e =
    let d = configuration ds in
    next (without_dependency_cycle d) without_parent_cycle c (IsSetup c) (λ middle m last.
    let masters = past (has_cycle (masters_of d)) errors.DependencyCycle (Ok d) middle m in
    let parents = past (has_cycle (parents_by_host d)) errors.ParentCycle (Ok d) c
    (subst (λ x. without_parent_cycle x ≡ Ok c) (sym (ok_is d middle masters.1)) last) in
    subst IsSetup (ok_is d c parents.1) (configuration_is_setup ds faultless masters.0 parents.0)) e

pub setup_by : (document : List ℕ) (c : Configuration) → setup_of document ≡ Ok c → IsSetup c
unfolding setup_of setup_of_tree
setup_by document c e =
    next (with_error load_error (document_tree document)) setup_of_tree c (IsSetup c) (λ tree t from_tree.
    next (with_error load_error (verified_setup tree)) _ c (IsSetup c) (λ ds f from_parsed.
    next (parsed_setup tree) _ ds (IsSetup c) (λ parsed r tested.
    next (verification parsed) _ ds (IsSetup c) (λ _ faultless last.
    parsed_read parsed c faultless (subst (λ x. without_cycles (configuration x) ≡ Ok c) (sym (ok_is parsed ds last)) from_parsed)) tested)
    (no_fault load_error (verified_setup tree) ds f)) from_tree) e
