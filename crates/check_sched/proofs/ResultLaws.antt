-- Laws of the results that are kept of an object: as many as are kept at most, each a state of its sort.
use Rattle.std.proofs.Common.{◌≡◌, ℕ, zero, suc, ◌-◌, Bool, true, List, [], ◌∷◌, ◌++◌, length, drop, refl, arith}
use Rattle.std.specs.List.{list_all}
use Rattle.std.proofs.lemmas.Bool.{and_from, and_parts}
use Rattle.std.proofs.lemmas.List.{length-drop}
use Rattle.std.proofs.lemmas.List.Folds.{list_all-append}
use Rattle.check_objects.specs.Configuration.{Configuration}
use Rattle.check_states.specs.declared.state.State as rules
use Rattle.check_states.specs.Flapping.{results_after}
use Rattle.check_states.specs.State.{is_host_state, is_of_sort}
use Rattle.check_saved_state.proofs.VerifiedLemmas.{of_sort}
use Rattle.check_sched.specs.State.{AreResultsOf, is_host}

pub all_dropped : {X : Type 0} (p : X → Bool) (n : ℕ) (xs : List X) → list_all p xs ≡ true → list_all p (drop n xs) ≡ true
all_dropped p zero xs e = e
all_dropped p (suc n) [] e = refl
all_dropped p (suc n) (x ∷ xs) e = all_dropped p n xs (and_parts (p x) (list_all p xs) e).1

-- one result more of the object's sort
pub kept_are_results : (setup : Configuration) (n : ℕ) (found : rules.State) → is_host_state found ≡ is_host setup n → (results : List rules.State)
    → AreResultsOf setup n results → AreResultsOf setup n (results_after results found)
kept_are_results setup n found sort results was = record {
  bounded = let all = results ++ found ∷ [] in let l = length-drop (length all - 21) all in omega (arith, l);
  sort =
      all_dropped (is_of_sort (is_host setup n)) (length (results ++ found ∷ []) - 21) (results ++ found ∷ [])
      (rw (list_all-append (is_of_sort (is_host setup n)) results (found ∷ []))
      (and_from _ _ was.sort (and_from _ true (of_sort (is_host setup n) found sort) refl)));
}
