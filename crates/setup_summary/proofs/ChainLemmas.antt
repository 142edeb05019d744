-- The links of a setup lead to objects, of which there are few.
use Rattle.std.proofs.Common.{◌≡◌, ℕ, ◌≤◌, true, List, length, map, ap, ◌∙◌, arith}
use Rattle.std.specs.List.{list_all}
use Rattle.std.specs.Prelude.{nat_lt}
use Rattle.std.proofs.lemmas.List.{length-map}
use Rattle.std.proofs.lemmas.List.Folds.{list_all-map}
use Rattle.check_objects.specs.Configuration.{Configuration, IsSetup, masters_in, masters_of, parents_by_host, object_count}
use Rattle.check_spread.proofs.TimesLemmas.{count_parts}
use Rattle.setup_order.specs.Cycles.{are_within}

-- the links of each object or host, as lists that the code has
module _ {L : Type 0} (items : L → List ℕ) (c : Configuration) (lists : List L) (is : IsSetup c) where
  within_by : (all : List (List ℕ)) (m : ℕ) → map items lists ≡ all → length lists ≡ m → are_within m all ≡ true → are_within (length lists) (map items lists) ≡ true
  within_by all m e same h = rw (e, same) h

  pub few_masters : map items lists ≡ masters_of c → length lists ≤ 4096
  few_masters e =
      let size = length-map lists items in
      let a = length-map c.dependencies masters_in in
      let b = count_parts c in
      omega (arith, ap length e, a, b, is.one_list_each, is.bounded, size)

  pub few_hosts : map items lists ≡ parents_by_host c → length lists ≤ 4096
  few_hosts e =
      let size = length-map lists items in
      let a = length-map c.hosts (λ h. h.parents) in
      omega (arith, ap length e, a, is.bounded, size)

  pub parents_within : map items lists ≡ parents_by_host c → are_within (length lists) (map items lists) ≡ true
  parents_within e =
      let size = length-map lists items in
      let a = length-map c.hosts (λ h. h.parents) in
      let same : length lists ≡ length c.hosts = omega (arith, ap length e, a, size) in
      within_by (parents_by_host c) (length c.hosts) e same
      (list_all-map (λ ls. list_all (λ l. nat_lt l (length c.hosts)) ls) (λ h. h.parents) c.hosts ∙ is.linked)
