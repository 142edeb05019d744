-- The refusals of cycles: one of dependencies before one of parents.
use Rattle.std.proofs.Common.{◌≡◌, ℕ, List, true, false, cond, Some, Ok, Err, ap, sym, map, ◌∙◌}
use Rattle.setup_model.specs.declared.error.LoadError.TheVariants as errors
use Rattle.setup_model.specs.Agreement.{◌>>=◌}
use Rattle.setup_model.specs.ParsedSetup.{ParsedSetup}
use Rattle.setup_model.specs.Fault as fault
use Rattle.setup_model.specs.declared.dependency.Dependency.{Dependency}
use Rattle.check_objects.specs.Configuration.{Configuration, masters_in, masters_of, parents_by_host}
use Rattle.check_objects.specs.Numbering.{configuration}
use Rattle.setup_order.specs.Cycles.{has_cycle}
use Rattle.setup_order.specs.Orders.{IsOrder}
use Rattle.setup_order.proofs.ChainLemmas.{order_has_no_cycle}
use Rattle.check_objects.specs.Setup.{without_parent_cycle, without_cycles, AreRefusedFor, IsParentVerdict}

after_dependencies : (c : Configuration) → has_cycle (masters_of c) ≡ false → without_cycles c ≡ without_parent_cycle c
after_dependencies c free = ap (λ b. cond b (Err errors.DependencyCycle) (Ok c) >>= without_parent_cycle) free

pub acyclic_setup : (c : Configuration) → has_cycle (masters_of c) ≡ false → has_cycle (parents_by_host c) ≡ false → without_cycles c ≡ Ok c
acyclic_setup c free no_parents = after_dependencies c free ∙ ap (λ b. cond b (Err errors.ParentCycle) (Ok c)) no_parents

pub cyclic_dependencies : (c : Configuration) → has_cycle (masters_of c) ≡ true → without_cycles c ≡ Err errors.DependencyCycle
cyclic_dependencies c cyclic = ap (λ b. cond b (Err errors.DependencyCycle) (Ok c) >>= without_parent_cycle) cyclic

cyclic_parents : (c : Configuration) → has_cycle (masters_of c) ≡ false → has_cycle (parents_by_host c) ≡ true → without_cycles c ≡ Err errors.ParentCycle
cyclic_parents c free cyclic = after_dependencies c free ∙ ap (λ b. cond b (Err errors.ParentCycle) (Ok c)) cyclic

-- a cycle of parents refuses a parsed setup whose dependencies have none
pub parents_refuse : (ds : ParsedSetup) (cycle : List (List ℕ)) → has_cycle (masters_of (configuration ds)) ≡ false → IsParentVerdict ds (Some cycle)
    → AreRefusedFor ds (Some (fault.parent_cycle cycle))
parents_refuse ds cycle free is = ((free, is.1), cyclic_parents (configuration ds) free is.0)

-- dependencies that have an order have no cycle
pub acyclic_masters : (ds : ParsedSetup) (lists : List (List Dependency)) (order : List ℕ) → lists ≡ (configuration ds).dependencies
    → IsOrder (map masters_in lists) order → has_cycle (masters_of (configuration ds)) ≡ false
acyclic_masters ds lists order same is = ap (λ l. has_cycle (map masters_in l)) (sym same) ∙ order_has_no_cycle _ _ is
