-- That a configuration is a setup, and a state one that a scheduler can be in, in at most one way.
use Rattle.std.specs.Prelude.{ℕ}
use Rattle.std.proofs.Props.{props}
use Rattle.std.specs.List.Sorted.{IsStrictlySortedBy-prop}
use Rattle.setup_model.specs.declared.options.DelayMethod.{DelayMethod}
use Rattle.setup_model.specs.declared.options.DelayMethod.TheVariants as method
use Rattle.setup_model.specs.declared.options.InterleaveFactor.{InterleaveFactor}
use Rattle.setup_model.specs.declared.options.InterleaveFactor.TheVariants as factor
use Rattle.check_objects.specs.Configuration.{Configuration, IsDelayInRange, IsFactorInRange, IsSetup}
use Rattle.check_states.specs.declared.standing.Standing.{Standing}
use Rattle.check_sched.specs.State.{State, IsState, IsStandingOf}

delay_prop : (m : DelayMethod) → IsProp (IsDelayInRange m)
delay_prop method.NoDelay = hlevel props
delay_prop method.Dumb = hlevel props
delay_prop method.Smart = hlevel props
delay_prop (method.Fixed delay) = hlevel props

factor_prop : (f : InterleaveFactor) → IsProp (IsFactorInRange f)
factor_prop factor.Smart = hlevel props
factor_prop (factor.Fixed n) = hlevel props

pub IsSetup-prop : (setup : Configuration) → IsProp (IsSetup setup)
IsSetup-prop setup = hlevel (props, IsStrictlySortedBy-prop, delay_prop, factor_prop)

standing_prop : (setup : Configuration) (number : ℕ) (standing : Standing) → IsProp (IsStandingOf setup number standing)
standing_prop setup number standing = hlevel props

pub IsState-prop : (s : State) → IsProp (IsState s)
IsState-prop s = hlevel (props, IsSetup-prop, standing_prop)
