-- The effects of a loop in its environment.
use Rattle.std.specs.Prelude.{◌≡◌, ℕ, Bool, List, [], ◌∷◌, Option}
use Rattle.check_sched.specs.declared.call.Call.{Call}
use Rattle.check_sched.specs.declared.call.Reply.{Reply}
use Rattle.nagsched_loop.specs.declared.environment.Event.{Event}

pub data Effect : Type 0 where
  -- it reads the clock, which returns this moment
  reads : ℕ → Effect
  -- it asks for the next event, and gets this
  asks : Option Event → Effect
  -- it hands over the reply to a call that came in
  answers : Call → Reply → Effect
  -- it starts the plugin of an object, under a run and at a moment, and sees whether this was possible
  begins : ℕ → ℕ → ℕ → Bool → Effect
  -- it sleeps until this moment at most
  sleeps : ℕ → Effect

-- these effects, one after another, and no others
abbrev pub HasEffects : {S : Type 0} → (S → Effect → S → Type 0) → List Effect → S → S → Type 0
HasEffects does [] s t = s ≡ t
HasEffects {S} does (effect ∷ effects) s t = (u : S) × does s effect u × HasEffects does effects u t
