-- The members of the options that are a text or a number.
use Rattle.std.specs.Prelude.{ℕ, List, Option, Some, None, codes, bytes_eq, if◌then◌else◌}
use Rattle.serde_json.specs.Data.{Data}
use Rattle.serde_json.specs.Find.{as_str}
use Rattle.setup_model.specs.declared.options.DelayMethod.{DelayMethod}
use Rattle.setup_model.specs.declared.options.DelayMethod.TheVariants as method
use Rattle.setup_model.specs.declared.options.InterleaveFactor.{InterleaveFactor}
use Rattle.setup_model.specs.declared.options.InterleaveFactor.TheVariants as factor
use Rattle.setup_reader.specs.JsonTree.{whole_number, ◌>=>◌}

-- a value by its text, or the other value if it isn't a text
abbrev pub by_text : {A : Type 0} → (List ℕ → Option A) → Option A → Option (List ℕ) → Option A
by_text from_letter other None = other
by_text from_letter other (Some text) = from_letter text

-- the methods that have a letter
abbrev pub method_of_letter : List ℕ → Option DelayMethod
method_of_letter text =
    if bytes_eq text (codes "n") then Some method.NoDelay
    else if bytes_eq text (codes "d") then Some method.Dumb
    else if bytes_eq text (codes "s") then Some method.Smart
    else None

-- a number is a delay in milliseconds
abbrev pub delay_method : Data → Option DelayMethod
delay_method d = by_text method_of_letter (whole_number d >=> λ n. Some (method.Fixed n)) (as_str d)

abbrev pub interleave_factor : Data → Option InterleaveFactor
interleave_factor d =
    by_text (λ text. if bytes_eq text (codes "s") then Some factor.Smart else None) (whole_number d >=> λ n. Some (factor.Fixed n)) (as_str d)
