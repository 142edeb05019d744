-- The text of a value of the code's tree.
use Rattle.std.specs.Prelude.{ℕ, List, [], unwrap_or}
use Rattle.serde_json.specs.Find.{as_str}
use Rattle.serde_json.specs.View.{view}
use Rattle.serde_json.specs.declared.value.Value.{Value}

-- the text, or no byte if the value isn't a text
abbrev pub text : Value → List ℕ
text v = unwrap_or (as_str (view v)) []
