-- What `serde_json` reads from tokens. `read` of a text is `data_of_tokens` of the text's tokens.
use Rattle.std.specs.Prelude.{List, length, Option, option_and_then}
use Rattle.json.specs.Json as json
use Rattle.json.specs.Token.{Token}
use Rattle.serde_json.specs.Data.{Data, Items}
use Rattle.serde_json.specs.Read.{converted, max_depth, of_items, of_json}

-- the tree of all tokens
abbrev pub data_of_tokens : List Token → Option Data
data_of_tokens ts = option_and_then of_json (option_and_then (λ p. json.if_last p.0 p.1) (json.value max_depth ts))

-- the items up to the bracket that closes the outermost array, and the tokens after it; the tokens `ts` begin after the opening one
abbrev pub items_after_bracket : List Token → Option (Items × List Token)
items_after_bracket ts = converted of_items (json.items (json.value 126) (length ts) ts)
