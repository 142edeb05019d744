-- The tree of a saved state, which is one object of JSON, and what the writer appends for it.
use Rattle.std.specs.Prelude.{◌≡◌, ℕ, suc, List, [], ◌∷◌, ◌++◌, map}
use Rattle.json.specs.Token.{Token}
use Rattle.json.specs.Tree.{json_tokens, members_tokens}
use Rattle.json.specs.Written.{Written}
use Rattle.serde_json.specs.Data.{Data, array, Items, Members, no_members, member}
use Rattle.serde_json.specs.View.{items_of}
use Rattle.serde_json.specs.Written.{members_outline, outline}
use Rattle.check_saved_state.specs.Object.{members_with, number_tree, object_tree, object_values, object_with}
use Rattle.check_saved_state.specs.Saved.{Saved, SavedObject}
use Rattle.check_saved_state.specs.Table.{document_members, newest_format, object_members}

-- the objects in their order
abbrev pub objects_tree : List SavedObject → Items
objects_tree objects = items_of (map object_tree objects)

abbrev pub saved_tree : Saved → Data
saved_tree saved =
    object_with document_members
    (number_tree newest_format ∷ number_tree saved.start ∷ number_tree saved.runs ∷ array (objects_tree saved.objects) ∷ [])

-- ---- writing

abbrev pub tokens_of : Data → List Token
tokens_of d = json_tokens (outline d)

-- the members behind the first n
abbrev pub members_after : ℕ → Members → Members
members_after (suc n) (member k d ms) = members_after n ms
members_after n ms = ms

-- the tokens of an object behind those of its first n members
abbrev pub tokens_after : ℕ → SavedObject → List Token
tokens_after n o = members_tokens (members_outline (members_after n (members_with object_members (object_values o) no_members)))

-- these tokens were written after those before
pub record Adds (old new : Written) (tokens : List Token) : Type 0 where
  pub front : new.before ≡ old.before
  pub added : new.tokens ≡ old.tokens ++ tokens
