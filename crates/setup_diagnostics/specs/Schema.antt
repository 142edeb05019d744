-- The names that the schema of a setup contains.
use Rattle.std.specs.Prelude.{◌≡◌, ℕ, List, [], ◌∷◌, ◌++◌, codes, decimal}
use Rattle.json.specs.Print.{quoted}
use Rattle.setup_model.specs.declared.member.Kind.{Kind}
use Rattle.setup_model.specs.declared.member.Kind.TheVariants as kind
use Rattle.setup_model.specs.declared.place.Part.{Part}
use Rattle.setup_model.specs.declared.place.Part.TheVariants as part
use Rattle.setup_model.specs.Member.{Row}
use Rattle.setup_model.specs.Members.{item_members, option_members}

-- a text that contains this one
pub record ContainsText (part text : List ℕ) : Type 0 where
  pub before : List ℕ
  pub after : List ℕ
  pub is : text ≡ before ++ (part ++ after)

-- a text that ends with this one
pub record EndsWith (part text : List ℕ) : Type 0 where
  pub before : List ℕ
  pub is : text ≡ before ++ part

-- a member of the schema whose value is this number
abbrev pub number_member : List ℕ → ℕ → List ℕ
number_member name n = (quoted name ++ codes ": ") ++ decimal n

-- each of these members is named
abbrev pub NamesEach : List Row → List ℕ → Type 0
NamesEach [] text = Unit {0}
NamesEach (m ∷ ms) text = ContainsText (quoted m.name) text × NamesEach ms text

-- the members of the options, or of the objects in a list
abbrev pub inner_members : Part → List Row
inner_members part.Options = option_members
inner_members p = item_members p

abbrev pub NamesInner : Kind → List ℕ → Type 0
NamesInner (kind.Part p) text = NamesEach (inner_members p) text
NamesInner other text = Unit {0}

-- each of these members is named, and each member of the objects that it has
abbrev pub NamesAll : List Row → List ℕ → Type 0
NamesAll [] text = Unit {0}
NamesAll (m ∷ ms) text = ContainsText (quoted m.name) text × NamesInner m.kind text × NamesAll ms text
