-- The numbers of a document's tree.
use Rattle.std.specs.Prelude.{Bool, true, false, ◌||◌}
use Rattle.serde_json.specs.Data.{Num, unsigned, negative, float, Data, null, boolean, number, string, array, object, Items, no_items, item, Members}
use Rattle.serde_json.specs.Data.{no_members, member}

-- a number with a point, an exponent or a sign isn't a whole number from 0 to 2^64 - 1
abbrev pub is_not_u64 : Num → Bool
is_not_u64 (unsigned n) = false
is_not_u64 (negative z) = true
is_not_u64 (float x) = true

-- whether the tree contains a number that isn't a whole number from 0 to 2^64 - 1
abbrev mutual
  pub has_non_u64 : Data → Bool
  has_non_u64 null = false
  has_non_u64 (boolean b) = false
  has_non_u64 (number n) = is_not_u64 n
  has_non_u64 (string s) = false
  has_non_u64 (array ds) = items_have_non_u64 ds
  has_non_u64 (object ms) = members_have_non_u64 ms

  pub items_have_non_u64 : Items → Bool
  items_have_non_u64 no_items = false
  items_have_non_u64 (item d ds) = has_non_u64 d || items_have_non_u64 ds

  pub members_have_non_u64 : Members → Bool
  members_have_non_u64 no_members = false
  members_have_non_u64 (member k d ms) = has_non_u64 d || members_have_non_u64 ms
