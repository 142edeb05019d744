-- What a member of each kind is read as.
use Rattle.std.specs.Prelude.{◌≡◌, Some}
use Rattle.serde_json.specs.Data.{Data}
use Rattle.serde_json.specs.Find.{as_bool, as_str}
use Rattle.setup_model.specs.declared.member.Kind.{Kind}
use Rattle.setup_model.specs.declared.member.Kind.TheVariants as kind
use Rattle.setup_model.specs.Member.{Row}
use Rattle.setup_reader.specs.JsonTree.{number_at, switch_at, text_at, texts_at, texts_in, whole_number}
use Rattle.setup_reader.specs.Reading.{delay_at, factor_at}
use Rattle.setup_reader.specs.Values.{delay_method, interleave_factor}

-- what the reader of this kind gives for a member of an object is the member's value; parts of the document are read item by item
abbrev pub IsReadAs : Kind → Row → Data → Data → Type 0
IsReadAs (kind.Part p) m d value = Unit {0}
IsReadAs kind.Text m d value = as_str value ≡ Some (text_at m.name d)
IsReadAs kind.Texts m d value = texts_in value ≡ Some (texts_at m.name d)
IsReadAs kind.Switch m d value = as_bool value ≡ Some (switch_at m (Some d))
IsReadAs (kind.Number low high) m d value = whole_number value ≡ Some (number_at m (Some d))
IsReadAs kind.Delay m d value = delay_method value ≡ Some (delay_at m (Some d))
IsReadAs kind.Factor m d value = interleave_factor value ≡ Some (factor_at m (Some d))
IsReadAs kind.ServiceLetters m d value = as_str value ≡ Some (text_at m.name d)
IsReadAs kind.HostLetters m d value = as_str value ≡ Some (text_at m.name d)
