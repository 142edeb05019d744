-- A text that grows at its end still has what it had in it.
use Rattle.std.proofs.Common.{◌≡◌, ℕ, zero, suc, ◌+◌, ◌<◌, List, [], ◌∷◌, ◌++◌, length, get_or, map, take, sym, ap, ◌∙◌, subst, append_assoc, append-nil, arith}
use Rattle.std.proofs.Math.Numerals.{suc-eq-add-one}
use Rattle.json.specs.Print.{quoted}
use Rattle.setup_model.specs.declared.member.Kind.{Kind}
use Rattle.setup_model.specs.declared.member.Kind.TheVariants as kind
use Rattle.setup_model.specs.declared.member.Member.{Member}
use Rattle.setup_model.specs.Member.{Row, as_row}
use Rattle.setup_diagnostics.specs.Schema.{inner_members, ContainsText, EndsWith, NamesAll, NamesEach, NamesInner}
use Rattle.setup_diagnostics.specs.Shapes.{BeginsWith}

pub begins_itself : (a : List ℕ) → BeginsWith a a
begins_itself a = record { rest = []; is = sym (append-nil a) }

pub begins_by : (a b x : List ℕ) → b ≡ a ++ x → BeginsWith a b
begins_by a b x is = record { rest = x; is = is }

pub begins_then : (a b c : List ℕ) → BeginsWith a b → BeginsWith b c → BeginsWith a c
begins_then a b c f g = record { rest = f.rest ++ g.rest; is = g.is ∙ (ap (λ t. t ++ g.rest) f.is ∙ append_assoc a f.rest g.rest) }

pub has_last : (p a b : List ℕ) → b ≡ a ++ p → ContainsText p b
has_last p a b is = record { before = a; after = []; is = is ∙ ap (λ t. a ++ t) (sym (append-nil p)) }

pub has_then : (p a b : List ℕ) → ContainsText p a → BeginsWith a b → ContainsText p b
has_then p a b h g = record {
  before = h.before;
  after = h.after ++ g.rest;
  is = g.is ∙ (ap (λ t. t ++ g.rest) h.is ∙ (append_assoc h.before (p ++ h.after) g.rest ∙ ap (λ t. h.before ++ t) (append_assoc p h.after g.rest)));
}

-- digits after the name of a member
pub has_number : (name digits mid new : List ℕ) → EndsWith name mid → new ≡ mid ++ digits → ContainsText (name ++ digits) new
has_number name digits mid new e f = record {
  before = e.before;
  after = [];
  is = f ∙ (ap (λ t. t ++ digits) e.is ∙ (append_assoc e.before name digits ∙ ap (λ t. e.before ++ t) (sym (append-nil (name ++ digits)))));
}

pub each_then : (ms : List Row) (a b : List ℕ) → NamesEach ms a → BeginsWith a b → NamesEach ms b
each_then [] a b h g = tt
each_then (m ∷ ms) a b h g = (has_then (quoted m.name) a b h.0 g, each_then ms a b h.1 g)

pub inner_then : (k : Kind) (a b : List ℕ) → NamesInner k a → BeginsWith a b → NamesInner k b
inner_then (kind.Part p) a b h g = each_then (inner_members p) a b h g
inner_then kind.Text a b h g = tt
inner_then kind.Texts a b h g = tt
inner_then kind.Switch a b h g = tt
inner_then (kind.Number low high) a b h g = tt
inner_then kind.Delay a b h g = tt
inner_then kind.Factor a b h g = tt
inner_then kind.ServiceLetters a b h g = tt
inner_then kind.HostLetters a b h g = tt

pub all_then : (ms : List Row) (a b : List ℕ) → NamesAll ms a → BeginsWith a b → NamesAll ms b
all_then [] a b h g = tt
all_then (m ∷ ms) a b h g = (has_then (quoted m.name) a b h.0 g, inner_then m.kind a b h.1 g, all_then ms a b h.2 g)

-- one member more of those that are named
each_by : (ms : List Member) (i : ℕ) (d : Member) (text : List ℕ) → i < length ms → NamesEach (map as_row (take i ms)) text
    → ContainsText (quoted (get_or ms i d).name.now) text → NamesEach (map as_row (take (suc i) ms)) text
each_by [] i d text within named has = absurd (omega (arith, within))
each_by (x ∷ ms) zero d text within named has = (has, tt)
each_by (x ∷ ms) (suc i) d text within named has = (named.0, each_by ms i d text (omega (arith, within)) named.1 has)

pub each_more : (ms : List Member) (i : ℕ) (d : Member) (text : List ℕ) → i < length ms → NamesEach (map as_row (take i ms)) text
    → ContainsText (quoted (get_or ms i d).name.now) text → NamesEach (map as_row (take (i + 1) ms)) text
each_more ms i d text within named has = subst (λ n. NamesEach (map as_row (take n ms)) text) (suc-eq-add-one i) (each_by ms i d text within named has)

all_by : (ms : List Member) (i : ℕ) (d : Member) (text : List ℕ) → i < length ms → NamesAll (map as_row (take i ms)) text
    → ContainsText (quoted (get_or ms i d).name.now) text → NamesInner (get_or ms i d).kind text → NamesAll (map as_row (take (suc i) ms)) text
all_by [] i d text within named has inner = absurd (omega (arith, within))
all_by (x ∷ ms) zero d text within named has inner = (has, inner, tt)
all_by (x ∷ ms) (suc i) d text within named has inner = (named.0, named.1, all_by ms i d text (omega (arith, within)) named.2 has inner)

pub all_more : (ms : List Member) (i : ℕ) (d : Member) (text : List ℕ) → i < length ms → NamesAll (map as_row (take i ms)) text
    → ContainsText (quoted (get_or ms i d).name.now) text → NamesInner (get_or ms i d).kind text → NamesAll (map as_row (take (i + 1) ms)) text
all_more ms i d text within named has inner =
    subst (λ n. NamesAll (map as_row (take n ms)) text) (suc-eq-add-one i) (all_by ms i d text within named has inner)
