-- The lines by the objects' numbers.
use Rattle.std.proofs.Common.{◌≡◌, ℕ, suc, ◌+◌, ◌<◌, ◌≤◌, cond, List, [], ◌∷◌, ◌++◌, Result, Ok, Err, OnOk, get_or, is_ok, length, map, take, Option, Some}
use Rattle.std.proofs.Common.{option_map, refl, sym, ap, ◌∙◌, arith}
use Rattle.std.specs.Prelude.{flat_map, slice_get}
use Rattle.std.specs.List.{enumerate_from}
use Rattle.std.proofs.lemmas.List.{flat_map_more, get_or_default, take_all, take_more}
use Rattle.std.proofs.lemmas.List.FromFn.{get_or-enumerate_from, length-enumerate_from}
use Rattle.std.proofs.lemmas.List.Concat.{flat_map-cons}
use Rattle.check_objects.specs.Configuration.{Configuration, NamedObject, name_of, objects_of}
use Rattle.check_saved_state.specs.Saved.{Saved, saved_by_name}
use Rattle.check_sched.proofs.EachObjectLaws.{name_is}
use Rattle.setup_summary.specs.declared.diffs.ObjectDiff.{ObjectDiff}
use Rattle.setup_summary.specs.Changes.{object_diff, object_diffs}
use Rattle.setup_summary.specs.ChangeText.{change_lines_among, change_lines, object_text}

abbrev kept_at : Configuration → Saved → ℕ × NamedObject → Option ObjectDiff
kept_at c saved p = option_map (object_diff c p.1.object) (saved_by_name saved p.1.name)

text_from : (c : Configuration) (saved : Saved) (k : ℕ) (os : List NamedObject) → ((i : ℕ) (o : NamedObject) → slice_get os i ≡ Some o → name_of c (k + i) ≡ o.name)
    → flat_map (λ (p : ℕ × Option ObjectDiff). object_text (name_of c p.0) p.1) (enumerate_from k (map (kept_at c saved) (enumerate_from k os)))
    ≡ flat_map (λ (n : NamedObject). object_text n.name (option_map (object_diff c n.object) (saved_by_name saved n.name))) os
text_from c saved k [] names = refl
text_from c saved k (o ∷ os) names =
    let none : k + 0 ≡ k = omega arith in
    let name : name_of c k ≡ o.name = ap (name_of c) (sym none) ∙ names 0 o refl in
    let rest = text_from c saved (k + 1) os (λ i p at. let next : k + 1 + i ≡ k + suc i = omega arith in ap (name_of c) next ∙ names (suc i) p at) in
    flat_map-cons (λ (p : ℕ × Option ObjectDiff). object_text (name_of c p.0) p.1) (k, kept_at c saved (k, o))
    (enumerate_from (k + 1) (map (kept_at c saved) (enumerate_from (k + 1) os)))
    ∙ (λ i. object_text (name i) (kept_at c saved (k, o)) ++ rest i)
    ∙ sym (flat_map-cons (λ (n : NamedObject). object_text n.name (option_map (object_diff c n.object) (saved_by_name saved n.name))) o os)

pub changed_is : (c : Configuration) (saved : Saved) → change_lines_among c (object_diffs c saved) ≡ change_lines c saved
changed_is c saved =
    text_from c saved 0 (objects_of c) (λ i o at. let start : 0 + i ≡ i = omega arith in ap (name_of c) start ∙ name_is c i o at)

-- one push appended the text that it got, or nothing if it failed
pub pushed_all : {T E : Type 0} (r : Result T E) (was now pushed text : List ℕ) → pushed ≡ text → now ≡ cond (is_ok r) (was ++ pushed) was
    → OnOk r (now ≡ was ++ text)
pushed_all (Ok x) was now pushed text same is = is ∙ ap (λ l. was ++ l) same
pushed_all (Err e) was now pushed text same is = tt

-- ---- one object more

pub text_more : (f : ℕ × Option ObjectDiff → List ℕ) (kept : List (Option ObjectDiff)) (n : ℕ) (x d : Option ObjectDiff) (start was more : List ℕ) → n < length kept
    → x ≡ get_or kept n d → more ≡ was ++ f (n, x) → was ≡ start ++ flat_map f (take n (enumerate_from 0 kept))
    → more ≡ start ++ flat_map f (take (n + 1) (enumerate_from 0 kept))
text_more f kept n x d start was more l e said before =
    let none : 0 + n ≡ n = omega arith in
    let long = length-enumerate_from 0 kept in
    let item : get_or (enumerate_from 0 kept) n (n, x) ≡ (n, x) =
    get_or-enumerate_from 0 kept n (n, x) l ∙ (λ i. (none i, (get_or_default kept n x d l ∙ sym e) i)) in
    let next : take (n + 1) (enumerate_from 0 kept) ≡ take n (enumerate_from 0 kept) ++ (n, x) ∷ [] =
    take_more (enumerate_from 0 kept) n (n, x) (omega (arith, l, long)) ∙ ap (λ p. take n (enumerate_from 0 kept) ++ p ∷ []) item in
    said ∙ ap (λ b. b ++ f (n, x)) before ∙ flat_map_more f start (take n (enumerate_from 0 kept)) (n, x) ∙ ap (λ ps. start ++ flat_map f ps) (sym next)

pub text_all : (f : ℕ × Option ObjectDiff → List ℕ) (kept : List (Option ObjectDiff)) (n : ℕ) (start all : List ℕ) → length kept ≤ n
    → all ≡ start ++ flat_map f (take n (enumerate_from 0 kept)) → all ≡ start ++ flat_map f (enumerate_from 0 kept)
text_all f kept n start all l said =
    let long = length-enumerate_from 0 kept in
    said ∙ ap (λ ps. start ++ flat_map f ps) (take_all n (enumerate_from 0 kept) (omega (arith, l, long)))
