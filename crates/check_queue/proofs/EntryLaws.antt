-- Laws of the order of entries.
use Rattle.std.proofs.Common.{◌≡◌, true, arith, ◌∙◌}
use Rattle.std.proofs.lemmas.Bool.Decides.{nat_tests}
use Rattle.check_queue.specs.declared.entry.Entry.{Entry}
use Rattle.check_queue.specs.Entries.{IsNotBefore, is_entry_before}

pub one_way : (a b : Entry) → is_entry_before a b ≡ true → IsNotBefore b a
one_way a b h = record { is = grind (arith, nat_tests, h) }

pub no_later : (a b c : Entry) → IsNotBefore b a → IsNotBefore c b → IsNotBefore c a
no_later a b c h k = record { is = grind (arith, nat_tests, h.is, k.is) }

pub not_itself : (a : Entry) → IsNotBefore a a
not_itself a = record { is = grind (arith, nat_tests) }

-- the same of equal entries
pub by : (a b x y : Entry) → a ≡ x → b ≡ y → IsNotBefore x y → IsNotBefore a b
by a b x y p q h = record { is = (λ k. is_entry_before (p k) (q k)) ∙ h.is }
