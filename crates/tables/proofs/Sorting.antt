-- The orders of kept events and of used ids.
use Rattle.std.proofs.Common.{◌≡◌, true, false, cond, List, Less, Equal, Greater, arith}
use Rattle.std.specs.Ordering.{nat_cmp, ordering_then}
use Rattle.std.proofs.lemmas.Bool.Decides.{nat_tests}
use Rattle.tables.specs.declared.elements.Kept.{Kept}
use Rattle.tables.specs.declared.elements.UsedId.{UsedId}
use Rattle.tables.specs.Elements.{earlier, id_before}
use Rattle.tables.specs.Tables.{placed, sorted}
use Rattle.tables.proofs.InOrder.{placed_sorted}

pub earlier_opposite : (x y : Kept) → earlier x y ≡ true → earlier y x ≡ false
earlier_opposite x y h = grind (arith, nat_tests)

pub earlier_further : (x y z : Kept) → earlier x y ≡ true → earlier z y ≡ false → earlier x z ≡ true
earlier_further x y z h k = grind (arith, nat_tests)

pub id_opposite : (x y : UsedId) → id_before x y ≡ true → id_before y x ≡ false
id_opposite x y h = grind (arith, nat_tests)

pub id_further : (x y z : UsedId) → id_before x y ≡ true → id_before z y ≡ false → id_before x z ≡ true
id_further x y z h k = grind (arith, nat_tests)

pub kept_placed_sorted : (k : Kept) (ks : List Kept) → sorted earlier ks ≡ true → sorted earlier (placed earlier k ks) ≡ true
kept_placed_sorted k ks h = placed_sorted earlier earlier_opposite earlier_further k ks h

pub id_placed_sorted : (n : UsedId) (u : List UsedId) → sorted id_before u ≡ true → sorted id_before (placed id_before n u) ≡ true
id_placed_sorted n u h = placed_sorted id_before id_opposite id_further n u h

-- the derived order of used ids is this one
pub id_order : (n y : UsedId) → ordering_then (nat_cmp y.stream n.stream) (nat_cmp y.id n.id) ≡ cond (id_before y n) Less (cond (id_before n y) Greater Equal)
id_order n y = grind (arith, nat_tests)
