-- What the closures of a caller compute.
--   Computes g p f   each call of f answers what p gives
--   Pick             which kept events a call takes, and where it tells each of them
--   Picks g h t f a  f answers which the pick t takes, and a where it tells each
use Rattle.std.specs.Prelude.{◌≡◌, Bool}
use Rattle.std.specs.Fn.{FnReturnsAt, Shared}
use Rattle.std.specs.Borrow.{Bor}
use Rattle.event.specs.declared.times.Time.{Time}
use Rattle.tables.specs.declared.elements.Kept.{Kept}

abbrev pub Computes : {F X Y : Type 0} → Shared F (Bor X × Unit {0}) Y → (X → Y) → F → Type 0
Computes {F} {X} {Y} g p f = (x : X) (y : Y) → FnReturnsAt g f x y → y ≡ p x

pub record Pick : Type 0 where
  pub passes : Kept → Bool
  pub told_at : Kept → Time

abbrev pub Picks : {F A : Type 0} → Shared F (Bor Kept × Unit {0}) Bool → Shared A (Bor Kept × Unit {0}) Time → Pick → F → A → Type 0
Picks g h t f a = Computes g t.passes f × Computes h t.told_at a
