-- Writing to lent memory.
--   front xs buffer   xs stands at the front, and everything behind stays
use Rattle.std.specs.Prelude.{List, ◌++◌, length, drop}

abbrev pub front : {X : Type 0} → List X → List X → List X
front xs buffer = xs ++ drop (length xs) buffer
