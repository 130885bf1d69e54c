-- The line of a refusal.
--   refusals n a   the line of a refusal, with the number of its record, its own number and that of the fault that it carries;
--                  none where the answer is no refusal
use Rattle.std.specs.Prelude.{ℕ, List, [], ◌∷◌, Some, None}
use Rattle.event.specs.Numbers.{Answer, defect_number}
use Rattle.event.specs.Numbers.Answer.{did, refused, refused_with}
use Rattle.lines.specs.declared.lines.Line.{Line}
use Rattle.lines.specs.declared.lines.Line.TheVariants.{Refused}

abbrev pub refusals : {X : Type 0} → ℕ → Answer X → List Line
refusals n (did x) = []
refusals n (refused k) = Refused n k None ∷ []
refusals n (refused_with k f) = Refused n k (Some (defect_number f.defect)) ∷ []
