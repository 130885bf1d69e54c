-- What is answered of a value that was found.
use Rattle.std.proofs.Common.{◌≡◌, ℕ, Bool, true, false, cond, Some, None, arith}

pub answered : {R S : Type 0} (b : Bool) (r s : R) (f : R → S) (x z : S) → Some r ≡ cond b (Some s) None → x ≡ f r → x ≡ cond b (f s) z
answered true r s f x z found e = let same : r ≡ s = cc in cc
answered false r s f x z found e = let never : ◌≡◌ {A = ℕ} 0 1 = cc in absurd (omega arith)
