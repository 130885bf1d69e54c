-- Each id of a stream at most once, over used ids and kept events together.
use Rattle.std.proofs.Common.{◌≡◌, ℕ, ◌+◌, ◌≤◌, Bool, false, cond, filter, ap, ◌∙◌, inl, inr, arith}
use Rattle.std.proofs.lemmas.Bool.{cases_Bool}
use Rattle.event.specs.declared.times.Time.{Time}
use Rattle.tables.specs.declared.elements.Kept.{Kept}
use Rattle.tables.specs.declared.elements.UsedId.{UsedId}
use Rattle.calls.specs.Draws.{known, marked}
use Rattle.tables.specs.Elements.{earlier, kept_as, used_as}
use Rattle.calls.specs.Plays.{moved}
use Rattle.calls.specs.State.{State}
use Rattle.tables.specs.Tables.{placed, without}
use Rattle.calls.proofs.Counting.{count, count_apart, marks_all, marks_one, none_known}
use Rattle.tables.proofs.Filtered.{count_placed}

-- each id of a stream stands at most once over used ids and kept events together
abbrev pub Single : State → Type 0
Single w = (s i : ℕ) → count (used_as s i) w.used + count (kept_as s i) w.kept ≤ 1

-- an event that is not known has one count more, of used ids or of kept events
module _ (w : State) (k : Kept) (new : known k w ≡ false) (single : Single w) (s i : ℕ) where
  pub one_used : count (used_as s i) (marked k w.used) + count (kept_as s i) w.kept ≤ 1
  one_used =
      let u : ℕ = count (used_as s i) w.used in
      elim (cases_Bool (kept_as s i k)) [
        | inl t ↦ omega (arith, marks_one s i k w.used ∙ ap (λ b. u + cond b 1 0) t, none_known s i k w new t)
        | inr f ↦ omega (arith, marks_one s i k w.used ∙ ap (λ b. u + cond b 1 0) f, single s i)
      ]

  pub one_kept : count (used_as s i) w.used + count (kept_as s i) (placed earlier k w.kept) ≤ 1
  one_kept =
      let n : ℕ = count (kept_as s i) w.kept in
      elim (cases_Bool (kept_as s i k)) [
        | inl t ↦ omega (arith, count_placed earlier (kept_as s i) k w.kept ∙ ap (λ b. n + cond b 1 0) t, none_known s i k w new t)
        | inr f ↦ omega (arith, count_placed earlier (kept_as s i) k w.kept ∙ ap (λ b. n + cond b 1 0) f, single s i)
      ]

-- told kept events are used, and no longer kept
pub single_moved : (t : Time) (p : Kept → Bool) (w : State) → Single w → Single (moved t p w)
single_moved t p w single s i = omega (arith, marks_all s i (filter p w.kept) w.used, count_apart (kept_as s i) p w.kept, single s i)

-- fewer kept, and fewer used
pub single_fewer : (p : Kept → Bool) (q : UsedId → Bool) (w : State) → Single w → (s i : ℕ) → count (used_as s i) (without q w.used) + count (kept_as s i) (without p w.kept) ≤ 1
single_fewer p q w single s i = omega (arith, count_apart (used_as s i) q w.used, count_apart (kept_as s i) p w.kept, single s i)

pub single_kept_fewer : (p : Kept → Bool) (w : State) → Single w → (s i : ℕ) → count (used_as s i) w.used + count (kept_as s i) (without p w.kept) ≤ 1
single_kept_fewer p w single s i = omega (arith, count_apart (kept_as s i) p w.kept, single s i)
