-- A time is known by its milliseconds.
use Rattle.std.proofs.Common.{◌≡◌, ℕ, ◌≤◌, cond, leb, Some, None, ap, ◌∙◌, inl, inr, arith, ◌<◌}
use Rattle.std.proofs.lemmas.Bool.{cases_Bool, leb-true, leb-false}
use mathlib.Core.HLevel.{is_prop→PathP}
use native.Mathlib.Bridge.{le_prop}
use Rattle.event.specs.Times.{latest, time}
use Rattle.event.specs.declared.times.Time.{Time}

pub known_by_ms : (s t : Time) → s.ms ≡ t.ms → s ≡ t
known_by_ms s t e = λ i. record {
  ms = e i;
  bounded = is_prop→PathP (λ j. e j ≤ 4000000000000) (λ j. le_prop {n = e j} {m = 4000000000000}) s.bounded t.bounded i;
}

-- within the latest time, `time` gives back the milliseconds
pub ms_time : (n : ℕ) → n ≤ latest → (time n).ms ≡ n
ms_time n h = omega arith

pub time_of : (t : Time) (n : ℕ) → n ≤ latest → t.ms ≡ n → t ≡ time n
time_of t n h e = let k : t.ms ≡ (time n).ms = omega arith in known_by_ms t (time n) k

pub time_ms : (t : Time) → time t.ms ≡ t
time_ms t = let b = t.bounded in let k : (time t.ms).ms ≡ t.ms = omega arith in known_by_ms (time t.ms) t k

-- what a time that was made tells of its milliseconds
pub made_some : (n : ℕ) (t : Time) → Some t ≡ cond (leb n latest) (Some (time n)) None → (n ≤ latest) × (t.ms ≡ n)
made_some n t e =
    elim (cases_Bool (leb n latest)) [
      | inl y ↦
          let l : n ≤ latest = leb-true n latest y in
          let s : Some t ≡ Some (time n) = rw y at e in
          let q : t ≡ time n = cc in
          (l, ap (λ u. u.ms) q ∙ ms_time n l)
      | inr f ↦
          let s : Some t ≡ None = rw f at e in
          let z : ◌≡◌ {A = ℕ} 0 1 = cc in
          absurd (omega arith)
    ]

pub made_none : (n : ℕ) → None ≡ cond (leb n latest) (Some (time n)) None → latest < n
made_none n e =
    elim (cases_Bool (leb n latest)) [
      | inl y ↦
          let s : None ≡ Some (time n) = rw y at e in
          let z : ◌≡◌ {A = ℕ} 0 1 = cc in
          absurd (omega arith)
      | inr f ↦ leb-false n latest f
    ]
