-- Reading one record after the other.
use Rattle.std.proofs.Common.{◌≡◌, ℕ, zero, suc, ◌+◌, ◌<◌, ◌≤◌, min, true, cond, leb, List, [], ◌∷◌, ◌++◌, length, take, drop, set, is_ok, Ok, Err, Result, sym, refl, ap, ◌∙◌, ⊎_elim, append-nil, arith, ◌-◌, ◌*◌}
use native.Mathlib.Nat.{sub-zero}
use Rattle.std.proofs.lemmas.List.{append_assoc, drop_all, drop_at, drop_more, drop-set-lt, length-append, take_all, take_at, take-append-drop, take_more_set, drop-drop}
use Rattle.std.proofs.lemmas.Bool.{cases_lt, false≢true, cond-true, cond-false, le-leb, lt-leb}
use Rattle.event.specs.Fronts.{front}
use Rattle.event.specs.Numbers.Answer.{did, refused}
use Rattle.event.specs.declared.dispatches.Dispatch.{Dispatch}
use Rattle.event.specs.declared.faults.Defect.{Defect}
use Rattle.sink.specs.Reading.{followed, read_log, read_up_to, dispatches, pieces, verdict, placed, read_into}
use Rattle.sink.proofs.Growth.{rest_ok}
use Rattle.sink.specs.Records.{read_record}

up_to_suc : (m : ℕ) (bs : List ℕ) → read_up_to (suc m) bs ≡ followed (read_record (take 40 bs)) (read_up_to m (drop 40 bs))
unfolding read_up_to
up_to_suc m bs = refl

-- what is left to read of k records, from the n-th on
abbrev pub left : ℕ → ℕ → List ℕ → Result (List Dispatch) Defect
left k n bs = read_up_to (k - n) (drop (40 * n) bs)

pub left_all : (k : ℕ) (bs : List ℕ) → read_up_to k bs ≡ left k 0 bs
left_all k bs = ap (λ m. read_up_to m bs) (sym (sub-zero k))

pub left_none : (k n : ℕ) (bs : List ℕ) → k ≤ n → left k n bs ≡ Ok []
unfolding read_up_to
left_none k n bs h = let e : k - n ≡ 0 = omega arith in ap (λ m. read_up_to m (drop (40 * n) bs)) e

pub left_more : (k n : ℕ) (bs : List ℕ) → n < k → left k n bs ≡ followed (read_record (take 40 (drop (40 * n) bs))) (left k (n + 1) bs)
left_more k n bs h =
    let e : k - n ≡ suc (k - (n + 1)) = omega arith in
    let f : 40 * n + 40 ≡ 40 * (n + 1) = omega arith in
    ap (λ m. read_up_to m (drop (40 * n) bs)) e
    ∙ up_to_suc (k - (n + 1)) (drop (40 * n) bs)
    ∙ ap (λ cs. followed (read_record (take 40 (drop (40 * n) bs))) (read_up_to (k - (n + 1)) cs)) (drop-drop 40 (40 * n) bs ∙ ap (λ m. drop m bs) f)

none : (l : List ℕ) → length l ≡ 0 → l ≡ []
none [] e = refl
none (x ∷ l) e = absurd (omega arith)

-- the first piece of some bytes is their first 40 bytes, and the other pieces are those of the rest
module _ (xs x rest : List ℕ) (e : xs ≡ x ++ rest) (long : length x ≡ min 40 (length xs)) (some : 0 < length xs) where
  sum : length xs ≡ length x + length rest
  sum = ap length e ∙ length-append x rest

  parts : (take 40 xs ≡ x) × (drop 40 xs ≡ rest)
  parts =
      ⊎_elim
      (λ short.
      let last = none rest (omega (arith, long, sum)) in
      let whole : xs ≡ x = e ∙ ap (λ l. x ++ l) last ∙ append-nil x in
      (take_all 40 xs (omega arith) ∙ whole, drop_all 40 xs (omega arith) ∙ sym last))
      (λ full. let size : length x ≡ 40 = omega (arith, long) in (ap (take 40) e ∙ take_at x rest 40 size, ap (drop 40) e ∙ drop_at x rest 40 size))
      (cases_lt (length xs) 40)

  -- one piece fewer is left
  pub fewer : pieces xs ≡ suc (pieces rest)
  fewer = omega (arith, long, sum)

  pub read_next : read_log xs ≡ followed (read_record x) (read_log rest)
  read_next =
      ap (λ k. read_up_to k xs) fewer
      ∙ up_to_suc (pieces rest) xs
      ∙ (λ i. followed (read_record (parts.0 i)) (read_up_to (pieces rest) (parts.1 i)))

pub read_none : (xs : List ℕ) → length xs ≡ 0 → read_log xs ≡ Ok []
unfolding read_up_to
read_none xs e = ap read_log (none xs e)

-- a record that is read leaves the verdict to the rest
pub verdict_more : (r : Result Dispatch Defect) (d : Dispatch) (rs : Result (List Dispatch) Defect) → r ≡ Ok d → verdict (followed r rs) ≡ verdict rs
verdict_more r d (Ok ds) e = rw e refl
verdict_more r d (Err x) e = rw e refl

pub verdict_stop : (r : Result Dispatch Defect) (x : Defect) (rs : Result (List Dispatch) Defect) → r ≡ Err x → verdict (followed r rs) ≡ Err x
verdict_stop r x rs e = rw e refl

-- what a list comes to that holds n dispatches at its front and is to hold those that are left
abbrev pub filled : ℕ → List Dispatch → Result (List Dispatch) Defect → List Dispatch
filled n list rs = take n list ++ front (dispatches rs) (drop n list)

one_more : (list : List Dispatch) (n : ℕ) (d : Dispatch) (ds : List Dispatch) → n < length list → filled (n + 1) (set list n d) (Ok ds) ≡ filled n list (Ok (d ∷ ds))
one_more list n d ds h =
    let back : drop (n + 1) (set list n d) ≡ drop (n + 1) list = drop-set-lt (n + 1) list n d (omega arith) in
    let here : front (d ∷ ds) (drop n list) ≡ d ∷ front ds (drop (n + 1) list) = ap (front (d ∷ ds)) (drop_more list n d h) in
    ap (λ xs. xs ++ front ds (drop (n + 1) (set list n d))) (take_more_set list n d h)
    ∙ append_assoc (take n list) (d ∷ []) (front ds (drop (n + 1) (set list n d)))
    ∙ ap (λ xs. take n list ++ (d ∷ front ds xs)) back
    ∙ ap (λ xs. take n list ++ xs) (sym here)

pub filled_more : (list : List Dispatch) (n : ℕ) (r : Result Dispatch Defect) (d : Dispatch) (rs : Result (List Dispatch) Defect) → n < length list → r ≡ Ok d → is_ok (followed r rs) ≡ true → filled (n + 1) (set list n d) rs ≡ filled n list (followed r rs)
filled_more list n (Ok d') d (Ok ds) h e ok = let same : d' ≡ d = cc in rw same (one_more list n d ds h)
filled_more list n (Ok d') d (Err x) h e ok = absurd (false≢true ok)
filled_more list n (Err x) d rs h e ok = absurd (false≢true ok)

pub first_ok : (r : Result Dispatch Defect) (rs : Result (List Dispatch) Defect) → is_ok (followed r rs) ≡ true → is_ok r ≡ true
first_ok (Ok d) rs ok = refl
first_ok (Err x) rs ok = ok

pub filled_all : (list : List Dispatch) (n : ℕ) → list ≡ filled n list (Ok [])
filled_all list n = sym (take-append-drop n list)

longer : (m : ℕ) (r : Result Dispatch Defect) (rs : Result (List Dispatch) Defect) → is_ok (followed r rs) ≡ true → length (dispatches rs) ≡ m → length (dispatches (followed r rs)) ≡ suc m
longer m (Ok d) (Ok ds) ok e = ap suc e
longer m (Ok d) (Err x) ok e = absurd (false≢true ok)
longer m (Err x) rs ok e = absurd (false≢true ok)

-- as many dispatches as records
long : (k : ℕ) (bs : List ℕ) → is_ok (read_up_to k bs) ≡ true → length (dispatches (read_up_to k bs)) ≡ k
unfolding read_up_to
long zero bs ok = refl
long (suc k) bs ok =
    let first = read_record (take 40 bs) in let rest = read_up_to k (drop 40 bs) in
    longer k first rest ok (long k (drop 40 bs) (rest_ok first rest ok))

pub verdict_ok : (rs : Result (List Dispatch) Defect) → verdict rs ≡ Ok tt → is_ok rs ≡ true
verdict_ok (Ok ds) e = refl
verdict_ok (Err x) e = ap is_ok e

placed_at : (k : ℕ) (rs : Result (List Dispatch) Defect) (list : List Dispatch) → is_ok rs ≡ true → length (dispatches rs) ≡ k → placed rs list ≡ cond (leb k (length list)) (did k, front (dispatches rs) list) (refused 29, list)
placed_at k (Ok ds) list ok e = ap (λ n. cond (leb n (length list)) (did n, front ds list) (refused 29, list)) e
placed_at k (Err x) list ok e = absurd (false≢true ok)

-- reading into a list that is too short, and into one that is not
pub placed_not : (bs : List ℕ) (list : List Dispatch) → verdict (read_log bs) ≡ Ok tt → length list < pieces bs → (refused 29, list) ≡ read_into bs list
placed_not bs list e h =
    let ok = verdict_ok (read_log bs) e in
    sym (placed_at (pieces bs) (read_log bs) list ok (long (pieces bs) bs ok) ∙ cond-false _ _ _ (lt-leb (pieces bs) (length list) h))

pub placed_all : (bs : List ℕ) (list : List Dispatch) → verdict (read_log bs) ≡ Ok tt → pieces bs ≤ length list → (did (pieces bs), front (dispatches (read_log bs)) list) ≡ read_into bs list
placed_all bs list e h =
    let ok = verdict_ok (read_log bs) e in
    sym (placed_at (pieces bs) (read_log bs) list ok (long (pieces bs) bs ok) ∙ cond-true _ _ _ (le-leb (pieces bs) (length list) h))
