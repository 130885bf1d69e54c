-- A log that grows by one record reads as one dispatch more.
use Rattle.std.proofs.Common.{◌≡◌, ℕ, zero, suc, ◌+◌, ◌*◌, ◌≤◌, true, List, [], ◌∷◌, ◌++◌, length, take, drop, is_ok, Ok, Err, Result, sym, refl, ap, ◌∙◌, arith}
use Rattle.std.proofs.lemmas.List.{take_all, take_at, take-append-le, drop-append-le, length-append, length-drop, length-take-le}
use Rattle.std.proofs.lemmas.Bool.{false≢true}
use Rattle.event.specs.Fronts.{front}
use Rattle.event.specs.declared.dispatches.Dispatch.{Dispatch}
use Rattle.event.specs.declared.faults.Defect.{Defect}
use Rattle.sink.specs.Readable.{used}
use Rattle.sink.specs.Reading.{pieces, followed, read_up_to, read_log, dispatches}
use Rattle.sink.specs.Records.{read_record}

pub rest_ok : (r : Result Dispatch Defect) (rs : Result (List Dispatch) Defect) → is_ok (followed r rs) ≡ true → is_ok rs ≡ true
rest_ok (Err e) rs ok = absurd (false≢true ok)
rest_ok (Ok d) (Err e) ok = ok
rest_ok (Ok d) (Ok ds) ok = refl

followed_more : (r : Result Dispatch Defect) (rs : Result (List Dispatch) Defect) (es : List Dispatch) → is_ok (followed r rs) ≡ true → followed r (Ok (dispatches rs ++ es)) ≡ Ok (dispatches (followed r rs) ++ es)
followed_more (Err e) rs es ok = absurd (false≢true ok)
followed_more (Ok d) (Err e) es ok = absurd (false≢true ok)
followed_more (Ok d) (Ok ds) es ok = refl

up_to_more : (n : ℕ) (bs cs : List ℕ) (d : Dispatch) → length bs ≡ 40 * n → is_ok (read_up_to n bs) ≡ true → length cs ≡ 40 → read_record cs ≡ Ok d → read_up_to (suc n) (bs ++ cs) ≡ Ok (dispatches (read_up_to n bs) ++ d ∷ [])
unfolding read_up_to
up_to_more zero [] cs d long ok whole read = ap (λ r. followed r (Ok [])) (ap read_record (take_all 40 cs (omega arith)) ∙ read)
up_to_more zero (b ∷ bs) cs d long ok whole read = absurd (omega arith)
up_to_more (suc n) bs cs d long ok whole read =
    let enough : 40 ≤ length bs = omega arith in
    let first = read_record (take 40 bs) in
    let left : length (drop 40 bs) ≡ 40 * n = omega (arith, length-drop 40 bs) in
    let ih = up_to_more n (drop 40 bs) cs d left (rest_ok first (read_up_to n (drop 40 bs)) ok) whole read in
    ap (λ x. followed (read_record x) (read_up_to (suc n) (drop 40 (bs ++ cs)))) (take-append-le 40 bs cs enough)
    ∙ ap (λ x. followed first (read_up_to (suc n) x)) (drop-append-le 40 bs cs enough)
    ∙ ap (followed first) ih
    ∙ followed_more first (read_up_to n (drop 40 bs)) (d ∷ []) ok

log_more : (n : ℕ) (bs cs : List ℕ) (d : Dispatch) → length bs ≡ 40 * n → is_ok (read_log bs) ≡ true → length cs ≡ 40 → read_record cs ≡ Ok d → read_log (bs ++ cs) ≡ Ok (dispatches (read_log bs) ++ d ∷ [])
log_more n bs cs d long ok whole read =
    let p : pieces bs ≡ n = omega arith in
    let q : pieces (bs ++ cs) ≡ suc n = omega (arith, length-append bs cs) in
    ap (λ k. read_up_to k (bs ++ cs)) q
    ∙ up_to_more n bs cs d long (ap (λ k. is_ok (read_up_to k bs)) (sym p) ∙ ok) whole read
    ∙ ap (λ k. Ok (dispatches (read_up_to k bs) ++ d ∷ [])) (sym p)

pub record Grown (xs ys : List ℕ) (n m : ℕ) (d : Dispatch) : Type 0 where
  pub long : length ys ≡ length xs
  pub fits : 40 * m ≤ length ys
  pub reads : read_log (used m ys) ≡ Ok (dispatches (read_log (used n xs)) ++ d ∷ [])

pub grown : (xs ys cs : List ℕ) (n m : ℕ) (d : Dispatch) → 40 * n + 40 ≤ length xs → is_ok (read_log (used n xs)) ≡ true → length cs ≡ 40 → read_record cs ≡ Ok d → ys ≡ front (used n xs ++ cs) xs → m ≡ n + 1 → Grown xs ys n m d
grown xs ys cs n m d room ok whole read is next =
    let was : length (used n xs) ≡ 40 * n = length-take-le (40 * n) xs (omega arith) in
    let size : length (used n xs ++ cs) ≡ 40 * m = omega (arith, length-append (used n xs) cs) in
    let rest = drop (length (used n xs ++ cs)) xs in
    let long : length ys ≡ length xs = ap length is ∙ omega (arith, length-append (used n xs ++ cs) rest, length-drop (length (used n xs ++ cs)) xs) in
    let written : used m ys ≡ used n xs ++ cs = ap (used m) is ∙ take_at (used n xs ++ cs) rest (40 * m) size in
    record { long = long; fits = omega arith; reads = ap read_log written ∙ log_more n (used n xs) cs d was ok whole read }
