-- Reading a byte log: one record after the other.
--   pieces bs         how many records bytes hold, with a last one that may be cut
--   followed r rs     the dispatch r and then those of rs, or the first defect
--   read_up_to n bs   the dispatches of the first n records
--   read_log bs       the dispatches of all records, or what is wrong with the first that cannot be read
--   dispatches r      the dispatches that were read; none where a record cannot be read
--   placed r ds       what was read, put into a lent list
--   verdict r         that all records can be read, or the first defect
--   read_into bs ds   reading bytes into a lent list: the number read, which then stand at its front; a refusal leaves it
use Rattle.std.specs.Prelude.{ℕ, zero, suc, ◌+◌, ◌/◌, cond, List, [], ◌∷◌, length, take, drop, Ok, Err, Result, nat_le}
use Rattle.event.specs.Fronts.{front}
use Rattle.event.specs.Numbers.{Answer, defect_number}
use Rattle.event.specs.Numbers.Answer.{did, refused}
use Rattle.event.specs.declared.dispatches.Dispatch.{Dispatch}
use Rattle.event.specs.declared.faults.Defect.{Defect}
use Rattle.sink.specs.Records.{read_record}

abbrev pub pieces : List ℕ → ℕ
pieces bs = (length bs + 39) / 40

abbrev pub followed : Result Dispatch Defect → Result (List Dispatch) Defect → Result (List Dispatch) Defect
followed (Err e) rs = Err e
followed (Ok d) (Err e) = Err e
followed (Ok d) (Ok ds) = Ok (d ∷ ds)

unfoldable pub read_up_to : ℕ → List ℕ → Result (List Dispatch) Defect
read_up_to zero bs = Ok []
read_up_to (suc n) bs = followed (read_record (take 40 bs)) (read_up_to n (drop 40 bs))

abbrev pub read_log : List ℕ → Result (List Dispatch) Defect
read_log bs = read_up_to (pieces bs) bs

abbrev pub dispatches : Result (List Dispatch) Defect → List Dispatch
dispatches (Ok ds) = ds
dispatches (Err e) = []

abbrev pub verdict : Result (List Dispatch) Defect → Result (Unit {0}) Defect
verdict (Ok ds) = Ok tt
verdict (Err e) = Err e

abbrev pub placed : Result (List Dispatch) Defect → List Dispatch → Answer ℕ × List Dispatch
placed (Err e) list = (refused (defect_number e), list)
placed (Ok ds) list = cond (nat_le (length ds) (length list)) (did (length ds), front ds list) (refused 29, list)

abbrev pub read_into : List ℕ → List Dispatch → Answer ℕ × List Dispatch
read_into bs list = placed (read_log bs) list
