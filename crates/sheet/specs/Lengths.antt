-- Records of a sheet end within its bytes, so that each turn goes forward.
--   ev_long, es_long   an `EV` record has its 21 bytes and its message, an `ES` record 16 bytes at least, and neither is longer than the bytes that it is read from
--   goes_forward s     each turn over a sheet goes forward, within the bytes that are left
use Rattle.std.proofs.Common.{◌≡◌, ℕ, ◌+◌, ◌≤◌, ◌&&◌, eqb, leb, List, length, get_or, take, drop, Some, None, Ok, Err, Option, Result, refl, arith}
use Rattle.std.proofs.lemmas.List.{length-drop}
use Rattle.std.proofs.lemmas.Bool.{and_parts, cond_both, leb-true}
use Rattle.event.specs.declared.events.Event.{Event}
use Rattle.event.specs.declared.faults.Defect.{Defect}
use Rattle.event.specs.declared.faults.Defect.TheVariants.{Timescale}
use Rattle.event.specs.BigEndian.{num16}
use Rattle.media.specs.Readers.{fault}
use Rattle.media.specs.Timescales.{is_timescale}
use Rattle.media.specs.Walks.{Forward, Goes}
use Rattle.media.specs.declared.walks.Turn.TheVariants.{Clean, Broken, Passes}
use Rattle.catalogue.specs.Catalogues.{listed}
use Rattle.catalogue.specs.Pairs.{Stream, front, fronted, marked}
use Rattle.sheet.specs.SheetRecords.{Es, Ev, es_fields, es_record, ev_fields, ev_record, whole}
use Rattle.sheet.specs.SheetWalks.{ev_gives, ev_turn, read_turn, sheet_turn, turns}
use Rattle.sheet.specs.Sheets.{event_of, opened}
use Rattle.sheet.specs.declared.sheets.EventStream.{EventStream}
use Rattle.sheet.specs.declared.sheets.Sheet.{Sheet}

no_record : {X : Type 0} (x : X) (P : Type 0) → Some x ≡ None → P
no_record x P e = let z : ◌≡◌ {A = ℕ} 0 1 = cc in absurd (omega arith)

-- an `EV` record with its message
pub ev_long : (bs : List ℕ) (v : Ev) → Some v ≡ ev_record bs → 21 + v.size ≤ length bs
ev_long bs v =
    cond_both (marked 69 86 bs && leb 21 (length bs)) (ev_fields bs (whole (num16 bs 19) (drop 21 bs))) None (λ o. Some v ≡ o → 21 + v.size ≤ length bs)
    (λ m. cond_both (leb (num16 bs 19) (length (drop 21 bs))) (Some (take (num16 bs 19) (drop 21 bs))) None (λ o. Some v ≡ ev_fields bs o → 21 + v.size ≤ length bs)
    (λ h e. let s : v.size ≡ num16 bs 19 = cc in omega (arith, s, leb-true _ _ h, length-drop 21 bs, leb-true 21 (length bs) (and_parts (marked 69 86 bs) (leb 21 (length bs)) m).1))
    (λ h. no_record v (21 + v.size ≤ length bs)))
    (λ m. no_record v (21 + v.size ≤ length bs))

-- an `ES` record with its strings
pub es_long : (bs : List ℕ) (e : Es) → Some e ≡ es_record bs → (16 ≤ e.length) × (e.length ≤ length bs)
es_long bs e =
    cond_both (marked 69 83 bs && leb 16 (length bs)) (es_fields bs (fronted (get_or bs 14 0) (get_or bs 15 0) (drop 16 bs))) None (λ o. Some e ≡ o → (16 ≤ e.length) × (e.length ≤ length bs))
    (λ m. cond_both (leb (get_or bs 14 0 + get_or bs 15 0) (length (drop 16 bs))) (Some (front (get_or bs 14 0) (get_or bs 15 0) (drop 16 bs))) None (λ o. Some e ≡ es_fields bs o → (16 ≤ e.length) × (e.length ≤ length bs))
    (λ h q.
    let s : e.length ≡ 16 + get_or bs 14 0 + get_or bs 15 0 = cc in
    (omega (arith, s), omega (arith, s, leb-true _ _ h, length-drop 16 bs, leb-true 16 (length bs) (and_parts (marked 69 83 bs) (leb 16 (length bs)) m).1)))
    (λ h. no_record e ((16 ≤ e.length) × (e.length ≤ length bs))))
    (λ m. no_record e ((16 ≤ e.length) × (e.length ≤ length bs)))

gives_forward : (g : EventStream) (at : ℕ) (v : Ev) (n : ℕ) (r : Result Event Defect) → 21 + v.size ≤ n → Goes n (ev_gives g at v r)
gives_forward g at v n (Ok e) h = (omega arith, h)
gives_forward g at v n (Err d) h = tt

ev_forward : (s : Option EventStream) (at m : ℕ) (v : Ev) (n : ℕ) → 21 + v.size ≤ n → Goes n (ev_turn s at m v)
ev_forward None at m v n h = tt
ev_forward (Some g) at m v n h = gives_forward g at v n (event_of g m v) h

read_forward : (ts : List Stream) (s : Option EventStream) (at n : ℕ) (o : Option Es) (q : Option Ev) → ((e : Es) → Some e ≡ o → (16 ≤ e.length) × (e.length ≤ n)) → ((v : Ev) → Some v ≡ q → 21 + v.size ≤ n) → Goes n (read_turn ts s at o q)
read_forward ts s at n (Some e) q h k =
    let l = h e refl in
    cond_both (is_timescale e.timescale) (Passes (Some (opened ts e)) e.length) (Broken (fault at Timescale)) (Goes n) (λ _. (omega arith, l.1)) (λ _. tt)
read_forward ts s at n None (Some v) h k = ev_forward s at (at + 21) v n (k v refl)
read_forward ts s at n None None h k = tt

pub sheet_forward : (ts : List Stream) → Forward (sheet_turn ts)
sheet_forward ts s at bs =
    cond_both (eqb (length bs) 0) Clean (read_turn ts s at (es_record bs) (ev_record bs)) (Goes (length bs)) (λ _. tt) (λ _. read_forward ts s at (length bs) (es_record bs) (ev_record bs) (es_long bs) (ev_long bs))

pub goes_forward : (s : Sheet) → Forward (turns s)
goes_forward s = sheet_forward (listed s.catalogue.now)
