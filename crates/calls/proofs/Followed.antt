-- What is told of a stream while it stays followed on start.
use Rattle.std.proofs.Common.{◌≡◌, ℕ, ◌+◌, ◌<◌, ◌≤◌, Bool, true, false, cond, not, eqb, ltb, leb, List, [], ◌∷◌, ◌++◌, map, length, get_or, drop, set, filter, sym, refl, ap, ◌∙◌, subst, inl, inr, arith}
use Rattle.std.specs.List.{AllByRecursion}
use Rattle.std.proofs.lemmas.List.Elements.{filter-append}
use Rattle.std.proofs.ByRecursion.{All-append}
use Rattle.std.proofs.lemmas.List.{append_assoc, append-nil, drop_at, get_or-set_other, get_or-set_same, length-append}
use Rattle.std.proofs.lemmas.Bool.{and_parts, both_ways, cases_Bool, leb-false, lt-ltb, ne_eqb, not-true, false≢true}
use Rattle.std.proofs.lemmas.Bool.Decides.{nat_tests}
use Rattle.event.specs.declared.dispatches.Dispatch.{Dispatch}
use Rattle.event.specs.declared.modes.Mode.{Mode}
use Rattle.event.specs.declared.modes.Mode.TheVariants.{Off, OnReceive, OnStart}
use Rattle.event.specs.declared.modes.Trigger.TheVariants.{Receive, Start}
use Rattle.event.specs.declared.times.Time.{Time}
use Rattle.tables.specs.declared.elements.Kept.{Kept}
use Rattle.tables.specs.declared.elements.UsedId.{UsedId}
use Rattle.tables.specs.Elements.{active_at, dispatched, kept_as, kept_of, used_as}
use Rattle.calls.specs.Follows.{in_mode, is_off, mode_of}
use Rattle.tables.specs.Picks.{used_in}
use Rattle.calls.specs.Once.{Once, OnceWhileFollowed, leaves_it, since, stays_followed, tells_id, tells_of, WhileActive}
use Rattle.calls.specs.Plays.{told_by}
use Rattle.calls.specs.Runs.{Call, New, World, after, does, done, runs}
use Rattle.calls.specs.Runs.CallOn.{follow}
use Rattle.calls.specs.State.{State}
use Rattle.calls.proofs.Counting.{count, count_unhurt, marks_all, marks_one, tells_all}
use Rattle.calls.proofs.Lasting.{Moded, Steady, moded_new, moded_runs, steady_after, steady_new, steady_runs}
use Rattle.calls.proofs.Outcomes.{Way, way}
use Rattle.calls.proofs.Outcomes.Way.{stays, tells_at_once, tells_now_lem, keeps_it, moves, follows_it, leaves_it_lem, evicts_some}

-- since `base` was told, the stream stayed followed on start: each id that was told is used, and each event was told while active
record Watched (s : ℕ) (base : List Dispatch) (w : World) : Type 0 where
  mode : mode_of w.player s ≡ OnStart
  news : List Dispatch
  told : w.sink.told ≡ base ++ news
  used : (i : ℕ) → count (tells_id s i) news ≤ count (used_as s i) w.player.used
  active : AllByRecursion WhileActive (filter (tells_of s) news)

count_append : {X : Type 0} (p : X → Bool) (xs ys : List X) → count p (xs ++ ys) ≡ count p xs + count p ys
count_append p xs ys = ap length (filter-append p xs ys) ∙ length-append (filter p xs) (filter p ys)

-- more was told
module _ (s : ℕ) (base : List Dispatch) (w v : World) (so_far : Watched s base w) (ds : List Dispatch)
    (same-mode : mode_of v.player s ≡ mode_of w.player s) (Tells-more : v.sink.told ≡ w.sink.told ++ ds)
    (marks-more : (i : ℕ) → count (used_as s i) w.player.used + count (tells_id s i) ds ≤ count (used_as s i) v.player.used)
    (on : AllByRecursion WhileActive (filter (tells_of s) ds)) where
  watched_more : Watched s base v
  watched_more = record {
    mode = same-mode ∙ so_far.mode;
    news = so_far.news ++ ds;
    told = Tells-more ∙ ap (λ l. l ++ ds) so_far.told ∙ append_assoc base so_far.news ds;
    used = λ i. omega (arith, count_append (tells_id s i) so_far.news ds, so_far.used i, marks-more i);
    active = subst (AllByRecursion WhileActive) (sym (filter-append (tells_of s) so_far.news ds)) (All-append WhileActive (filter (tells_of s) so_far.news) (filter (tells_of s) ds) so_far.active on);
  }

-- nothing more was told
watched_same : (s : ℕ) (base : List Dispatch) (w v : World) → Watched s base w → mode_of v.player s ≡ mode_of w.player s → v.sink.told ≡ w.sink.told →
    ((i : ℕ) → count (used_as s i) w.player.used ≤ count (used_as s i) v.player.used) → Watched s base v
watched_same s base w v so_far m t u = record {
  mode = m ∙ so_far.mode;
  news = so_far.news;
  told = t ∙ so_far.told;
  used = λ i. omega (arith, so_far.used i, u i);
  active = so_far.active;
}

-- a dispatch of the stream is of an event of it
of_id : (s i : ℕ) (d : Dispatch) → tells_of s d ≡ false → count (tells_id s i) (d ∷ []) ≡ 0
of_id s i d e = elim (cases_Bool (tells_id s i d)) [ inl t ↦ absurd (both_ways (tells_of s d) e (and_parts _ (eqb d.stream s) t).1) | inr f ↦ rw f ]

one_active : (s : ℕ) (d : Dispatch) → WhileActive d → AllByRecursion WhileActive (filter (tells_of s) (d ∷ []))
one_active s d e = elim (cases_Bool (tells_of s d)) [ inl t ↦ rw t (e, tt) | inr f ↦ rw f tt ]

none_active_lem : (s : ℕ) (d : Dispatch) → tells_of s d ≡ false → AllByRecursion WhileActive (filter (tells_of s) (d ∷ []))
none_active_lem s d e = rw e tt

all_active : (s : ℕ) (p : Kept → Bool) (f : Kept → Time) → ((k : Kept) → p k ≡ true → active_at (f k).ms k ≡ true) → (ks : List Kept) → AllByRecursion WhileActive (filter (tells_of s) (map (told_by f) (filter p ks)))
all_active s p f on [] = tt
all_active s p f on (k ∷ ks) =
    let ih = all_active s p f on ks in
    elim (cases_Bool (p k)) [
      | inl t ↦ rw t (elim (cases_Bool (tells_of s (told_by f k))) [ inl a ↦ rw a (on k t, ih) | inr a ↦ rw a ih ])
      | inr e ↦ rw e ih
    ]

one_told : (s i : ℕ) (t : Time) (k : Kept) → count (tells_id s i) (dispatched t Start k ∷ []) ≡ cond (kept_as s i k) 1 0
one_told s i t k = elim (cases_Bool (kept_as s i k)) [ inl a ↦ rw a | inr a ↦ rw a ]

-- another stream's mode is set
mode_other : (w : State) (s r : ℕ) (m : Mode) → (s ≡ r → ⊥) → mode_of (in_mode r m w) s ≡ mode_of w s
mode_other w s r m apart = ap (λ x. cond (ltb s w.streams) x Off) (get_or-set_other w.modes r s m Off apart)

modes_apart : (a b : Mode) → a ≡ OnStart → b ≡ OnReceive → a ≡ b → ⊥
modes_apart a b p q e = let z : ◌≡◌ {A = ℕ} 0 1 = cc in omega arith

off_apart : (a b : Mode) → a ≡ OnStart → is_off b ≡ true → a ≡ b → ⊥
off_apart a b p q e = let f : is_off OnStart ≡ true = subst (λ x. is_off x ≡ true) (sym e ∙ p) q in false≢true f

named_apart : (s i r : ℕ) (n : UsedId) → (s ≡ r → ⊥) → used_as s i n ≡ true → used_in r n ≡ false
named_apart s i r n apart e = grind (arith, nat_tests)

watched_way : (s : ℕ) (base : List Dispatch) {w v : World} {c : Call} → leaves_it s c w ≡ false → Watched s base w → Way w c v → Watched s base v
watched_way s base stay h stays = h
watched_way s base {w} {v} stay h (tells_at_once r e is) =
    let apart : r ≡ s → ⊥ = λ q. modes_apart (mode_of w.player s) (mode_of w.player r) h.mode is (ap (mode_of w.player) (sym q)) in
    let d : Dispatch = dispatched w.player.playhead Receive (kept_of r e) in
    let other : tells_of s d ≡ false = ne_eqb r s apart in
    watched_more s base w v h (d ∷ []) refl refl (λ i. omega (arith, of_id s i d other)) (none_active_lem s d other)
watched_way s base {w} {v} stay h (tells_now_lem k new on) =
    let d : Dispatch = dispatched w.player.playhead Start k in
    watched_more s base w v h (d ∷ []) refl refl (λ i. omega (arith, marks_one s i k w.player.used, one_told s i w.player.playhead k)) (one_active s d on)
watched_way s base {w} {v} stay h (keeps_it k new off) = watched_same s base w v h refl refl (λ i. omega arith)
watched_way s base {w} {v} stay h (moves t p f on left) =
    let ks : List Kept = filter p w.player.kept in
    watched_more s base w v h (map (told_by f) ks) refl refl (λ i. omega (arith, marks_all s i ks w.player.used, tells_all s i f ks)) (all_active s p f on w.player.kept)
watched_way s base {w} {v} stay h (follows_it r m off) =
    let apart : s ≡ r → ⊥ = λ q. off_apart (mode_of w.player s) (mode_of w.player r) h.mode off (ap (mode_of w.player) q) in
    watched_same s base w v h (mode_other w.player s r m apart) refl (λ i. omega arith)
watched_way s base {w} {v} {c} stay h (leaves_it_lem r ends) =
    let apart : s ≡ r → ⊥ = λ q. both_ways (leaves_it r c w) (subst (λ x. leaves_it x c w ≡ false) q stay) ends in
    watched_same s base w v h (mode_other w.player s r Off apart) refl (λ i. omega (arith, count_unhurt (used_as s i) (used_in r) w.player.used (λ n e. named_apart s i r n apart e)))
watched_way s base {w} {v} stay h (evicts_some a b) = watched_same s base w v h refl refl (λ i. omega arith)

watched_runs : (s : ℕ) (base : List Dispatch) (cs : List Call) (w : World) → stays_followed s cs w ≡ true → Watched s base w → Watched s base (runs cs w)
watched_runs s base [] w stay h = h
watched_runs s base (c ∷ cs) w stay h =
    let parts = and_parts (not (leaves_it s c w)) (stays_followed s cs (after c w)) stay in
    watched_runs s base cs (after c w) parts.1 (watched_way s base (not-true (leaves_it s c w) parts.0) h (way c w))

-- a follow that is not refused sets the mode
followed_on : (s : ℕ) (w : World) → Moded w → done (does (follow s OnStart) w).0 ≡ true → Watched s w.sink.told (after (follow s OnStart) w)
followed_on s w moded accepted =
    elim (cases_Bool (leb w.player.streams s)) [
      | inl e ↦ let no : false ≡ true = rw e at accepted in absurd (false≢true no)
      | inr e ↦ elim (cases_Bool (is_off (mode_of w.player s))) [
        | inl f ↦
            let below : s < w.player.streams = leb-false w.player.streams s e in
            let now_on : mode_of (in_mode s OnStart w.player) s ≡ OnStart =
            ap (λ b. cond b (get_or (set w.player.modes s OnStart) s Off) Off) (lt-ltb s w.player.streams below) ∙ get_or-set_same w.player.modes s OnStart Off (omega arith) in
            rw (e, f) (record { mode = now_on; news = []; told = sym (append-nil w.sink.told); used = λ i. omega arith; active = tt })
        | inr f ↦ let no : false ≡ true = rw (e, f) at accepted in absurd (false≢true no)
      ]
    ]

-- what is used is used once
once : (s : ℕ) (w v : World) → Watched s w.sink.told v → Steady v → Once s (since w v)
once s w v h steady =
    let is : h.news ≡ since w v = sym (ap (drop (length w.sink.told)) h.told ∙ drop_at w.sink.told h.news (length w.sink.told) refl) in
    subst (Once s) is (record { once = λ i. omega (arith, h.used i, steady.single s i); active = h.active })

pub told_once : (n k m f : ℕ) (w : World) → New n k m f w → OnceWhileFollowed w
told_once n k m f w h before s during accepted stay =
    let start : World = runs before w in
    let on : World = after (follow s OnStart) start in
    let moded = moded_runs before w (moded_new n k m f w h) in
    let steady = steady_runs during on (steady_after (follow s OnStart) start (steady_runs before w (steady_new n k m f w h))) in
    once s start (runs during on) (watched_runs s start.sink.told during on stay (followed_on s start moded accepted)) steady
