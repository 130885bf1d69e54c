-- What a sound player's tables give.
use Rattle.std.proofs.Common.{◌≡◌, ℕ, ◌+◌, ◌-◌, ◌≤◌, Bool, true, false, cond, List, [], ◌∷◌, length, filter, refl, ap, ◌∙◌, arith}
use Rattle.std.proofs.lemmas.List.{length-take-le}
use Rattle.std.proofs.lemmas.List.Filters.{length-filter_both}
use Rattle.std.proofs.lemmas.Bool.{not-true}
use mir.Val.{bool_byte}
use Rattle.tables.specs.declared.elements.Kept.{Kept}
use Rattle.tables.specs.declared.elements.UsedId.{UsedId}
use Rattle.player.specs.declared.players.Head.{Head}
use Rattle.player.specs.declared.players.Player.{Player}
use Rattle.player.specs.declared.rows.Rows.{Rows}
use Rattle.calls.specs.Draws.{known, marked, no_id_place}
use Rattle.tables.specs.Elements.{active_at, earlier, has_id, kept_as, used_as}
use Rattle.calls.specs.Plays.{marked_all}
use Rattle.player.specs.Rows.{items}
use Rattle.player.specs.Sound.{Sound}
use Rattle.player.specs.Players.{state}
use Rattle.calls.specs.State.{ids}
use Rattle.tables.specs.Tables.{fails, none, placed, without}
use Rattle.event.specs.declared.times.Time.{Time}
use Rattle.calls.proofs.Counting.{count_apart, none_of}
use Rattle.calls.proofs.Drawing.{id_room}
use Rattle.tables.proofs.InOrder.{length_placed, none_placed}
use Rattle.calls.proofs.Singles.{one_kept, one_used, single_moved}
use Rattle.tables.proofs.Sorting.{earlier_further, earlier_opposite}
use Rattle.tables.proofs.Filtered.{count_placed, none_filtered}
use Rattle.calls.proofs.Marking.{ids_apart, length_marked, length_marked_all}

pub items_length : {X : Type 0} {o : _} (r : Rows X o) → length (items r) ≡ r.len
items_length r = length-take-le r.len r.slots.now r.within

pub byte_is_one : (b : Bool) → bool_byte b ≡ cond b 1 0
byte_is_one true = refl
byte_is_one false = refl

pub length_filter : {X : Type 0} (p : X → Bool) (xs : List X) → length (filter p xs) ≤ length xs
length_filter p xs = omega (arith, length-filter_both p (fails p) (λ _. refl) xs)

pub none_gone : {X : Type 0} (xs : List X) → xs ≡ without (λ x. false) xs
none_gone [] = refl
none_gone (x ∷ xs) = ap (λ l. x ∷ l) (none_gone xs)

-- one more kept
module _ (p : Player) (k : Kept) (ks : List Kept) (n : ℕ)
    (placed-is : ks ≡ placed earlier k (items p.kept))
    (id-place : no_id_place k (state p) ≡ false)
    (one : n ≡ cond (has_id k) 1 0)
    (new : known k (state p) ≡ false)
    (off : active_at p.head.playhead.ms k ≡ false) where
  pub keep_counted : (p.head.kept_ids + n ≡ ids ks) × (length (items p.used) + (p.head.kept_ids + n) ≤ length p.used.slots.now)
  keep_counted =
      let more : ids ks ≡ ids (items p.kept) + cond (has_id k) 1 0 = ap ids placed-is ∙ count_placed earlier has_id k (items p.kept) in
      let was = p.sound.0.0 in
      let fits = p.sound.0.1 in
      let have = id_room k (state p) id-place (omega arith) in
      (omega arith, omega arith)

  pub keep_fits : p.head.kept_ids + n ≤ p.kept.len + 1
  keep_fits =
      let counted = keep_counted in
      omega (arith, counted.0, length_filter has_id ks, ap length placed-is, length_placed earlier k (items p.kept), items_length p.kept)

  pub keep_sound : Sound (record { streams = p.head.streams; playhead = p.head.playhead; modes = p.head.modes; kept_ids = p.head.kept_ids + n }) ks (items p.used) (length p.used.slots.now)
  keep_sound = (
    keep_counted,
    λ s i. omega (arith, one_kept (state p) k new p.sound.1 s i, ap (λ l. length (filter (kept_as s i) l)) placed-is),
    ap (none (active_at p.head.playhead.ms)) placed-is
        ∙ none_placed earlier earlier_opposite earlier_further (active_at p.head.playhead.ms) k (items p.kept) off p.sound.2,
  )

-- one more used
module _ (p : Player) (k : Kept) (id-place : no_id_place k (state p) ≡ false) where
  pub use_room : length (items p.used) + cond (has_id k) 1 0 + p.head.kept_ids ≤ length p.used.slots.now
  use_room =
      let was = p.sound.0.0 in
      let fits = p.sound.0.1 in
      let have = id_room k (state p) id-place (omega arith) in
      omega arith

  pub use_sound : (us : List UsedId) (n : ℕ) → us ≡ marked k (items p.used) → n ≡ length p.used.slots.now → known k (state p) ≡ false → Sound p.head (items p.kept) us n
  use_sound us n marked-is places new =
      let room = use_room in (
        (p.sound.0.0, omega (arith, ap length marked-is, length_marked k (items p.used))),
        λ s i. omega (arith, one_used (state p) k new p.sound.1 s i, ap (λ l. length (filter (used_as s i) l)) marked-is),
        p.sound.2,
      )

-- some told: no longer kept, their ids used
module _ (p : Player) (pick : Kept → Bool) where
  pub tell_room : length (items p.used) + ids (filter pick (items p.kept)) ≤ length p.used.slots.now
  tell_room = let was = p.sound.0.0 in let fits = p.sound.0.1 in omega (arith, ids_apart pick (items p.kept))

  module _ (us : List UsedId) (used-is : us ≡ marked_all (filter pick (items p.kept)) (items p.used)) where
    pub tell_more : length us ≡ length (items p.used) + ids (filter pick (items p.kept))
    tell_more = ap length used-is ∙ length_marked_all (filter pick (items p.kept)) (items p.used)

    pub tell_fewer : length us - length (items p.used) ≤ p.head.kept_ids
    tell_fewer = let was = p.sound.0.0 in omega (arith, ids_apart pick (items p.kept), tell_more)

    pub tell_sound : (h : Head) (ks : List Kept) (n : ℕ) → ks ≡ without pick (items p.kept) → n ≡ length p.used.slots.now →
        h.kept_ids ≡ p.head.kept_ids - (length us - length (items p.used)) → h.playhead ≡ p.head.playhead → Sound h ks us n
    tell_sound h ks n kept-is places counts same =
        let apart = ids_apart pick (items p.kept) in
        let was = p.sound.0.0 in
        let fits = p.sound.0.1 in
        let more = tell_more in
        let left = ap ids kept-is in (
          (omega arith, omega arith),
          λ s i. omega (arith, single_moved p.head.playhead pick (state p) p.sound.1 s i, ap (λ l. length (filter (used_as s i) l)) used-is, ap (λ l. length (filter (kept_as s i) l)) kept-is),
          ap (λ t. none (active_at t.ms) ks) same
              ∙ ap (none (active_at p.head.playhead.ms)) kept-is
              ∙ none_filtered (fails pick) (active_at p.head.playhead.ms) (items p.kept) p.sound.2,
        )

-- some forgotten: kept events that pass a test, and used ids that pass another
pub forget_sound : (p : Player) (h : Head) (ks : List Kept) (us : List UsedId) (n : ℕ) (gone : Kept → Bool) (free : UsedId → Bool) →
    ks ≡ without gone (items p.kept) → us ≡ without free (items p.used) → n ≡ length p.used.slots.now → h.kept_ids ≡ ids ks → h.playhead ≡ p.head.playhead → Sound h ks us n
forget_sound p h ks us n gone free kept-is used-is places counts same =
    let was = p.sound.0.0 in
    let fits = p.sound.0.1 in (
      (counts, omega (arith, ids_apart gone (items p.kept), ap ids kept-is, ap length used-is, length_filter (fails free) (items p.used))),
      λ s i. omega (
        arith,
        p.sound.1 s i,
        count_apart (kept_as s i) gone (items p.kept),
        ap (λ l. length (filter (kept_as s i) l)) kept-is,
        count_apart (used_as s i) free (items p.used),
        ap (λ l. length (filter (used_as s i) l)) used-is,
      ),
      ap (λ t. none (active_at t.ms) ks) same
          ∙ ap (none (active_at p.head.playhead.ms)) kept-is
          ∙ none_filtered (fails gone) (active_at p.head.playhead.ms) (items p.kept) p.sound.2,
    )

-- the playhead moves, and what would be active there was told
pub moved_sound : (p q : Player) (t : Time) (pick : Kept → Bool) → items q.kept ≡ without pick (items p.kept) →
    ((k : Kept) → active_at p.head.playhead.ms k ≡ false → pick k ≡ false → active_at t.ms k ≡ false) →
    Sound (record { streams = q.head.streams; playhead = t; modes = q.head.modes; kept_ids = q.head.kept_ids }) (items q.kept) (items q.used) (length q.used.slots.now)
moved_sound p q t pick kept-is left = (
  q.sound.0,
  q.sound.1,
  ap (none (active_at t.ms)) kept-is
      ∙ none_of (fails pick) (active_at p.head.playhead.ms) (active_at t.ms) (items p.kept) (λ k e n. left k e (not-true (pick k) n)) p.sound.2,
)
