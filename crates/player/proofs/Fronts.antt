-- Lists written to the front of lent memory.
use Rattle.std.proofs.Common.{◌≡◌, ℕ, suc, ◌+◌, ◌-◌, ◌<◌, ◌≤◌, Bool, true, false, not, List, [], ◌∷◌, ◌++◌, length, take, drop, set, sym, refl, ap, ◌∙◌, arith, cond, get_or}
use borrow.Rule.Slice.PartMut.{put_mid}
use denote.Ref.{Bor}
use Rattle.std.specs.Fn.{Called, ComputesKey, Mut}
use Rattle.std.specs.List.Sorted.{IsPartitionedBy, IsPartitionPoint}
use Rattle.std.specs.List.{between}
use Rattle.std.proofs.lemmas.List.{append_assoc, drop-append-le, drop-drop, drop-set-lt, drop_at, length-append, length-drop, length-take-le, length_push, set_split, take-append-le, take_at, append-nil, drop_more, get_or-append_right, get_or-drop, length-set, set_at, take-append-drop}
use Rattle.std.proofs.lemmas.List.Elements.{filter_more}
use Rattle.event.specs.Fronts.{front}
use Rattle.tables.specs.Tables.{placed, prefix, sorted, fails, without}
use Rattle.tables.proofs.InOrder.{length_placed, placed_at, placed_sorted, sorted_leads}
use Rattle.tables.proofs.Prefixes.{search_prefix}

-- x put into place among the first n of xs: written behind them, and the part from its place on turned by one
pub inserted : {X : Type 0} (before : X → X → Bool) (x : X) (xs : List X) (n k : ℕ) (part zs : List X) → n < length xs → k ≡ prefix (λ y. not (before x y)) (take n xs) → k ≤ n →
    part ≡ between k (n + 1) (set xs n x) → zs ≡ drop (length part - 1) part ++ take (length part - 1) part →
    put_mid k (n + 1 - k) (set xs n x) zs ≡ front (placed before x (take n xs)) xs
inserted before x xs n k part zs l e b is turned =
    let ys : List _ = take n xs in
    let bs : List _ = drop k ys in
    let len : length ys ≡ n = length-take-le n xs (omega arith) in
    let whole : set xs n x ≡ ys ++ (x ∷ drop (suc n) xs) = set_split xs n x l in
    let lenbs : length bs ≡ n - k = omega (arith, length-drop k ys) in
    let behind : drop k (set xs n x) ≡ bs ++ (x ∷ drop (suc n) xs) = ap (drop k) whole ∙ drop-append-le k ys (x ∷ drop (suc n) xs) (omega arith) in
    let again : bs ++ (x ∷ drop (suc n) xs) ≡ (bs ++ (x ∷ [])) ++ drop (suc n) xs = sym (append_assoc bs (x ∷ []) (drop (suc n) xs)) in
    let lenpart : length (bs ++ (x ∷ [])) ≡ n + 1 - k = omega (arith, length_push bs x) in
    let part-is : part ≡ bs ++ (x ∷ []) = is ∙ ap (take (n + 1 - k)) (behind ∙ again) ∙ take_at (bs ++ (x ∷ [])) (drop (suc n) xs) (n + 1 - k) lenpart in
    let len1 : length part - 1 ≡ n - k = omega (arith, ap length part-is) in
    let zs-is : zs ≡ x ∷ bs =
    turned ∙ ap (λ m. drop m part ++ take m part) len1 ∙ ap (λ q. drop (n - k) q ++ take (n - k) q) part-is
    ∙ ap (λ q. q ++ take (n - k) (bs ++ (x ∷ []))) (drop_at bs (x ∷ []) (n - k) lenbs)
    ∙ ap (λ q. x ∷ q) (take_at bs (x ∷ []) (n - k) lenbs) in
    let front-is : take k (set xs n x) ≡ take k ys = ap (take k) whole ∙ take-append-le k ys (x ∷ drop (suc n) xs) (omega arith) in
    let post_is : drop (n + 1 - k) (drop k (set xs n x)) ≡ drop (suc n) xs =
    ap (drop (n + 1 - k)) (behind ∙ again) ∙ drop_at (bs ++ (x ∷ [])) (drop (suc n) xs) (n + 1 - k) lenpart in
    let placed-is : placed before x ys ≡ take k ys ++ (x ∷ bs) = placed_at before x ys ∙ ap (λ m. take m ys ++ (x ∷ drop m ys)) (sym e) in
    let count_is : length (placed before x ys) ≡ suc n = length_placed before x ys ∙ ap suc len in
    ap (λ q. q ++ (zs ++ drop (n + 1 - k) (drop k (set xs n x)))) front-is
    ∙ ap (λ q. take k ys ++ (q ++ drop (n + 1 - k) (drop k (set xs n x)))) zs-is
    ∙ ap (λ q. take k ys ++ ((x ∷ bs) ++ q)) post_is
    ∙ sym (append_assoc (take k ys) (x ∷ bs) (drop (suc n) xs))
    ∙ ap (λ q. q ++ drop (suc n) xs) (sym placed-is)
    ∙ ap (λ m. placed before x ys ++ drop m xs) (sym count_is)

-- what was written to the front, read back
pub take_front : {X : Type 0} (ys xs : List X) (n : ℕ) → length ys ≡ n → take n (front ys xs) ≡ ys
take_front ys xs n e = take_at ys (drop (length ys) xs) n e

pub length_front : {X : Type 0} (ys xs : List X) → length ys ≤ length xs → length (front ys xs) ≡ length xs
length_front ys xs h = omega (arith, length-append ys (drop (length ys) xs), length-drop (length ys) xs)

-- ys has x in its place among the first n of xs, and is as xs behind them
pub record Inserted {X : Type 0} (before : X → X → Bool) (x : X) (xs ys : List X) (n : ℕ) : Type 0 where
  pub items : take (n + 1) ys ≡ placed before x (take n xs)
  pub slots : ys ≡ front (take (n + 1) ys) xs
  pub places : length ys ≡ length xs
  pub within : n + 1 ≤ length ys
  pub ordered : sorted before (take (n + 1) ys) ≡ true

-- by a search for the place, a write behind the first n, and a turn of the part from the place on
module _ {X : Type 0} (before : X → X → Bool)
    (opposite : (x y : X) → before x y ≡ true → before y x ≡ false)
    (further : (x y z : X) → before x y ≡ true → before z y ≡ false → before x z ≡ true)
    (x : X) (xs : List X) (n : ℕ) (within : n ≤ length xs) (ordered : sorted before (take n xs) ≡ true) (room : n < length xs) where
  -- the search went over what stands in the first n places
  module _ {F : Type 0} {g : Mut F (Bor X × Unit {0}) Bool} {f : F} (ws : List X) (same : ws ≡ take n xs) (k : ℕ) (bound : k ≤ length ws)
      (found : (p : X → Bool) → ComputesKey g p f → IsPartitionedBy p ws → IsPartitionPoint (λ y. p y ≡ true) (λ y. p y ≡ false) ws k)
      (calls : (a : Bor X × Unit {0}) (r : Bool) (f' : F) → Called g f a r f' → (r ≡ not (before x a.0.now)) × (f' ≡ f)) where
    place_is : k ≡ prefix (λ y. not (before x y)) (take n xs)
    place_is =
        let p : X → Bool = λ y. not (before x y) in
        let leads = sorted_leads before opposite further x ws (ap (sorted before) same ∙ ordered) in
        search_prefix p ws leads k bound found calls ∙ ap (prefix p) same

    pub inserted_here : (zs : List X) → (let part = between k (n + 1) (set xs n x) in zs ≡ drop (length part - 1) part ++ take (length part - 1) part) →
        Inserted before x xs (put_mid k (n + 1 - k) (set xs n x) zs) n
    inserted_here zs turned =
        let e = inserted before x xs n k (between k (n + 1) (set xs n x)) zs room place_is (omega (arith, bound, ap length same, length-take-le n xs within)) refl turned in
        let ys : List X = put_mid k (n + 1 - k) (set xs n x) zs in
        let ps : List X = placed before x (take n xs) in
        let len : length ps ≡ n + 1 = omega (arith, length_placed before x (take n xs), length-take-le n xs within) in
        let is : take (n + 1) ys ≡ ps = ap (take (n + 1)) e ∙ take_front ps xs (n + 1) len in
        let places : length ys ≡ length xs = ap length e ∙ length_front ps xs (omega arith) in
        record {
          items = is;
          slots = e ∙ ap (λ l. front l xs) (sym is);
          places = places;
          within = omega arith;
          ordered = ap (sorted before) is ∙ placed_sorted before opposite further x (take n xs) ordered;
        }

-- one more element written behind a front
pub behind_more : {X : Type 0} (xs ys : List X) (left : ℕ) (x : X) → drop left ys ≡ drop left xs → drop (left + 1) (set ys left x) ≡ drop (left + 1) xs
behind_more xs ys left x h = drop-set-lt (left + 1) ys left x (omega arith) ∙ sym (drop-drop 1 left ys) ∙ ap (drop 1) h ∙ drop-drop 1 left xs

-- nothing written
pub front_same : {X : Type 0} (xs : List X) (n : ℕ) → n ≤ length xs → xs ≡ front (take n xs) xs
front_same xs n h = sym (ap (λ k. take n xs ++ drop k xs) (length-take-le n xs h) ∙ take-append-drop n xs)

-- ys began as xs: what fails p among the first i of xs stands in its first `left` places, and the rest is as it was
pub record Compacted {X : Type 0} (p : X → Bool) (xs ys : List X) (left i : ℕ) : Type 0 where
  pub slots : ys ≡ front (without p (take i xs)) xs
  pub count : left ≡ length (without p (take i xs))
  pub behind : left ≤ i
  pub long : length ys ≡ length xs

pub compacted_none : {X : Type 0} (p : X → Bool) (xs : List X) → Compacted p xs xs 0 0
compacted_none p xs = record { slots = refl; count = refl; behind = omega arith; long = refl }

module _ {X : Type 0} {p : X → Bool} {xs ys : List X} {left i : ℕ} (so_far : Compacted p xs ys left i) (below : i < length xs) {x : X} (read : x ≡ get_or ys i x) where
  zs : List X
  zs = without p (take i xs)

  original : get_or xs i x ≡ x
  unfolding zs
  original =
      let k : length (without p (take i xs)) ≡ left = sym so_far.count in
      let b = so_far.behind in
      let e : length (without p (take i xs)) + (i - length (without p (take i xs))) ≡ i = omega arith in
      let t = get_or-append_right (without p (take i xs)) (drop (length (without p (take i xs))) xs) (length (without p (take i xs))) i x refl (omega arith) in
      let u = get_or-drop (length (without p (take i xs))) xs (i - length (without p (take i xs))) x in
      sym (read ∙ ap (λ l. get_or l i x) so_far.slots ∙ t ∙ u ∙ ap (λ n. get_or xs n x) e)

  pub compacted_drop : p x ≡ true → Compacted p xs ys left (i + 1)
  compacted_drop e =
      let more : without p (take (i + 1) xs) ≡ without p (take i xs) =
      filter_more (fails p) xs i x below ∙ ap (λ y. without p (take i xs) ++ cond (not (p y)) (y ∷ []) []) original ∙ ap (λ b. without p (take i xs) ++ cond (not b) (x ∷ []) []) e ∙ append-nil (without p (take i xs)) in
      let b = so_far.behind in
      record {
        slots = so_far.slots ∙ ap (λ l. front l xs) (sym more);
        count = so_far.count ∙ ap length (sym more);
        behind = omega arith;
        long = so_far.long;
      }

  pub compacted_keep : p x ≡ false → Compacted p xs (set ys left x) (left + 1) (i + 1)
  compacted_keep e =
      let more : without p (take (i + 1) xs) ≡ without p (take i xs) ++ (x ∷ []) =
      filter_more (fails p) xs i x below ∙ ap (λ y. without p (take i xs) ++ cond (not (p y)) (y ∷ []) []) original ∙ ap (λ b. without p (take i xs) ++ cond (not b) (x ∷ []) []) e in
      let b = so_far.behind in
      let c = so_far.count in
      let k : ℕ = length (without p (take i xs)) in
      let here : k < length xs = omega arith in
      let split : ys ≡ without p (take i xs) ++ (get_or xs k x ∷ drop (k + 1) xs) = so_far.slots ∙ ap (λ l. without p (take i xs) ++ l) (drop_more xs k x here) in
      let written : set ys left x ≡ without p (take i xs) ++ (x ∷ drop (k + 1) xs) =
      ap (λ l. set l left x) split ∙ set_at (without p (take i xs)) (get_or xs k x) (drop (k + 1) xs) x left (sym c) in
      let joined : without p (take i xs) ++ (x ∷ drop (k + 1) xs) ≡ front (without p (take (i + 1) xs)) xs =
      sym (ap (λ l. front l xs) more
      ∙ append_assoc (without p (take i xs)) (x ∷ []) (drop (length (without p (take i xs) ++ (x ∷ []))) xs)
      ∙ ap (λ n. without p (take i xs) ++ (x ∷ drop n xs)) (length_push (without p (take i xs)) x)) in
      record {
        slots = written ∙ joined;
        count = omega (arith, ap length more, length_push (without p (take i xs)) x);
        behind = omega arith;
        long = simp length-set so_far.long;
      }

-- all of the first n gone through
pub record Removed {X : Type 0} (p : X → Bool) (xs ys : List X) (n left : ℕ) : Type 0 where
  pub items : take left ys ≡ without p (take n xs)
  pub slots : ys ≡ front (without p (take n xs)) xs
  pub places : length ys ≡ length xs
  pub len : left ≡ length (without p (take n xs))

pub compacted_all : {X : Type 0} {p : X → Bool} {xs ys : List X} {left i : ℕ} → Compacted p xs ys left i → (n : ℕ) → i ≡ n → Removed p xs ys n left
compacted_all {p = p} {xs = xs} {ys = ys} {left = left} {i = i} h n e =
    let slots : ys ≡ front (without p (take n xs)) xs = h.slots ∙ ap (λ k. front (without p (take k xs)) xs) e in
    let len : left ≡ length (without p (take n xs)) = h.count ∙ ap (λ k. length (without p (take k xs))) e in
    record {
      items = ap (take left) slots ∙ take_front (without p (take n xs)) xs left (sym len);
      slots = slots;
      places = h.long;
      len = len;
    }
