-- A character of the alphabet and the number that it stands for are one for one.
use Rattle.std.proofs.Common.{◌≡◌, ℕ, suc, ◌<◌, true, false, eqb, List, [], ◌∷◌, map, length, get_or, sym, refl, ap, ◌∙◌, ⊎_elim, arith}
use Rattle.std.specs.List.{range_with_len}
use Rattle.std.proofs.lemmas.List.FromFn.{get_or-range_with_len}
use Rattle.std.proofs.lemmas.List.{get_or-map}
use Rattle.std.proofs.lemmas.Bool.{cases_Bool, cond_both, eqb-true, false≢true}
use Rattle.base64_codec.specs.Alphabet.{alphabet, digit, padding, place, value}
use Rattle.base64_codec.specs.Texts.{known}

in_order : map value alphabet ≡ range_with_len 0 64
unfolding value place alphabet
in_order = refl

long : length alphabet ≡ 64
unfolding alphabet
long = refl

pub value_digit : (n : ℕ) → n < 64 → value (digit n) ≡ n
value_digit n h =
    sym (get_or-map value alphabet n 0 0 (omega (arith, long))) ∙ ap (λ l. get_or l n 0) in_order ∙ get_or-range_with_len 0 64 n 0 h ∙ omega arith

at_place : (c : ℕ) (xs : List ℕ) → place c xs < length xs → get_or xs (place c xs) 0 ≡ c
unfolding place
at_place c [] h = absurd (omega arith)
at_place c (x ∷ xs) h =
    let found : ℕ → Type 0 = λ m. m < suc (length xs) → get_or (x ∷ xs) m 0 ≡ c in
    cond_both (eqb c x) 0 (suc (place c xs)) found (λ e l. sym (eqb-true c x e)) (λ e l. at_place c xs (omega arith)) h

pub digit_value : (c : ℕ) → value c < 64 → digit (value c) ≡ c
unfolding value
digit_value c h = at_place c alphabet (omega (arith, long))

padding_unknown : known padding ≡ false
unfolding value place alphabet
padding_unknown = refl

pub unpadded : (c : ℕ) → known c ≡ true → eqb c padding ≡ false
unpadded c k =
    ⊎_elim (λ e. absurd (false≢true (sym padding_unknown ∙ ap known (sym (eqb-true c padding e)) ∙ k))) (λ e. e) (cases_Bool (eqb c padding))
