-- Which texts are base64, the bytes that they stand for, and the text of bytes.
--   known      whether a character is of the alphabet
--   full       whether four characters are
--   of_four    what a function of four characters is at the first four of a list
--   padded     whether four characters may end a text: padding behind two or three of the alphabet, whose unused bits are 0
--   none       whether nothing is left
--   accepted   whether a text is fours of the alphabet, behind which a padded four may stand
--   joined     the 24 bits of four numbers of 6 bits
--   octets     the three bytes of 24 bits
--   group      the bytes of four characters: three, or two where one is padding, or one where two are
--   decoded    the bytes of a text, four characters after four
--   packed     the 24 bits of three bytes
--   of_three   what a function of three bytes is at the first three of a list
--   digits     the four characters of 24 bits
--   encoded    the text of bytes, three after three; zero bits fill up the last three, and padding the last four
use Rattle.std.specs.Prelude.{ℕ, ◌+◌, ◌*◌, ◌/◌, ◌%◌, Bool, true, false, cond, ◌&&◌, ◌||◌, List, [], ◌∷◌, ◌++◌, take, ◌==◌, nat_lt, slice_index}
use Rattle.base64_codec.specs.Alphabet.{digit, padding, value}

abbrev pub known : ℕ → Bool
known c = nat_lt (value c) 64

abbrev pub full : ℕ → ℕ → ℕ → ℕ → Bool
full a b c d = known a && known b && known c && known d

abbrev pub of_four : {A : Type 0} → (ℕ → ℕ → ℕ → ℕ → A) → List ℕ → A
of_four f cs = f (slice_index cs 0) (slice_index cs 1) (slice_index cs 2) (slice_index cs 3)

abbrev pub padded : ℕ → ℕ → ℕ → ℕ → Bool
padded a b c d =
    known a && known b && d == padding && cond (c == padding) (value b % 16 == 0) (known c && value c % 4 == 0)

abbrev pub none : List ℕ → Bool
none [] = true
none (x ∷ xs) = false

unfoldable pub accepted : List ℕ → Bool
accepted [] = true
accepted (a ∷ []) = false
accepted (a ∷ b ∷ []) = false
accepted (a ∷ b ∷ c ∷ []) = false
accepted (a ∷ b ∷ c ∷ d ∷ rest) = full a b c d && accepted rest || padded a b c d && none rest

abbrev pub joined : ℕ → ℕ → ℕ → ℕ → ℕ
joined a b c d = ((a * 64 + b) * 64 + c) * 64 + d

abbrev pub octets : ℕ → List ℕ
octets n = n / 65536 % 256 ∷ n / 256 % 256 ∷ n % 256 ∷ []

abbrev pub group : ℕ → ℕ → ℕ → ℕ → List ℕ
group a b c d =
    cond (d == padding)
    (cond (c == padding) (take 1 (octets (joined (value a) (value b) 0 0))) (take 2 (octets (joined (value a) (value b) (value c) 0))))
    (octets (joined (value a) (value b) (value c) (value d)))

unfoldable pub decoded : List ℕ → List ℕ
decoded [] = []
decoded (a ∷ []) = []
decoded (a ∷ b ∷ []) = []
decoded (a ∷ b ∷ c ∷ []) = []
decoded (a ∷ b ∷ c ∷ d ∷ rest) = group a b c d ++ decoded rest

abbrev pub packed : ℕ → ℕ → ℕ → ℕ
packed a b c = (a * 256 + b) * 256 + c

abbrev pub of_three : {A : Type 0} → (ℕ → ℕ → ℕ → A) → List ℕ → A
of_three f bs = f (slice_index bs 0) (slice_index bs 1) (slice_index bs 2)

abbrev pub digits : ℕ → List ℕ
digits n = digit (n / 262144 % 64) ∷ digit (n / 4096 % 64) ∷ digit (n / 64 % 64) ∷ digit (n % 64) ∷ []

unfoldable pub encoded : List ℕ → List ℕ
encoded [] = []
encoded (a ∷ []) = take 2 (digits (packed a 0 0)) ++ padding ∷ padding ∷ []
encoded (a ∷ b ∷ []) = take 3 (digits (packed a b 0)) ++ padding ∷ []
encoded (a ∷ b ∷ c ∷ rest) = digits (packed a b c) ++ encoded rest
