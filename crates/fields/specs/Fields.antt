-- Big-endian tagged fields: one-byte tag, two-byte length, content; a row of them; and words as bytes.
use Rattle.std.specs.Prelude.{ℕ, zero, suc, ◌+◌, ◌*◌, ◌/◌, ◌%◌, ◌^◌, ◌<◌, Bool, ◌&&◌, List, [], ◌∷◌, ◌++◌, eqb, length, get_or}
use Rattle.words.specs.Words.{byte_of, join_of}

-- the four bytes of a word, the highest first
abbrev pub word_bytes : ℕ → List ℕ
word_bytes w = byte_of w 3 ∷ byte_of w 2 ∷ byte_of w 1 ∷ byte_of w 0 ∷ []

unfoldable pub bytes_of : List ℕ → List ℕ
bytes_of [] = []
bytes_of (w ∷ ws) = word_bytes w ++ bytes_of ws

-- the word whose first byte is at p
abbrev pub word_at : List ℕ → ℕ → ℕ
word_at b p = join_of (get_or b p 0) (get_or b (p + 1) 0) (get_or b (p + 2) 0) (get_or b (p + 3) 0)

-- word i of those that stand every `step` bytes from p on
abbrev pub word_from : List ℕ → ℕ → ℕ → ℕ → ℕ
word_from b p step i = word_at b (p + i * step)

-- the n words from p on
unfoldable pub words_at : List ℕ → ℕ → ℕ → List ℕ
words_at b p zero = []
words_at b p (suc n) = word_at b p ∷ words_at b (p + 4) n

-- a field's head, and a field
abbrev pub head_of : ℕ → ℕ → List ℕ
head_of tag n = tag ∷ n / 256 ∷ n % 256 ∷ []

unfoldable pub field_of : ℕ → List ℕ → List ℕ
field_of tag content = head_of tag (length content) ++ content

-- one field after the other
unfoldable pub row_of : List (List ℕ) → List ℕ
row_of [] = []
row_of (field ∷ fields) = field ++ row_of fields

-- the length that the head at p has, and whether that head has this tag and this length
abbrev pub count_at : List ℕ → ℕ → ℕ
count_at b p = get_or b (p + 1) 0 * 256 + get_or b (p + 2) 0

abbrev pub head_at : List ℕ → ℕ → ℕ → ℕ → Bool
head_at b p tag n = eqb (get_or b p 0) tag && eqb (count_at b p) n

-- every element is a byte; every element is a word
abbrev pub Bytes : List ℕ → Type 0
Bytes b = (i : ℕ) → get_or b i 0 < 256

abbrev pub Words : List ℕ → Type 0
Words ws = (i : ℕ) → get_or ws i 0 < 2 ^ 32
