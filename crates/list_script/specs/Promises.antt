-- What a line is: what is printed of it, and what is promised of reading.
--   Numeral f n      the field f is 1 to 9 digits of the value n
--   Word f           the field f has a byte, and no space
--   Names n name w c   c is the code below n whose name is w, or n where w names none
--   Says fs l        the fields fs make the line l
--   Reads s l        the bytes s are the fields of the line l, parted by one space each; or no line's, and l is Form
--   printed l        a line as it is printed: no zeros in front, and the names of its sizes
--   Sayable l        a line of numbers below 10 ^ 9 and sizes that there are
--   Promises
use Rattle.std.specs.Prelude.{true, cond, List, [], ◌∷◌, ◌⊎◌, ◌≡◌, ℕ, ◌<◌, ◌≤◌, eqb, length}
use Rattle.list_decimal.specs.Decimal.{numeral, value, decimal}
use Rattle.list_fields.specs.Fields.{joined, without}
use Rattle.list_fields.specs.Word.{Bytes}
use Rattle.list_script.specs.Names.{block_name, tx_name, frame_word, level_word, block_word, intra_word, no_word}
use Rattle.list_script.specs.Script.{space, line_of}
use Rattle.list_script.specs.Line.{Line, Frame, Level, Block, Form}

pub record Numeral (f : List ℕ) (n : ℕ) : Type 0 where
  pub digits : numeral f ≡ true
  pub is : value 0 f ≡ n

pub record Word (f : List ℕ) : Type 0 where
  pub some : 1 ≤ length f
  pub one : without space f ≡ true

pub data Names (n : ℕ) (name : ℕ → List ℕ) (w : List ℕ) : ℕ → Type 0 where
  named : {c : ℕ} → c < n → name c ≡ w → Names n name w c
  nameless : ((c : ℕ) → c < n → name c ≡ w → ⊥) → Names n name w n

-- the chroma transform's field: a flag and a code
pub data Chroma : List ℕ → ℕ → ℕ → Type 0 where
  none : Chroma no_word 0 0
  given : {w : List ℕ} {t : ℕ} → (w ≡ no_word → ⊥) → Names 19 tx_name w t → Chroma w 1 t

pub data Says : List (List ℕ) → Line → Type 0 where
  frame : {f₁ f₂ f₃ f₄ f₅ f₆ : List ℕ} {width height layout depth superblock sharpness : ℕ}
      → Numeral f₁ width → Numeral f₂ height → Numeral f₃ layout → Numeral f₄ depth → Numeral f₅ superblock → Numeral f₆ sharpness
      → Says (frame_word ∷ f₁ ∷ f₂ ∷ f₃ ∷ f₄ ∷ f₅ ∷ f₆ ∷ []) (Frame width height layout depth superblock sharpness)
  level : {f₁ f₂ f₃ f₄ : List ℕ} {columns rows u v : ℕ}
      → Numeral f₁ columns → Numeral f₂ rows → Numeral f₃ u → Numeral f₄ v
      → Says (level_word ∷ f₁ ∷ f₂ ∷ f₃ ∷ f₄ ∷ []) (Level columns rows u v)
  block : {f₁ f₂ f₃ f₄ f₅ : List ℕ} {x y size tx chroma uvtx : ℕ}
      → Numeral f₁ x → Numeral f₂ y
      → Word f₃ → Names 22 block_name f₃ size
      → Word f₄ → Names 19 tx_name f₄ tx
      → Word f₅ → Chroma f₅ chroma uvtx
      → Says (block_word ∷ f₁ ∷ f₂ ∷ f₃ ∷ f₄ ∷ f₅ ∷ intra_word ∷ []) (Block x y size tx chroma uvtx)

abbrev pub Reads : List ℕ → Line → Type 0
Reads s l =
    ((fs : List (List ℕ)) × Says fs l × (s ≡ joined space fs))
    ⊎ ((l ≡ Form) × ((fs : List (List ℕ)) (m : Line) → Says fs m → s ≡ joined space fs → ⊥))

abbrev pub printed : Line → List (List ℕ)
printed (Frame a b c d e f) = frame_word ∷ decimal a ∷ decimal b ∷ decimal c ∷ decimal d ∷ decimal e ∷ decimal f ∷ []
printed (Level a b c d) = level_word ∷ decimal a ∷ decimal b ∷ decimal c ∷ decimal d ∷ []
printed (Block x y size tx chroma uvtx) =
    block_word ∷ decimal x ∷ decimal y ∷ block_name size ∷ tx_name tx ∷ cond (eqb chroma 0) no_word (tx_name uvtx) ∷ intra_word ∷ []
printed Form = []

-- what a script can say: numbers below 10 ^ 9, sizes that there are
pub data Sayable : Line → Type 0 where
  frame : {a b c d e f : ℕ} → a < 1000000000 → b < 1000000000 → c < 1000000000 → d < 1000000000 → e < 1000000000 → f < 1000000000 → Sayable (Frame a b c d e f)
  level : {a b c d : ℕ} → a < 1000000000 → b < 1000000000 → c < 1000000000 → d < 1000000000 → Sayable (Level a b c d)
  luma : {x y size tx : ℕ} → x < 1000000000 → y < 1000000000 → size < 22 → tx < 19 → Sayable (Block x y size tx 0 0)
  pair : {x y size tx uvtx : ℕ} → x < 1000000000 → y < 1000000000 → size < 22 → tx < 19 → uvtx < 19 → Sayable (Block x y size tx 1 uvtx)

pub record Promises : Type 0 where
  -- what is printed of a line is read back as that line, and nothing else is read as a line
  pub back : (fs : List (List ℕ)) (l : Line) → Bytes (joined space fs) → Says fs l → line_of (joined space fs) ≡ l
  -- each line is printed
  pub prints : (l : Line) → Sayable l → Says (printed l) l
  pub reads : (s : List ℕ) → Bytes s → Reads s (line_of s)
  pub unique : (s : List ℕ) (l m : Line) → Bytes s → Reads s l → Reads s m → l ≡ m
