-- The listing as text, in bytes.
--   tab, end                          what parts fields, and what ends a line
--   field_text n b                    a number and the byte b after it
--   edge_text                         the line of an edge
--   header                            the line of names: plane, pass, x, y, class, level
--   total_text n                      the last line: edges, and how many
--   refused_text l n, form_text l     the line l refused, by a number or by its form
--   Put l at s k e                    k is the list l with s stored from `at` on, and e is the place after it
use Rattle.std.specs.Prelude.{List, [], ◌∷◌, ◌++◌, ◌≡◌, ℕ, ◌+◌, length}
use Rattle.list_decimal.specs.Decimal.{decimal, pasted}

abbrev pub tab : ℕ
tab = 9

abbrev pub end : ℕ
end = 10

unfoldable pub field_text : ℕ → ℕ → List ℕ
field_text n b = decimal n ++ (b ∷ [])

unfoldable pub edge_text : ℕ → ℕ → ℕ → ℕ → ℕ → ℕ → List ℕ
edge_text plane pass x y class level =
    field_text plane tab ++ field_text pass tab ++ field_text x tab ++ field_text y tab ++ field_text class tab ++ field_text level end

abbrev pub header : List ℕ
header =
    112 ∷ 108 ∷ 97 ∷ 110 ∷ 101 ∷ 9 ∷ 112 ∷ 97 ∷ 115 ∷ 115 ∷ 9 ∷ 120 ∷ 9 ∷ 121 ∷ 9 ∷ 99 ∷ 108 ∷ 97 ∷ 115 ∷ 115 ∷ 9 ∷ 108 ∷ 101 ∷ 118 ∷ 101 ∷ 108 ∷ 10 ∷ []

unfoldable pub total_text : ℕ → List ℕ
total_text n = 101 ∷ 100 ∷ 103 ∷ 101 ∷ 115 ∷ 9 ∷ field_text n end

abbrev pub refused : List ℕ
refused = 114 ∷ 101 ∷ 102 ∷ 117 ∷ 115 ∷ 101 ∷ 100 ∷ 9 ∷ []

unfoldable pub refused_text : ℕ → ℕ → List ℕ
refused_text line number = refused ++ field_text line tab ++ field_text number end

unfoldable pub form_text : ℕ → List ℕ
form_text line = refused ++ field_text line tab ++ (102 ∷ 111 ∷ 114 ∷ 109 ∷ 10 ∷ [])

pub record Put (l : List ℕ) (at : ℕ) (s k : List ℕ) (e : ℕ) : Type 0 where
  pub stored : k ≡ pasted l at s
  pub next : e ≡ at + length s
