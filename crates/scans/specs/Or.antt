-- Many cells or-ed together, as the code has them.
--   four_at          the four level bytes of a unit as one word
--   or_units         those of w units side by side
--   or_levels        those of w units in n lines from `first` on
--   four_lines       the samples at one place of four lines
--   or_quad          w samples of four lines
--   or_samples       w samples in 4 * n lines from line 4 * first on
use Rattle.std.specs.Prelude.{List, ℕ, ◌+◌, ◌*◌, get_or}
use Rattle.std.specs.Int.Bits.{bit_or}
use Rattle.bits.specs.Word.{or_below}

unfoldable pub four_at : List ℕ → ℕ → ℕ
four_at ls at = get_or ls (at + 3) 0 * 16777216 + get_or ls (at + 2) 0 * 65536 + get_or ls (at + 1) 0 * 256 + get_or ls at 0

abbrev pub or_units : List ℕ → ℕ → ℕ → ℕ
or_units ls w at = or_below w (λ x. four_at ls (at + 4 * x))

abbrev pub or_levels : List ℕ → ℕ → ℕ → ℕ → ℕ → ℕ
or_levels ls level-stride w first n = or_below n (λ i. or_units ls w (4 * ((first + i) * level-stride)))

unfoldable pub four_lines : List ℕ → ℕ → ℕ → ℕ → ℕ → ℕ → ℕ
four_lines s a b c d x = bit_or (bit_or (bit_or (get_or s (a + x) 0) (get_or s (b + x) 0)) (get_or s (c + x) 0)) (get_or s (d + x) 0)

abbrev pub or_quad : List ℕ → ℕ → ℕ → ℕ → ℕ
or_quad s stride w a = or_below w (four_lines s a (a + stride) (a + stride + stride) (a + stride + stride + stride))

abbrev pub or_samples : List ℕ → ℕ → ℕ → ℕ → ℕ → ℕ
or_samples s stride w first n = or_below n (λ i. or_quad s stride w (4 * ((first + i) * stride)))
