-- The list is short: a line has at most 16 bytes, a unit at most one edge, and lists one after another are as long as all of them.
use mathlib.Core.Bool.{Bool, true, false, cond}
use mathlib.Core.List.{List, [], ◌∷◌, ◌++◌, append_assoc}
use mathlib.Core.Option.{Option, some, none}
use mathlib.Core.Path.{◌≡◌, refl, sym, ap, ◌∙◌}
use Prim.Native.Nat.{ℕ, zero, suc, ◌+◌, ◌*◌, ◌≤◌, ◌<◌}
use native.Mathlib.Nat.{suc-mul}
use native.Mathlib.Omega.{arith}
use lib.Dec.{eqb}
use lib.ListN.{length, get_or, length-append}
use Rattle.loops.specs.Run.{cat}
use Rattle.plane.specs.Line.{Pass, columns, rows, pass_no}
use Rattle.plane.specs.Plane.{unit}
use Rattle.units.specs.Layout.{has_chroma, ss_hor, ss_ver}
use Rattle.units.specs.Memory.{level_at}
use Rattle.units.proofs.Places.{chroma-units-le, ss-hor-le, ss-ver-le, pass-lt}
use Rattle.edges.specs.Edges.{luma_grid, chroma_grid, units_of, edge}
use Rattle.list_text.specs.Text.{tab, end, edge_text, total_text}
use Rattle.list_text.proofs.Puts as text
use Rattle.edges.proofs.Classes.{class-lt}
use Rattle.list_edges.specs.Listed.{Held, Edge, planes, grid_in, area, level_in, edge_in, found, edges_at, edges_in, edges_of, line_text, lines_text, list_text}
use Rattle.list_put.specs.Written.{held_of, line_in, plane_in, Fits}
use Rattle.list_put.specs.Promises.{Promises}

-- ---- lists of edges

pub lines-append : (l m : List Edge) → lines_text (l ++ m) ≡ lines_text l ++ lines_text m
lines-append [] m = refl
lines-append (e ∷ l) m = ap (λ (t : List ℕ). line_text e ++ t) (lines-append l m) ∙ sym (append_assoc (line_text e) (lines_text l) (lines_text m))

-- at most n edges, of 16 bytes each
pub record Short (n : ℕ) (l : List Edge) : Type 0 where
  pub few : length l ≤ n
  pub text : length (lines_text l) ≤ 16 * n

short-le : {m n : ℕ} {l : List Edge} → m ≤ n → Short m l → Short n l
short-le h s = record { few = omega arith; text = omega arith }

short-append : (m n : ℕ) (l k : List Edge) → Short m l → Short n k → Short (m + n) (l ++ k)
short-append m n l k s t =
    record {
      few = simp length-append (omega arith);
      text = simp (lines-append, length-append) (omega arith);
    }

pub short-cat : (f : ℕ → List Edge) (k n : ℕ) → ((j : ℕ) → j < n → Short k (f j)) → Short (n * k) (cat f n)
short-cat f k zero h = record { few = omega arith; text = omega arith }
short-cat f k (suc n) h =
    short-le (omega (arith, suc-mul n k))
    (short-append (n * k) k (cat f n) (f n) (short-cat f k n (λ j l. h j (omega arith))) (h n (omega arith)))

-- ---- the edges of a frame

line-short : (plane pass x y class level : ℕ) → plane < 10 → pass < 10 → x < 100 → y < 100 → class < 10 → level < 1000
    → length (edge_text plane pass x y class level) ≤ 16
line-short plane pass x y class level a b c d e f =
    omega (
      arith,
      text.edge-long plane pass x y class level,
      text.field-short plane tab 0 a,
      text.field-short pass tab 0 b,
      text.field-short x tab 1 c,
      text.field-short y tab 1 d,
      text.field-short class tab 0 e,
      text.field-short level end 2 f,
    )

pub wide-le : (s : Held) (p : ℕ) → units_of (grid_in s p) columns ≤ s.w4
wide-le s p = go (eqb p 0)
  where
    go : (b : Bool) → units_of (cond b (luma_grid s.w4 s.h4) (chroma_grid (ss_hor s.layout) (ss_ver s.layout) s.w4 s.h4)) columns ≤ s.w4
    go true = omega arith
    go false = chroma-units-le s.w4 (ss_hor s.layout) (ss-hor-le s.layout)

pub high_le : (s : Held) (p : ℕ) → units_of (grid_in s p) rows ≤ s.h4
high_le s p = go (eqb p 0)
  where
    go : (b : Bool) → units_of (cond b (luma_grid s.w4 s.h4) (chroma_grid (ss_hor s.layout) (ss_ver s.layout) s.w4 s.h4)) rows ≤ s.h4
    go true = omega arith
    go false = chroma-units-le s.h4 (ss_ver s.layout) (ss-ver-le s.layout)

pub planes-le : (layout : ℕ) → cond (has_chroma layout) 3 1 ≤ 3
planes-le layout = go (has_chroma layout)
  where
    go : (b : Bool) → cond b 3 1 ≤ 3
    go true = omega arith
    go false = omega arith

pub record Small (s : Held) : Type 0 where
  pub width : s.w4 ≤ 64
  pub height : s.h4 ≤ 64
  pub bytes : (i : ℕ) → get_or s.levels i 0 < 256

pub small : (layout w4 h4 : ℕ) (levels masks : List ℕ) → Fits w4 h4 (length levels) (length masks) → ((i : ℕ) → get_or levels i 0 < 256)
    → Small (held_of layout w4 h4 levels masks)
small layout w4 h4 levels masks f b = record { width = f.width; height = f.height; bytes = b }

module _ (s : Held) (z : Small s) where
  level-lt : (p : ℕ) (d : Pass) (x y : ℕ) → level_in s p d x y < 256
  unfolding level_in
  level-lt p d x y = z.bytes (level_at s.level-stride x y (area p d))

  pub short-unit : (p : ℕ) (d : Pass) (x y : ℕ) → p < 3 → x < units_of (grid_in s p) columns → y < units_of (grid_in s p) rows → Short 1 (edges_at s p d x y)
  unfolding edges_at
  short-unit p d x y l h g = go (eqb (unit d x y).0 0) (edge (grid_in s p) s.masks d (unit d x y)) refl
    where
      go : (b : Bool) (o : Option ℕ) → edge (grid_in s p) s.masks d (unit d x y) ≡ o → Short 1 (cond b [] (found o (edge_in s p d x y)))
      go true o e = record { few = omega arith; text = omega arith }
      go false none e = record { few = omega arith; text = omega arith }
      go false (some c) e =
          record {
            few = omega arith;
            text = simp length-append
                (omega (
                  arith,
                  line-short p (pass_no d) x y c (level_in s p d x y) (omega arith) (omega (arith, pass-lt d)) (omega (arith, wide-le s p, z.width)) (omega (arith, high_le s p, z.height))
                      (omega (arith, class-lt (grid_in s p) s.masks d (unit d x y) c e)) (omega (arith, level-lt p d x y)),
                ));
          }

  pub short-line : (p : ℕ) (d : Pass) (y : ℕ) → p < 3 → y < units_of (grid_in s p) rows → Short 64 (line_in s p d y)
  short-line p d y l g =
      let n = units_of (grid_in s p) columns in
      short-le (omega (arith, wide-le s p, z.width)) (short-cat (λ x. edges_at s p d x y) 1 n (λ x h. short-unit p d x y l h g))

  pub short-pass : (p : ℕ) (d : Pass) → p < 3 → Short 4096 (edges_in s p d)
  unfolding edges_in
  short-pass p d l =
      let n = units_of (grid_in s p) rows in
      short-le (omega (arith, high_le s p, z.height)) (short-cat (line_in s p d) 64 n (λ y g. short-line p d y l g))

  pub short-plane : (p : ℕ) → p < 3 → Short 8192 (plane_in s p)
  short-plane p l = short-append 4096 4096 (edges_in s p columns) (edges_in s p rows) (short-pass p columns l) (short-pass p rows l)

  pub short-all : Short 24576 (edges_of s)
  unfolding edges_of
  short-all =
      short-le (omega (arith, planes-le s.layout))
      (short-cat (plane_in s) 8192 (planes s) (λ p l. short-plane p (omega (arith, planes-le s.layout))))

  pub total-short : length (total_text (length (edges_of s))) ≤ 12
  total-short = (text.promises).total (length (edges_of s)) (omega (arith, short-all.few))

  pub text-short : length (list_text s) ≤ 393255
  unfolding list_text
  text-short = simp length-append (omega (arith, short-all.text, total-short))

pub promises : Promises
promises = record { room = λ s w h b. text-short s (record { width = w; height = h; bytes = b }) }
