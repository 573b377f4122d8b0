-- Luma and chroma are such planes: a call draws where it sees units, its part is what the plane shows of the block, and contexts keep their length.
use mathlib.Core.Bool.{Bool, true, false, cond, ◌&&◌}
use mathlib.Core.List.{List, ◌++◌}
use mathlib.Core.Path.{◌≡◌, refl, sym, ap, ap₂, ◌∙◌, subst, subst₂}
use Prim.Native.Nat.{ℕ, ◌+◌, ◌-◌, ◌*◌, ◌/◌, ◌%◌, ◌^◌, ◌≤◌, min}
use native.Mathlib.Nat.{div-add-mod'}
use native.Mathlib.Omega.{arith}
use lib.Dec.{ltb}
use lib.ListN.{length, take, drop, length-append, take-append-drop}
use Rattle.standard.specs.Sizes.{Tx_Wide, Tx_High}
use Rattle.standard.specs.Edge.{Frame}
use Rattle.plane.specs.Line.{Pass, columns, rows, other}
use Rattle.units.specs.Units.{chroma_unit, chroma_units}
use Rattle.units.proofs.Places.{ss-hor-le, ss-ver-le}
use Rattle.edges.specs.Edges.{Grid, luma_grid, chroma_grid}
use Rattle.decomp.proofs.UnitsOfTransform.{tx_at-same}
use Rattle.mask_edges.specs.Recording.{intra_block, inter_block}
use Rattle.block.specs.declared.Block.{Block}
use Rattle.block.specs.Block.{w4, h4, block_width, block_height, ss-hor, ss-ver, bw4, bh4, cbw4, cbh4, sees_luma, sees_chroma, Lent, at_block}
use Rattle.record.specs.Record.{Fitting}
use Rattle.record.specs.Recorded.{Stored}
use Rattle.record.proofs.Answers as record-calls
use Rattle.record.proofs.Rooms.{luma-cut, chroma-cut}
use Rattle.record.proofs.SoundBlocks.{fitting}
use Rattle.covering.specs.Front.{CoversUnit}
use Rattle.covering.specs.Standard.{Lies}
use Rattle.covering.specs.Cover.{owns, visible_side, part_of, sees}
use Rattle.drawn.specs.Calls.{RecordCall, Records, coded, luma_seen, luma_state, chroma_seen, chroma_state}
use Rattle.drawn.specs.Run.{part_in, DrawsBlock, Unchanged, Tallies}
use Rattle.drawn.proofs.Calls.{Shape, luma-shape, chroma-place-is}
use Rattle.drawn.proofs.Theorems as drawn
use Rattle.loops.proofs.Bools.{and-turn}
use Rattle.blocks.specs.Laid.{TileArea, axis_of, block_part, LumaLegal, ChromaLegal, LumaLong, ChromaLong}

-- a list with what follows `at` put anew
put-long : (at : ℕ) (l a : List ℕ) → length a ≡ length (drop at l) → length (take at l ++ a) ≡ length l
put-long at l a e =
    length-append (take at l) a ∙ ap (λ (k : ℕ). length (take at l) + k) e ∙ sym (length-append (take at l) (drop at l)) ∙ ap length (take-append-drop at l)

module _ (q : RecordCall) (level-stride : ℕ) (m n : Lent) (R : Records level-stride q m n) where
  abbrev b : Block
  b = q.block

  stored : Stored b level-stride q.values q.tx-masks (at_block b m) R.left_behind
  stored = ((record-calls.promises).each b level-stride q.values q.tx-masks 0 (at_block b m) R.left_behind R.answer).accepted refl

  fits : Fitting b
  fits = fitting b level-stride (at_block b m) (sym R.answer.code)

  above-long : length n.above ≡ length m.above
  above-long = ap (λ (x : Lent). length x.above) R.now-is ∙ put-long b.x.0 m.above R.left_behind.above stored.above-long

  left-long : length n.left ≡ length m.left
  left-long = ap (λ (x : Lent). length x.left) R.now-is ∙ put-long b.y.0 m.left R.left_behind.left stored.left-long

  above-uv-long : length n.above-uv ≡ length m.above-uv
  above-uv-long = ap (λ (x : Lent). length x.above-uv) R.now-is ∙ put-long (chroma_unit (ss-hor b) b.x.0) m.above-uv R.left_behind.above-uv stored.above-uv-long

  left-uv-long : length n.left-uv ≡ length m.left-uv
  left-uv-long = ap (λ (x : Lent). length x.left-uv) R.now-is ∙ put-long (chroma_unit (ss-ver b) b.y.0) m.left-uv R.left_behind.left-uv stored.left-uv-long

-- ---- luma

module _ (D : Frame) (level-stride : ℕ) (A : TileArea) (T : Tallies D 0 (luma_grid A.w4 A.h4)) where
  pub luma-draws : (q : RecordCall) (m n : Lent) → Records level-stride q m n → LumaLegal D A q → LumaLong A m → sees_luma q.block ≡ true
      → DrawsBlock D 0 (luma_grid A.w4 A.h4) (luma_seen q m) (luma_state m) (luma_state n)
  luma-draws q m n R o h e =
      let c = luma-cut q.block (fits q level-stride m n R) e in
      subst₂ (λ (x y : ℕ). DrawsBlock D 0 (luma_grid x y) (luma_seen q m) (luma_state m) (luma_state n)) o.w4-is o.h4-is
      ((drawn.promises).luma D q level-stride m n R e (o.legal e) (o.shows e m) T.right-ss T.down-ss (omega (arith, c.0, o.w4-is, h.above)) (omega (arith, c.1, o.h4-is, h.left)))

  pub luma-same : (q : RecordCall) (m n : Lent) → Records level-stride q m n → LumaLegal D A q → sees_luma q.block ≡ false
      → Unchanged (luma_grid A.w4 A.h4) (luma_state m) (luma_state n)
  luma-same q m n R o e =
      subst₂ (λ (x y : ℕ). Unchanged (luma_grid x y) (luma_state m) (luma_state n)) o.w4-is o.h4-is ((drawn.promises).luma-same q level-stride m n R e)

  pub luma-stays : (q : RecordCall) (m n : Lent) → Records level-stride q m n → LumaLegal D A q → LumaLong A m → LumaLong A n
  luma-stays q m n R o h =
      record { above = omega (arith, h.above, above-long q level-stride m n R); left = omega (arith, h.left, left-long q level-stride m n R) }

  module _ (q : RecordCall) (o : LumaLegal D A q) where
    wide_is : visible_side (axis_of A 0 0 columns) q.block.x.0 (block_width q.block) ≡ bw4 q.block
    unfolding bw4
    wide_is = omega (arith, o.w4-is)

    high_is : visible_side (axis_of A 0 0 rows) q.block.y.0 (block_height q.block) ≡ bh4 q.block
    unfolding bh4
    high_is = omega (arith, o.h4-is)

    pub luma-sees : (d : Pass) → sees (axis_of A 0 0 d) (axis_of A 0 0 (other d)) (block_part d q.block) ≡ sees_luma q.block
    luma-sees columns = ap₂ (λ (x y : ℕ). ltb 0 x && ltb 0 y) wide_is high_is
    luma-sees rows = ap₂ (λ (x y : ℕ). ltb 0 x && ltb 0 y) high_is wide_is ∙ and-turn (ltb 0 (bh4 q.block)) (ltb 0 (bw4 q.block))

    module _ (m : Lent) where
      -- its transforms
      abbrev tx-of : Bool → ℕ → ℕ → ℕ
      tx-of i =
          (cond i
          (inter_block (q.block.y.0 % 32) (q.block.x.0 % 32) (bw4 q.block) (bh4 q.block) q.block.skip q.block.tx q.tx-masks
          (at_block q.block m).above (at_block q.block m).left)
          (intra_block (q.block.y.0 % 32) (q.block.x.0 % 32) (bw4 q.block) (bh4 q.block) q.block.tx (at_block q.block m).above (at_block q.block m).left)).tx

      S : Shape (luma_seen q m).B (q.block.x.0 % 32) (q.block.y.0 % 32) (bw4 q.block) (bh4 q.block) (at_block q.block m).above (at_block q.block m).left
      S = luma-shape q.block q.tx-masks (at_block q.block m)

      x-is : q.block.x.0 / 32 * 32 + (luma_seen q m).B.bx4 ≡ chroma_unit 0 q.block.x.0
      x-is = omega (arith, S.bx4-is, div-add-mod' q.block.x.0 32)

      y-is : q.block.y.0 / 32 * 32 + (luma_seen q m).B.by4 ≡ chroma_unit 0 q.block.y.0
      y-is = omega (arith, S.by4-is, div-add-mod' q.block.y.0 32)

      w-is : (luma_seen q m).B.w4 ≡ visible_side (axis_of A 0 0 columns) q.block.x.0 (block_width q.block)
      w-is = S.w4-is ∙ sym wide_is

      h-is : (luma_seen q m).B.h4 ≡ visible_side (axis_of A 0 0 rows) q.block.y.0 (block_height q.block)
      h-is = S.h4-is ∙ sym high_is

      pub luma-part : (d : Pass) → part_in (luma_grid A.w4 A.h4) d (luma_seen q m) ≡ part_of (axis_of A 0 0 d) (axis_of A 0 0 (other d)) (block_part d q.block)
      luma-part columns = λ i. record { at = x-is i; across = w-is i; from = y-is i; along = h-is i }
      luma-part rows = λ i. record { at = y-is i; across = h-is i; from = x-is i; along = w-is i }

      pub luma-lies : (n : Lent) → Records level-stride q m n → sees_luma q.block ≡ true → (x y : ℕ)
          → CoversUnit (part_in (luma_grid A.w4 A.h4) columns (luma_seen q m)) x y → Lies D 0 x y
      luma-lies n R e x y v =
          let zx = x-is ∙ ap (λ (s : ℕ). chroma_unit s q.block.x.0) (sym T.right-ss) in
          let zy = y-is ∙ ap (λ (s : ℕ). chroma_unit s q.block.y.0) (sym T.down-ss) in
          record {
            C = coded q.block;
            B = (luma_seen q m).B;
            legal = o.legal e;
            shows = o.shows e m;
            right-cut = w-is ∙ ap₂ (λ (s w : ℕ). min (chroma_units s w - chroma_unit s q.block.x.0) (chroma_units s (block_width q.block))) (sym T.right-ss) T.width;
            down-cut = h-is ∙ ap₂ (λ (s w : ℕ). min (chroma_units s w - chroma_unit s q.block.y.0) (chroma_units s (block_height q.block))) (sym T.down-ss) T.height;
            right-in = omega (arith, zx, v.first, v.last);
            down-in = omega (arith, zy, v.line.first, v.line.last);
            one = one-transform q.block.inter;
          }
        where
          one-transform : (i : Bool) (a b a' b' : ℕ)
              → a / Tx_Wide (tx-of i a b) ≡ a' / Tx_Wide (tx-of i a b) → b / Tx_High (tx-of i a b) ≡ b' / Tx_High (tx-of i a b) → tx-of i a' b' ≡ tx-of i a b
          one-transform true a b a' b' f g = tx_at-same a b a' b' q.tx-masks q.block.tx (fits q level-stride m n R).tx (f, g)
          one-transform false a b a' b' f g = refl

-- ---- chroma

module _ (D : Frame) (plane level-stride : ℕ) (A : TileArea) (sx sy : ℕ) (T : Tallies D plane (chroma_grid sx sy A.w4 A.h4)) where
  abbrev G : Grid
  G = chroma_grid sx sy A.w4 A.h4

  -- the call's own units are the plane's
  grid-is : (q : RecordCall) → ChromaLegal D plane A sx sy q → chroma_grid (ss-hor q.block) (ss-ver q.block) (w4 q.block) (h4 q.block) ≡ G
  grid-is q o = λ i. chroma_grid (o.sx-is i) (o.sy-is i) (o.w4-is i) (o.h4-is i)

  cut : (ss n m : ℕ) (b c : ℕ) → ss ≡ b → n ≡ c → chroma_units ss n ≤ m → chroma_units b c ≤ m
  cut ss n m b c e f h = subst₂ (λ (x y : ℕ). chroma_units x y ≤ m) e f h

  pub chroma-draws : (q : RecordCall) (m n : Lent) → Records level-stride q m n → ChromaLegal D plane A sx sy q → ChromaLong A sx sy m → sees_chroma q.block ≡ true
      → DrawsBlock D plane G (chroma_seen q m) (chroma_state m) (chroma_state n)
  chroma-draws q m n R o h e =
      let c = chroma-cut q.block (fits q level-stride m n R) e in
      let u = cut sx A.w4 (length m.above-uv) (ss-hor q.block) (w4 q.block) (sym o.sx-is) (sym o.w4-is) h.above in
      let v = cut sy A.h4 (length m.left-uv) (ss-ver q.block) (h4 q.block) (sym o.sy-is) (sym o.h4-is) h.left in
      subst (λ (H : Grid). DrawsBlock D plane H (chroma_seen q m) (chroma_state m) (chroma_state n)) (grid-is q o)
      ((drawn.promises).chroma D plane q level-stride m n R e (o.legal e) (o.shows e m) (T.right-ss ∙ sym o.sx-is) (T.down-ss ∙ sym o.sy-is) (omega (arith, c.0)) (omega (arith, c.1)))

  pub chroma-same : (q : RecordCall) (m n : Lent) → Records level-stride q m n → ChromaLegal D plane A sx sy q → sees_chroma q.block ≡ false
      → Unchanged G (chroma_state m) (chroma_state n)
  chroma-same q m n R o e = subst (λ (H : Grid). Unchanged H (chroma_state m) (chroma_state n)) (grid-is q o) ((drawn.promises).chroma-same q level-stride m n R e)

  pub chroma-stays : (q : RecordCall) (m n : Lent) → Records level-stride q m n → ChromaLegal D plane A sx sy q → ChromaLong A sx sy m → ChromaLong A sx sy n
  chroma-stays q m n R o h =
      record { above = omega (arith, h.above, above-uv-long q level-stride m n R); left = omega (arith, h.left, left-uv-long q level-stride m n R) }

  module _ (q : RecordCall) (o : ChromaLegal D plane A sx sy q) where
    wide-seen : visible_side (axis_of A sx sy columns) q.block.x.0 (block_width q.block) ≡ cbw4 q.block
    unfolding cbw4
    wide-seen = ap₂ (λ (s w : ℕ). min (chroma_units s w - chroma_unit s q.block.x.0) (chroma_units s (block_width q.block))) (sym o.sx-is) (sym o.w4-is)

    high-seen : visible_side (axis_of A sx sy rows) q.block.y.0 (block_height q.block) ≡ cbh4 q.block
    unfolding cbh4
    high-seen = ap₂ (λ (s w : ℕ). min (chroma_units s w - chroma_unit s q.block.y.0) (chroma_units s (block_height q.block))) (sym o.sy-is) (sym o.h4-is)

    pub chroma-sees : (d : Pass) → sees (axis_of A sx sy d) (axis_of A sx sy (other d)) (block_part d q.block) ≡ sees_chroma q.block
    chroma-sees columns = ap₂ ◌&&◌ (sym o.has) (ap₂ (λ (x y : ℕ). ltb 0 x && ltb 0 y) wide-seen high-seen)
    chroma-sees rows =
        ap₂ ◌&&◌ (and-turn (owns (axis_of A sx sy rows) q.block.y.0 (block_height q.block)) (owns (axis_of A sx sy columns) q.block.x.0 (block_width q.block)) ∙ sym o.has)
        (ap₂ (λ (x y : ℕ). ltb 0 x && ltb 0 y) high-seen wide-seen ∙ and-turn (ltb 0 (cbh4 q.block)) (ltb 0 (cbw4 q.block)))

    at-is : (u ss s : ℕ) → ss ≡ s → ss ≤ 1 → u / 32 * (32 / 2 ^ s) + chroma_unit ss (u % 32) ≡ chroma_unit s u
    at-is u ss s e h = subst (λ (k : ℕ). u / 32 * (32 / 2 ^ k) + chroma_unit ss (u % 32) ≡ chroma_unit k u) e (chroma-place-is u ss h)

    chroma-x : q.block.x.0 / 32 * (32 / 2 ^ sx) + chroma_unit (ss-hor q.block) (q.block.x.0 % 32) ≡ chroma_unit sx q.block.x.0
    chroma-x = at-is q.block.x.0 (ss-hor q.block) sx o.sx-is (ss-hor-le q.block.layout)

    chroma-y : q.block.y.0 / 32 * (32 / 2 ^ sy) + chroma_unit (ss-ver q.block) (q.block.y.0 % 32) ≡ chroma_unit sy q.block.y.0
    chroma-y = at-is q.block.y.0 (ss-ver q.block) sy o.sy-is (ss-ver-le q.block.layout)

    chroma-w : cbw4 q.block ≡ visible_side (axis_of A sx sy columns) q.block.x.0 (block_width q.block)
    chroma-w = sym wide-seen

    chroma-h : cbh4 q.block ≡ visible_side (axis_of A sx sy rows) q.block.y.0 (block_height q.block)
    chroma-h = sym high-seen

    pub chroma-part : (m : Lent) (d : Pass) → part_in G d (chroma_seen q m) ≡ part_of (axis_of A sx sy d) (axis_of A sx sy (other d)) (block_part d q.block)
    chroma-part m columns = λ i. record { at = chroma-x i; across = chroma-w i; from = chroma-y i; along = chroma-h i }
    chroma-part m rows = λ i. record { at = chroma-y i; across = chroma-h i; from = chroma-x i; along = chroma-w i }

    pub chroma-lies : (m : Lent) → sees_chroma q.block ≡ true → (x y : ℕ) → CoversUnit (part_in G columns (chroma_seen q m)) x y → Lies D plane x y
    chroma-lies m e x y v =
        let zx = chroma-x ∙ ap (λ (s : ℕ). chroma_unit s q.block.x.0) (sym T.right-ss) in
        let zy = chroma-y ∙ ap (λ (s : ℕ). chroma_unit s q.block.y.0) (sym T.down-ss) in
        record {
          C = coded q.block;
          B = (chroma_seen q m).B;
          legal = o.legal e;
          shows = o.shows e m;
          right-cut = chroma-w ∙ ap₂ (λ (s w : ℕ). min (chroma_units s w - chroma_unit s q.block.x.0) (chroma_units s (block_width q.block))) (sym T.right-ss) T.width;
          down-cut = chroma-h ∙ ap₂ (λ (s w : ℕ). min (chroma_units s w - chroma_unit s q.block.y.0) (chroma_units s (block_height q.block))) (sym T.down-ss) T.height;
          right-in = omega (arith, zx, v.first, v.last);
          down-in = omega (arith, zy, v.line.first, v.line.last);
          one = λ _ _ _ _ _ _. refl;
        }
