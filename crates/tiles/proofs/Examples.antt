-- The example meets the hypotheses: each tile is one block, the second tile's start is corrected with the contexts that the first one left, and nothing else is.
use mathlib.Core.Bool.{Bool, true, false, cond, false≢true}
use mathlib.Core.List.{[], ◌∷◌, Memᴰ}
use mathlib.Core.Logic.{inl, inr, by_cases}
use mathlib.Core.Path.{◌≡◌, refl, sym, ap, ◌∙◌, subst}
use Prim.Native.Nat.{ℕ, ◌+◌, ◌-◌, ◌%◌, ◌<◌}
use native.Mathlib.Decide.{dec_lt}
use native.Mathlib.Omega.{arith}
use lib.ListN.{get_or, get_or-replicate}
use borrow.Author.Tests.{lt-ltb, le-ltb}
use Rattle.bits.proofs.Marks.{none-set}
use Rattle.loops.proofs.ReadApart.{all-at}
use Rattle.standard.specs.Sizes.{Num_4x4_Blocks_Wide, Num_4x4_Blocks_High, Tx_Wide, Tx_High}
use Rattle.standard.specs.Edge.{apply_filter, is_tx_edge, is_block_edge}
use Rattle.plane.specs.Line.{Pass, columns, rows, Piece, other, pass_no, pass_of}
use Rattle.units.specs.Sizes.{log2}
use Rattle.edges.specs.Edges.{units_of, luma_grid, chroma_grid, edge_bit}
use Rattle.mask_edges.proofs.BlockPasses.{chroma-low}
use Rattle.mask_edges.proofs.CellTables.{luma-low}
use Rattle.block.specs.Block.{bw4, bh4, cbw4, cbh4, Lent, at_block}
use Rattle.correct.specs.Start.{across}
use Rattle.agree.specs.Legal.{Legal, Shows}
use Rattle.agree.proofs.Theorems as agree
use Rattle.covering.specs.Front.{Tile, Tiled}
use Rattle.covering.specs.Standard.{transform_class}
use Rattle.drawn.specs.Calls.{coded, luma_seen, luma_state, chroma_seen, chroma_state}
use Rattle.drawn.specs.Run as run
use Rattle.drawn.specs.Run.{Run, InTile}
use Rattle.drawn.proofs.Theorems as drawn
use Rattle.tiles.specs.Tiles.{turned, In, done, tile, Fix, Fixes, kept_at, FixedOnce, Never, AtStarts, InTiles}
use Rattle.tiles.specs.Example.{decoded, call, fresh, clear, fix_of, tiles_of, Example}
use Rattle.tiles.proofs.ExampleCalls as calls
use Rattle.tiles.proofs.ExampleCalls.{between, after, masks}
use Rattle.tiles.proofs.Edges.{edges}

-- ---- two tiles

differ : columns ≡ rows → ⊥
differ e = let z = ap pass_no e in omega arith

module _ (a b h : ℕ) (past : 0 < a) (before-end : a < b) where
  abbrev T : Tile
  T = record { x0 = 0; x1 = a; y0 = 0; y1 = h }

  abbrev R : Tile
  R = record { x0 = a; x1 = b; y0 = 0; y1 = h }

  apart : (d : Pass) (p : Piece) → In T d p → In R d p → ⊥
  apart columns p i j = omega (arith, i.across.1, j.across.0)
  apart rows p i j = omega (arith, i.along.1, j.along.0)

  every : (d : Pass) (p : Piece) → p.0 < (turned d (record { x0 = 0; x1 = b; y0 = 0; y1 = h })).x1 → p.1 < (turned d (record { x0 = 0; x1 = b; y0 = 0; y1 = h })).y1
      → (Q : Tile) × Memᴰ Q (tiles_of a b h) × In Q d p
  every columns p px py =
      by_cases (dec_lt p.0 a) (λ l. (T, Memᴰ.head refl, record { across = omega arith; along = omega arith }))
      (λ l. (R, Memᴰ.tail (Memᴰ.head refl), record { across = omega arith; along = omega arith }))
  every rows p px py =
      by_cases (dec_lt p.1 a) (λ l. (T, Memᴰ.head refl, record { across = omega arith; along = omega arith }))
      (λ l. (R, Memᴰ.tail (Memᴰ.head refl), record { across = omega arith; along = omega arith }))

  -- one of the two
  either : (Q : Tile) → Memᴰ Q (tiles_of a b h) → (P : Tile → Type 0) → P T → P R → P Q
  either Q (Memᴰ.head e) P x y = subst P (sym e) x
  either Q (Memᴰ.tail (Memᴰ.head e)) P x y = subst P (sym e) y
  either Q (Memᴰ.tail (Memᴰ.tail m)) P x y = absurd (all-at (λ (q : Tile). ⊥) [] tt m)

  -- a correction of the line a in the column pass
  module _ (k : Fix) (luma : Bool) (pass : pass_of k.start.rowwise ≡ columns) (at : across k.start luma ≡ a) where
    never : (d : Pass) (p : Piece) (Q : Tile) → Memᴰ Q (tiles_of a b h) → In Q d p → ¬ ((p.0 ≡ (turned d Q).x0) × (0 < p.0)) → Never luma d p (k ∷ [])
    never rows p Q m i n = ((λ f. differ (sym pass ∙ f.pass)), tt)
    never columns p Q m i n = (
      (λ f. either Q m (λ Q. In Q columns p → ¬ ((p.0 ≡ Q.x0) × (0 < p.0)) → ⊥) (λ j _. omega (arith, j.across.1, f.unit.at, at))
          (λ j o. o (f.unit.at ∙ at, omega (arith, f.unit.at, at))) i n),
      tt,
    )

    starts : (p : Piece) (v : ℕ) → (p.0 ≡ a → p.1 < h → Fixes k luma columns p × (kept_at k luma p ≡ v)) → (Q : Tile) → Memᴰ Q (tiles_of a b h) → In Q columns p
        → p.0 ≡ Q.x0 → 0 < p.0 → FixedOnce luma columns p v (k ∷ [])
    starts p v f Q m i e o =
        either Q m (λ Q. In Q columns p → p.0 ≡ Q.x0 → FixedOnce luma columns p v (k ∷ [])) (λ _ z. absurd (omega arith))
        (λ j z. let g = f z j.along.1 in inl (g.0, g.1, tt)) i e

  -- and the row pass has no start but the frame's
  no_start : (p : Piece) (Q : Tile) → Memᴰ Q (tiles_of a b h) → p.0 ≡ Q.y0 → 0 < p.0 → ⊥
  no_start p Q m e o = either Q m (λ Q. p.0 ≡ Q.y0 → ⊥) (λ z. omega arith) (λ z. omega arith) e

-- ---- one block is its tile

one-tiled : (x n y h : ℕ) → 0 < n → Tiled (record { x0 = x; x1 = x + n; y0 = y; y1 = y + h }) (record { at = x; across = n; from = y; along = h } ∷ [])
one-tiled x n y h pos =
    record {
      sized = omega arith;
      within = (record { some = pos; left = omega arith; right = omega arith; top = omega arith; bottom = omega arith }, tt);
      every = λ u j a b c d. (_, Memᴰ.head refl, record { line = record { first = omega arith; last = omega arith }; first = omega arith; last = omega arith });
    }

-- ---- the blocks are legal, and seen as they are

luma-legal : (x t u : ℕ) → x % 16 ≡ 0 → Legal decoded 0 (coded (call x t u).block)
unfolding Num_4x4_Blocks_Wide Num_4x4_Blocks_High
luma-legal x t u e =
    record {
      code = omega arith;
      across = record { sub = omega arith; multiple = e; has = λ z. absurd (omega arith) };
      down = record { sub = omega arith; multiple = refl; has = λ z. absurd (omega arith) };
      covers = λ _ _ _ _. (refl, refl, refl);
    }

chroma-legal : (x t u : ℕ) → x % 16 ≡ 0 → Legal decoded 1 (coded (call x t u).block)
unfolding Num_4x4_Blocks_Wide Num_4x4_Blocks_High
chroma-legal x t u e =
    record {
      code = omega arith;
      across = record { sub = omega arith; multiple = e; has = λ _ z. absurd (omega arith) };
      down = record { sub = omega arith; multiple = refl; has = λ _ z. absurd (omega arith) };
      covers = λ _ _ _ _. (refl, refl, refl);
    }

luma-left : (m : Lent) → Shows decoded 0 (coded (call 0 1 0).block) (luma_seen (call 0 1 0) m).B
unfolding Num_4x4_Blocks_Wide Num_4x4_Blocks_High Tx_Wide Tx_High bw4 bh4
luma-left m =
    (agree.promises).intra decoded (coded (call 0 1 0).block) 0 0 16 2 1 (at_block (call 0 1 0).block m).above (at_block (call 0 1 0).block m).left
    (record {
      wide-seen = omega arith;
      high-seen = omega arith;
      code = omega arith;
      fits = omega arith;
      known = λ i y hi hy. ap (λ (b : Bool). cond b 1 4) (lt-ltb (0 + i) 16 (omega arith));
    }) refl

luma-right : (m : Lent) → Shows decoded 0 (coded (call 16 4 3).block) (luma_seen (call 16 4 3) m).B
unfolding Num_4x4_Blocks_Wide Num_4x4_Blocks_High Tx_Wide Tx_High bw4 bh4
luma-right m =
    (agree.promises).intra decoded (coded (call 16 4 3).block) 0 16 4 2 4 (at_block (call 16 4 3).block m).above (at_block (call 16 4 3).block m).left
    (record {
      wide-seen = omega arith;
      high-seen = omega arith;
      code = omega arith;
      fits = omega arith;
      known = λ i y hi hy. ap (λ (b : Bool). cond b 1 4) (le-ltb (16 + i) 16 (omega arith));
    }) refl

chroma-left : (m : Lent) → Shows decoded 1 (coded (call 0 1 0).block) (chroma_seen (call 0 1 0) m).B
unfolding Num_4x4_Blocks_Wide Num_4x4_Blocks_High Tx_Wide Tx_High cbw4 cbh4
chroma-left m =
    (agree.promises).chroma decoded 1 (coded (call 0 1 0).block) 0 0 8 1 0 (at_block (call 0 1 0).block m).above-uv (at_block (call 0 1 0).block m).left-uv (omega arith)
    (record {
      wide-seen = omega arith;
      high-seen = omega arith;
      code = omega arith;
      fits = omega arith;
      known = λ i y hi hy. ap (λ (b : Bool). cond b 0 3) (lt-ltb (0 + i) 8 (omega arith));
    })

chroma-right : (m : Lent) → Shows decoded 1 (coded (call 16 4 3).block) (chroma_seen (call 16 4 3) m).B
unfolding Num_4x4_Blocks_Wide Num_4x4_Blocks_High Tx_Wide Tx_High cbw4 cbh4
chroma-right m =
    (agree.promises).chroma decoded 1 (coded (call 16 4 3).block) 0 8 2 1 3 (at_block (call 16 4 3).block m).above-uv (at_block (call 16 4 3).block m).left-uv (omega arith)
    (record {
      wide-seen = omega arith;
      high-seen = omega arith;
      code = omega arith;
      fits = omega arith;
      known = λ i y hi hy. ap (λ (b : Bool). cond b 0 3) (le-ltb (8 + i) 8 (omega arith));
    })

-- ---- luma

luma-first : (d : Pass) → InTile decoded 0 (luma_grid 20 2) d (turned d (T 16 20 2 (omega arith) (omega arith))) (luma_seen (call 0 1 0) clear ∷ []) (luma_state clear) (luma_state between) 2
unfolding bw4 bh4 Num_4x4_Blocks_Wide Num_4x4_Blocks_High
luma-first =
    elim [
      | columns ↦ record { run = went; most = λ n. omega (arith, luma-low n); begins = λ j _ h. get_or-replicate 2 j 2 0 h; order = (tt, tt); tiled = one-tiled 0 16 0 2 (omega arith) }
      | rows ↦ record { run = went; most = λ n. omega (arith, luma-low n); begins = λ j _ h. get_or-replicate 20 j 2 0 (omega arith); order = (tt, tt); tiled = one-tiled 0 2 0 16 (omega arith) }
    ]
  where
    went : Run decoded 0 (luma_grid 20 2) (luma_seen (call 0 1 0) clear ∷ []) (luma_state clear) (luma_state between)
    went =
        run.drawn _ _ _ (luma_state between) _
        ((drawn.promises).luma decoded (call 0 1 0) 20 clear between calls.first refl (luma-legal 0 1 0 refl) (luma-left clear) refl refl (omega arith) (omega arith))
        (run.done _)

luma-second : (d : Pass) → InTile decoded 0 (luma_grid 20 2) d (turned d (R 16 20 2 (omega arith) (omega arith))) (luma_seen (call 16 4 3) (fresh between) ∷ [])
    (luma_state (fresh between)) (luma_state after) 2
unfolding bw4 bh4 Num_4x4_Blocks_Wide Num_4x4_Blocks_High
luma-second =
    elim [
      | columns ↦ record { run = went; most = λ n. omega (arith, luma-low n); begins = λ j _ h. get_or-replicate 2 j 2 0 h; order = (tt, tt); tiled = one-tiled 16 4 0 2 (omega arith) }
      | rows ↦ record { run = went; most = λ n. omega (arith, luma-low n); begins = λ j _ h. get_or-replicate 20 j 2 0 h; order = (tt, tt); tiled = one-tiled 0 2 16 4 (omega arith) }
    ]
  where
    went : Run decoded 0 (luma_grid 20 2) (luma_seen (call 16 4 3) (fresh between) ∷ []) (luma_state (fresh between)) (luma_state after)
    went =
        run.drawn _ _ _ (luma_state after) _
        ((drawn.promises).luma decoded (call 16 4 3) 20 (fresh between) after calls.second refl (luma-legal 16 4 3 refl) (luma-right (fresh between)) refl refl (omega arith) (omega arith))
        (run.done _)

luma-starts : AtStarts decoded 0 (luma_grid 20 2) (tiles_of 16 20 2) (fix_of between ∷ [])
luma-starts = record { frame = (refl, tt); starts = here; rest = λ d p _ _ Q m i n. never 16 20 2 (omega arith) (omega arith) (fix_of between) true refl refl d p Q m i n }
  where
    kept : (p : Piece) → p.0 ≡ 16 → p.1 < 2 → Fixes (fix_of between) true columns p × (kept_at (fix_of between) true p ≡ transform_class decoded 0 columns (p.0 - 1) p.1)
    kept p e h = (
      record { pass = refl; past = omega arith; unit = record { plane = inl refl; at = e; from = omega arith; to = h } },
      (let z : p.1 - 0 ≡ p.1 = omega arith in ap (λ (j : ℕ). get_or between.left j 0) z)
          ∙ (drawn.promises).leaves decoded 0 (luma_grid 20 2) columns (record { x0 = 0; x1 = 16; y0 = 0; y1 = 2 }) (luma_seen (call 0 1 0) clear ∷ []) (luma_state clear) (luma_state between) 2
          (luma-first columns) (omega arith) p.1 (omega arith) h
          ∙ ap (λ (x : ℕ). transform_class decoded 0 columns (x - 1) p.1) (sym e),
    )

    here : (d : Pass) (p : Piece) → p.0 < units_of (luma_grid 20 2) d → p.1 < units_of (luma_grid 20 2) (other d) → (Q : Tile) → Memᴰ Q (tiles_of 16 20 2) → In Q d p
        → p.0 ≡ (turned d Q).x0 → 0 < p.0 → FixedOnce true d p (transform_class decoded 0 d (p.0 - 1) p.1) (fix_of between ∷ [])
    here columns p px py Q m i e o = starts 16 20 2 (omega arith) (omega arith) (fix_of between) true refl refl p _ (kept p) Q m i e o
    here rows p px py Q m i e o = absurd (no_start 16 20 2 (omega arith) (omega arith) p Q m e o)

luma-tiles : InTiles decoded 0 (luma_grid 20 2) 2 (tiles_of 16 20 2) (fix_of between ∷ []) clear.masks after.masks masks
luma-tiles =
    record {
      tallies = record {
        proper = record { ss-hor-le = omega arith; ss-ver-le = omega arith; luma-x = λ _. refl; luma-y = λ _. refl };
        right-ss = refl;
        down-ss = refl;
        width = refl;
        height = refl;
        low = λ n. luma-low n;
      };
      parted =
          record {
            apart = ((apart 16 20 2 (omega arith) (omega arith), tt), (tt, tt));
            every =
                elim [ columns ↦ every 16 20 2 (omega arith) (omega arith) columns | rows ↦ every 16 20 2 (omega arith) (omega arith) rows ];
          };
      recorded = tile _ _ _ (luma_state clear) (luma_state between) _ luma-first (tile _ _ _ (luma_state (fresh between)) (luma_state after) _ luma-second (done _));
      clear = λ d p c _ _ _. none-set 640 (edge_bit (luma_grid 20 2) d p c);
      corrected = calls.fixed;
      starts = luma-starts;
    }

-- ---- chroma

chroma-first : (d : Pass) → InTile decoded 1 (chroma_grid 1 1 20 2) d (turned d (T 8 10 1 (omega arith) (omega arith))) (chroma_seen (call 0 1 0) clear ∷ []) (chroma_state clear) (chroma_state between) 1
unfolding cbw4 cbh4 Num_4x4_Blocks_Wide Num_4x4_Blocks_High
chroma-first =
    elim [
      | columns ↦ record { run = went; most = λ n. omega (arith, chroma-low n); begins = λ j _ h. get_or-replicate 1 j 1 0 h; order = (tt, tt); tiled = one-tiled 0 8 0 1 (omega arith) }
      | rows ↦ record { run = went; most = λ n. omega (arith, chroma-low n); begins = λ j _ h. get_or-replicate 10 j 1 0 (omega arith); order = (tt, tt); tiled = one-tiled 0 1 0 8 (omega arith) }
    ]
  where
    went : Run decoded 1 (chroma_grid 1 1 20 2) (chroma_seen (call 0 1 0) clear ∷ []) (chroma_state clear) (chroma_state between)
    went =
        run.drawn _ _ _ (chroma_state between) _
        ((drawn.promises).chroma decoded 1 (call 0 1 0) 20 clear between calls.first refl (chroma-legal 0 1 0 refl) (chroma-left clear) refl refl (omega arith) (omega arith))
        (run.done _)

chroma-second : (d : Pass) → InTile decoded 1 (chroma_grid 1 1 20 2) d (turned d (R 8 10 1 (omega arith) (omega arith))) (chroma_seen (call 16 4 3) (fresh between) ∷ [])
    (chroma_state (fresh between)) (chroma_state after) 1
unfolding cbw4 cbh4 Num_4x4_Blocks_Wide Num_4x4_Blocks_High
chroma-second =
    elim [
      | columns ↦ record { run = went; most = λ n. omega (arith, chroma-low n); begins = λ j _ h. get_or-replicate 1 j 1 0 h; order = (tt, tt); tiled = one-tiled 8 2 0 1 (omega arith) }
      | rows ↦ record { run = went; most = λ n. omega (arith, chroma-low n); begins = λ j _ h. get_or-replicate 10 j 1 0 h; order = (tt, tt); tiled = one-tiled 0 1 8 2 (omega arith) }
    ]
  where
    went : Run decoded 1 (chroma_grid 1 1 20 2) (chroma_seen (call 16 4 3) (fresh between) ∷ []) (chroma_state (fresh between)) (chroma_state after)
    went =
        run.drawn _ _ _ (chroma_state after) _
        ((drawn.promises).chroma decoded 1 (call 16 4 3) 20 (fresh between) after calls.second refl (chroma-legal 16 4 3 refl) (chroma-right (fresh between)) refl refl (omega arith) (omega arith))
        (run.done _)

chroma-starts : AtStarts decoded 1 (chroma_grid 1 1 20 2) (tiles_of 8 10 1) (fix_of between ∷ [])
chroma-starts = record { frame = (refl, tt); starts = here; rest = λ d p _ _ Q m i n. never 8 10 1 (omega arith) (omega arith) (fix_of between) false refl refl d p Q m i n }
  where
    kept : (p : Piece) → p.0 ≡ 8 → p.1 < 1 → Fixes (fix_of between) false columns p × (kept_at (fix_of between) false p ≡ transform_class decoded 1 columns (p.0 - 1) p.1)
    kept p e h = (
      record { pass = refl; past = omega arith; unit = record { plane = inr (λ z. omega arith); at = e; from = omega arith; to = h } },
      (let z : p.1 - 0 ≡ p.1 = omega arith in ap (λ (j : ℕ). get_or between.left-uv j 0) z)
          ∙ (drawn.promises).leaves decoded 1 (chroma_grid 1 1 20 2) columns (record { x0 = 0; x1 = 8; y0 = 0; y1 = 1 }) (chroma_seen (call 0 1 0) clear ∷ []) (chroma_state clear) (chroma_state between) 1
          (chroma-first columns) (omega arith) p.1 (omega arith) h
          ∙ ap (λ (x : ℕ). transform_class decoded 1 columns (x - 1) p.1) (sym e),
    )

    here : (d : Pass) (p : Piece) → p.0 < units_of (chroma_grid 1 1 20 2) d → p.1 < units_of (chroma_grid 1 1 20 2) (other d) → (Q : Tile) → Memᴰ Q (tiles_of 8 10 1) → In Q d p
        → p.0 ≡ (turned d Q).x0 → 0 < p.0 → FixedOnce false d p (transform_class decoded 1 d (p.0 - 1) p.1) (fix_of between ∷ [])
    here columns p px py Q m i e o = starts 8 10 1 (omega arith) (omega arith) (fix_of between) false refl refl p _ (kept p) Q m i e o
    here rows p px py Q m i e o = absurd (no_start 8 10 1 (omega arith) (omega arith) p Q m e o)

chroma-tiles : InTiles decoded 1 (chroma_grid 1 1 20 2) 1 (tiles_of 8 10 1) (fix_of between ∷ []) clear.masks after.masks masks
chroma-tiles =
    record {
      tallies = record {
        proper = record { ss-hor-le = omega arith; ss-ver-le = omega arith; luma-x = λ z. absurd (false≢true z); luma-y = λ z. absurd (false≢true z) };
        right-ss = refl;
        down-ss = refl;
        width = refl;
        height = refl;
        low = λ n. chroma-low n;
      };
      parted =
          record {
            apart = ((apart 8 10 1 (omega arith) (omega arith), tt), (tt, tt));
            every =
                elim [ columns ↦ every 8 10 1 (omega arith) (omega arith) columns | rows ↦ every 8 10 1 (omega arith) (omega arith) rows ];
          };
      recorded = tile _ _ _ (chroma_state clear) (chroma_state between) _ chroma-first (tile _ _ _ (chroma_state (fresh between)) (chroma_state after) _ chroma-second (done _));
      clear = λ d p c _ _ _. none-set 640 (edge_bit (chroma_grid 1 1 20 2) d p c);
      corrected = calls.fixed;
      starts = chroma-starts;
    }

-- ---- together

pub example : Example
unfolding Num_4x4_Blocks_Wide Num_4x4_Blocks_High Tx_Wide Tx_High apply_filter is_tx_edge is_block_edge log2
example =
    record {
      between = between;
      after = after;
      masks = masks;
      first = calls.first;
      second = calls.second;
      luma = luma-tiles;
      chroma = chroma-tiles;
      luma-edge = edges decoded 0 (luma_grid 20 2) 2 (tiles_of 16 20 2) (fix_of between ∷ []) clear.masks after.masks masks luma-tiles columns (16, 0);
      chroma-edge = edges decoded 1 (chroma_grid 1 1 20 2) 1 (tiles_of 8 10 1) (fix_of between ∷ []) clear.masks after.masks masks chroma-tiles columns (8, 0);
    }
