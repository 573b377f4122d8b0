-- The example meets the hypotheses: its two blocks are legal and cover the tile in order, so the calls draw it in luma and in chroma; the rest is computed.
use mathlib.Core.Bool.{Bool, cond, false≢true}
use mathlib.Core.List.Memᴰ
use mathlib.Core.List.{List}
use mathlib.Core.Logic.{inl, by_cases}
use mathlib.Core.Path.{◌≡◌, refl, ap, ◌∙◌}
use Prim.Native.Nat.{ℕ, ◌+◌, ◌/◌, ◌%◌, ◌<◌, ◌≤◌}
use native.Mathlib.Decide.{dec_lt}
use native.Mathlib.Omega.{arith}
use lib.Dec.{ltb}
use lib.ListN.{get_or-replicate}
use borrow.Author.Tests.{lt-ltb, le-ltb}
use Rattle.bits.proofs.Marks.{none-set}
use Rattle.loops.specs.Run.{All}
use Rattle.loops.proofs.Tables.{each_at}
use Rattle.standard.specs.Sizes.{Num_4x4_Blocks_Wide, Num_4x4_Blocks_High, Tx_Wide, Tx_High}
use Rattle.standard.specs.Edge.{apply_filter, is_tx_edge, is_block_edge}
use Rattle.plane.specs.Line.{Pass, columns, rows}
use Rattle.units.specs.Sizes.{log2}
use Rattle.edges.specs.Edges.{edge_bit}
use Rattle.mask_edges.proofs.BlockPasses.{chroma-low}
use Rattle.mask_edges.proofs.CellTables.{luma-low}
use Rattle.block.specs.Block.{bw4, bh4, cbw4, cbh4, Lent, at_block}
use Rattle.agree.specs.Legal.{Legal, Shows}
use Rattle.agree.proofs.Theorems as agree
use Rattle.covering.specs.Front.{Begins}
use Rattle.covering.specs.Cover.{Axis, PlacedIn}
use Rattle.drawn.specs.Calls.{coded, luma_seen, luma_state, luma_units, chroma_seen, chroma_state, chroma_units_of}
use Rattle.drawn.specs.Run.{context_in, SeenBlock, Tallies, OneTile}
use Rattle.blocks.specs.Laid as blocks
use Rattle.blocks.specs.Laid.{Calls, tile_in, Laid, LumaLegal, ChromaLegal}
use Rattle.blocks.proofs.Theorems as laid-calls
use Rattle.kept.specs.Holds.{HoldsEdges, LumaCalls, ChromaCalls}
use Rattle.kept.specs.Example.{decoded, call, clear, area, both, Example}
use Rattle.kept.proofs.Drawn.{luma-calls, chroma-calls}
use Rattle.kept.proofs.ExampleAccepted.{accepted}
use Rattle.kept.proofs.ExampleCalls.{between, after, first, second, frame}

-- ---- the blocks cover the tile

placed : (n last at : ℕ) → n ≡ 2 → at % 2 ≡ 0 → at + 2 ≤ last → (A : Axis) → A.first ≡ 0 → A.last ≡ last → PlacedIn A at n
unfolding log2
placed n last at e m h A f g =
    record {
      side = rw e (record { power = refl; low = omega arith; at_most = omega arith });
      multiple = rw e m;
      begins = omega arith;
      ends = inl (omega arith);
    }

laid : (sx sy : ℕ) → sx ≤ 1 → sy ≤ 1 → Laid area sx sy both
unfolding Num_4x4_Blocks_Wide Num_4x4_Blocks_High
laid sx sy hx hy =
    record {
      sound = elim [
        | columns ↦ record { sub = hx; first-even = refl; last-even = refl; mi-even = refl; some = omega arith; within = omega arith; up = omega arith; near = omega arith }
        | rows ↦ record { sub = hy; first-even = refl; last-even = refl; mi-even = refl; some = omega arith; within = omega arith; up = omega arith; near = omega arith }
      ];
      covering = elim [
        | columns ↦ record {
          placed = (
            (placed 2 4 0 refl refl (omega arith) _ refl refl, placed 2 2 0 refl refl (omega arith) _ refl refl),
            ((placed 2 4 2 refl refl (omega arith) _ refl refl, placed 2 2 0 refl refl (omega arith) _ refl refl), tt),
          );
          order = ((λ j a b. omega arith, tt), (tt, tt));
          every = λ u j a b. by_cases (dec_lt u 2)
              (λ l. (_, Memᴰ.head refl, record { line = record { first = omega arith; last = omega arith }; first = omega arith; last = omega arith }))
              (λ l. (_, Memᴰ.tail (Memᴰ.head refl), record { line = record { first = omega arith; last = omega arith }; first = omega arith; last = omega arith }));
        }
        | rows ↦ record {
          placed = (
            (placed 2 2 0 refl refl (omega arith) _ refl refl, placed 2 4 0 refl refl (omega arith) _ refl refl),
            ((placed 2 2 0 refl refl (omega arith) _ refl refl, placed 2 4 2 refl refl (omega arith) _ refl refl), tt),
          );
          order = ((λ j a b. absurd (omega (arith, a.last, b.first)), tt), (tt, tt));
          every = λ u j a b. by_cases (dec_lt j 2)
              (λ l. (_, Memᴰ.head refl, record { line = record { first = omega arith; last = omega arith }; first = omega arith; last = omega arith }))
              (λ l. (_, Memᴰ.tail (Memᴰ.head refl), record { line = record { first = omega arith; last = omega arith }; first = omega arith; last = omega arith }));
        }
      ];
    }

-- ---- the blocks are legal, and seen as they are

luma-legal : (x t : ℕ) → x % 2 ≡ 0 → Legal decoded 0 (coded (call x t).block)
unfolding Num_4x4_Blocks_Wide Num_4x4_Blocks_High
luma-legal x t e =
    record {
      code = omega arith;
      across = record { sub = omega arith; multiple = e; has = λ z. absurd (omega arith) };
      down = record { sub = omega arith; multiple = refl; has = λ z. absurd (omega arith) };
      covers = λ _ _ _ _. (refl, refl, refl);
    }

chroma-legal : (x t : ℕ) → x % 2 ≡ 0 → Legal decoded 1 (coded (call x t).block)
unfolding Num_4x4_Blocks_Wide Num_4x4_Blocks_High
chroma-legal x t e =
    record {
      code = omega arith;
      across = record { sub = omega arith; multiple = e; has = λ _ z. absurd (omega arith) };
      down = record { sub = omega arith; multiple = refl; has = λ _ z. absurd (omega arith) };
      covers = λ _ _ _ _. (refl, refl, refl);
    }

fits : (t : ℕ) → t < 2 → (Tx_Wide t ≤ 2) × (Tx_High t ≤ 2)
unfolding Tx_Wide Tx_High
fits = each_at 2 (λ t. (Tx_Wide t ≤ 2) × (Tx_High t ≤ 2)) (omega arith, (omega arith, tt))

luma-shows : (x t : ℕ) (m : Lent) → bw4 (call x t).block ≡ 2 → t < 2 → ((i : ℕ) → i < 2 → cond (ltb (x / 1 + i) 2) 0 1 ≡ t)
    → Shows decoded 0 (coded (call x t).block) (luma_seen (call x t) m).B
unfolding Num_4x4_Blocks_Wide Num_4x4_Blocks_High bh4
luma-shows x t m w h k =
    (agree.promises).intra decoded (coded (call x t).block) 0 (x % 32) (bw4 (call x t).block) 2 t (at_block (call x t).block m).above (at_block (call x t).block m).left
    (record {
      wide-seen = omega arith;
      high-seen = omega arith;
      code = omega arith;
      fits = fits t h;
      known = λ i y hi hy. k i (omega arith);
    }) refl

chroma-shows : (x t : ℕ) (m : Lent) → cbw4 (call x t).block ≡ 1 → Shows decoded 1 (coded (call x t).block) (chroma_seen (call x t) m).B
unfolding Num_4x4_Blocks_Wide Num_4x4_Blocks_High Tx_Wide Tx_High cbh4
chroma-shows x t m w =
    (agree.promises).chroma decoded 1 (coded (call x t).block) 0 (x % 32 / 2) (cbw4 (call x t).block) 1 0 (at_block (call x t).block m).above-uv
    (at_block (call x t).block m).left-uv (omega arith)
    (record { wide-seen = omega arith; high-seen = omega arith; code = omega arith; fits = omega arith; known = λ _ _ _ _. refl })

luma-first : (m : Lent) → Shows decoded 0 (coded (call 0 0).block) (luma_seen (call 0 0) m).B
unfolding bw4 Num_4x4_Blocks_Wide
luma-first m = luma-shows 0 0 m refl (omega arith) (λ i h. ap (λ (b : Bool). cond b 0 1) (lt-ltb (0 + i) 2 (omega arith)))

luma-second : (m : Lent) → Shows decoded 0 (coded (call 2 1).block) (luma_seen (call 2 1) m).B
unfolding bw4 Num_4x4_Blocks_Wide
luma-second m = luma-shows 2 1 m refl (omega arith) (λ i h. ap (λ (b : Bool). cond b 0 1) (le-ltb (2 + i) 2 (omega arith)))

luma-all : All (LumaLegal decoded area) both
luma-all = (
  record { w4-is = refl; h4-is = refl; legal = λ _. luma-legal 0 0 refl; shows = λ _. luma-first },
  (record { w4-is = refl; h4-is = refl; legal = λ _. luma-legal 2 1 refl; shows = λ _. luma-second }, tt),
)

chroma-all : All (ChromaLegal decoded 1 area 1 1) both
unfolding Num_4x4_Blocks_Wide Num_4x4_Blocks_High cbw4
chroma-all = (
  record { w4-is = refl; h4-is = refl; sx-is = refl; sy-is = refl; has = refl; legal = λ _. chroma-legal 0 0 refl; shows = λ _ m. chroma-shows 0 0 m refl },
  (record { w4-is = refl; h4-is = refl; sx-is = refl; sy-is = refl; has = refl; legal = λ _. chroma-legal 2 1 refl; shows = λ _ m. chroma-shows 2 1 m refl }, tt),
)

went : Calls 4 both clear after
went = blocks.call _ _ _ between _ first (blocks.call _ _ _ after _ second (blocks.done _))

-- ---- the tile

luma-tallies : Tallies decoded 0 (luma_units (call 0 0).block)
luma-tallies =
    record {
      proper = record { ss-hor-le = omega arith; ss-ver-le = omega arith; luma-x = λ _. refl; luma-y = λ _. refl };
      right-ss = refl;
      down-ss = refl;
      width = refl;
      height = refl;
      low = λ n. luma-low n;
    }

chroma-tallies : Tallies decoded 1 (chroma_units_of (call 0 0).block)
chroma-tallies =
    record {
      proper = record { ss-hor-le = omega arith; ss-ver-le = omega arith; luma-x = λ z. absurd (false≢true z); luma-y = λ z. absurd (false≢true z) };
      right-ss = refl;
      down-ss = refl;
      width = refl;
      height = refl;
      low = λ n. chroma-low n;
    }

luma-one : (l : List SeenBlock) × OneTile decoded 0 (luma_units (call 0 0).block) l (luma_state clear) (luma_state after) 2
luma-one =
    let r = (laid-calls.promises).luma decoded 4 area both clear after 2 luma-tallies went luma-all (laid 0 0 (omega arith) (omega arith))
    (record { above = omega arith; left = omega arith }) (λ n. omega (arith, luma-low n)) begins in
    (r.blocks, record { tile = elim [ columns ↦ r.in-tile columns | rows ↦ r.in-tile rows ]; clear = λ d p c _ _ _. none-set 640 (edge_bit (luma_units (call 0 0).block) d p c) })
  where
    begins : (d : Pass) → Begins 2 (tile_in area 0 0 d) (context_in d (luma_state clear))
    begins columns j _ h = get_or-replicate 2 j 2 0 h
    begins rows j _ h = get_or-replicate 4 j 2 0 h

chroma-one : (l : List SeenBlock) × OneTile decoded 1 (chroma_units_of (call 0 0).block) l (chroma_state clear) (chroma_state after) 1
chroma-one =
    let r = (laid-calls.promises).chroma decoded 1 4 area 1 1 both clear after 1 chroma-tallies went chroma-all (laid 1 1 (omega arith) (omega arith))
    (record { above = omega arith; left = omega arith }) (λ n. omega (arith, chroma-low n)) begins in
    (r.blocks, record { tile = elim [ columns ↦ r.in-tile columns | rows ↦ r.in-tile rows ]; clear = λ d p c _ _ _. none-set 640 (edge_bit (chroma_units_of (call 0 0).block) d p c) })
  where
    begins : (d : Pass) → Begins 1 (tile_in area 1 1 d) (context_in d (chroma_state clear))
    begins columns j _ h = get_or-replicate 1 j 1 0 h
    begins rows j _ h = get_or-replicate 2 j 1 0 h

-- ---- the frame

-- ---- together

luma-recorded : LumaCalls frame decoded 4 area both clear after
luma-recorded =
    record {
      units = refl;
      tallies = luma-tallies;
      whole = record { left = refl; top = refl; right = refl; bottom = refl };
      begun = record {
        clear = λ d p c _ _ _. none-set 640 (edge_bit (luma_units (call 0 0).block) d p c);
        contexts = elim [ columns ↦ λ j h. get_or-replicate 2 j 2 0 h | rows ↦ λ j h. get_or-replicate 4 j 2 0 h ];
      };
      long = record { above = omega arith; left = omega arith };
      calls = went;
      legal = luma-all;
      laid = laid 0 0 (omega arith) (omega arith);
      masks = refl;
    }

chroma-recorded : ChromaCalls frame decoded 1 1 4 area both clear after
chroma-recorded =
    record {
      units = refl;
      tallies = chroma-tallies;
      whole = record { left = refl; top = refl; right = refl; bottom = refl };
      begun = record {
        clear = λ d p c _ _ _. none-set 640 (edge_bit (chroma_units_of (call 0 0).block) d p c);
        contexts = elim [ columns ↦ λ j h. get_or-replicate 1 j 1 0 h | rows ↦ λ j h. get_or-replicate 2 j 1 0 h ];
      };
      long = record { above = omega arith; left = omega arith };
      calls = went;
      legal = chroma-all;
      laid = laid 1 1 (omega arith) (omega arith);
      masks = refl;
    }

luma-holds : HoldsEdges frame decoded 0
luma-holds = luma-calls frame decoded 4 area both clear after luma-recorded

chroma-holds : HoldsEdges frame decoded 1
chroma-holds = chroma-calls frame decoded 1 1 4 area both clear after chroma-recorded

pub example : Example
unfolding Num_4x4_Blocks_Wide Num_4x4_Blocks_High Tx_Wide Tx_High apply_filter is_tx_edge is_block_edge log2
example =
    record {
      after = after;
      luma-tile = luma-one;
      chroma-tile = chroma-one;
      frame = frame;
      head-is = refl;
      luma = luma-recorded;
      chroma = chroma-recorded;
      holds = record { luma = luma-holds; chroma = λ _. chroma-holds };
      accepted = accepted luma-holds chroma-holds;
      inner-column = luma-holds.edges columns (1, 0) ∙ refl;
      inner-row = luma-holds.edges rows (1, 0) ∙ refl;
      block-edge = luma-holds.edges columns (2, 0) ∙ refl;
      no_edge = luma-holds.edges columns (3, 0) ∙ refl;
      chroma-edge = chroma-holds.edges columns (1, 0) ∙ refl;
    }
