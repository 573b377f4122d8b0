-- A superblock row of the frame is a row of each of its planes and lies in what they store: `omega`, at each size of superblocks and each subsampling.
use mathlib.Core.Path.{◌≡◌, sym, subst}
use mathlib.Core.Logic.{⊎_elim}
use Prim.Native.Nat.{ℕ, ◌+◌, ◌*◌, ◌<◌, ◌≤◌}
use native.Mathlib.Nat.{mul_comm, mul-le-mul_right}
use native.Mathlib.Omega.{arith}
use Rattle.loops.proofs.Tables.{each_at}
use Rattle.units.specs.Frame.{stored}
use Rattle.units.specs.Units.{units_of, chroma_unit, chroma_units}
use Rattle.units.proofs.Places.{chroma-units-le}
use Rattle.scans.specs.Fits.{Superblock, SbRow, LevelsFit, SamplesFit, LevelsRow}

stored_some : (width ss : ℕ) → ss ≤ 1 → 0 < width → 0 < stored width ss
stored_some width ss h l = each_at 2 (λ t. 0 < stored width t) (omega arith, (omega arith, tt)) ss (omega arith)

by_shape : (P : ℕ → ℕ → Type 0) → P 0 16 → P 1 16 → P 0 32 → P 1 32 → (ss sb4 : ℕ) → ss ≤ 1 → Superblock sb4 → P ss sb4
by_shape P a b c d ss sb4 h s =
    ⊎_elim
    (λ e. subst (P ss) (sym e) (each_at 2 (λ t. P t 16) (b, (a, tt)) ss (omega arith)))
    (λ e. subst (P ss) (sym e) (each_at 2 (λ t. P t 32) (d, (c, tt)) ss (omega arith)))
    s

plane-row : (ss h4 sb4 k : ℕ) → ss ≤ 1 → SbRow h4 sb4 k → k * chroma_unit ss sb4 < chroma_units ss h4
plane-row ss h4 sb4 k h r =
    by_shape (λ ss sb4. k * sb4 < h4 → k * chroma_unit ss sb4 < chroma_units ss h4) (λ d. omega arith) (λ d. omega arith) (λ d. omega arith)
    (λ d. omega arith) ss sb4 h r.size r.down

row-most : (ss sb4 : ℕ) → ss ≤ 1 → Superblock sb4 → chroma_unit ss sb4 ≤ 32
row-most = by_shape (λ ss sb4. chroma_unit ss sb4 ≤ 32) (omega arith) (omega arith) (omega arith) (omega arith)

-- luma is at ss 0
pub levels-row : (len level-stride w4 h4 ss-hor ss-ver sb4 k width height sb : ℕ) → LevelsFit len level-stride w4 h4 sb4 k → ss-hor ≤ 1 → ss-ver ≤ 1
    → width ≡ chroma_units ss-hor w4 → height ≡ chroma_units ss-ver h4 → sb ≡ chroma_unit ss-ver sb4 → LevelsRow len level-stride width height sb k
levels-row len level-stride w4 h4 ss-hor ss-ver sb4 k width height sb f p q ew eh es =
    let x = chroma-units-le w4 ss-hor p in
    let y = chroma-units-le h4 ss-ver q in
    record {
      right = omega (arith, f.width);
      some = omega (arith, f.some, f.width);
      long = rw eh (omega (arith, f.long, mul-le-mul_right level-stride y, mul_comm level-stride h4));
      down = rw (eh, es) (plane-row ss-ver h4 sb4 k q f.row);
      most = omega (arith, f.row.most);
      few = rw es (row-most ss-ver sb4 q f.row.size);
    }

pub stored_row : (ss height sb4 k : ℕ) → ss ≤ 1 → SbRow (units_of height) sb4 k → 4 * ((k + 1) * chroma_unit ss sb4) ≤ stored height ss
stored_row ss height sb4 k h r =
    by_shape (λ ss sb4. k * sb4 < units_of height → 4 * ((k + 1) * chroma_unit ss sb4) ≤ stored height ss) (λ d. omega arith) (λ d. omega arith)
    (λ d. omega arith) (λ d. omega arith) ss sb4 h r.size r.down

pub samples-row : (len stride width height ss-hor ss-ver sb4 k w sb : ℕ) → SamplesFit len stride width height ss-hor ss-ver sb4 k → ss-hor ≤ 1 → ss-ver ≤ 1
    → w ≡ stored width ss-hor → sb ≡ chroma_unit ss-ver sb4 → (4 * ((k + 1) * sb) * stride ≤ len) × (w ≤ stride) × (0 < stride)
samples-row len stride width height ss-hor ss-ver sb4 k w sb f p q ew es = (
  rw es (omega (arith, f.long, mul-le-mul_right stride (stored_row ss-ver height sb4 k q f.row), mul_comm stride (stored height ss-ver))),
  omega (arith, f.right),
  omega (arith, f.right, stored_some width ss-hor p f.some),
)
