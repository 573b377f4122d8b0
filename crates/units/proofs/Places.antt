-- Units, records, level bytes and mask bits lie within their frame and memory, and no two edges share a bit: `omega`, at ss 0 and at ss 1.
use mathlib.Core.Path.{◌≡◌, sym, ap₂, ◌∙◌}
use mathlib.Core.Bool.{Bool, true, false, cond}
use Prim.Native.Nat.{ℕ, ◌+◌, ◌*◌, ◌/◌, ◌%◌, ◌^◌, ◌<◌, ◌≤◌}
use native.Mathlib.Nat.{div-add-mod', le-div_iff_mul-le, suc-mul, mul_comm, mul-le-mul_left}
use native.Mathlib.Omega.{arith}
use lib.Dec.{eqb}
use Rattle.loops.specs.Exactly.{Exactly}
use Rattle.loops.proofs.Tables.{each_at}
use Rattle.loops.proofs.Products.{row_in}
use Rattle.units.specs.Units.{units_of, chroma_unit, chroma_units}
use Rattle.units.specs.Layout.{ss_hor, ss_ver}
use Rattle.units.specs.Frame.{stored, records, superblocks}
use Rattle.plane.specs.Line.{Pass, columns, rows, pass_no}
use Rattle.units.specs.Masks.{word_of, unit_words, pass_start, chroma_word, half_units, luma_bit, chroma_bit}
use Rattle.units.specs.Memory.{level_at}

flag-le : (b : Bool) (m n : ℕ) → m ≤ 1 → n ≤ 1 → cond b m n ≤ 1
flag-le true m n p q = p
flag-le false m n p q = q

-- what holds at ss 0 and at ss 1
pub by-ss : (P : ℕ → Type 0) → P 0 → P 1 → (ss : ℕ) → ss ≤ 1 → P ss
by-ss P p q ss h = each_at 2 P (q, (p, tt)) ss (omega arith)

-- the units of a record of a plane
pub side-le : (ss : ℕ) → ss ≤ 1 → 32 / 2 ^ ss ≤ 32
side-le = by-ss (λ ss. 32 / 2 ^ ss ≤ 32) (omega arith) (omega arith)

-- a chroma unit of the frame, counted as luma units are, lies in it too
pub chroma-units-le : (n ss : ℕ) → ss ≤ 1 → chroma_units ss n ≤ n
chroma-units-le n = by-ss (λ ss. chroma_units ss n ≤ n) (omega arith) (omega arith)

pub unit-le : (ss n : ℕ) → ss ≤ 1 → chroma_unit ss n ≤ n
unit-le ss n h = by-ss (λ t. chroma_unit t n ≤ n) (omega arith) (omega arith) ss h

-- a superblock row of the frame, counted in units of its plane
pub rows-le : (ss k sb4 m sb : ℕ) → ss ≤ 1 → k * sb4 < m → sb ≡ chroma_unit ss sb4 → k * sb < m
rows-le ss k sb4 m sb h l e = rw e (omega (arith, mul-le-mul_left k (unit-le ss sb4 h)))

pub chroma-unit-in : (u n ss : ℕ) → u < n → ss ≤ 1 → chroma_unit ss u < chroma_units ss n
chroma-unit-in u n ss h = by-ss (λ ss. chroma_unit ss u < chroma_units ss n) (omega arith) (omega arith) ss

pub ss-hor-le : (layout : ℕ) → ss_hor layout ≤ 1
ss-hor-le layout = flag-le (eqb layout 444) 0 1 (omega arith) (omega arith)

pub ss-ver-le : (layout : ℕ) → ss_ver layout ≤ 1
ss-ver-le layout = flag-le (eqb layout 420) 1 0 (omega arith) (omega arith)

-- superblock k begins within n units
pub superblock-in : (k n sb4 : ℕ) → 0 < sb4 → Exactly (k < superblocks n sb4) (k * sb4 < n)
superblock-in k n sb4 p =
    record {
      only = λ h. omega (arith, (le-div_iff_mul-le p).0 h, suc-mul k sb4);
      always = λ h. (le-div_iff_mul-le p).1 (omega (arith, suc-mul k sb4));
    }

-- a stored side holds whole records
pub stored-records : (side ss : ℕ) → ss ≤ 1 → stored side ss ≡ 4 * (records (units_of side) * (32 / 2 ^ ss))
stored-records side = by-ss (λ ss. stored side ss ≡ 4 * (records (units_of side) * (32 / 2 ^ ss))) (omega arith) (omega arith)

pub level_in_lem : (len stride w4 h4 x y area : ℕ) → w4 ≤ stride → 4 * stride * h4 ≤ len → x < w4 → y < h4 → area < 4 → level_at stride x y area < len
unfolding level_at
level_in_lem len stride w4 h4 x y area a b p q r = omega (arith, row_in y h4 stride q, mul_comm h4 stride)

-- ---- words of a record

-- a word stands after those before its pass and its unit
pub word_at : (luma : Bool) (d : Pass) (unit c h : ℕ) → word_of luma d unit c h ≡ pass_start luma d + unit_words luma * unit + 2 * c + h
word_at true d unit c h = omega arith
word_at false d unit c h = omega arith

pub pass-lt : (d : Pass) → pass_no d < 2
pass-lt columns = omega arith
pass-lt rows = omega arith

pub pass-in : (luma : Bool) (d : Pass) → pass_start luma d + unit_words luma * 32 ≤ 640
pass-in true columns = omega arith
pass-in true rows = omega arith
pass-in false columns = omega arith
pass-in false rows = omega arith

-- ---- bits of a record

pub half_in : (place ss : ℕ) → ss ≤ 1 → place < 2 * half_units ss → (place / half_units ss < 2) × (place % half_units ss < 16)
half_in place = by-ss (λ ss. place < 2 * half_units ss → (place / half_units ss < 2) × (place % half_units ss < 16)) (λ h. omega arith) (λ h. omega arith)

-- the same as the code has it, h being the units of a half
pub half_at : (place ss h : ℕ) → h ≡ half_units ss → ss ≤ 1 → place < 2 * half_units ss → (0 < h) × (place / h < 2) × (place % h < 16)
half_at place ss h e l p = rw e (by-ss (λ ss. 0 < half_units ss) (omega arith) (omega arith) ss l, (half_in place ss l p).0, (half_in place ss l p).1)

pub luma-bit-inj : (p p' u u' k k' q q' : ℕ) → u < 32 → u' < 32 → k < 3 → k' < 3 → q < 32 → q' < 32
    → luma_bit p u k q ≡ luma_bit p' u' k' q' → (p ≡ p') × (u ≡ u') × (k ≡ k') × (q ≡ q')
unfolding luma_bit
luma-bit-inj p p' u u' k k' q q' hu hu' hk hk' hq hq' e = omega arith

chroma-word-inj : (p p' u u' k k' h h' : ℕ) → u < 32 → u' < 32 → k < 2 → k' < 2 → h < 2 → h' < 2
    → chroma_word p u k h ≡ chroma_word p' u' k' h' → (p ≡ p') × (u ≡ u') × (k ≡ k') × (h ≡ h')
chroma-word-inj p p' u u' k k' h h' hu hu' hk hk' hh hh' e = omega arith

pub chroma-bit-inj : (ss p p' u u' k k' q q' : ℕ) → ss ≤ 1 → u < 32 → u' < 32 → k < 2 → k' < 2 → q < 2 * half_units ss → q' < 2 * half_units ss
    → chroma_bit ss p u k q ≡ chroma_bit ss p' u' k' q' → (p ≡ p') × (u ≡ u') × (k ≡ k') × (q ≡ q')
unfolding chroma_bit
chroma-bit-inj ss p p' u u' k k' q q' l hu hu' hk hk' hq hq' e =
    let m = half_units ss in
    let i = half_in q ss l hq in
    let i' = half_in q' ss l hq' in
    let w : chroma_word p u k (q / m) ≡ chroma_word p' u' k' (q' / m) = omega arith in
    let b : q % m ≡ q' % m = omega arith in
    let d = chroma-word-inj p p' u u' k k' (q / m) (q' / m) hu hu' hk hk' i.0 i'.0 w in
    (d.0, d.1, d.2, sym (div-add-mod' q m) ∙ ap₂ (λ (x y : ℕ). x * m + y) d.3 b ∙ div-add-mod' q' m)

-- the 384 luma words of a record come first, then its 256 chroma words
pub luma-bit-in : (p u k q : ℕ) → p < 2 → u < 32 → k < 3 → q < 32 → luma_bit p u k q < 16 * 384
unfolding luma_bit
luma-bit-in p u k q hp hu hk hq = omega arith

pub chroma-bit-in : (ss p u k q : ℕ) → ss ≤ 1 → p < 2 → u < 32 → k < 2 → q < 2 * half_units ss
    → (16 * 384 ≤ chroma_bit ss p u k q) × (chroma_bit ss p u k q < 16 * 640)
unfolding chroma_bit
chroma-bit-in ss p u k q h hp hu hk hq = omega (arith, half_in q ss h hq)
