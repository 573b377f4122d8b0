-- Units, halves and records of a plane in numbers: `omega`, at each subsampling and each size of superblocks.
use mathlib.Core.Path.{◌≡◌, sym, subst}
use mathlib.Core.Logic.{◌⊎◌, ⊎_elim}
use Prim.Native.Nat.{ℕ, ◌+◌, ◌*◌, ◌/◌, ◌%◌, ◌^◌, ◌≤◌, ◌<◌}
use native.Mathlib.Omega.{arith}
use Rattle.units.specs.Frame.{records}
use Rattle.units.specs.Units.{chroma_unit, chroma_units}
use Rattle.units.proofs.Places.{by-ss}
use Rattle.units.specs.Masks.{record_row, first_line, first_half, half_units}

by-sb : (P : ℕ → Type 0) → P 16 → P 32 → (sb4 : ℕ) → (sb4 ≡ 16) ⊎ (sb4 ≡ 32) → P sb4
by-sb P p q sb4 = ⊎_elim (λ e. subst P (sym e) p) (λ e. subst P (sym e) q)

-- what a frame has is stored
pub units-stored : (ss n : ℕ) → ss ≤ 1 → chroma_units ss n ≤ records n * (32 / 2 ^ ss)
units-stored ss n h = by-ss (λ t. chroma_units t n ≤ records n * (32 / 2 ^ t)) (omega arith) (omega arith) ss h

pub record-starts : (ss n rec : ℕ) → ss ≤ 1 → rec < records n → rec * (32 / 2 ^ ss) < chroma_units ss n
record-starts ss n rec h l = by-ss (λ t. rec * (32 / 2 ^ t) < chroma_units t n) (omega arith) (omega arith) ss h

-- ---- a record of `side` units holds two halves

pub record Halves (half side : ℕ) : Type 0 where
  pub most : half ≤ 16
  pub two : side ≡ 2 * half
  -- unit b of half j
  pub record_no : (j b : ℕ) → b < half → (j * half + b) / side ≡ j / 2
  pub place : (j b : ℕ) → b < half → (j * half + b) % side ≡ j % 2 * half + b
  pub half_no : (h b : ℕ) → b < half → (h * half + b) / half ≡ h
  pub bit : (h b : ℕ) → b < half → (h * half + b) % half ≡ b
  -- half h of record l
  pub half_at : (l h b : ℕ) → (l * 2 + h) * half + b ≡ l * side + (h * half + b)
  -- unit i of record rec
  pub of-record : (rec i : ℕ) → i < side → (rec * side + i) / side ≡ rec
  pub in-record : (rec i : ℕ) → i < side → (rec * side + i) % side ≡ i
  -- unit y is unit y % half of half y / half
  pub half_of : (n y : ℕ) → y < n * half → y / half < n
  pub bit-of : (y : ℕ) → y % half < half
  pub again : (y : ℕ) → y / half * half + y % half ≡ y

pub halves : (ss : ℕ) → ss ≤ 1 → Halves (half_units ss) (32 / 2 ^ ss)
halves =
    by-ss (λ ss. Halves (half_units ss) (32 / 2 ^ ss))
    (record {
      most = omega arith;
      two = omega arith;
      record_no = λ j b l. omega arith;
      place = λ j b l. omega arith;
      half_no = λ h b l. omega arith;
      bit = λ h b l. omega arith;
      half_at = λ l h b. omega arith;
      of-record = λ rec i l. omega arith;
      in-record = λ rec i l. omega arith;
      half_of = λ n y l. omega arith;
      bit-of = λ y. omega arith;
      again = λ y. omega arith;
    })
    (record {
      most = omega arith;
      two = omega arith;
      record_no = λ j b l. omega arith;
      place = λ j b l. omega arith;
      half_no = λ h b l. omega arith;
      bit = λ h b l. omega arith;
      half_at = λ l h b. omega arith;
      of-record = λ rec i l. omega arith;
      in-record = λ rec i l. omega arith;
      half_of = λ n y l. omega arith;
      bit-of = λ y. omega arith;
      again = λ y. omega arith;
    })

-- ---- superblock row k in its record row: its halves, and its lines in a plane

pub record RowHalves (h4 sb4 k : ℕ) : Type 0 where
  pub down : record_row sb4 k < records h4
  pub half_no : record_row sb4 k * 2 + first_half sb4 k ≡ k * (sb4 / 16)
  pub some : 0 < sb4 / 16
  pub two : first_half sb4 k + sb4 / 16 ≤ 2

pub row-halves : (h4 sb4 k : ℕ) → (sb4 ≡ 16) ⊎ (sb4 ≡ 32) → k * sb4 < h4 → RowHalves h4 sb4 k
row-halves h4 sb4 k =
    by-sb (λ n. k * n < h4 → RowHalves h4 n k)
    (λ d. record { down = omega arith; half_no = omega arith; some = omega arith; two = omega arith })
    (λ d. record { down = omega arith; half_no = omega arith; some = omega arith; two = omega arith })
    sb4

pub record RowLines (ss h4 sb4 k : ℕ) : Type 0 where
  pub lines : record_row sb4 k * (32 / 2 ^ ss) + first_line ss sb4 k ≡ k * chroma_unit ss sb4
  pub room : first_line ss sb4 k + chroma_unit ss sb4 ≤ 32 / 2 ^ ss
  pub down : k * chroma_unit ss sb4 < chroma_units ss h4
  -- in halves
  pub many : sb4 / 16 * half_units ss ≡ chroma_unit ss sb4
  pub from : k * (sb4 / 16) * half_units ss ≡ k * chroma_unit ss sb4

pub row-lines : (ss h4 sb4 k : ℕ) → ss ≤ 1 → (sb4 ≡ 16) ⊎ (sb4 ≡ 32) → k * sb4 < h4 → RowLines ss h4 sb4 k
row-lines ss h4 sb4 k h =
    by-sb (λ n. k * n < h4 → RowLines ss h4 n k)
    (by-ss (λ t. k * 16 < h4 → RowLines t h4 16 k)
    (λ d. record { lines = omega arith; room = omega arith; down = omega arith; many = omega arith; from = omega arith })
    (λ d. record { lines = omega arith; room = omega arith; down = omega arith; many = omega arith; from = omega arith })
    ss h)
    (by-ss (λ t. k * 32 < h4 → RowLines t h4 32 k)
    (λ d. record { lines = omega arith; room = omega arith; down = omega arith; many = omega arith; from = omega arith })
    (λ d. record { lines = omega arith; room = omega arith; down = omega arith; many = omega arith; from = omega arith })
    ss h)
    sb4
