-- The promises, proved: luma and chroma are fair, and a frame of three planes is done plane by plane.
use Prim.Native.Nat.{ℕ, ◌+◌, ◌≤◌}
use native.Mathlib.Omega.{arith}
use mathlib.Core.Path.{◌≡◌, refl, sym, ap, ◌∙◌, subst⁻¹}
use mathlib.Core.List.{List}
use Rattle.loops.specs.Run.{run, up_to}
use Rattle.plane.specs.Line.{columns, rows, Piece}
use Rattle.loops.proofs.Runs.{up_to-part}
use Rattle.plane.specs.Plane.{Widths, luma, chroma, Plane, Kept, act, cols_of, rows_of}
use Rattle.plane.specs.Three.{Three, cols_call, rows_call}
use Rattle.order.specs.Promises.{Promises, KeptFrame}
use Rattle.order.specs.Demand3.{Demand3, Order, Sees, all_of, Frame3}
use Rattle.plane.proofs.Pieces.{Fair, fair-luma, fair-chroma}
use Rattle.order.proofs.Frames.{demand3, sees, far-luma, far-chroma}

abbrev Far : ℕ → Widths → Type 0
Far n w = (c : ℕ) → w.reads c + w.writes c ≤ n + 1

order-luma : (P : Plane) → P.widths ≡ luma → Kept P → Demand3 P
order-luma P e k = demand3 P k (subst⁻¹ Fair e fair-luma)

order-chroma : (P : Plane) → P.widths ≡ chroma → Kept P → Demand3 P
order-chroma P e k = demand3 P k (subst⁻¹ Fair e fair-chroma)

sees-luma : (P : Plane) (n : ℕ) → luma.reads 2 + luma.writes 2 ≤ n + 1 → P.widths ≡ luma → Kept P → Sees P n
sees-luma P n h e k = sees P k (subst⁻¹ Fair e fair-luma) n (subst⁻¹ (Far n) e (far-luma n h))

sees-chroma : (P : Plane) (n : ℕ) → chroma.reads 1 + chroma.writes 1 ≤ n + 1 → P.widths ≡ chroma → Kept P → Sees P n
sees-chroma P n h e k = sees P k (subst⁻¹ Fair e fair-chroma) n (subst⁻¹ (Far n) e (far-chroma n h))

-- one plane of a frame of n rows
turns : (P : Plane) (n : ℕ) → P.sbs ≡ n → Demand3 P → (l m : List Piece) → Order P columns l → Order P rows m → (s : List ℕ)
    → up_to (λ k t. rows_of P k (cols_of P k t)) n s ≡ run (act P rows) m (run (act P columns) l s)
turns P n e d l m L M s = ap (λ j. up_to (λ k t. rows_of P k (cols_of P k t)) j s) (sym e) ∙ d.rows-in-turn l m L M s

frame : (F : Three Plane) (n : ℕ) → KeptFrame F n → Frame3 F n
unfolding cols_call rows_call all_of
frame F n k =
    record {
      frame = λ l m L M s.
          let y = up_to-part (λ x. x.luma) (λ j t. rows_call F j (cols_call F j t)) (λ j t. rows_of F.luma j (cols_of F.luma j t)) (λ i x. refl) n s
          ∙ turns F.luma n k.luma-rows (order-luma F.luma k.luma-is k.luma-kept) l.luma m.luma L.luma M.luma s.luma in
          let u = up_to-part (λ x. x.u) (λ j t. rows_call F j (cols_call F j t)) (λ j t. rows_of F.u j (cols_of F.u j t)) (λ i x. refl) n s
          ∙ turns F.u n k.u-rows (order-chroma F.u k.u-is k.u-kept) l.u m.u L.u M.u s.u in
          let v = up_to-part (λ x. x.v) (λ j t. rows_call F j (cols_call F j t)) (λ j t. rows_of F.v j (cols_of F.v j t)) (λ i x. refl) n s
          ∙ turns F.v n k.v-rows (order-chroma F.v k.v-is k.v-kept) l.v m.v L.v M.v s.v in
          λ i. record { luma = y i; u = u i; v = v i };
    }

pub promises : Promises
promises =
    record {
      frame = frame;
      order-luma = order-luma;
      order-chroma = order-chroma;
      sees-luma = λ P e k. sees-luma P _ (omega arith) e k;
      sees-chroma = λ P e k. sees-chroma P _ (omega arith) e k;
    }
