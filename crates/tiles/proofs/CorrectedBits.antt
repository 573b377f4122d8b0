-- A correction changes the bits of the units that it corrects and no other: those of other units, passes and planes are not theirs. So a unit that is corrected
-- once has the least of its own class and the one that was kept.
use mathlib.Core.Bool.{Bool, true, false, cond}
use mathlib.Core.List.{List, ◌∷◌}
use mathlib.Core.Logic.{inl, inr, by_cases}
use mathlib.Core.Path.{◌≡◌, refl, sym, ap, ◌∙◌, subst, subst₂}
use Prim.Native.Nat.{ℕ, ◌-◌, ◌<◌, min}
use native.Mathlib.Decide.{dec_lt}
use native.Mathlib.Omega.{arith}
use lib.Dec.{eqb}
use lib.ListN.{length, get_or}
use borrow.Author.Tests.{not-false}
use Rattle.loops.specs.Run.{All}
use Rattle.bits.specs.Mark.{is_set}
use Rattle.plane.specs.Line.{Pass, columns, rows, Piece, other, pass_of}
use Rattle.edges.specs.Edges.{Grid, units_of, classes, edge_bit}
use Rattle.edges.proofs.Bits.{edge-bit-inj, luma-chroma-apart}
use Rattle.correct.specs.declared.Start.{Start}
use Rattle.correct.specs.Start as start
use Rattle.correct.specs.Start.{grid_at, begin, first, Inside}
use Rattle.correct.specs.Answer.{CorrectAnswer}
use Rattle.correct.specs.Promises.{CorrectedUnit, bit_at, Promised}
use Rattle.correct.proofs.Starts.{proper, shaped, inside_is}
use Rattle.correct.proofs.AcceptedStart.{across-in, end-in, all-passed}
use Rattle.correct.proofs.AnswerLaws as told
use Rattle.drawn.proofs.Bits.{passes-apart}
use Rattle.drawn.proofs.CorrectedStart.{new-class}
use Rattle.tiles.specs.Tiles.{Fix, Corrected, done, fix, Fixes, kept_at, Never, FixedOnce}

-- ---- one correction

module _ (r : Start) (context context-uv m n : List ℕ) (A : CorrectAnswer r context context-uv 0 m n) where
  answered : Promised r context context-uv 0 m n
  answered = (told.promises).each r context context-uv 0 m n A

  in_frame : Inside r
  in_frame =
      let q = all-passed r (length m) context context-uv (sym A.code) in
      inside_is r (shaped r q.shape) (not-false (start.inside r) q.outside)

  -- two units of one plane with a bit in common
  same-plane : (luma : Bool) (e d : Pass) (q p : Piece) (k c : ℕ) → pass_of r.rowwise ≡ e → q.0 < units_of (grid_at r luma) e → q.1 < units_of (grid_at r luma) (other e)
      → p.0 < units_of (grid_at r luma) d → p.1 < units_of (grid_at r luma) (other d) → k < classes (grid_at r luma) → c < classes (grid_at r luma)
      → CorrectedUnit r luma q → (pass_of r.rowwise ≡ d → CorrectedUnit r luma p → ⊥) → edge_bit (grid_at r luma) e q k ≡ edge_bit (grid_at r luma) d p c → ⊥
  same-plane luma columns rows q p k c f qx qy px py hk hc u free z = passes-apart (grid_at r luma) (proper r luma) q p k c hk hc z
  same-plane luma rows columns q p k c f qx qy px py hk hc u free z = passes-apart (grid_at r luma) (proper r luma) p q c k hc hk (sym z)
  same-plane luma columns columns q p k c f qx qy px py hk hc u free z =
      let i = edge-bit-inj (grid_at r luma) (proper r luma) columns q p k c qx qy px py hk hc z in
      free f (record { plane = u.plane; at = sym i.0 ∙ u.at; from = omega (arith, i.1, u.from); to = omega (arith, i.1, u.to) })
  same-plane luma rows rows q p k c f qx qy px py hk hc u free z =
      let i = edge-bit-inj (grid_at r luma) (proper r luma) rows q p k c qx qy px py hk hc z in
      free f (record { plane = u.plane; at = sym i.0 ∙ u.at; from = omega (arith, i.1, u.from); to = omega (arith, i.1, u.to) })

  clash : (a b : Bool) (d : Pass) (q p : Piece) (k c : ℕ) → p.0 < units_of (grid_at r a) d → p.1 < units_of (grid_at r a) (other d) → c < classes (grid_at r a)
      → k < classes (grid_at r b) → CorrectedUnit r b q → (pass_of r.rowwise ≡ d → CorrectedUnit r a p → ⊥) → bit_at r b q k ≡ edge_bit (grid_at r a) d p c → ⊥
  clash true false d q p k c px py hc hk u free z =
      luma-chroma-apart (grid_at r true) (grid_at r false) (proper r true) (proper r false) refl refl d (pass_of r.rowwise) p q c k hc hk (sym z)
  clash false true d q p k c px py hc hk u free z =
      luma-chroma-apart (grid_at r true) (grid_at r false) (proper r true) (proper r false) refl refl (pass_of r.rowwise) d q p k c hk hc z
  clash true true d q p k c px py hc hk u free z =
      same-plane true (pass_of r.rowwise) d q p k c refl (omega (arith, u.at, across-in r true in_frame)) (omega (arith, u.to, end-in r true in_frame)) px py hk hc u free z
  clash false false d q p k c px py hc hk u free z =
      same-plane false (pass_of r.rowwise) d q p k c refl (omega (arith, u.at, across-in r false in_frame)) (omega (arith, u.to, end-in r false in_frame)) px py hk hc u free z

  stays : (luma : Bool) (d : Pass) (p : Piece) (c : ℕ) → p.0 < units_of (grid_at r luma) d → p.1 < units_of (grid_at r luma) (other d) → c < classes (grid_at r luma)
      → (pass_of r.rowwise ≡ d → 0 < begin r → CorrectedUnit r luma p → ⊥) → is_set n (edge_bit (grid_at r luma) d p c) ≡ is_set m (edge_bit (grid_at r luma) d p c)
  stays luma d p c px py hc free =
      by_cases (dec_lt 0 (begin r))
      (λ b. answered.others (edge_bit (grid_at r luma) d p c) (λ l q k u hk z. clash luma l d q p k c px py hc hk u (λ e. free e b) z))
      (λ b. ap (λ (x : List ℕ). is_set x (edge_bit (grid_at r luma) d p c)) (answered.at-unit-0 (omega arith)))

  fixed : (luma : Bool) (p : Piece) → 0 < begin r → CorrectedUnit r luma p → (k : ℕ) → k < classes (grid_at r luma)
      → ((c : ℕ) → c < classes (grid_at r luma) → is_set m (bit_at r luma p c) ≡ eqb k c) → (c : ℕ) → c < classes (grid_at r luma)
      → is_set n (bit_at r luma p c) ≡ eqb c (min k (get_or (cond luma context context-uv) (p.1 - first r luma) 0))
  fixed luma p past u k hk one c hc = answered.bits refl past luma p u c hc ∙ ap (eqb c) (new-class r context context-uv m n A past luma p k hk one)

-- ---- one after another, at a unit of the frame

module _ (G : Grid) (d : Pass) (p : Piece) (px : p.0 < units_of G d) (py : p.1 < units_of G (other d)) where
  abbrev Ours : Fix → Type 0
  Ours k = grid_at k.start G.luma ≡ G

  one-stays : (k : Fix) (m n : List ℕ) → CorrectAnswer k.start k.context k.context-uv 0 m n → Ours k → ¬ Fixes k G.luma d p
      → (c : ℕ) → c < classes G → is_set n (edge_bit G d p c) ≡ is_set m (edge_bit G d p c)
  one-stays k m n A e free c hc =
      subst (λ (H : Grid). p.0 < units_of H d → p.1 < units_of H (other d) → c < classes H → is_set n (edge_bit H d p c) ≡ is_set m (edge_bit H d p c)) e
      (λ a b h. stays k.start k.context k.context-uv m n A G.luma d p c a b h (λ f past u. free (record { pass = f; past = past; unit = u })))
      px py hc

  one-fixed : (k : Fix) (m n : List ℕ) → CorrectAnswer k.start k.context k.context-uv 0 m n → Ours k → Fixes k G.luma d p
      → (own : ℕ) → own < classes G → ((c : ℕ) → c < classes G → is_set m (edge_bit G d p c) ≡ eqb own c)
      → (c : ℕ) → c < classes G → is_set n (edge_bit G d p c) ≡ eqb c (min own (kept_at k G.luma p))
  one-fixed k m n A e f own =
      subst₂ (λ (H : Grid) (x : Pass). own < classes H → ((c : ℕ) → c < classes H → is_set m (edge_bit H x p c) ≡ eqb own c)
      → (c : ℕ) → c < classes H → is_set n (edge_bit H x p c) ≡ eqb c (min own (kept_at k G.luma p))) e f.pass
      (fixed k.start k.context k.context-uv m n A G.luma p f.past f.unit own)

  pub never-stays : (l : List Fix) (m o : List ℕ) → Corrected l m o → All Ours l → Never G.luma d p l
      → (c : ℕ) → c < classes G → is_set o (edge_bit G d p c) ≡ is_set m (edge_bit G d p c)
  never-stays l m o (done _) s n c hc = refl
  never-stays (k ∷ l) m o (fix _ _ _ x _ A r) s n c hc = never-stays l x o r s.1 n.1 c hc ∙ one-stays k m x A s.0 n.0 c hc

  pub once-fixed : (l : List Fix) (m o : List ℕ) → Corrected l m o → All Ours l → (v : ℕ) → FixedOnce G.luma d p v l
      → (own : ℕ) → own < classes G → ((c : ℕ) → c < classes G → is_set m (edge_bit G d p c) ≡ eqb own c)
      → (c : ℕ) → c < classes G → is_set o (edge_bit G d p c) ≡ eqb c (min own v)
  once-fixed l m o (done _) s v w own h one c hc = absurd w
  once-fixed (k ∷ l) m o (fix _ _ _ x _ A r) s v (inl w) own h one c hc =
      never-stays l x o r s.1 w.2 c hc ∙ one-fixed k m x A s.0 w.0 own h one c hc ∙ ap (λ (y : ℕ). eqb c (min own y)) w.1
  once-fixed (k ∷ l) m o (fix _ _ _ x _ A r) s v (inr w) own h one c hc =
      once-fixed l x o r s.1 v w.1 own h (λ b hb. one-stays k m x A s.0 w.0 b hb ∙ one b hb) c hc
