-- The words of a line hold its edges: bit v of a class's word is that of the edge at place v, since the halves follow one another and number 12 leaves no bit outside.
use mathlib.Core.Path.{◌≡◌, refl, sym, ap, ap₂, ◌∙◌}
use mathlib.Core.Bool.{Bool, true, false, cond, ◌||◌}
use mathlib.Core.Logic.{◌⊎◌, inl, inr, ◌≢◌, by_cases}
use mathlib.Core.Option.{Option, some, none}
use Prim.Native.Nat.{ℕ, ◌+◌, ◌-◌, ◌*◌, ◌/◌, ◌%◌, ◌^◌, ◌≤◌, ◌<◌}
use native.Mathlib.Decide.{dec_lt, ℕ_discrete}
use native.Mathlib.Nat.{div-lt_iff_lt-mul, div-eq_of_lt, mod-eq_of_lt}
use native.Mathlib.Omega.{arith}
use lib.Bits.{bit_or}
use lib.Dec.{eqb}
use lib.ListN.{get_or}
use lib.Pow.{pow_mono}
use borrow.Author.Tests.{lt-ltb, le-ltb, eq-eqb, ne_eqb}
use Rattle.bits.specs.Bit.{has_bit}
use Rattle.bits.specs.Mark.{is_set}
use Rattle.bits.proofs.Bits.{has_bit-0, has_bit-or, has_bit-nil, bit-small}
use Rattle.bits.proofs.Words.{half-low, half_high}
use Rattle.plane.specs.Line.{Pass, other}
use Rattle.units.specs.Frame.{records}
use Rattle.units.specs.Masks.{unit_words, pass_start, record_row, two_halves}
use Rattle.units.proofs.Places.{word_at}
use Rattle.edges.specs.Edges.{Grid, units_of, half, record_at, classes, word_in, edge_bit, highest, edge}
use Rattle.edges.proofs.Bits.{highest-none}
use Rattle.gap.specs.Numbers.{half_bit}
use Rattle.gap.proofs.Masks.{along, edge-bit}
use Rattle.walk.specs.declared.UnitLine.{UnitLine}
use Rattle.walk.specs.Walk.{set_in}
use Rattle.walk.specs.Walk as walk
use Rattle.filter.specs.declared.Component.{Component}
use Rattle.filter.specs.Filter.{Tables, grid_of}
use Rattle.filter.specs.Ready.{Stored, Fit}
use Rattle.filter.specs.Lines.{unit_at, unit_in, mask_at, start_half, halves_of, halves_at, class_at, line_mask, line_in, Inner}
use Rattle.filter.proofs.UnitPlaces.{rec_along, first_place, places, Spot, spot}

-- a half that has no bit from h on
over : (m h : ℕ) → m < 2 ^ 16 → ((b : ℕ) → h ≤ b → b < 16 → has_bit m b ≡ false) → (v : ℕ) → h ≤ v → has_bit m v ≡ false
over m h l f v g =
    by_cases (dec_lt v 16) (λ x. f v g x)
    (λ x. let e : 16 ≤ v = omega arith in has_bit-0 m v (bit-small m v (omega (arith, pow_mono {i = 16} {j = v} e))))

-- ---- the highest of three classes

three : (luma : Bool) (set : ℕ → Bool)
    → highest (cond luma 3 2) set ≡ cond (cond luma (set 2) false) (some 2) (cond (set 1) (some 1) (cond (set 0) (some 0) none))
three true set = refl
three false set = refl

pick : (b₀ b₁ b₂ : Bool)
    → cond {A = Option ℕ} b₂ (some 2) (cond b₁ (some 1) (cond b₀ (some 0) none)) ≡ cond ((b₀ || b₁) || b₂) (some (cond b₂ 2 (cond b₁ 1 0))) none
pick true true true = refl
pick true true false = refl
pick true false true = refl
pick true false false = refl
pick false true true = refl
pick false true false = refl
pick false false true = refl
pick false false false = refl

-- ---- the line

module _ (c : Component) (t : Tables) (d : Pass) (k rec a len : ℕ) (s : Stored c t len) (f : Fit c t d k) (i : Inner c d k rec a)
    (small : (j : ℕ) → get_or t.masks j 0 < 65536) where
  abbrev G : Grid
  G = grid_of c

  -- its place across the pass, its record along it, its first half and its halves, and the units of a half
  abbrev u : ℕ
  u = unit_at c d k rec a

  abbrev r : ℕ
  r = rec_along c d k rec

  abbrev o : ℕ
  o = start_half c d k

  abbrev n : ℕ
  n = halves_of c d

  abbrev h : ℕ
  h = half G d

  sp : Spot c d k rec a
  sp = spot c t k rec a len s d f.row i

  word_set : (w b : ℕ) → b < 16 → has_bit (get_or t.masks w 0) b ≡ is_set t.masks (16 * w + b)
  unfolding is_set
  word_set w b l =
      let x : w ≡ (16 * w + b) / 16 = omega arith in
      let y : b ≡ (16 * w + b) % 16 = omega arith in
      (λ q. has_bit (get_or t.masks (x q) 0) (y q))

  place : (class j b : ℕ) → j < 2 → 16 * (mask_at c d k rec a + 2 * class + j) + b ≡ half_bit G d u class (r * 2 + j) b
  unfolding mask_at half_bit
  place class j b l =
      let x : (r * 2 + j) / 2 ≡ r = omega arith in
      let y : (r * 2 + j) % 2 ≡ j = omega arith in
      sum (record_row c.sb4.0 k * records c.w4.0 + rec) (pass_start (eqb c.plane 0) d) (unit_words (eqb c.plane 0) * unit_in c d k a) class j b
      ∙ ap₂ (λ (m w : ℕ). 10240 * m + (16 * w + b)) (sym sp.number) (sym (word_at (eqb c.plane 0) d (unit_in c d k a) class j))
      ∙ (λ q. 10240 * record_at G d (sym sp.across q) (sym x q) + (16 * word_in G d (sym sp.unit q) class (sym y q) + b))
    where
      sum : (m start step class j b : ℕ) → 16 * (640 * m + start + step + 2 * class + j) + b ≡ 10240 * m + (16 * (start + step + 2 * class + j) + b)
      sum m start step class j b = omega arith

  half-bit : (class j b : ℕ) → j < 2 → b < 16
      → has_bit (get_or t.masks (mask_at c d k rec a + 2 * class + j) 0) b ≡ is_set t.masks (half_bit G d u class (r * 2 + j) b)
  half-bit class j b lj lb = word_set (mask_at c d k rec a + 2 * class + j) b lb ∙ ap (is_set t.masks) (place class j b lj)

  -- number 12
  refused : (class j b : ℕ) → class < classes G → j < n → b < 16
      → (h ≤ b) ⊎ ((units_of G d ≤ u) ⊎ (units_of G (other d) ≤ (r * 2 + (o + j)) * h + b))
      → is_set t.masks (half_bit G d u class (r * 2 + (o + j)) b) ≡ false
  refused class j b lc lj lb x = go (is_set t.masks (half_bit G d u class (r * 2 + (o + j)) b)) refl
    where
      go : (z : Bool) → is_set t.masks (half_bit G d u class (r * 2 + (o + j)) b) ≡ z → z ≡ false
      go true e =
          absurd (f.inside
          (record {
            unit = u;
            class = class;
            half_no = r * 2 + (o + j);
            bit = b;
            across = sp.mine;
            along = sp.halves j lj;
            a-class = lc;
            a-bit = lb;
            set = e;
            refused = x;
          }))
      go false e = refl

  half_over : (class j : ℕ) → class < classes G → j < n → (v : ℕ) → h ≤ v → has_bit (get_or t.masks (mask_at c d k rec a + 2 * class + (o + j)) 0) v ≡ false
  half_over class j lc lj =
      over (get_or t.masks (mask_at c d k rec a + 2 * class + (o + j)) 0) h (small (mask_at c d k rec a + 2 * class + (o + j)))
      (λ b x l. half-bit class (o + j) b (omega (arith, sp.two)) l ∙ refused class j b lc lj l (inl x))

  module _ (class : ℕ) (lc : class < classes G) where
    abbrev at : ℕ
    at = mask_at c d k rec a + 2 * class

    -- bit v is bit v % h of half v / h
    word-bit : (v : ℕ) → v < n * h → has_bit (halves_at t.masks at o n h) v ≡ has_bit (get_or t.masks (at + (o + v / h)) 0) (v % h)
    unfolding halves_at
    word-bit v l = by_cases (ℕ_discrete n 2) both one
      where
        in-first : v < h → has_bit (get_or t.masks (at + o) 0) v ≡ has_bit (get_or t.masks (at + (o + v / h)) 0) (v % h)
        in-first x =
            let e : at + o ≡ at + (o + v / h) = omega (arith, div-eq_of_lt x) in
            (λ q. has_bit (get_or t.masks (e q) 0) (sym (mod-eq_of_lt x) q))

        both : n ≡ 2 → has_bit (cond (eqb n 2) (two_halves (get_or t.masks at 0) (get_or t.masks (at + 1) 0) h) (get_or t.masks (at + o) 0)) v
            ≡ has_bit (get_or t.masks (at + (o + v / h)) 0) (v % h)
        both e =
            let z : at ≡ at + o = omega (arith, sp.two) in
            rw (eq-eqb n 2 e)
            (by_cases (dec_lt v h)
            (λ x. half-low (get_or t.masks at 0) (get_or t.masks (at + 1) 0) h v x ∙ ap (λ (w : ℕ). has_bit (get_or t.masks w 0) v) z ∙ in-first x)
            (λ x.
            let y : v ≡ h + (v - h) = omega arith in
            let y₁ : v ≡ 1 * h + (v - h) = omega arith in
            let m : v - h < h = omega (arith, ap (λ (w : ℕ). w * h) e) in
            let b = along G s.proper d in
            let w : at + 1 ≡ at + (o + v / h) = omega (arith, sp.two, ap (λ (w : ℕ). w / h) y₁ ∙ b.half_no 1 (v - h) m) in
            ap (has_bit (two_halves (get_or t.masks at 0) (get_or t.masks (at + 1) 0) h)) y
            ∙ half_high (get_or t.masks at 0) (get_or t.masks (at + 1) 0) h (v - h)
            (ap (λ (w : ℕ). has_bit (get_or t.masks w 0) (h + (v - h))) (omega (arith, sp.two)) ∙ half_over class 0 lc (omega (arith, sp.some)) (h + (v - h)) (omega arith))
            ∙ (λ q. has_bit (get_or t.masks (w q) 0) (sym (ap (λ (w : ℕ). w % h) y₁ ∙ b.bit 1 (v - h) m) q))))

        one : n ≢ 2 → has_bit (cond (eqb n 2) (two_halves (get_or t.masks at 0) (get_or t.masks (at + 1) 0) h) (get_or t.masks (at + o) 0)) v
            ≡ has_bit (get_or t.masks (at + (o + v / h)) 0) (v % h)
        one e =
            let z : n ≡ 1 = omega (arith, sp.two, sp.some) in
            rw (ne_eqb n 2 e) (in-first (omega (arith, ap (λ (w : ℕ). w * h) z)))

    word_over : (v : ℕ) → n * h ≤ v → has_bit (halves_at t.masks at o n h) v ≡ false
    unfolding halves_at
    word_over v l = by_cases (ℕ_discrete n 2) both one
      where
        both : n ≡ 2 → has_bit (cond (eqb n 2) (two_halves (get_or t.masks at 0) (get_or t.masks (at + 1) 0) h) (get_or t.masks (at + o) 0)) v ≡ false
        both e =
            let m : h ≤ v - h = omega (arith, ap (λ (w : ℕ). w * h) e) in
            let y : v ≡ h + (v - h) = omega arith in
            rw (eq-eqb n 2 e)
            (ap (has_bit (two_halves (get_or t.masks at 0) (get_or t.masks (at + 1) 0) h)) y
            ∙ half_high (get_or t.masks at 0) (get_or t.masks (at + 1) 0) h (v - h)
            (ap (λ (w : ℕ). has_bit (get_or t.masks w 0) (h + (v - h))) (omega (arith, sp.two)) ∙ half_over class 0 lc (omega arith) (h + (v - h)) (omega arith))
            ∙ ap (λ (w : ℕ). has_bit (get_or t.masks w 0) (v - h)) (omega (arith, sp.two))
            ∙ half_over class 1 lc (omega arith) (v - h) m)

        one : n ≢ 2 → has_bit (cond (eqb n 2) (two_halves (get_or t.masks at 0) (get_or t.masks (at + 1) 0) h) (get_or t.masks (at + o) 0)) v ≡ false
        one e =
            let z : n ≡ 1 = omega (arith, sp.two, sp.some) in
            rw (ne_eqb n 2 e)
            (ap (λ (w : ℕ). has_bit (get_or t.masks w 0) v) (omega arith)
            ∙ half_over class 0 lc (omega arith) v (omega (arith, ap (λ (w : ℕ). w * h) z)))

  -- ---- the edge at place v

  abbrev U : UnitLine
  U = line_in c t.masks d k rec a

  set-in : (v : ℕ) → has_bit (set_in U) v ≡ ((has_bit U.m0 v || has_bit U.m1 v) || has_bit U.m2 v)
  set-in v = has_bit-or (bit_or U.m0 U.m1) U.m2 v ∙ ap (λ (b : Bool). b || has_bit U.m2 v) (has_bit-or U.m0 U.m1 v)

  few : (class : ℕ) → class < 2 → class < classes G
  few class l = go (eqb c.plane 0)
    where
      go : (z : Bool) → class < cond z 3 2
      go true = omega arith
      go false = l

  module _ (v : ℕ) (l : v < places c d) where
    in_halves : v < n * h
    in_halves = omega (arith, sp.many)

    nth : v / h < n
    nth = let p : 0 < h = omega (arith, (along G s.proper d).bit-of v) in (div-lt_iff_lt-mul p).1 in_halves

    at_place : first_place c d k rec + v ≡ (r * 2 + (o + v / h)) * h + v % h
    at_place = omega (arith, sp.first, (along G s.proper d).again v)

    edge_at : (class : ℕ) → edge_bit G d (u, first_place c d k rec + v) class ≡ half_bit G d u class (r * 2 + (o + v / h)) (v % h)
    edge_at class =
        ap (λ (y : ℕ). edge_bit G d (u, y) class) at_place
        ∙ edge-bit G s.proper d u class (r * 2 + (o + v / h)) (v % h) ((along G s.proper d).bit-of v)

    bit-lt : v % h < 16
    bit-lt = omega (arith, (along G s.proper d).bit-of v, (along G s.proper d).most)

    set-bit : (class : ℕ) → class < classes G
        → has_bit (line_mask c t.masks d k rec a class) v ≡ is_set t.masks (edge_bit G d (u, first_place c d k rec + v) class)
    unfolding class_at
    set-bit class lc =
        rw (lt-ltb class (classes G) lc)
        (word-bit class lc v in_halves
        ∙ half-bit class (o + v / h) (v % h) (omega (arith, nth, sp.two)) bit-lt
        ∙ ap (is_set t.masks) (sym (edge_at class)))

    past-frame : units_of G (other d) ≤ first_place c d k rec + v → (class : ℕ) → class < classes G
        → is_set t.masks (edge_bit G d (u, first_place c d k rec + v) class) ≡ false
    past-frame x class lc =
        ap (is_set t.masks) (edge_at class) ∙ refused class (v / h) (v % h) lc nth bit-lt (inr (inr (omega (arith, at_place))))

    edge-is : edge G t.masks d (u, first_place c d k rec + v)
        ≡ highest (classes G) (λ class. is_set t.masks (edge_bit G d (u, first_place c d k rec + v) class))
    unfolding edge
    edge-is =
        by_cases (dec_lt (first_place c d k rec + v) (units_of G (other d)))
        (λ x. rw (lt-ltb u (units_of G d) sp.inside, lt-ltb (first_place c d k rec + v) (units_of G (other d)) x) refl)
        (λ x. rw (lt-ltb u (units_of G d) sp.inside, le-ltb (first_place c d k rec + v) (units_of G (other d)) (omega arith))
        (sym (highest-none (classes G) _ (past-frame (omega arith)))))

    third : (z : Bool) → eqb c.plane 0 ≡ z
        → cond z (is_set t.masks (edge_bit G d (u, first_place c d k rec + v) 2)) false ≡ has_bit (line_mask c t.masks d k rec a 2) v
    unfolding class_at
    third true e = sym (set-bit 2 (rw e (omega arith)))
    third false e = rw e (sym (has_bit-nil v))

    -- the edge at a set place is of the highest class set, and at no other place is there one
    pub picked : edge G t.masks d (u, first_place c d k rec + v)
        ≡ cond (has_bit (set_in U) v) (some (walk.highest U.m1 U.m2 v)) none
    picked =
        edge-is
        ∙ three (eqb c.plane 0) (λ class. is_set t.masks (edge_bit G d (u, first_place c d k rec + v) class))
        ∙ (λ q. cond (third (eqb c.plane 0) refl q) (some 2) (cond (sym (set-bit 1 (few 1 (omega arith))) q) (some 1) (cond (sym (set-bit 0 (few 0 (omega arith))) q) (some 0) none)))
        ∙ pick (has_bit U.m0 v) (has_bit U.m1 v) (has_bit U.m2 v)
        ∙ ap (λ (b : Bool). cond b (some (walk.highest U.m1 U.m2 v)) none) (sym (set-in v))

  over-class : (class v : ℕ) → places c d ≤ v → has_bit (line_mask c t.masks d k rec a class) v ≡ false
  unfolding class_at
  over-class class v l =
      by_cases (dec_lt class (classes G)) (λ x. rw (lt-ltb class (classes G) x) (word_over class x v (omega (arith, sp.many))))
      (λ x. rw (le-ltb class (classes G) (omega arith)) (has_bit-nil v))

  pub none_over : (v : ℕ) → places c d ≤ v → has_bit (set_in U) v ≡ false
  none_over v l = set-in v ∙ (λ q. (over-class 0 v l q || over-class 1 v l q) || over-class 2 v l q)
