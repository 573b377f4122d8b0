-- The tests of numbers 11 and 12 reflect document 01's words: `any_below` by `any_below`, and a line by Rule.
use mathlib.Core.Path.{◌≡◌, refl, subst}
use mathlib.Core.Bool.{Bool, true, false, not, cond}
use mathlib.Core.List.{List}
use mathlib.Core.Logic.{◌⊎◌, ⊎_elim, inl, inr, by_cases}
use mathlib.Core.Option.{Option, some, none}
use Prim.Native.Nat.{ℕ, ◌+◌, ◌-◌, ◌*◌, ◌/◌, ◌≤◌, ◌<◌, min}
use native.Mathlib.Nat.{add-mul}
use native.Mathlib.Decide.{dec_le}
use native.Mathlib.Omega.{arith}
use lib.Dec.{ltb}
use borrow.Author.Tests.{ltb-true}
use Rattle.loops.specs.Any.{any_below, Below}
use Rattle.loops.specs.Exactly.{Reflects}
use Rattle.loops.proofs.Reflected.{reflects-as, reflects-ltb, reflects-flag, reflects-and, reflects-not, reflects-any}
use Rattle.bits.specs.Mark.{is_set}
use Rattle.plane.specs.Line.{Pass, columns, rows, Piece, other}
use Rattle.units.specs.Frame.{records}
use Rattle.edges.specs.Edges.{Grid, units_of, half, classes, edge, in_frame}
use Rattle.gap.specs.Line.{line_broken}
use Rattle.gap.specs.Numbers.{sb_units, stored_units, part, gap, half_bit, fits, bad_half, outside}
use Rattle.gap.specs.Promises.{Keeps, Looks, Gap, Across, Along, Outside, Promises}
use Rattle.gap.proofs.Rule.{line-keeps, line-breaks}
use Rattle.gap.proofs.Masks.{edge-bit}
use Rattle.loops.proofs.Bools.{both_true}
use Rattle.gap.proofs.Shapes.{units-stored}

-- ---- edges lie in the frame

some-if : (b : Bool) (o : Option ℕ) (c : ℕ) → cond b o none ≡ some c → b ≡ true
some-if true o c e = refl
some-if false o c e = let z : ◌≡◌ {A = ℕ} 0 1 = cc in absurd (omega arith)

pub edge_in : (G : Grid) (ms : List ℕ) (d : Pass) (p : Piece) (c : ℕ) → edge G ms d p ≡ some c → (p.0 < units_of G d) × (p.1 < units_of G (other d))
unfolding edge
edge_in G ms d p c e =
    let t = both_true (ltb p.0 (units_of G d)) (ltb p.1 (units_of G (other d))) (some-if (in_frame G d p) _ c e) in
    (ltb-true p.0 (units_of G d) t.0, ltb-true p.1 (units_of G (other d)) t.1)

part_in : (first n : ℕ) (line : ℕ → Option ℕ) (u c : ℕ) → part first n line u ≡ some c → u < n
unfolding part
part_in first n line u c e = ltb-true u n (some-if (ltb u n) (line (first + u)) c e)

-- ---- number 11

reflects-from : (a b n : ℕ) → n ≡ b - a → (f : ℕ → Bool) (P : ℕ → Type 0) → ((y : ℕ) → Reflects (f y) (P y))
    → Reflects (any_below n (λ i. f (a + i))) ((y : ℕ) × (a ≤ y) × (y < b) × P y)
reflects-from a b n e f P r =
    reflects-as
    (record {
      only = λ t. (a + t.0, omega arith, omega (arith, t.1), t.2);
      always = λ t. (t.0 - a, omega (arith, t.1, t.2), subst P (omega (arith, t.1)) t.3);
    })
    (reflects-any n (λ i. f (a + i)) (λ i. P (a + i)) (λ i _. r (a + i)))

row_of : (k n : ℕ) → n ≡ (k + 1) * n - k * n
row_of k n = omega (arith, add-mul k 1 n)

module _ (G : Grid) (ms : List ℕ) (sb4 k : ℕ) (h : G.ss-hor ≤ 1) where
  -- the line at v, as a call for row k looks at it
  line : Pass → ℕ → ℕ → Option ℕ
  line columns v u = edge G ms columns (u, v)
  line rows v u = part (k * sb_units G sb4) (sb_units G sb4) (λ y. edge G ms rows (y, v)) u

  end : Pass → ℕ
  end columns = stored_units G
  end rows = sb_units G sb4

  inside : (d : Pass) (v u c : ℕ) → line d v u ≡ some c → u < end d
  unfolding line end
  inside columns v u c e = omega (arith, (edge_in G ms columns (u, v) c e).0, units-stored G.ss-hor G.w4 h)
  inside rows v u c e = part_in (k * sb_units G sb4) (sb_units G sb4) (λ u. edge G ms rows (u, v)) u c e

  keeps_line : (d : Pass) (v : ℕ) → line_broken (line d v) (end d) ≡ false → Keeps G ms d sb4 k v
  unfolding line end
  keeps_line columns v e = line-keeps (line columns v) (end columns) (inside columns v) e
  keeps_line rows v e = line-keeps (line rows v) (end rows) (inside rows v) e

  reflects-line : (d : Pass) (v : ℕ) → Reflects (line_broken (line d v) (end d)) (¬ Keeps G ms d sb4 k v)
  unfolding line end
  reflects-line columns v = record { yes = line-breaks (line columns v) (end columns); no = λ e rec. rec (keeps_line columns v e) }
  reflects-line rows v = record { yes = line-breaks (line rows v) (end rows); no = λ e rec. rec (keeps_line rows v e) }

  reflects-gap : (d : Pass) → Reflects (gap G ms d sb4 k) (Gap G ms d sb4 k)
  unfolding gap line end
  reflects-gap columns =
      reflects-as
      (record {
        only = λ t. record { line = t.0; looks = (t.1, omega (arith, t.2), omega (arith, t.2)); breaks = t.3 };
        always = λ t. (t.line, t.looks.0, omega (arith, t.looks.1, t.looks.2), t.breaks);
      })
      (reflects-from (k * sb_units G sb4) (min (units_of G rows) ((k + 1) * sb_units G sb4)) _ refl (λ v. line_broken (line columns v) (end columns))
      (λ v. ¬ Keeps G ms columns sb4 k v) (reflects-line columns))
  reflects-gap rows =
      reflects-as
      (record { only = λ t. record { line = t.0; looks = t.1; breaks = t.2 }; always = λ t. (t.line, t.looks, t.breaks) })
      (reflects-any (units_of G columns) (λ v. line_broken (line rows v) (end rows)) (λ v. ¬ Keeps G ms rows sb4 k v) (λ v _. reflects-line rows v))

  all_keep : (d : Pass) → gap G ms d sb4 k ≡ false → (v : ℕ) → Looks G d sb4 k v → Keeps G ms d sb4 k v
  all_keep d e v l = go (line_broken (line d v) (end d)) refl
    where
      go : (b : Bool) → line_broken (line d v) (end d) ≡ b → Keeps G ms d sb4 k v
      go false q = keeps_line d v q
      go true q = absurd ((reflects-gap d).no e (record { line = v; looks = l; breaks = (reflects-line d v).yes q }))

-- ---- number 12

module _ (G : Grid) (ms : List ℕ) (d : Pass) (u j : ℕ) where
  abbrev Refused : ℕ → Type 0
  Refused b = (half G d ≤ b) ⊎ ((units_of G d ≤ u) ⊎ (units_of G (other d) ≤ j * half G d + b))

  reflects-fits : (b : ℕ) → Reflects (not (fits G d u j b)) (Refused b)
  reflects-fits b =
      reflects-as (record { only = only; always = always })
      (reflects-not
      (reflects-and (reflects-ltb b (half G d))
      (reflects-and (reflects-ltb u (units_of G d)) (reflects-ltb (j * half G d + b) (units_of G (other d))))))
    where
      only : ¬ ((b < half G d) × ((u < units_of G d) × (j * half G d + b < units_of G (other d)))) → Refused b
      only n =
          by_cases (dec_le (half G d) b) (λ x. inl x)
          (λ x. by_cases (dec_le (units_of G d) u) (λ y. inr (inl y)) (λ y. by_cases (dec_le (units_of G (other d)) (j * half G d + b)) (λ z. inr (inr z))
          (λ z. absurd (n (omega arith, (omega arith, omega arith))))))

      always : Refused b → ¬ ((b < half G d) × ((u < units_of G d) × (j * half G d + b < units_of G (other d))))
      always r n = ⊎_elim (λ x. omega (arith, n.0)) (λ s. ⊎_elim (λ x. omega (arith, n.1.0)) (λ x. omega (arith, n.1.1)) s) r

  -- a bit of half j of unit u
  pub record Bad : Type 0 where
    pub bit : ℕ
    pub class : ℕ
    pub a-bit : bit < 16
    pub a-class : class < classes G
    pub set : is_set ms (half_bit G d u class j bit) ≡ true
    pub refused : Refused bit

  reflects-bad : Reflects (bad_half G ms d u j) Bad
  unfolding bad_half
  reflects-bad =
      reflects-as
      (record {
        only = λ t. record { bit = t.0; class = t.2.0.0; a-bit = t.1; a-class = t.2.0.1; set = t.2.0.2; refused = t.2.1 };
        always = λ t. (t.bit, t.a-bit, ((t.class, t.a-class, t.set), t.refused));
      })
      (reflects-any 16 _ (λ b. Below (classes G) (λ c. is_set ms (half_bit G d u c j b) ≡ true) × Refused b)
      (λ b _. reflects-and
      (reflects-any (classes G) _ (λ c. is_set ms (half_bit G d u c j b) ≡ true) (λ c _. reflects-flag (is_set ms (half_bit G d u c j b))))
      (reflects-fits b)))

module _ {G : Grid} {ms : List ℕ} {d : Pass} {sb4 k : ℕ} where
  found : (u j : ℕ) → Across G d sb4 k u → Along G d sb4 k j → Bad G ms d u j → Outside G ms d sb4 k
  found u j a l b =
      record {
        unit = u;
        class = b.class;
        half_no = j;
        bit = b.bit;
        across = a;
        along = l;
        a-class = b.a-class;
        a-bit = b.a-bit;
        set = b.set;
        refused = b.refused;
      }

  bad : (o : Outside G ms d sb4 k) → Bad G ms d o.unit o.half_no
  bad o = record { bit = o.bit; class = o.class; a-bit = o.a-bit; a-class = o.a-class; set = o.set; refused = o.refused }

reflects-outside : (G : Grid) (ms : List ℕ) (d : Pass) (sb4 k : ℕ) → Reflects (outside G ms d sb4 k) (Outside G ms d sb4 k)
unfolding outside
reflects-outside G ms columns sb4 k =
    reflects-as
    (record {
      only = λ t. found t.0 t.2.0 t.1 (t.2.1, t.2.2) t.2.3;
      always = λ t. (t.unit, t.across, (t.half_no, t.along.0, t.along.1, bad t));
    })
    (reflects-any (stored_units G) _ (λ u. (j : ℕ) × (k * (sb4 / 16) ≤ j) × (j < (k + 1) * (sb4 / 16)) × Bad G ms columns u j)
    (λ u _. reflects-from (k * (sb4 / 16)) ((k + 1) * (sb4 / 16)) (sb4 / 16) (row_of k (sb4 / 16)) (bad_half G ms columns u) (Bad G ms columns u)
    (reflects-bad G ms columns u)))
reflects-outside G ms rows sb4 k =
    reflects-as
    (record {
      only = λ t. found t.0 t.3.0 (t.1, t.2) t.3.1 t.3.2;
      always = λ t. (t.unit, t.across.0, t.across.1, (t.half_no, t.along, bad t));
    })
    (reflects-from (k * sb_units G sb4) ((k + 1) * sb_units G sb4) (sb_units G sb4) (row_of k (sb_units G sb4)) _
    (λ u. Below (records G.w4 * 2) (Bad G ms rows u))
    (λ u. reflects-any (records G.w4 * 2) (bad_half G ms rows u) (Bad G ms rows u) (λ j _. reflects-bad G ms rows u j)))

pub promises : Promises
promises =
    record {
      eleven = λ G ms d sb4 k h. reflects-gap G ms sb4 k h d;
      kept = λ G ms d sb4 k v h e. all_keep G ms sb4 k h d e v;
      twelve = reflects-outside;
      bits = edge-bit;
    }
