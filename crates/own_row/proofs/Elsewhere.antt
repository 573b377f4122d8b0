-- No level byte and no bit of another row is one that a call looks at: places of level bytes and bits of masks tell their plane, pass and unit.
use mathlib.Core.Path.{◌≡◌, refl, sym, ap, ◌∙◌, subst}
use mathlib.Core.Bool.{Bool, true, false, cond, ◌||◌, or-false, false≢true}
use mathlib.Core.List.{List}
use Prim.Native.Nat.{ℕ, zero, suc, ◌+◌, ◌*◌, ◌/◌, ◌%◌, ◌^◌, ◌≤◌, ◌<◌}
use native.Mathlib.Omega.{arith}
use lib.Dec.{eqb}
use lib.ListN.{length, set, length-set}
use lib.Seq.{get_or-set_other}
use borrow.Author.Tests.{ne_eqb}
use Rattle.bits.specs.Mark.{is_set, mark}
use Rattle.bits.proofs.Marks.{length-mark, is_set-mark}
use Rattle.plane.specs.Line.{Pass, columns, rows, Piece, other, pass_no}
use Rattle.plane.specs.Three.{Three}
use Rattle.plane.specs.Plane.{down}
use Rattle.units.specs.Frame.{records, frame_records}
use Rattle.units.specs.Layout.{ss_hor, ss_ver}
use Rattle.units.specs.Masks.{luma_word, chroma_word, half_units}
use Rattle.units.specs.Memory.{level_at}
use Rattle.units.specs.Units.{chroma_unit}
use Rattle.units.proofs.Places.{by-ss, chroma-units-le, pass-lt}
use Rattle.edges.specs.Edges as edges
use Rattle.edges.specs.Edges.{Grid, Proper, ss_of, units_of, side, half, record_at, classes, word_in, edge_bit}
use Rattle.edges.proofs.Bits.{edge-bit-in, ss-le}
use Rattle.gap.specs.Numbers.{sb_units, stored_units, half_bit}
use Rattle.gap.specs.Promises.{Across, Along}
use Rattle.gap.proofs.NumbersMean.{promises}
use Rattle.gap.proofs.Masks as masks
use Rattle.gap.proofs.Shapes.{units-stored}
use Rattle.filter.specs.Filter.{area_of}
use Rattle.checks.specs.declared.Call.{Call}
use Rattle.checks.specs.Call.{call_pass, w4, h4, sb4, ss-hor, grid_of, Filtered, luma, chroma-u, chroma-v, Shaped, Roomy}
use Rattle.checks.proofs.TestsPassed.{sizes, proper}
use Rattle.checks.proofs.Accepted.{accepted-shape, accepted-lengths}
use Rattle.apply.specs.Apply.{component_of}
use Rattle.frames.specs.Calls.{Frame, call_at, lent_of, sb_rows, Accepted}
use Rattle.frames.proofs.GapKept.{Size, by_size}
use Rattle.loops.proofs.Products.{row-inj}
use Rattle.own_row.specs.Own.{OwnLine, SameTables}
use Rattle.own_row.specs.Elsewhere.{OtherLevel, OtherEdge, Elsewhere}
use Rattle.own_row.specs.Turns.{Moment, OwnRows}
use Rattle.own_row.proofs.Bits.{stored-half}
use Rattle.own_row.proofs.Numbers.{back-tables}

-- ---- level bytes

-- a plane of chroma
later : (n : ℕ) → eqb (suc n) 0 ≡ false
later n = ne_eqb (suc n) 0 (λ e. omega arith)

area-chroma : (c : Call) (n : ℕ) (d : Pass) → area_of (component_of c (suc n)) d ≡ suc (suc n)
area-chroma c n d = rw (later n) refl

area-lt : (c : Call) (n : ℕ) (d : Pass) → n ≤ 2 → area_of (component_of c n) d < 4
area-lt c zero d h = omega (arith, pass-lt d)
area-lt c (suc n) d h = omega (arith, area-chroma c n d)

-- a byte tells luma from chroma
area-grid : (c : Call) (n n' : ℕ) (d d' : Pass) → area_of (component_of c n) d ≡ area_of (component_of c n') d' → grid_of c n ≡ grid_of c n'
area-grid c zero zero d d' e = refl
area-grid c zero (suc n') d d' e = absurd (omega (arith, pass-lt d, area-chroma c n' d'))
area-grid c (suc n) zero d d' e = absurd (omega (arith, pass-lt d', area-chroma c n d))
area-grid c (suc n) (suc n') d d' e = rw (later n, later n') refl

own-level : (c : Call) (n x y : ℕ) → n ≤ 2 → x < w4 c → w4 c ≤ c.level_stride → OwnLine (grid_of c n) (sb4 c) c.row (pass_no (call_pass c)) y
    → ¬ OtherLevel c (level_at c.level_stride x y (area_of (component_of c n) (call_pass c)))
unfolding level_at
own-level c n x y l r h o a =
    let k = area-lt c n (call_pass c) l in
    let k' = area-lt c a.plane a.pass a.a-plane in
    let p : y * c.level_stride + x ≡ a.y * c.level_stride + a.x = omega (arith, a.at) in
    let q : area_of (component_of c n) (call_pass c) ≡ area_of (component_of c a.plane) a.pass = omega (arith, a.at) in
    let z = row-inj y a.y x a.x c.level_stride (omega arith) (omega (arith, a.right)) p in
    let g = area-grid c n a.plane (call_pass c) a.pass q in
    a.line (subst (λ (G : Grid). OwnLine G (sb4 c) c.row (pass_no (call_pass c)) a.y) g (rw (← z.0) o))

-- ---- bits

-- a word of a record, of luma or of chroma
abbrev word : Bool → Pass → ℕ → ℕ → ℕ → ℕ
word b d u k h = cond b (luma_word (pass_no d) u k h) (chroma_word (pass_no d) u k h)

word-in : (b : Bool) (d : Pass) (u k h : ℕ) → u < 32 → k < cond b 3 2 → h < 2 → word b d u k h < 640
word-in true d u k h x y z = omega (arith, pass-lt d)
word-in false d u k h x y z = omega (arith, pass-lt d)

word-inj : (b b' : Bool) (d d' : Pass) (u u' k k' h h' : ℕ) → u < 32 → u' < 32 → k < cond b 3 2 → k' < cond b' 3 2 → h < 2 → h' < 2
    → word b d u k h ≡ word b' d' u' k' h' → (b ≡ b') × (pass_no d ≡ pass_no d') × (u ≡ u') × (h ≡ h')
word-inj true true d d' u u' k k' h h' x x' y y' z z' e = (refl, omega arith, omega arith, omega arith)
word-inj true false d d' u u' k k' h h' x x' y y' z z' e = absurd (omega (arith, pass-lt d))
word-inj false true d d' u u' k k' h h' x x' y y' z z' e = absurd (omega (arith, pass-lt d'))
word-inj false false d d' u u' k k' h h' x x' y y' z z' e = (refl, omega arith, omega arith, omega arith)

side-le : (u ss : ℕ) → ss ≤ 1 → u % (32 / 2 ^ ss) < 32
side-le u = by-ss (λ ss. u % (32 / 2 ^ ss) < 32) (omega arith) (omega arith)

-- the bit of a half tells luma or chroma, its pass, unit and half in the record, and the record
record Told (G H : Grid) (d d' : Pass) (u u' j j' : ℕ) : Type 0 where
  luma : G.luma ≡ H.luma
  pass : pass_no d ≡ pass_no d'
  unit : u % side G d ≡ u' % side H d'
  half_no : j % 2 ≡ j' % 2
  record_no : record_at G d (u / side G d) (j / 2) ≡ record_at H d' (u' / side H d') (j' / 2)

told : (G H : Grid) → Proper G → Proper H → (d d' : Pass) (u u' k k' j j' b b' : ℕ) → k < classes G → k' < classes H → b < 16 → b' < 16
    → half_bit G d u k j b ≡ half_bit H d' u' k' j' b' → Told G H d d' u u' j j'
unfolding half_bit
told G H p q d d' u u' k k' j j' b b' x x' y y' e =
    let s = side-le u (ss_of G d) (ss-le G p d) in
    let s' = side-le u' (ss_of H d') (ss-le H q d') in
    let w = word-in G.luma d (u % side G d) k (j % 2) s x (omega arith) in
    let w' = word-in H.luma d' (u' % side H d') k' (j' % 2) s' x' (omega arith) in
    let z : word_in G d (u % side G d) k (j % 2) ≡ word_in H d' (u' % side H d') k' (j' % 2) = omega arith in
    let i = word-inj G.luma H.luma d d' (u % side G d) (u' % side H d') k k' (j % 2) (j' % 2) s s' x x' (omega arith) (omega arith) z in
    record { luma = i.0; pass = i.1; unit = i.2; half_no = i.3; record_no = omega arith }

-- one grid and pass

abbrev In : Grid → Pass → ℕ → ℕ → Type 0
In G columns u j = u < stored_units G
In G rows u j = j < records G.w4 * 2

record-lt : (ss n u : ℕ) → ss ≤ 1 → u < n * (32 / 2 ^ ss) → u / (32 / 2 ^ ss) < n
record-lt ss n u h = by-ss (λ ss. u < n * (32 / 2 ^ ss) → u / (32 / 2 ^ ss) < n) (λ l. omega arith) (λ l. omega arith) ss h

side-again : (u u' ss : ℕ) → ss ≤ 1 → u / (32 / 2 ^ ss) ≡ u' / (32 / 2 ^ ss) → u % (32 / 2 ^ ss) ≡ u' % (32 / 2 ^ ss) → u ≡ u'
side-again u u' = by-ss (λ ss. u / (32 / 2 ^ ss) ≡ u' / (32 / 2 ^ ss) → u % (32 / 2 ^ ss) ≡ u' % (32 / 2 ^ ss) → u ≡ u') (λ a b. omega arith) (λ a b. omega arith)

one_unit : (G : Grid) → Proper G → (d : Pass) (u u' j j' : ℕ) → In G d u j → In G d u' j' → Told G G d d u u' j j' → (u ≡ u') × (j ≡ j')
one_unit G p columns u u' j j' x x' t =
    let i = row-inj (j / 2) (j' / 2) (u / side G columns) (u' / side G columns) (records G.w4) (record-lt G.ss-hor _ u p.ss-hor-le x)
    (record-lt G.ss-hor _ u' p.ss-hor-le x') t.record_no in
    (side-again u u' G.ss-hor p.ss-hor-le i.1 t.unit, omega (arith, i.0, t.half_no))
one_unit G p rows u u' j j' x x' t =
    let i = row-inj (u / side G rows) (u' / side G rows) (j / 2) (j' / 2) (records G.w4) (omega arith) (omega arith) t.record_no in
    (side-again u u' G.ss-ver p.ss-ver-le i.0 t.unit, omega (arith, i.1, t.half_no))

-- a line in a half of the row is the row's
own_line : (k v sb4 ss : ℕ) → Size sb4 → ss ≤ 1 → k * (sb4 / 16) ≤ v / half_units ss → v / half_units ss < (k + 1) * (sb4 / 16)
    → (k * chroma_unit ss sb4 ≤ v + 0) × (v < (k + 1) * chroma_unit ss sb4)
own_line k v =
    by_size
    (λ sb4 ss. k * (sb4 / 16) ≤ v / half_units ss → v / half_units ss < (k + 1) * (sb4 / 16) → (k * chroma_unit ss sb4 ≤ v + 0) × (v < (k + 1) * chroma_unit ss sb4))
    (λ a b. omega arith) (λ a b. omega arith) (λ a b. omega arith) (λ a b. omega arith)

module _ (G : Grid) (p : Proper G) (sb4 k : ℕ) (size : Size sb4) where
  stored-in : (d : Pass) (q : Piece) → q.0 < units_of G d → q.1 < units_of G (other d) → In G d q.0 (q.1 / half G d)
  stored-in columns q x y = omega (arith, units-stored G.ss-hor G.w4 p.ss-hor-le)
  stored-in rows q x y = stored-half G.w4 q.1 G.ss-hor p.ss-hor-le y

  looked-in : (d : Pass) (u j : ℕ) → Across G d sb4 k u → Along G d sb4 k j → In G d u j
  looked-in columns u j x y = x
  looked-in rows u j x y = y

  in_row : (d : Pass) (q : Piece) → Across G d sb4 k q.0 → Along G d sb4 k (q.1 / half G d)
      → OwnLine G sb4 k 0 (down d q)
  in_row columns q x y = own_line k q.1 sb4 G.ss-ver size p.ss-ver-le y.0 y.1
  in_row rows q x y = (omega (arith, x.0), x.1)

  -- so an edge whose bit the call looks at is of the row
  same-pass : (d : Pass) (q : Piece) (u j : ℕ) → q.0 < units_of G d → q.1 < units_of G (other d) → Across G d sb4 k u → Along G d sb4 k j
      → Told G G d d u q.0 j (q.1 / half G d) → OwnLine G sb4 k 0 (down d q)
  same-pass d q u j x y a l t =
      let i = one_unit G p d u q.0 j (q.1 / half G d) (looked-in d u j a l) (stored-in d q x y) t in
      in_row d q (subst (Across G d sb4 k) i.0 a) (subst (Along G d sb4 k) i.1 l)

  of_row : (d d' : Pass) (q : Piece) (u j : ℕ) → q.0 < units_of G d' → q.1 < units_of G (other d') → Across G d sb4 k u → Along G d sb4 k j
      → Told G G d d' u q.0 j (q.1 / half G d') → OwnLine G sb4 k 0 (down d' q)
  of_row columns columns q u j x y a l t = same-pass columns q u j x y a l t
  of_row columns rows q u j x y a l t = absurd (let e = t.pass in omega arith)
  of_row rows columns q u j x y a l t = absurd (let e = t.pass in omega arith)
  of_row rows rows q u j x y a l t = same-pass rows q u j x y a l t

module _ (c : Call) (h : Shaped c) where
  -- U and V share their masks
  of-own-row : (n n' : ℕ) (d d' : Pass) (q : Piece) (u j : ℕ) → q.0 < units_of (grid_of c n') d' → q.1 < units_of (grid_of c n') (other d')
      → Across (grid_of c n) d (sb4 c) c.row u → Along (grid_of c n) d (sb4 c) c.row j
      → Told (grid_of c n) (grid_of c n') d d' u q.0 j (q.1 / half (grid_of c n') d') → OwnLine (grid_of c n') (sb4 c) c.row 0 (down d' q)
  of-own-row n n' d d' q u j x y a l t = go (eqb n 0) (eqb n' 0) x y a l t
    where
      G : Bool → Grid
      G b = edges.grid_of b (cond b 0 (ss_hor c.layout)) (cond b 0 (ss_ver c.layout)) (w4 c) (h4 c)

      go : (b b' : Bool) → q.0 < units_of (G b') d' → q.1 < units_of (G b') (other d') → Across (G b) d (sb4 c) c.row u → Along (G b) d (sb4 c) c.row j
          → Told (G b) (G b') d d' u q.0 j (q.1 / half (G b') d') → OwnLine (G b') (sb4 c) c.row 0 (down d' q)
      go true true x y a l t = of_row (grid_of c 0) (proper c 0) (sb4 c) c.row (sizes c h) d d' q u j x y a l t
      go true false x y a l t = absurd (false≢true (sym t.luma))
      go false true x y a l t = absurd (false≢true t.luma)
      go false false x y a l t = of_row (grid_of c 1) (proper c 1) (sb4 c) c.row (sizes c h) d d' q u j x y a l t

  own-bit : (n u k j b : ℕ) → Across (grid_of c n) (call_pass c) (sb4 c) c.row u → Along (grid_of c n) (call_pass c) (sb4 c) c.row j
      → k < classes (grid_of c n) → b < 16 → ¬ OtherEdge c (half_bit (grid_of c n) (call_pass c) u k j b)
  own-bit n u k j b x y a l o =
      let H = grid_of c o.plane in
      let q = o.unit in
      let z = masks.along H (proper c o.plane) o.pass in
      let e : half_bit (grid_of c n) (call_pass c) u k j b ≡ half_bit H o.pass q.0 o.class (q.1 / half H o.pass) (q.1 % half H o.pass) =
      o.at ∙ ap (λ (v : ℕ). edge_bit H o.pass (q.0, v) o.class) (sym (z.again q.1))
      ∙ promises.bits H (proper c o.plane) o.pass q.0 o.class (q.1 / half H o.pass) (q.1 % half H o.pass) (z.bit-of q.1) in
      o.line
      (of-own-row n o.plane (call_pass c) o.pass q u j o.across o.along x y
      (told (grid_of c n) H (proper c n) (proper c o.plane) (call_pass c) o.pass u q.0 k o.class j (q.1 / half H o.pass) b (q.1 % half H o.pass)
      a o.a-class l (omega (arith, z.most, z.bit-of q.1)) e))

-- ---- so what differs elsewhere alone does not count

plane-le : (c : Call) {n : ℕ} → Filtered c n → n ≤ 2
plane-le c luma = omega arith
plane-le c (chroma-u a b) = omega arith
plane-le c (chroma-v a b) = omega arith

right-in : (c : Call) (n x : ℕ) → x < units_of (grid_of c n) columns → x < w4 c
right-in c n x h = omega (arith, chroma-units-le (w4 c) (ss-hor c n) (proper c n).ss-hor-le)

pub elsewhere : (c : Call) (ls ls' ms ms' : List ℕ) → Shaped c → Roomy c (length ls) (length ms) → Elsewhere c ls ls' ms ms' → SameTables c ls ls' ms ms'
elsewhere c ls ls' ms ms' h r x =
    record {
      levels-long = x.levels-long;
      masks-long = x.masks-long;
      levels = λ n f. record { same = λ a b y _ o. x.levels _ (own-level c n a b (plane-le c f) (right-in c n a y) r.width (omega (arith, o.0), o.1)) };
      bits = λ n f. record { same = λ u k j b y z a l. x.bits _ (own-bit c h n u k j b y z a l) };
    }

-- ---- one level byte, one edge

bit-room : (c : Call) (n len : ℕ) (d : Pass) (q : Piece) (k : ℕ) → 640 * frame_records (w4 c) (h4 c) ≤ len → q.0 < units_of (grid_of c n) d
    → q.1 < units_of (grid_of c n) (other d) → k < classes (grid_of c n) → edge_bit (grid_of c n) d q k / 16 < len
bit-room c n len d q k h x y l = omega (arith, edge-bit-in (grid_of c n) (proper c n) d q k x y (room (eqb n 0) l))
  where
    room : (b : Bool) → k < cond b 3 2 → k < cond b 4 2
    room true l = omega arith
    room false l = l

module _ (c : Call) (ls ms : List ℕ) (h : Shaped c) (r : Roomy c (length ls) (length ms)) where
  pub later-level : (d : Pass) (n x y v : ℕ) → n ≤ 2 → x < w4 c → (c.row + 1) * sb_units (grid_of c n) (sb4 c) ≤ y
      → SameTables c ls (set ls (level_at c.level_stride x y (area_of (component_of c n) d)) v) ms ms
  later-level d n x y v p q l =
      elsewhere c ls _ ms ms h r
      (record {
        levels-long = sym (length-set ls _ v);
        masks-long = refl;
        levels = λ i o. sym (get_or-set_other ls _ i v 0
            (λ e. o (record { plane = n; pass = d; x = x; y = y; a-plane = p; right = q; line = λ z. omega (arith, z.1); at = e })));
        bits = λ e _. refl;
      })

  pub later_edge : (d : Pass) (n : ℕ) (q : Piece) (k : ℕ) → q.0 < units_of (grid_of c n) d → q.1 < units_of (grid_of c n) (other d) → k < classes (grid_of c n)
      → (c.row + 1) * sb_units (grid_of c n) (sb4 c) ≤ down d q → SameTables c ls ls ms (mark ms (edge_bit (grid_of c n) d q k))
  later_edge d n q k x y a l =
      elsewhere c ls ls ms _ h r
      (record {
        levels-long = refl;
        masks-long = sym (length-mark ms _);
        levels = λ i _. refl;
        bits = λ e o. sym (is_set-mark ms (edge_bit (grid_of c n) d q k) e (bit-room c n (length ms) d q k r.masks-long x y a)
            ∙ ap (λ (b : Bool). is_set ms e || b) (ne_eqb (edge_bit (grid_of c n) d q k) e
            (λ z. o (record { plane = n; pass = d; unit = q; class = k; across = x; along = y; a-class = a; line = λ w. omega (arith, w.1); at = sym z })))
            ∙ or-false (is_set ms e));
      })

-- ---- the calls of a frame

pub own-rows : (f : Frame) (g : Pass → ℕ → Moment) (s : Three (List ℕ)) → Accepted f s
    → ((d : Pass) (k : ℕ) → k < sb_rows f → Elsewhere (call_at f d k) f.levels (g d k).levels f.masks (g d k).masks) → OwnRows f g
own-rows f g s a x d k h =
    let c = call_at f d k in
    let e = a.all d k h in
    back-tables (elsewhere c f.levels (g d k).levels f.masks (g d k).masks (accepted-shape c (lent_of f s) e) (accepted-lengths c (lent_of f s) e) (x d k h))
