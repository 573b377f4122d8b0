-- Update bits and deltas: what 5.9.11 reads of them is what is printed of them, and only what fits is read.
use mathlib.Core.Bool.{false, cond}
use mathlib.Core.List.{List, [], ◌∷◌, ◌++◌, append-nil, append_assoc}
use mathlib.Core.Logic.{by_cases}
use mathlib.Core.Option.{Option, some}
use mathlib.Core.Path.{◌≡◌, refl, sym, ap, subst, ◌∙◌}
use Prim.Native.Nat.{ℕ, zero, suc, ◌*◌, ◌<◌, ◌≤◌}
use native.Mathlib.Decide.{ℕ_discrete, dec_lt}
use native.Mathlib.Nat.{mul-zero, mul-one}
use native.Mathlib.Omega.{arith}
use borrow.Author.Tests.{eq-eqb, ne_eqb}
use lib.Dec.{eqb}
use lib.IntN.{ℤ, pos}
use lib.ListN.{length, get_or, take, replicate, length-append, length-replicate, get_or-replicate, get_or-append}
use lib.Seq.{take-suc, take_all, ext_get_or, get_or-append_seam}
use Rattle.standard.specs.Header.{Bit, gives, ◌>>=◌, f, su7, updated, updates, deltas}
use Rattle.deltas.specs.Deltas.{delta, outside}
use Rattle.bit_place.specs.Place.{digits}
use Rattle.bit_place.specs.Seven.{seven_of}
use Rattle.bit_place.proofs.Places.{digits-none}
use Rattle.params_lay.specs.Print.{delta_digits, deltas_digits}
use Rattle.round_trips.proofs.Steps.{said, left, goes_on, came}
use Rattle.round_trips.proofs.Numerals.{prints, Number, reads, su-prints, su-reads}
use Rattle.params_unfit.proofs.Fits.{FitDelta}
use Rattle.params_lay.proofs.Layings.{deltas-none, deltas-more}

-- ---- one of them

not-sent : (d : ℤ) → delta_digits 0 d ≡ digits 1 0
not-sent d = rw (digits-none (seven_of d)) (append-nil (digits 1 0))

sent-shown : (u : ℕ) (d : ℤ) (rest : List Bit) → u ≡ 1 → digits 1 u ++ (digits 7 (seven_of d) ++ rest) ≡ delta_digits u d ++ rest
sent-shown u d rest o = rw o (sym (append_assoc (digits 1 1) (digits 7 (seven_of d)) rest))

off-prints : (b d : ℤ) (rest : List Bit) → d ≡ b → updated b (delta_digits 0 d ++ rest) ≡ some ((0, d), rest)
unfolding updated
off-prints b d rest e =
    ap (λ (l : List Bit). updated b (l ++ rest)) (not-sent d)
    ∙ goes_on (f 1) _ (digits 1 0 ++ rest) rest 0 (prints 1 0 rest (omega arith))
    ∙ ap (λ (z : ℤ). some ((0, z), rest)) (sym e)

on-prints : (b d : ℤ) (rest : List Bit) → outside 64 d ≡ false → updated b (delta_digits 1 d ++ rest) ≡ some ((1, d), rest)
unfolding updated
on-prints b d rest h =
    ap (updated b) (append_assoc (digits 1 1) (digits 7 (seven_of d)) rest)
    ∙ goes_on (f 1) _ (digits 1 1 ++ (digits 7 (seven_of d) ++ rest)) (digits 7 (seven_of d) ++ rest) 1 (prints 1 1 (digits 7 (seven_of d) ++ rest) (omega arith))
    ∙ goes_on su7 _ (digits 7 (seven_of d) ++ rest) rest d (su-prints d rest h)

updated-prints : (m u : ℕ) (b d : ℤ) (rest : List Bit) → m ≤ 1 → FitDelta m u b d → updated b (delta_digits u d ++ rest) ≡ some ((u, d), rest)
updated-prints m u b d rest h fit =
    by_cases (ℕ_discrete u 0) (λ z. rw z (off-prints b d rest (fit.stays z)))
    (λ n. let one : u ≡ 1 = omega (arith, n, h, fit.most) in rw one (on-prints b d rest (fit.within n)))

record Update (b : ℤ) (r : ℕ × ℤ) (bs rest : List Bit) : Type 0 where
  fit : FitDelta 1 r.0 b r.1
  shown : bs ≡ delta_digits r.0 r.1 ++ rest

updated-reads : (b : ℤ) (r : ℕ × ℤ) (bs rest : List Bit) → updated b bs ≡ some (r, rest) → Update b r bs rest
unfolding updated
updated-reads b r bs rest h =
    let c = came (f 1) _ bs rest r h in go c.first c.mid (reads 1 c.first bs c.mid c.by_first) (ℕ_discrete c.first 1) c.by-second
  where
    go : (u : ℕ) (mid : List Bit) → Number 1 u bs mid → Dec (u ≡ 1) → (cond (eqb u 1) (su7 >>= λ e. gives (u, e)) (gives (u, b))) mid ≡ some (r, rest) → Update b r bs rest
    go u mid n (yes one) e =
        let c = came su7 (λ d. gives (u, d)) mid rest r (rw (eq-eqb u 1 one) at e) in
        let d = su-reads c.first mid c.mid c.by_first in
        let sent : Update b (u, c.first) bs rest = record {
          fit = record { most = omega (arith, one); stays = λ z. absurd (omega (arith, z, one)); within = λ q. d.within };
          shown = n.shown ∙ ap (λ (l : List Bit). digits 1 u ++ l) (d.shown ∙ ap (λ (l : List Bit). digits 7 (seven_of c.first) ++ l) (left c.by-second))
              ∙ sent-shown u c.first rest one;
        } in
        subst (λ (x : ℕ × ℤ). Update b x bs rest) (said c.by-second) sent
    go u mid n (no no_one) e =
        let z : u ≡ 0 = omega (arith, no_one, n.small) in
        let kept : ◌≡◌ {A = Option ((ℕ × ℤ) × List Bit)} (some ((u, b), mid)) (some (r, rest)) = rw (ne_eqb u 1 no_one) at e in
        let unsent : Update b (u, b) bs rest = record {
          fit = record { most = omega (arith, z); stays = λ q. refl; within = λ g. absurd (g z) };
          shown = n.shown ∙ ap (λ (l : List Bit). digits 1 u ++ l) (left kept) ∙ rw z (ap (λ (l : List Bit). l ++ rest) (sym (not-sent b)));
        } in
        subst (λ (x : ℕ × ℤ). Update b x bs rest) (said kept) unsent

-- ---- the first n

updates-prints : (m : ℕ) (bs : List ℤ) (us : List ℕ) (ds : List ℤ) (n : ℕ) (rest : List Bit) → m ≤ 1
    → ((i : ℕ) → i < n → FitDelta m (get_or us i 0) (delta bs i) (delta ds i)) → n ≤ length us → n ≤ length ds
    → updates bs n (deltas_digits us ds n ++ rest) ≡ some ((take n us, take n ds), rest)
unfolding updates
updates-prints m bs us ds zero rest h fit lu ld = rw (deltas-none us ds) refl
updates-prints m bs us ds (suc n) rest h fit lu ld =
    let u = get_or us n 0 in
    let d = delta ds n in
    ap (updates bs (suc n)) (ap (λ (l : List Bit). l ++ rest) (deltas-more us ds n) ∙ append_assoc (deltas_digits us ds n) (delta_digits u d) rest)
    ∙ goes_on (updates bs n) _ (deltas_digits us ds n ++ (delta_digits u d ++ rest)) (delta_digits u d ++ rest) (take n us, take n ds)
    (updates-prints m bs us ds n (delta_digits u d ++ rest) h (λ i g. fit i (omega arith)) (omega arith) (omega arith))
    ∙ goes_on (updated (delta bs n)) _ (delta_digits u d ++ rest) rest (u, d) (updated-prints m u (delta bs n) d rest h (fit n (omega arith)))
    ∙ rw (take-suc us n 0 (omega arith), take-suc ds n (pos 0) (omega arith)) refl

pub record Updated (m : ℕ) (bs : List ℤ) (n k : ℕ) (x : List ℕ × List ℤ) (from rest : List Bit) : Type 0 where
  pub long : length x.0 ≡ n
  pub long-delta : length x.1 ≡ n
  pub fit : (i : ℕ) → i < n → FitDelta m (get_or x.0 i 0) (delta bs i) (delta x.1 i)
  pub shown : from ≡ deltas_digits x.0 x.1 k ++ rest

deltas-same : (us us' : List ℕ) (ds ds' : List ℤ) (n : ℕ) → ((i : ℕ) → i < n → get_or us i 0 ≡ get_or us' i 0) → ((i : ℕ) → i < n → delta ds i ≡ delta ds' i)
    → deltas_digits us ds n ≡ deltas_digits us' ds' n
deltas-same us us' ds ds' zero e h = deltas-none us ds ∙ sym (deltas-none us' ds')
deltas-same us us' ds ds' (suc n) e h =
    deltas-more us ds n
    ∙ rw (deltas-same us us' ds ds' n (λ i g. e i (omega arith)) (λ i g. h i (omega arith)), e n (omega arith), h n (omega arith)) refl
    ∙ sym (deltas-more us' ds' n)

one_more : (bs : List ℤ) (n : ℕ) (l : List ℕ × List ℤ) (x : ℕ × ℤ) (from mid rest : List Bit) → Updated 1 bs n n l from mid → Update (delta bs n) x mid rest
    → Updated 1 bs (suc n) (suc n) (l.0 ++ (x.0 ∷ []), l.1 ++ (x.1 ∷ [])) from rest
one_more bs n l x from mid rest a b = record {
  long = length-append l.0 (x.0 ∷ []) ∙ omega (arith, a.long);
  long-delta = length-append l.1 (x.1 ∷ []) ∙ omega (arith, a.long-delta);
  fit = λ i h. by_cases (dec_lt i n) (λ g. rw (old i g, old-delta i g) (a.fit i g)) (λ g. let e : i ≡ n = omega (arith, h, g) in rw (e, new, new-delta) b.fit);
  shown = a.shown
      ∙ ap (λ (r : List Bit). deltas_digits l.0 l.1 n ++ r) b.shown
      ∙ sym (append_assoc (deltas_digits l.0 l.1 n) (delta_digits x.0 x.1) rest)
      ∙ ap (λ (r : List Bit). r ++ rest) (sym all);
}
  where
    us : List ℕ
    us = l.0 ++ (x.0 ∷ [])

    ds : List ℤ
    ds = l.1 ++ (x.1 ∷ [])

    old : (i : ℕ) → i < n → get_or us i 0 ≡ get_or l.0 i 0
    old i g = get_or-append l.0 (x.0 ∷ []) 0 i (omega (arith, g, a.long))

    old-delta : (i : ℕ) → i < n → delta ds i ≡ delta l.1 i
    old-delta i g = get_or-append l.1 (x.1 ∷ []) (pos 0) i (omega (arith, g, a.long-delta))

    new : get_or us n 0 ≡ x.0
    new = ap (λ (k : ℕ). get_or us k 0) (sym a.long) ∙ get_or-append_seam l.0 x.0 [] 0

    new-delta : delta ds n ≡ x.1
    new-delta = ap (λ (k : ℕ). delta ds k) (sym a.long-delta) ∙ get_or-append_seam l.1 x.1 [] (pos 0)

    all : deltas_digits us ds (suc n) ≡ deltas_digits l.0 l.1 n ++ delta_digits x.0 x.1
    all = rw (deltas-more us ds n, deltas-same us l.0 ds l.1 n old old-delta, new, new-delta) refl

updates-reads : (bs : List ℤ) (n : ℕ) (x : List ℕ × List ℤ) (from rest : List Bit) → updates bs n from ≡ some (x, rest) → Updated 1 bs n n x from rest
unfolding updates
updates-reads bs zero x from rest h =
    subst (λ (y : List ℕ × List ℤ). Updated 1 bs 0 0 y from rest) (said h)
    (record { long = refl; long-delta = refl; fit = λ i g. absurd (omega arith); shown = rw (deltas-none [] []) (left h) })
updates-reads bs (suc n) x from rest h =
    let c = came (updates bs n) _ from rest x h in
    let d = came (updated (delta bs n)) _ c.mid rest x c.by-second in
    let more = one_more bs n c.first d.first from c.mid d.mid (updates-reads bs n c.first from c.mid c.by_first)
    (updated-reads (delta bs n) d.first c.mid d.mid d.by_first) in
    subst (λ (y : List ℕ × List ℤ). Updated 1 bs (suc n) (suc n) y from rest) (said d.by-second)
    (subst (λ (r : List Bit). Updated 1 bs (suc n) (suc n) (c.first.0 ++ (d.first.0 ∷ []), c.first.1 ++ (d.first.1 ∷ [])) from r) (left d.by-second) more)

-- ---- where delta_update is 1, and where it is not

pub deltas-prints : (u : ℕ) (bs : List ℤ) (us : List ℕ) (ds : List ℤ) (n : ℕ) (rest : List Bit) → u ≤ 1
    → ((i : ℕ) → i < n → FitDelta u (get_or us i 0) (delta bs i) (delta ds i)) → length us ≡ n → length ds ≡ n → length bs ≡ n
    → deltas u bs n (deltas_digits us ds (n * u) ++ rest) ≡ some ((us, ds), rest)
unfolding deltas
deltas-prints u bs us ds n rest h fit lu ld lb = by_cases (ℕ_discrete u 1) on off
  where
    on : u ≡ 1 → (cond (eqb u 1) (updates bs n) (gives (replicate n 0, bs))) (deltas_digits us ds (n * u) ++ rest) ≡ some ((us, ds), rest)
    on o =
        let e : n * u ≡ n = rw o (mul-one n) in
        rw (eq-eqb u 1 o, e) (updates-prints u bs us ds n rest h fit (omega arith) (omega arith) ∙ rw (take_all n us (omega arith), take_all n ds (omega arith)) refl)

    off : ¬ (u ≡ 1) → (cond (eqb u 1) (updates bs n) (gives (replicate n 0, bs))) (deltas_digits us ds (n * u) ++ rest) ≡ some ((us, ds), rest)
    off no_one =
        let z : u ≡ 0 = omega (arith, no_one, h) in
        let e : n * u ≡ 0 = rw z (mul-zero n) in
        let zeros : replicate n 0 ≡ us = ext_get_or 0 (replicate n 0) us (length-replicate {A = ℕ} n 0 ∙ sym lu)
        (λ i g. let s : i < n = rw (length-replicate {A = ℕ} n 0) at g in get_or-replicate n i 0 0 s ∙ omega (arith, z, (fit i s).most)) in
        let same : bs ≡ ds = ext_get_or (pos 0) bs ds (lb ∙ sym ld) (λ i g. let s : i < n = rw lb at g in sym ((fit i s).stays (omega (arith, z, (fit i s).most)))) in
        rw (ne_eqb u 1 no_one, e, deltas-none us ds, zeros, same) refl

pub deltas-reads : (u : ℕ) (bs : List ℤ) (n : ℕ) (x : List ℕ × List ℤ) (from rest : List Bit) → u < 2 → length bs ≡ n → deltas u bs n from ≡ some (x, rest)
    → Updated u bs n (n * u) x from rest
unfolding deltas
deltas-reads u bs n x from rest h lb e = by_cases (ℕ_discrete u 1) on off
  where
    on : u ≡ 1 → Updated u bs n (n * u) x from rest
    on o =
        let k : n * u ≡ n = rw o (mul-one n) in
        let r : updates bs n from ≡ some (x, rest) = rw (eq-eqb u 1 o) at e in
        rw (k, o) (updates-reads bs n x from rest r)

    off : ¬ (u ≡ 1) → Updated u bs n (n * u) x from rest
    off no_one =
        let z : u ≡ 0 = omega (arith, no_one, h) in
        let k : n * u ≡ 0 = rw z (mul-zero n) in
        let r : ◌≡◌ {A = Option ((List ℕ × List ℤ) × List Bit)} (some ((replicate n 0, bs), from)) (some (x, rest)) = rw (ne_eqb u 1 no_one) at e in
        rw (k, z)
        (subst (λ (y : List ℕ × List ℤ). Updated 0 bs n 0 y from rest) (said r)
        (record {
          long = length-replicate n 0;
          long-delta = lb;
          fit = λ i g. let zero_bit = get_or-replicate n i 0 0 g in
              record { most = omega (arith, zero_bit); stays = λ q. refl; within = λ q. absurd (q zero_bit) };
          shown = rw (deltas-none (replicate n 0) bs) (left r);
        }))
