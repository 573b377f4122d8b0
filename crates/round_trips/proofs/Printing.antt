-- What 5.9.11 reads is what is printed: parameters that are not unfit are read back from their bits, and what is read is not unfit and has no other bits.
use mathlib.Core.Bool.{Bool, true, false, cond}
use mathlib.Core.List.{List, [], ◌∷◌, ◌++◌, append_assoc}
use mathlib.Core.Logic.{by_cases}
use mathlib.Core.Option.{Option, some}
use mathlib.Core.Path.{◌≡◌, refl, sym, ap, subst, ◌∙◌}
use Prim.Native.Nat.{ℕ, ◌*◌, ◌<◌, ◌≤◌}
use native.Mathlib.Decide.{ℕ_discrete}
use native.Mathlib.Omega.{arith}
use borrow.Author.Tests.{eq-eqb, ne_eqb}
use lib.Dec.{eqb}
use lib.IntN.{ℤ, pos}
use lib.ListN.{length, get_or, replicate, length-replicate, get_or-replicate}
use lib.Seq.{ext_get_or}
use Rattle.standard.specs.Header.{Bit, Reader, gives, ◌>>=◌, f, has_chroma, levels, flag, deltas, Given, params_of, sent, parse, is_off, off, default_refs, default_modes}
use Rattle.standard.specs.declared.Params.{Params}
use Rattle.bit_place.specs.Place.{digits}
use Rattle.bit_place.proofs.Places.{digits-none}
use Rattle.params_read.specs.Reads.{chroma_bits}
use Rattle.params_lay.specs.Print.{levels_digits, deltas_digits, printed, print}
use Rattle.params_unfit.specs.Unfit.{unfit_fields, unfit_as, unfit}
use Rattle.round_trips.specs.Promises.{SizedGiven, Sized}
use Rattle.round_trips.proofs.Steps.{said, left, goes_on, came}
use Rattle.round_trips.proofs.Numerals.{prints, Number, reads}
use Rattle.params_unfit.proofs.Fits.{FitDelta, Fit, fit_on, unfit-none, FitOff, fit-off, unfit-still}
use Rattle.round_trips.proofs.Updates.{Updated, deltas-prints, deltas-reads}

-- ---- levels

-- a list of four is its elements
four : (l : List ℕ) → length l ≡ 4 → l ≡ get_or l 0 0 ∷ get_or l 1 0 ∷ get_or l 2 0 ∷ get_or l 3 0 ∷ []
four [] h = absurd (omega (arith, h))
four (a ∷ []) h = absurd (omega (arith, h))
four (a ∷ b ∷ []) h = absurd (omega (arith, h))
four (a ∷ b ∷ c ∷ []) h = absurd (omega (arith, h))
four (a ∷ b ∷ c ∷ d ∷ []) h = refl
four (a ∷ b ∷ c ∷ d ∷ e ∷ l) h = absurd (omega (arith, h))

abbrev tail : Bool → ℕ → ℕ → Reader (List ℕ)
tail t x y = cond t (f 6 >>= λ z. f 6 >>= λ w. gives (x ∷ y ∷ z ∷ w ∷ [])) (gives (x ∷ y ∷ 0 ∷ 0 ∷ []))

tail-prints : (t : Bool) (x y z w : ℕ) (rest : List Bit) → z ≤ cond t 63 0 → w ≤ cond t 63 0
    → tail t x y (digits (cond t 6 0) z ++ (digits (cond t 6 0) w ++ rest)) ≡ some (x ∷ y ∷ z ∷ w ∷ [], rest)
tail-prints true x y z w rest hz hw =
    goes_on (f 6) _ (digits 6 z ++ (digits 6 w ++ rest)) (digits 6 w ++ rest) z (prints 6 z (digits 6 w ++ rest) (omega arith))
    ∙ goes_on (f 6) _ (digits 6 w ++ rest) rest w (prints 6 w rest (omega arith))
tail-prints false x y z w rest hz hw =
    let ez : z ≡ 0 = omega arith in
    let ew : w ≡ 0 = omega arith in
    rw (digits-none z, digits-none w, ez, ew) refl

levels-assoc : (a b c d rest : List Bit) → a ++ b ++ c ++ d ++ rest ≡ a ++ (b ++ (c ++ (d ++ rest)))
levels-assoc a b c d rest = append_assoc (a ++ b ++ c) d rest ∙ append_assoc (a ++ b) c (d ++ rest) ∙ append_assoc a b (c ++ (d ++ rest))

levels-prints : (planes : ℕ) (l : List ℕ) (rest : List Bit) → length l ≡ 4 → get_or l 0 0 ≤ 63 → get_or l 1 0 ≤ 63
    → get_or l 2 0 ≤ cond (has_chroma planes (get_or l 0 0) (get_or l 1 0)) 63 0 → get_or l 3 0 ≤ cond (has_chroma planes (get_or l 0 0) (get_or l 1 0)) 63 0
    → levels planes (levels_digits planes l ++ rest) ≡ some (l, rest)
unfolding levels
levels-prints planes l rest long h0 h1 h2 h3 =
    let x = get_or l 0 0 in
    let y = get_or l 1 0 in
    let z = get_or l 2 0 in
    let w = get_or l 3 0 in
    let c = chroma_bits planes l in
    ap (levels planes) (levels-assoc (digits 6 x) (digits 6 y) (digits c z) (digits c w) rest)
    ∙ goes_on (f 6) _ (digits 6 x ++ (digits 6 y ++ (digits c z ++ (digits c w ++ rest)))) (digits 6 y ++ (digits c z ++ (digits c w ++ rest))) x
    (prints 6 x (digits 6 y ++ (digits c z ++ (digits c w ++ rest))) (omega (arith, h0)))
    ∙ goes_on (f 6) _ (digits 6 y ++ (digits c z ++ (digits c w ++ rest))) (digits c z ++ (digits c w ++ rest)) y
    (prints 6 y (digits c z ++ (digits c w ++ rest)) (omega (arith, h1)))
    ∙ tail-prints (has_chroma planes x y) x y z w rest h2 h3
    ∙ ap (λ (m : List ℕ). some (m, rest)) (sym (four l long))

record Levels (planes : ℕ) (l : List ℕ) (bs rest : List Bit) : Type 0 where
  long : length l ≡ 4
  h0 : get_or l 0 0 ≤ 63
  h1 : get_or l 1 0 ≤ 63
  h2 : get_or l 2 0 ≤ cond (has_chroma planes (get_or l 0 0) (get_or l 1 0)) 63 0
  h3 : get_or l 3 0 ≤ cond (has_chroma planes (get_or l 0 0) (get_or l 1 0)) 63 0
  shown : bs ≡ levels_digits planes l ++ rest

record Tail (t : Bool) (x y : ℕ) (l : List ℕ) (bs rest : List Bit) : Type 0 where
  z : ℕ
  w : ℕ
  is : l ≡ x ∷ y ∷ z ∷ w ∷ []
  hz : z ≤ cond t 63 0
  hw : w ≤ cond t 63 0
  shown : bs ≡ digits (cond t 6 0) z ++ (digits (cond t 6 0) w ++ rest)

tail-reads : (t : Bool) (x y : ℕ) (l : List ℕ) (bs rest : List Bit) → tail t x y bs ≡ some (l, rest) → Tail t x y l bs rest
tail-reads true x y l bs rest h =
    let c = came (f 6) _ bs rest l h in
    let d = came (f 6) _ c.mid rest l c.by-second in
    let n = reads 6 c.first bs c.mid c.by_first in
    let m = reads 6 d.first c.mid d.mid d.by_first in record {
      z = c.first;
      w = d.first;
      is = sym (said d.by-second);
      hz = omega (arith, n.small);
      hw = omega (arith, m.small);
      shown = n.shown ∙ ap (λ (r : List Bit). digits 6 c.first ++ r) (m.shown ∙ ap (λ (r : List Bit). digits 6 d.first ++ r) (left d.by-second));
    }
tail-reads false x y l bs rest h = record { z = 0; w = 0; is = sym (said h); hz = omega arith; hw = omega arith; shown = rw (digits-none 0) (left h) }

levels-of : (planes : ℕ) (x y : ℕ) (l : List ℕ) (bs m₁ m₂ rest : List Bit) → Number 6 x bs m₁ → Number 6 y m₁ m₂ → Tail (has_chroma planes x y) x y l m₂ rest → Levels planes l bs rest
levels-of planes x y l bs m₁ m₂ rest n m t =
    subst (λ (k : List ℕ). Levels planes k bs rest) (sym t.is)
    (record {
      long = refl;
      h0 = omega (arith, n.small);
      h1 = omega (arith, m.small);
      h2 = t.hz;
      h3 = t.hw;
      shown = n.shown
          ∙ ap (λ (r : List Bit). digits 6 x ++ r) (m.shown ∙ ap (λ (r : List Bit). digits 6 y ++ r) t.shown)
          ∙ sym (levels-assoc (digits 6 x) (digits 6 y) (digits (cond (has_chroma planes x y) 6 0) t.z) (digits (cond (has_chroma planes x y) 6 0) t.w) rest);
    })

levels-reads : (planes : ℕ) (l : List ℕ) (bs rest : List Bit) → levels planes bs ≡ some (l, rest) → Levels planes l bs rest
unfolding levels
levels-reads planes l bs rest h =
    let c = came (f 6) _ bs rest l h in
    let d = came (f 6) _ c.mid rest l c.by-second in
    levels-of planes c.first d.first l bs c.mid d.mid rest (reads 6 c.first bs c.mid c.by_first) (reads 6 d.first c.mid d.mid d.by_first)
    (tail-reads (has_chroma planes c.first d.first) c.first d.first l d.mid rest d.by-second)

-- ---- delta_update

flag-prints : (e u : ℕ) (rest : List Bit) → e ≤ 1 → u ≤ e → flag (eqb e 1) (digits e u ++ rest) ≡ some (u, rest)
flag-prints e u rest h g = by_cases (ℕ_discrete e 1) (λ o. rw (eq-eqb e 1 o, o) (prints 1 u rest (omega arith)))
    (λ n. let z : e ≡ 0 = omega (arith, n, h) in let zu : u ≡ 0 = omega arith in rw (ne_eqb e 1 n, z, digits-none u, zu) refl)

record Flag (e u : ℕ) (bs rest : List Bit) : Type 0 where
  most : u ≤ e
  shown : bs ≡ digits e u ++ rest

flag-reads : (e u : ℕ) (bs rest : List Bit) → e < 2 → flag (eqb e 1) bs ≡ some (u, rest) → Flag e u bs rest
flag-reads e u bs rest h r = by_cases (ℕ_discrete e 1) on none
  where
    on : e ≡ 1 → Flag e u bs rest
    on o =
        let q : f 1 bs ≡ some (u, rest) = rw (eq-eqb e 1 o) at r in
        let n = reads 1 u bs rest q in
        record { most = omega (arith, o, n.small); shown = rw o n.shown }

    none : ¬ (e ≡ 1) → Flag e u bs rest
    none n =
        let z : e ≡ 0 = omega (arith, n, h) in
        let q : ◌≡◌ {A = Option (ℕ × List Bit)} (some (0, bs)) (some (u, rest)) = rw (ne_eqb e 1 n) at r in
        let zu : 0 ≡ u = said q in
        record { most = omega (arith, zu); shown = rw (z, digits-none u) (left q) }

-- ---- all fields

all-assoc : (l a b c r m rest : List Bit) → l ++ (a ++ b ++ c) ++ r ++ m ++ rest ≡ l ++ (a ++ (b ++ (c ++ (r ++ (m ++ rest)))))
all-assoc l a b c r m rest =
    append_assoc (l ++ (a ++ b ++ c) ++ r) m rest
    ∙ append_assoc (l ++ (a ++ b ++ c)) r (m ++ rest)
    ∙ append_assoc l (a ++ b ++ c) (r ++ (m ++ rest))
    ∙ ap (λ (x : List Bit). l ++ x) (append_assoc (a ++ b) c (r ++ (m ++ rest)) ∙ append_assoc a b (c ++ (r ++ (m ++ rest))))

sent-prints : (g : Given) (p : Params) (rest : List Bit) → SizedGiven g → Sized p → Fit g.planes g.refs g.modes p
    → sent g (printed g.planes p ++ rest) ≡ some (p, rest)
unfolding sent printed
sent-prints g p rest sg sp fit =
    let l = levels_digits g.planes p.level in
    let e = p.delta_enabled in
    let u = p.delta_update in
    let a = digits 3 p.sharpness in
    let b = digits 1 e in
    let c = digits e u in
    let r = deltas_digits p.update_ref p.ref_delta (8 * u) in
    let m = deltas_digits p.update_mode p.mode_delta (2 * u) in
    let one : u ≤ 1 = omega (arith, fit.update, fit.enabled) in
    ap (sent g) (all-assoc l a b c r m rest)
    ∙ goes_on (levels g.planes) _ (l ++ (a ++ (b ++ (c ++ (r ++ (m ++ rest)))))) (a ++ (b ++ (c ++ (r ++ (m ++ rest))))) p.level
    (levels-prints g.planes p.level (a ++ (b ++ (c ++ (r ++ (m ++ rest))))) sp.levels fit.level-0 fit.level-1 fit.level-2 fit.level-3)
    ∙ goes_on (f 3) _ (a ++ (b ++ (c ++ (r ++ (m ++ rest))))) (b ++ (c ++ (r ++ (m ++ rest)))) p.sharpness
    (prints 3 p.sharpness (b ++ (c ++ (r ++ (m ++ rest)))) (omega (arith, fit.sharp)))
    ∙ goes_on (f 1) _ (b ++ (c ++ (r ++ (m ++ rest)))) (c ++ (r ++ (m ++ rest))) e (prints 1 e (c ++ (r ++ (m ++ rest))) (omega (arith, fit.enabled)))
    ∙ goes_on (flag (eqb e 1)) _ (c ++ (r ++ (m ++ rest))) (r ++ (m ++ rest)) u (flag-prints e u (r ++ (m ++ rest)) fit.enabled fit.update)
    ∙ goes_on (deltas u g.refs 8) _ (r ++ (m ++ rest)) (m ++ rest) (p.update_ref, p.ref_delta)
    (deltas-prints u g.refs p.update_ref p.ref_delta 8 (m ++ rest) one fit.ref sp.ref-bits sp.refs sg.refs)
    ∙ goes_on (deltas u g.modes 2) _ (m ++ rest) rest (p.update_mode, p.mode_delta)
    (deltas-prints u g.modes p.update_mode p.mode_delta 2 rest one fit.mode sp.mode-bits sp.modes sg.modes)

record Sent (g : Given) (p : Params) (bs rest : List Bit) : Type 0 where
  fit : Fit g.planes g.refs g.modes p
  sized : Sized p
  shown : bs ≡ printed g.planes p ++ rest

sent-of : (g : Given) (l : List ℕ) (s e u : ℕ) (r m : List ℕ × List ℤ) (bs b₁ b₂ b₃ b₄ b₅ rest : List Bit)
    → Levels g.planes l bs b₁ → Number 3 s b₁ b₂ → Number 1 e b₂ b₃ → Flag e u b₃ b₄ → Updated u g.refs 8 (8 * u) r b₄ b₅ → Updated u g.modes 2 (2 * u) m b₅ rest
    → Sent g (params_of l s e u r m) bs rest
unfolding printed
sent-of g l s e u r m bs b₁ b₂ b₃ b₄ b₅ rest lev ns ne nu ur um = record {
  fit = record {
    level-0 = lev.h0;
    level-1 = lev.h1;
    level-2 = lev.h2;
    level-3 = lev.h3;
    sharp = omega (arith, ns.small);
    enabled = omega (arith, ne.small);
    update = nu.most;
    ref = ur.fit;
    mode = um.fit;
  };
  sized = record { levels = lev.long; ref-bits = ur.long; mode-bits = um.long; refs = ur.long-delta; modes = um.long-delta };
  shown = lev.shown
      ∙ ap (λ (x : List Bit). levels_digits g.planes l ++ x)
      (ns.shown ∙ ap (λ (x : List Bit). digits 3 s ++ x) (ne.shown ∙ ap (λ (x : List Bit). digits 1 e ++ x)
      (nu.shown ∙ ap (λ (x : List Bit). digits e u ++ x) (ur.shown ∙ ap (λ (x : List Bit). deltas_digits r.0 r.1 (8 * u) ++ x) um.shown))))
      ∙ sym (all-assoc (levels_digits g.planes l) (digits 3 s) (digits 1 e) (digits e u) (deltas_digits r.0 r.1 (8 * u)) (deltas_digits m.0 m.1 (2 * u)) rest);
}

sent-reads : (g : Given) (p : Params) (bs rest : List Bit) → SizedGiven g → sent g bs ≡ some (p, rest) → Sent g p bs rest
unfolding sent
sent-reads g p bs rest sg h =
    let c₁ = came (levels g.planes) _ bs rest p h in
    let c₂ = came (f 3) _ c₁.mid rest p c₁.by-second in
    let c₃ = came (f 1) _ c₂.mid rest p c₂.by-second in
    let c₄ = came (flag (eqb c₃.first 1)) _ c₃.mid rest p c₃.by-second in
    let c₅ = came (deltas c₄.first g.refs 8) _ c₄.mid rest p c₄.by-second in
    let c₆ = came (deltas c₄.first g.modes 2) _ c₅.mid rest p c₅.by-second in
    let ne = reads 1 c₃.first c₂.mid c₃.mid c₃.by_first in
    let nu = flag-reads c₃.first c₄.first c₃.mid c₄.mid ne.small c₄.by_first in
    let small : c₄.first < 2 = omega (arith, ne.small, nu.most) in
    let all = sent-of g c₁.first c₂.first c₃.first c₄.first c₅.first c₆.first bs c₁.mid c₂.mid c₃.mid c₄.mid c₅.mid c₆.mid
    (levels-reads g.planes c₁.first bs c₁.mid c₁.by_first) (reads 3 c₂.first c₁.mid c₂.mid c₂.by_first) ne nu
    (deltas-reads c₄.first g.refs 8 c₅.first c₄.mid c₅.mid small sg.refs c₅.by_first)
    (deltas-reads c₄.first g.modes 2 c₆.first c₅.mid c₆.mid small sg.modes c₆.by_first) in
    subst (λ (q : Params). Sent g q bs rest) (said c₆.by-second)
    (subst (λ (x : List Bit). Sent g (params_of c₁.first c₂.first c₃.first c₄.first c₅.first c₆.first) bs x) (left c₆.by-second) all)

-- ---- where no bits are sent

is-off : (p : Params) → Sized p → FitOff p → p ≡ off
is-off p sp fit = rw (levels-zero, fit.sharp, fit.enabled, fit.update, ref-bits, mode-bits, refs, modes) refl
  where
    zeros : (us : List ℕ) (n : ℕ) → length us ≡ n → ((i : ℕ) → i < n → get_or us i 0 ≡ 0) → us ≡ replicate n 0
    zeros us n e h =
        ext_get_or 0 us (replicate n 0) (e ∙ sym (length-replicate n 0)) (λ i g. let s : i < n = rw e at g in h i s ∙ sym (get_or-replicate n i 0 0 s))

    none : (m u : ℕ) (b d : ℤ) → m ≡ 0 → FitDelta m u b d → u ≡ 0
    none m u b d z f = omega (arith, z, f.most)

    levels-zero : p.level ≡ replicate 4 0
    levels-zero = zeros p.level 4 sp.levels fit.level

    ref-bits : p.update_ref ≡ replicate 8 0
    ref-bits = zeros p.update_ref 8 sp.ref-bits (λ i h. none _ _ _ _ fit.update (fit.ref i h))

    mode-bits : p.update_mode ≡ replicate 2 0
    mode-bits = zeros p.update_mode 2 sp.mode-bits (λ i h. none _ _ _ _ fit.update (fit.mode i h))

    refs : p.ref_delta ≡ default_refs
    refs = ext_get_or (pos 0) p.ref_delta default_refs sp.refs
        (λ i g. let s : i < 8 = rw sp.refs at g in (fit.ref i s).stays (none _ _ _ _ fit.update (fit.ref i s)))

    modes : p.mode_delta ≡ default_modes
    modes = ext_get_or (pos 0) p.mode_delta default_modes sp.modes
        (λ i g. let s : i < 2 = rw sp.modes at g in (fit.mode i s).stays (none _ _ _ _ fit.update (fit.mode i s)))

off-fits : (planes : ℕ) (refs modes : List ℤ) → unfit_as true planes refs modes off ≡ false
unfolding unfit_as unfit_fields
off-fits planes refs modes =
    rw (unfit-still 8 (replicate 8 0) default_refs (λ i h. get_or-replicate 8 i 0 0 h), unfit-still 2 (replicate 2 0) default_modes (λ i h. get_or-replicate 2 i 0 0 h)) refl

-- ---- loop_filter_params( )

pub parse-prints : (g : Given) (p : Params) (rest : List Bit) → SizedGiven g → Sized p → unfit g p ≡ false → parse g (print g p ++ rest) ≡ some (p, rest)
unfolding parse
parse-prints g p rest sg sp h = go (is_off g) refl
  where
    go : (o : Bool) → is_off g ≡ o → (cond (is_off g) (gives off) (sent g)) (cond (is_off g) [] (printed g.planes p) ++ rest) ≡ some (p, rest)
    go true e = let fit = fit-off g.planes g.refs g.modes p (rw e at h) in rw (e, is-off p sp fit) refl
    go false e = rw e (sent-prints g p rest sg sp (fit_on g.planes g.refs g.modes p (rw e at h)))

pub record Parsed (g : Given) (p : Params) (bs rest : List Bit) : Type 0 where
  pub fits : unfit g p ≡ false
  pub sized : Sized p
  pub shown : bs ≡ print g p ++ rest

off-parsed : (g : Given) (bs rest : List Bit) → is_off g ≡ true → bs ≡ rest → Parsed g off bs rest
off-parsed g bs rest e h = record {
  fits = rw e (off-fits g.planes g.refs g.modes);
  sized = record { levels = refl; ref-bits = refl; mode-bits = refl; refs = refl; modes = refl };
  shown = rw e h;
}

pub parse-reads : (g : Given) (p : Params) (bs rest : List Bit) → SizedGiven g → parse g bs ≡ some (p, rest) → Parsed g p bs rest
unfolding parse
parse-reads g p bs rest sg h = go (is_off g) refl
  where
    go : (o : Bool) → is_off g ≡ o → Parsed g p bs rest
    go true e =
        let q : ◌≡◌ {A = Option (Params × List Bit)} (some (off, bs)) (some (p, rest)) = rw e at h in
        subst (λ (x : Params). Parsed g x bs rest) (said q) (off-parsed g bs rest e (left q))
    go false e =
        let s = sent-reads g p bs rest sg (rw e at h) in
        record { fits = rw e (unfit-none g.planes g.refs g.modes p s.fit); sized = s.sized; shown = rw e s.shown }
