-- What each piece of 5.9.11 takes of a stream: one piece after another takes the sum of their bits, and runs out where one of them does.
use mathlib.Core.Bool.{Bool, true, false, cond}
use mathlib.Core.List.{List, [], ◌∷◌, ◌++◌}
use mathlib.Core.Option.{some, none}
use mathlib.Core.Path.{◌≡◌, refl, sym, ap, subst, ◌∙◌}
use mathlib.Core.Logic.{by_cases}
use Prim.Native.Nat.{ℕ, zero, suc, ◌+◌, ◌-◌, ◌*◌, ◌^◌, ◌<◌, ◌≤◌}
use native.Mathlib.Decide.{dec_lt}
use native.Mathlib.Nat.{zero-add, add-zero, lt_of_lt_of_le}
use native.Mathlib.Omega.{arith}
use borrow.Author.Tests.{eqb-true, eqb-false, eq-eqb, ne_eqb}
use lib.Dec.{eqb}
use lib.Pow.{pow_mono}
use lib.IntN.{ℤ}
use lib.ListN.{length, take, replicate}
use lib.Seq.{take_all}
use Rattle.standard.specs.Header.{Bit, worth, Reader, gives, ◌>>=◌, one_bit, f, su_of, su7, has_chroma, levels, flag, updated, updates, deltas, Given, params_of, sent}
use Rattle.deltas.specs.Deltas.{delta}
use Rattle.bit_place.specs.Place.{places, number_at}
use Rattle.bit_place.proofs.Places.{worth-one, number-none, number_small}
use Rattle.params_read.specs.Reads.{Reads}

module _ {A : Type 0} {P : Reader A} {s : ℕ → Bit} {p : ℕ} where
  -- the same answer and count in other words
  pub reads_as : {a b : A} {c d : ℕ} → a ≡ b → c ≡ d → Reads P a s p c → Reads P b s p d
  reads_as {a} {b} {c} {d} e h r = subst (λ (x : A). Reads P x s p d) e (subst (Reads P a s p) h r)

pub reads_at : {A : Type 0} {P : Reader A} {a : A} {s : ℕ → Bit} {p q c : ℕ} → p ≡ q → Reads P a s p c → Reads P a s q c
reads_at {P = P} {a = a} {s = s} {c = c} e r = subst (λ (x : ℕ). Reads P a s x c) e r

pub reads-gives : {A : Type 0} (a : A) (s : ℕ → Bit) (p : ℕ) → Reads (gives a) a s p 0
reads-gives a s p = record { enough = λ n. rw (zero-add n, add-zero p) refl; short = λ n h. absurd (omega arith) }

pub reads_then : {A B : Type 0} {P : Reader A} (Q : A → Reader B) {a : A} {b : B} {s : ℕ → Bit} {p c d : ℕ}
    → Reads P a s p c → Reads (Q a) b s (p + c) d → Reads (P >>= Q) b s p (c + d)
unfolding ◌>>=◌
reads_then {P = P} Q {a = a} {b = b} {s = s} {p = p} {c = c} {d = d} x y = record { enough = all; short = few }
  where
    all : (n : ℕ) → (P >>= Q) (places s p (c + d + n)) ≡ some (b, places s (p + (c + d)) n)
    all n =
        let e : c + d + n ≡ c + (d + n) = omega arith in
        let q : p + c + d ≡ p + (c + d) = omega arith in
        rw (e, x.enough (d + n), y.enough n, q) refl

    few : (n : ℕ) → n < c + d → (P >>= Q) (places s p n) ≡ none
    few n h = by_cases (dec_lt n c) (λ g. rw (x.short n g) refl) (λ g. rest (omega arith))
      where
        rest : c ≤ n → (P >>= Q) (places s p n) ≡ none
        rest g =
            let e : n ≡ c + (n - c) = omega arith in
            rw (e, x.enough (n - c)) (y.short (n - c) (omega arith))

reads-bit : (s : ℕ → Bit) (p : ℕ) → Reads one_bit (s p) s p 1
reads-bit s p = record { enough = all; short = few }
  where
    all : (n : ℕ) → one_bit (places s p (1 + n)) ≡ some (s p, places s (p + 1) n)
    all n = let e : 1 + n ≡ suc n = omega arith in let q : p + 1 ≡ suc p = omega arith in rw (e, q) refl

    few : (n : ℕ) → n < 1 → one_bit (places s p n) ≡ none
    few n h = let e : n ≡ 0 = omega arith in rw e refl

-- ---- numbers

pub reads-f : (n : ℕ) (s : ℕ → Bit) (p : ℕ) → Reads (f n) (number_at s p n) s p n
unfolding f number_at
reads-f zero s p = reads-gives 0 s p
reads-f (suc n) s p = reads_as refl (omega arith) (reads_then _ (reads-f n s p) (reads_then _ (reads-bit s (p + n)) (reads-gives (2 * number_at s p n + worth (s (p + n))) s (p + n + 1))))

pub reads-flag : (b : Bool) (s : ℕ → Bit) (p : ℕ) → Reads (flag b) (number_at s p (worth b)) s p (worth b)
reads-flag true s p = reads-f 1 s p
reads-flag false s p = rw (number-none s p) (reads-gives 0 s p)

reads-su7 : (s : ℕ → Bit) (p : ℕ) → Reads su7 (su_of (number_at s p 7)) s p 7
unfolding su7
reads-su7 s p = reads_then _ (reads-f 7 s p) (reads-gives (su_of (number_at s p 7)) s (p + 7))

-- a number of at most one bit
pub one_bit_lem : (e r : ℕ) → e < 2 → r < 2 ^ e → r < 2
one_bit_lem e r h g = let le : e ≤ 1 = omega arith in lt_of_lt_of_le g (pow_mono le)

-- ---- levels

pub reads-levels : (planes : ℕ) (s : ℕ → Bit) (p : ℕ) (c : ℕ) → c ≡ cond (has_chroma planes (number_at s p 6) (number_at s (p + 6) 6)) 6 0
    → Reads (levels planes) (number_at s p 6 ∷ number_at s (p + 6) 6 ∷ number_at s (p + 12) c ∷ number_at s (p + (12 + c)) c ∷ []) s p (12 + 2 * c)
unfolding levels number_at
reads-levels planes s p c e =
    reads_as refl (omega arith)
    (reads_then _ (reads-f 6 s p) (reads_then _ (reads-f 6 s (p + 6)) (reads_at (omega arith) (tail (has_chroma planes l0 l1) c e))))
  where
    l0 : ℕ
    l0 = number_at s p 6

    l1 : ℕ
    l1 = number_at s (p + 6) 6

    tail : (t : Bool) (c : ℕ) → c ≡ cond t 6 0
        → Reads (cond t (f 6 >>= λ l2. f 6 >>= λ l3. gives (l0 ∷ l1 ∷ l2 ∷ l3 ∷ [])) (gives (l0 ∷ l1 ∷ 0 ∷ 0 ∷ [])))
        (l0 ∷ l1 ∷ number_at s (p + 12) c ∷ number_at s (p + (12 + c)) c ∷ []) s (p + 12) (2 * c)
    tail true c e =
        rw e (reads_then _ (reads-f 6 s (p + 12)) (reads_then _ (reads_at (omega arith) (reads-f 6 s (p + 18))) (reads-gives (l0 ∷ l1 ∷ number_at s (p + 12) 6 ∷ number_at s (p + 18) 6 ∷ []) s
        (p + 12 + 6 + 6))))
    tail false c e = rw e (reads-gives (l0 ∷ l1 ∷ 0 ∷ 0 ∷ []) s (p + 12))

-- ---- deltas

updated-on : (u : ℕ) (d : ℤ) (s : ℕ → Bit) (p : ℕ) → u < 2
    → Reads {A = ℕ × ℤ} (cond (eqb u 1) (su7 >>= λ e. gives (u, e)) (gives (u, d))) (u, cond (eqb u 1) (su_of (number_at s p 7)) d) s p (7 * u)
updated-on u d s p h = go (eqb u 1) refl
  where
    go : (t : Bool) → eqb u 1 ≡ t → Reads {A = ℕ × ℤ} (cond t (su7 >>= λ e. gives (u, e)) (gives (u, d))) (u, cond t (su_of (number_at s p 7)) d) s p (7 * u)
    go true e = let o = eqb-true u 1 e in reads_as refl (omega arith) (reads_then _ (reads-su7 s p) (reads-gives (u, su_of (number_at s p 7)) s (p + 7)))
    go false e = let o = eqb-false u 1 e in reads_as refl (omega (arith, o)) (reads-gives (u, d) s p)

pub reads-updated : (d : ℤ) (s : ℕ → Bit) (p u : ℕ) → u ≡ number_at s p 1
    → Reads (updated d) (u, cond (eqb u 1) (su_of (number_at s (p + 1) 7)) d) s p (1 + 7 * u)
unfolding updated
reads-updated d s p u e = rw e (reads_then _ (reads-f 1 s p) (updated-on (number_at s p 1) d s (p + 1) (number_small s p 1)))

pub reads_none : (ds : List ℤ) (s : ℕ → Bit) (p : ℕ) → Reads (updates ds 0) ([], []) s p 0
unfolding updates
reads_none ds s p = reads-gives ([], []) s p

pub reads_more : (ds : List ℤ) (i : ℕ) (us : List ℕ) (es : List ℤ) (u : ℕ) (e : ℤ) (s : ℕ → Bit) (p c d : ℕ)
    → Reads (updates ds i) (us, es) s p c → Reads (updated (delta ds i)) (u, e) s (p + c) d
    → Reads (updates ds (suc i)) (us ++ (u ∷ []), es ++ (e ∷ [])) s p (c + d)
unfolding updates
reads_more ds i us es u e s p c d x y =
    reads_as refl (omega arith) (reads_then _ x (reads_then _ y (reads-gives (us ++ (u ∷ []), es ++ (e ∷ [])) s (p + c + d))))

-- all of n, where delta_update is 1
pub deltas-sent : (u : ℕ) (ds : List ℤ) (n i : ℕ) (us : List ℕ) (es : List ℤ) (s : ℕ → Bit) (p c : ℕ) → u ≡ 1 → i ≡ n → length us ≡ n → length es ≡ n
    → Reads (updates ds i) (take i us, take i es) s p c → Reads (deltas u ds n) (us, es) s p c
unfolding deltas
deltas-sent u ds n i us es s p c o e lu le r =
    let all : Reads (updates ds n) (take n us, take n es) s p c = subst (λ (m : ℕ). Reads (updates ds m) (take m us, take m es) s p c) e r in
    rw (eq-eqb u 1 o) (reads_as (rw (take_all n us (omega arith), take_all n es (omega arith)) refl) refl all)

-- and none, where it is 0
pub deltas-kept : (u : ℕ) (ds : List ℤ) (n : ℕ) (us : List ℕ) (es : List ℤ) (s : ℕ → Bit) (p c : ℕ) → u ≡ 0 → us ≡ replicate n 0 → es ≡ ds → c ≡ 0
    → Reads (deltas u ds n) (us, es) s p c
unfolding deltas
deltas-kept u ds n us es s p c z eu ee ec =
    rw (ne_eqb u 1 (λ q. absurd (omega (arith, q, z))), eu, ee, ec) (reads-gives (replicate n 0, ds) s p)

-- ---- all of it

pub reads-sent : (g : Given) (s : ℕ → Bit) (at k e u d m end : ℕ) (l : List ℕ) (sharp : ℕ) (r o : List ℕ × List ℤ)
    → Reads (levels g.planes) l s at k
    → sharp ≡ number_at s (at + k) 3
    → e ≡ number_at s (at + (k + 3)) 1
    → u ≡ number_at s (at + (k + 4)) e
    → d ≡ k + 4 + e
    → d ≤ m
    → Reads (deltas u g.refs 8) r s (at + d) (m - d)
    → m ≤ end
    → Reads (deltas u g.modes 2) o s (at + m) (end - m)
    → Reads (sent g) (params_of l sharp e u r o) s at end
unfolding sent
reads-sent g s at k e u d m end l sharp r o levels-read es ee eu ed dm refs-read mend modes-read =
    reads_as refl (omega arith) (reads_then _ levels-read (reads_then _ sharpness-read (reads_then _ enabled-read (reads_then _ update-read
    (reads_then _ (reads_at (omega arith) refs-read) (reads_then _ (reads_at (omega arith) modes-read) (reads-gives (params_of l sharp e u r o) s _)))))))
  where
    sharpness-read : Reads (f 3) sharp s (at + k) 3
    sharpness-read = reads_as (sym es) refl (reads-f 3 s (at + k))

    enabled-read : Reads (f 1) e s (at + k + 3) 1
    enabled-read = let q : at + (k + 3) ≡ at + k + 3 = omega arith in reads_as (sym ee) refl (reads_at q (reads-f 1 s (at + (k + 3))))

    is_one : worth (eqb e 1) ≡ e
    is_one = worth-one e (rw ee (number_small s (at + (k + 3)) 1))

    update-read : Reads (flag (eqb e 1)) u s (at + k + 3 + 1) e
    update-read =
        let q : at + (k + 4) ≡ at + k + 3 + 1 = omega arith in
        reads_as (ap (number_at s (at + (k + 4))) is_one ∙ sym eu) is_one (reads_at q (reads-flag (eqb e 1) s (at + (k + 4))))
