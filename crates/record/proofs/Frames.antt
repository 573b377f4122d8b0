-- What is recorded in one record of masks is recorded in the frame's: word by word, the record's words are those from 640 n on, and the others stand.
use mathlib.Core.Bool.{Bool, true, false, cond, ◌&&◌, ◌||◌, false≢true, and-eq-true_iff, and-false, or-false}
use mathlib.Core.List.{List, ◌++◌}
use mathlib.Core.Logic.{by_cases}
use mathlib.Core.Path.{◌≡◌, refl, sym, ap, ◌∙◌}
use Prim.Native.Nat.{ℕ, ◌+◌, ◌-◌, ◌*◌, ◌/◌, ◌%◌, ◌<◌, ◌≤◌}
use native.Mathlib.Decide.{ℕ_discrete, dec_lt}
use native.Mathlib.Omega.{arith}
use lib.Dec.{eqb, ltb}
use lib.ListN.{length, get_or, take, drop, length-append, length-drop, get_or-append, get_or-eq_default}
use lib.Seq.{length-take-le, get_or-append-add, get_or-take, get_or-drop}
use borrow.Author.Tests.{lt-ltb, eq-eqb, ne_eqb}
use Rattle.loops.proofs.Anys.{any_same, any_false}
use Rattle.bits.specs.Bit.{has_bit}
use Rattle.bits.specs.Mark.{is_set}
use Rattle.bits.proofs.Bits.{has_bit-nil}
use Rattle.mask_edges.specs.Recording.{Block, Sweep, columns, rows, is_edge, class_at, edges, Recorded}
use Rattle.loops.proofs.Bools.{or_off}
use Rattle.record.specs.Record.{in_record}
use Rattle.record.specs.Recorded.{edge_of}

-- ---- edges whose bits are counted from another place on

eqb-from : (a k e : ℕ) → eqb (a + k) (a + e) ≡ eqb k e
eqb-from a k e =
    by_cases (ℕ_discrete k e) (λ p. eq-eqb (a + k) (a + e) (omega arith) ∙ sym (eq-eqb k e p))
    (λ n. ne_eqb (a + k) (a + e) (λ p. n (omega arith)) ∙ sym (ne_eqb k e n))

module _ (S : Sweep) (bit : ℕ → ℕ → ℕ → ℕ) where
  edges_none : (e : ℕ) → ((u v : ℕ) → u < S.across → v < S.along → ⊥) → edges S bit e ≡ false
  unfolding edges
  edges_none e h = any_false S.across _ (λ u p. any_false S.along _ (λ v q. absurd (h u v p q)))

  edges-from : (a e : ℕ) → edges S (λ u k v. a + bit u k v) (a + e) ≡ edges S bit e
  unfolding edges
  edges-from a e =
      any_same S.across _ _
      (λ u p. any_same S.along _ _ (λ v q. ap (λ (t : Bool). is_edge S u v && t) (eqb-from a (bit (S.unit + u) (class_at S u v) (S.place + v)) e)))

  edges-under : (a e : ℕ) → e < a → edges S (λ u k v. a + bit u k v) e ≡ false
  unfolding edges
  edges-under a e h =
      any_false S.across _
      (λ u p. any_false S.along _ (λ v q. rw (ne_eqb (a + bit (S.unit + u) (class_at S u v) (S.place + v)) e (λ r. omega arith)) (and-false (is_edge S u v))))

-- ---- the words of the frame

module _ (n : ℕ) (g : List ℕ → List ℕ) (ms : List ℕ) (fits : 640 * n + 640 ≤ length ms) where
  abbrev part : List ℕ
  part = take 640 (drop (640 * n) ms)

  pub part-long : length part ≡ 640
  part-long = length-take-le 640 (drop (640 * n) ms) (rw length-drop (omega arith))

  part-set : (d : ℕ) → d < 10240 → is_set part d ≡ is_set ms (10240 * n + d)
  unfolding is_set
  part-set d h =
      let e : (10240 * n + d) / 16 ≡ 640 * n + d / 16 = omega arith in
      let f : (10240 * n + d) % 16 ≡ d % 16 = omega arith in
      rw (e, f) (ap (λ (w : ℕ). has_bit w (d % 16)) (get_or-take 640 (drop (640 * n) ms) (d / 16) 0 (omega arith) ∙ get_or-drop (640 * n) ms (d / 16) 0))

  module _ (long : length (g part) ≡ 640) where
    front : length (take (640 * n) ms) ≡ 640 * n
    front = length-take-le (640 * n) ms (omega arith)

    frame-long : length (in_record (640 * n) g ms) ≡ length ms
    unfolding in_record
    frame-long = rw (length-append, front, length-append, long, length-drop) (omega arith)

    set_before : (e : ℕ) → e < 10240 * n → is_set (in_record (640 * n) g ms) e ≡ is_set ms e
    unfolding in_record is_set
    set_before e h =
        ap (λ (w : ℕ). has_bit w (e % 16))
        (get_or-append (take (640 * n) ms) (g part ++ drop (640 * n + 640) ms) 0 (e / 16) (omega (arith, front)) ∙ get_or-take (640 * n) ms (e / 16) 0 (omega arith))

    word-from : (i : ℕ) → get_or (in_record (640 * n) g ms) (640 * n + i) 0 ≡ get_or (g part ++ drop (640 * n + 640) ms) i 0
    unfolding in_record
    word-from i = rw front at (get_or-append-add (take (640 * n) ms) (g part ++ drop (640 * n + 640) ms) i 0)

    set-in : (d : ℕ) → d < 10240 → is_set (in_record (640 * n) g ms) (10240 * n + d) ≡ is_set (g part) d
    unfolding is_set
    set-in d h =
        let e : (10240 * n + d) / 16 ≡ 640 * n + d / 16 = omega arith in
        let f : (10240 * n + d) % 16 ≡ d % 16 = omega arith in
        rw (e, f) (ap (λ (w : ℕ). has_bit w (d % 16)) (word-from (d / 16) ∙ get_or-append (g part) (drop (640 * n + 640) ms) 0 (d / 16) (omega (arith, long))))

    set_after : (d : ℕ) → 10240 ≤ d → is_set (in_record (640 * n) g ms) (10240 * n + d) ≡ is_set ms (10240 * n + d)
    unfolding is_set
    set_after d h =
        let e : (10240 * n + d) / 16 ≡ 640 * n + (640 + (d / 16 - 640)) = omega arith in
        let f : 640 * n + 640 + (d / 16 - 640) ≡ 640 * n + (640 + (d / 16 - 640)) = omega arith in
        rw e (ap (λ (w : ℕ). has_bit w ((10240 * n + d) % 16))
        (word-from (640 + (d / 16 - 640))
        ∙ rw long at (get_or-append-add (g part) (drop (640 * n + 640) ms) (d / 16 - 640) 0)
        ∙ rw f at (get_or-drop (640 * n + 640) ms (d / 16 - 640) 0)))

-- a bit past its record is no edge's
past : (B : Block) (bit : ℕ → ℕ → ℕ → ℕ → ℕ) (before after : List ℕ) → length before ≡ 640 → Recorded B bit before after → (e : ℕ) → 10240 ≤ e → edge_of B bit e ≡ false
unfolding is_set
past B bit before after l R e h =
    (or_off (is_set before e) (edge_of B bit e) (sym (R.bits e) ∙ rw (get_or-eq_default after 0 {n = e / 16} (omega (arith, R.long))) (has_bit-nil (e % 16)))).1

-- ---- a plane

-- the edges of a block are added, where its plane is given
pub record Added (given : Bool) (B : Block) (bit : ℕ → ℕ → ℕ → ℕ → ℕ) (before after : List ℕ) : Type 0 where
  pub long : length after ≡ length before
  pub bits : (e : ℕ) → is_set after e ≡ (is_set before e || given && edge_of B bit e)

module _ (B : Block) (bit : ℕ → ℕ → ℕ → ℕ → ℕ) (n : ℕ) (g : List ℕ → List ℕ) (ms : List ℕ) where
  abbrev from : ℕ → ℕ → ℕ → ℕ → ℕ
  from pass unit class place = 10240 * n + bit pass unit class place

  module _ (fits : 640 * n + 640 ≤ length ms) (R : Recorded B bit (take 640 (drop (640 * n) ms)) (g (take 640 (drop (640 * n) ms)))) where
    long : length (g (take 640 (drop (640 * n) ms))) ≡ 640
    long = R.long ∙ part-long n g ms fits

    frame-bits : (e : ℕ) → is_set (in_record (640 * n) g ms) e ≡ (is_set ms e || edge_of B from e)
    frame-bits e =
        by_cases (dec_lt e (10240 * n))
        (λ h. set_before n g ms fits long e h ∙ rw (edges-under (columns B) (bit 0) (10240 * n) e h, edges-under (rows B) (bit 1) (10240 * n) e h) (sym (or-false (is_set ms e))))
        (λ h. let p : e ≡ 10240 * n + (e - 10240 * n) = omega arith in rw p (inside (e - 10240 * n)))
      where
        shifted : (d : ℕ) → edge_of B from (10240 * n + d) ≡ edge_of B bit d
        shifted d = rw (edges-from (columns B) (bit 0) (10240 * n) d, edges-from (rows B) (bit 1) (10240 * n) d) refl

        inside : (d : ℕ) → is_set (in_record (640 * n) g ms) (10240 * n + d) ≡ (is_set ms (10240 * n + d) || edge_of B from (10240 * n + d))
        inside d =
            by_cases (dec_lt d 10240)
            (λ h. set-in n g ms fits long d h ∙ R.bits d ∙ rw (part-set n g ms fits d h, shifted d) refl)
            (λ h. set_after n g ms fits long d (omega arith) ∙ rw (shifted d, past B bit _ _ (part-long n g ms fits) R d (omega arith)) (sym (or-false (is_set ms (10240 * n + d)))))

  module _ (given : Bool) where
    abbrev seen : Bool
    seen = given && (ltb 0 B.w4 && ltb 0 B.h4)

    pub added : (seen ≡ true → (640 * n + 640 ≤ length ms) × Recorded B bit (take 640 (drop (640 * n) ms)) (g (take 640 (drop (640 * n) ms))))
        → Added given B from ms (cond seen (in_record (640 * n) g ms) ms)
    added r = go seen refl
      where
        none : seen ≡ false → (e : ℕ) → (given && edge_of B from e) ≡ false
        none t e = each given refl
          where
            unseen : given ≡ true → 0 < B.w4 → 0 < B.h4 → ⊥
            unseen p q s = false≢true (sym t ∙ rw (p, lt-ltb 0 B.w4 q, lt-ltb 0 B.h4 s) refl)

            each : (p : Bool) → given ≡ p → (p && edge_of B from e) ≡ false
            each false p = refl
            each true p =
                rw (edges_none (columns B) (from 0) e (λ u v q s. unseen p (omega arith) (omega arith)), edges_none (rows B) (from 1) e (λ u v q s. unseen p (omega arith) (omega arith))) refl

        go : (s : Bool) → seen ≡ s → Added given B from ms (cond s (in_record (640 * n) g ms) ms)
        go true t =
            record {
              long = frame-long n g ms (r t).0 (long (r t).0 (r t).1);
              bits = λ e. rw ((and-eq-true_iff given (ltb 0 B.w4 && ltb 0 B.h4)).0 t).0 (frame-bits (r t).0 (r t).1 e);
            }
        go false t = record { long = refl; bits = λ e. rw (none t e) (sym (or-false (is_set ms e))) }
