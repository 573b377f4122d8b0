-- Edges written after edges are both lists written at once, by `put_then`; so a loop's turns write its lists one after another.
use mathlib.Core.List.{List, [], ◌∷◌, ◌++◌, append-nil}
use mathlib.Core.Path.{◌≡◌, refl, sym, ap, ◌∙◌, subst}
use Prim.Native.Nat.{ℕ, ◌+◌, ◌*◌, ◌≤◌, ◌<◌}
use native.Mathlib.Nat.{add-zero, zero-add}
use native.Mathlib.Numerals.{add-one}
use native.Mathlib.Omega.{arith}
use lib.ListN.{length, take, drop, length-append, take-append-drop}
use Rattle.loops.specs.Run.{cat}
use Rattle.loops.proofs.Products.{row_in}
use Rattle.list_text.specs.declared.Text.{Text}
use Rattle.list_text.specs.Text.{header, total_text, Put}
use Rattle.list_text.proofs.Puts.{put_then}
use Rattle.list_edges.specs.Listed.{Held, Edge, edges_of, line_text, lines_text, list_text}
use Rattle.list_put.specs.Written.{Has, Puts, Wrote, Room}
use Rattle.list_put.proofs.Lengths.{lines-append, Short, short-cat, Small, short-all, total-short}

put-none : (a : List ℕ) (at : ℕ) → Put a at [] a at
put-none a at =
    record { stored = sym (ap (λ (n : ℕ). take at a ++ drop n a) (add-zero at) ∙ take-append-drop at a); next = sym (add-zero at) }

pub wrote_none : (t : Text) (n : ℕ) → Wrote t n [] t n
wrote_none t n = record { text = put-none t.bytes t.len; count = sym (add-zero n) }

pub wrote_one : (t u : Text) (n : ℕ) (e : Edge) → Puts t (line_text e) u → Wrote t n (e ∷ []) u (n + 1)
wrote_one t u n e p =
    record { text = subst (λ (s : List ℕ). Puts t s u) (sym (append-nil (line_text e))) p; count = refl }

pub room-le : {t : Text} {i m n : ℕ} → m ≤ n → Room t i n → Room t i m
room-le h r = record { text = omega arith; count = omega arith }

module _ {t u : Text} {i j : ℕ} {l : List Edge} (m : ℕ) (s : Short m l) (p : Wrote t i l u j) where
  pub room_after : (n : ℕ) → Room t i (m + n) → Room u j n
  room_after n r =
      record { text = omega (arith, s.text, p.text.next, r.text); count = omega (arith, s.few, p.count, r.count) }

  pub wrote_then : {v : Text} {n : ℕ} {k : List Edge} → Room t i m → Wrote u j k v n → Wrote t i (l ++ k) v n
  wrote_then {v} {n} {k} h q =
      record {
        text = subst (λ (s : List ℕ). Puts t s v) (sym (lines-append l k))
            (put_then (lines_text l) (lines_text k) (omega (arith, s.text, h.text, t.long)) p.text q.text);
        count = omega (arith, p.count, q.count, length-append l k);
      }

-- ---- a loop of n turns, each of at most k edges

module _ (t : Text) (e : ℕ) (f : ℕ → List Edge) (k n : ℕ) (h : (j : ℕ) → j < n → Short k (f j)) (r : Room t e (n * k)) where
  front : (i : ℕ) → i < n → Short (i * k) (cat f i)
  front i l = short-cat f k i (λ j g. h j (omega arith))

  pub turn-room : (i : ℕ) → i < n → (u : Text) (m : ℕ) → Wrote t e (cat f i) u m → Room u m k
  turn-room i l u m p = room_after (i * k) (front i l) p k (room-le (row_in i n k l) r)

  pub turn-next : (i : ℕ) → i < n → (u v : Text) (m o : ℕ) → Wrote t e (cat f i) u m → Wrote u m (f i) v o → Wrote t e (cat f (i + 1)) v o
  turn-next i l u v m o p q =
      subst (λ (j : ℕ). Wrote t e (cat f j) v o) (sym (add-one i))
      (wrote_then (i * k) (front i l) p (room-le (omega (arith, row_in i n k l)) r) q)

-- ---- the list

module _ (s : Held) (z : Small s) (t u v : Text) (o : t.len ≡ 0) (p : Puts t header u) {n : ℕ}
    (q : Wrote u 0 (edges_of s) v n) where
  total-is : total_text n ≡ total_text (length (edges_of s))
  total-is = ap total_text (q.count ∙ zero-add (length (edges_of s)))

  pub total-room : Has v (length (total_text n))
  total-room = omega (arith, o, p.next, q.text.next, (short-all s z).text, total-short s z, ap length total-is)

  pub list_put : (w : Text) → Puts v (total_text n) w → Puts t (list_text s) w
  unfolding list_text
  list_put w r =
      put_then header (lines_text (edges_of s) ++ total_text (length (edges_of s))) (omega (arith, o, t.long)) p
      (put_then (lines_text (edges_of s)) (total_text (length (edges_of s))) (omega (arith, o, u.long, p.next, (short-all s z).text)) q.text
      (subst (λ (x : List ℕ). Puts v x w) total-is r))
