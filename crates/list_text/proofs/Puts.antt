-- One text stored after another is both joined, stored at once.
use mathlib.Core.List.{List, [], ◌∷◌, ◌++◌, append_assoc}
use mathlib.Core.Path.{◌≡◌, refl, sym, ap, ap₂, ◌∙◌}
use Prim.Native.Nat.{ℕ, ◌+◌, ◌≤◌, ◌<◌, suc, ◌^◌}
use native.Mathlib.Numerals.{add-one}
use native.Mathlib.Omega.{arith}
use lib.ListN.{length, set, take, drop, length-append, length-take}
use lib.Seq.{take_at, drop-drop, drop-append-add, set_split}
use Rattle.list_decimal.specs.Decimal.{decimal, pasted}
use Rattle.list_decimal.proofs.Numerals as decimal
use Rattle.list_text.specs.Promises.{Promises}
use Rattle.list_text.specs.Text.{tab, end, field_text, edge_text, total_text, refused, refused_text, form_text, Put}

front : (l : List ℕ) (at : ℕ) (s : List ℕ) → at ≤ length l → length (take at l ++ s) ≡ at + length s
front l at s h = simp (length-append, length-take) (omega arith)

paste-then : (l : List ℕ) (at : ℕ) (s t : List ℕ) → at + length s ≤ length l → pasted (pasted l at s) (at + length s) t ≡ pasted l at (s ++ t)
paste-then l at s t h =
    let X = take at l ++ s in
    let Y = drop (at + length s) l in
    let n : length X ≡ at + length s = front l at s (omega arith) in
    let o : at + length s + length t ≡ at + length (s ++ t) = simp length-append (omega arith) in
    let a : pasted l at s ≡ X ++ Y = sym (append_assoc (take at l) s Y) in
    let b : take (at + length s) (pasted l at s) ≡ X = ap (λ (q : List ℕ). take (at + length s) q) a ∙ take_at X Y (at + length s) n in
    let c : drop (at + length s + length t) (pasted l at s) ≡ drop (at + length (s ++ t)) l =
    ap (λ (q : List ℕ). drop (at + length s + length t) q) a
    ∙ ap (λ (m : ℕ). drop (m + length t) (X ++ Y)) (sym n)
    ∙ drop-append-add X Y (length t)
    ∙ drop-drop (length t) (at + length s) l
    ∙ ap (λ (m : ℕ). drop m l) o
    in
    ap₂ (λ (p q : List ℕ). p ++ (t ++ q)) b c
    ∙ append_assoc (take at l) s (t ++ drop (at + length (s ++ t)) l)
    ∙ ap (λ (q : List ℕ). take at l ++ q) (sym (append_assoc s t (drop (at + length (s ++ t)) l)))

pub put_then : {l k j : List ℕ} {at e d : ℕ} (s t : List ℕ) → at + length s ≤ length l → Put l at s k e → Put k e t j d → Put l at (s ++ t) j d
put_then {l} {k} {j} {at} {e} {d} s t h p q =
    record {
      stored = q.stored ∙ ap₂ (λ (x : List ℕ) (n : ℕ). pasted x n t) p.stored p.next ∙ paste-then l at s t h;
      next = q.next ∙ ap (λ (n : ℕ). n + length t) p.next ∙ omega (arith, length-append s t);
    }

pub put_byte : (k : List ℕ) (e b : ℕ) → e < length k → Put k e (b ∷ []) (set k e b) (e + 1)
put_byte k e b h =
    record { stored = set_split k e b h ∙ ap (λ (m : ℕ). take e k ++ (b ∷ drop m k)) (sym (add-one e)); next = refl }

pub field-long : (n b : ℕ) → length (field_text n b) ≡ length (decimal n) + 1
unfolding field_text
field-long n b = length-append (decimal n) (b ∷ [])

pub field_put : (l k : List ℕ) (at n b e : ℕ) → at + length (field_text n b) ≤ length l → e ≡ at + length (decimal n) → k ≡ pasted l at (decimal n) → length k ≡ length l
    → Put l at (field_text n b) (set k e b) (e + 1)
unfolding field_text
field_put l k at n b e h p q m =
    let f = field-long n b in
    put_then (decimal n) (b ∷ []) (omega arith) (record { stored = q; next = p }) (put_byte k e b (omega arith))

pub edge-long : (plane pass x y class level : ℕ) → length (edge_text plane pass x y class level)
    ≡ length (field_text plane tab) + length (field_text pass tab) + length (field_text x tab) + length (field_text y tab) + length (field_text class tab) + length (field_text level end)
unfolding edge_text
edge-long plane pass x y class level = simp length-append

pub edge-put : (plane pass x y class level at : ℕ) (l : List ℕ) {k₁ k₂ k₃ k₄ k₅ k₆ : List ℕ} {e₁ e₂ e₃ e₄ e₅ e₆ : ℕ}
    → at + length (edge_text plane pass x y class level) ≤ length l
    → Put l at (field_text plane tab) k₁ e₁ → Put k₁ e₁ (field_text pass tab) k₂ e₂ → Put k₂ e₂ (field_text x tab) k₃ e₃
    → Put k₃ e₃ (field_text y tab) k₄ e₄ → Put k₄ e₄ (field_text class tab) k₅ e₅ → Put k₅ e₅ (field_text level end) k₆ e₆
    → Put l at (edge_text plane pass x y class level) k₆ e₆
unfolding edge_text
edge-put plane pass x y class level at l h p₁ p₂ p₃ p₄ p₅ p₆ =
    let F₁ = field_text plane tab in
    let F₂ = field_text pass tab in
    let F₃ = field_text x tab in
    let F₄ = field_text y tab in
    let F₅ = field_text class tab in
    let m = edge-long plane pass x y class level in
    let n₂ = length-append F₁ F₂ in
    let n₃ = length-append (F₁ ++ F₂) F₃ in
    let n₄ = length-append (F₁ ++ F₂ ++ F₃) F₄ in
    let n₅ = length-append (F₁ ++ F₂ ++ F₃ ++ F₄) F₅ in
    put_then (F₁ ++ F₂ ++ F₃ ++ F₄ ++ F₅) (field_text level end) (omega arith)
    (put_then (F₁ ++ F₂ ++ F₃ ++ F₄) F₅ (omega arith)
    (put_then (F₁ ++ F₂ ++ F₃) F₄ (omega arith) (put_then (F₁ ++ F₂) F₃ (omega arith) (put_then F₁ F₂ (omega arith) p₁ p₂) p₃) p₄) p₅) p₆

pub total-long : (n : ℕ) → length (total_text n) ≡ 6 + length (field_text n end)
unfolding total_text
total-long n = omega arith

pub total-put : (n at : ℕ) (l : List ℕ) {k j : List ℕ} {e d : ℕ} → at + length (total_text n) ≤ length l
    → Put l at (101 ∷ 100 ∷ 103 ∷ 101 ∷ 115 ∷ 9 ∷ []) k e → Put k e (field_text n end) j d → Put l at (total_text n) j d
unfolding total_text
total-put n at l h p q = put_then (101 ∷ 100 ∷ 103 ∷ 101 ∷ 115 ∷ 9 ∷ []) (field_text n end) (omega (arith, total-long n)) p q

three-put : (A B C : List ℕ) (at : ℕ) (l : List ℕ) {k₁ k₂ k₃ : List ℕ} {e₁ e₂ e₃ : ℕ} → at + (length A + length B) ≤ length l
    → Put l at A k₁ e₁ → Put k₁ e₁ B k₂ e₂ → Put k₂ e₂ C k₃ e₃ → Put l at (A ++ B ++ C) k₃ e₃
three-put A B C at l h p q r = put_then (A ++ B) C (omega (arith, length-append A B)) (put_then A B (omega arith) p q) r

pub refused-long : (line number : ℕ) → length (refused_text line number) ≡ 8 + length (field_text line tab) + length (field_text number end)
unfolding refused_text
refused-long line number = simp length-append

pub refused-put : (line number at : ℕ) (l : List ℕ) {k₁ k₂ k₃ : List ℕ} {e₁ e₂ e₃ : ℕ} → at + length (refused_text line number) ≤ length l
    → Put l at refused k₁ e₁ → Put k₁ e₁ (field_text line tab) k₂ e₂ → Put k₂ e₂ (field_text number end) k₃ e₃ → Put l at (refused_text line number) k₃ e₃
unfolding refused_text
refused-put line number at l h p q r =
    three-put refused (field_text line tab) (field_text number end) at l (omega (arith, refused-long line number)) p q r

pub form-long : (line : ℕ) → length (form_text line) ≡ 8 + length (field_text line tab) + 5
unfolding form_text
form-long line = simp length-append

pub form-put : (line at : ℕ) (l : List ℕ) {k₁ k₂ k₃ : List ℕ} {e₁ e₂ e₃ : ℕ} → at + length (form_text line) ≤ length l
    → Put l at refused k₁ e₁ → Put k₁ e₁ (field_text line tab) k₂ e₂ → Put k₂ e₂ (102 ∷ 111 ∷ 114 ∷ 109 ∷ 10 ∷ []) k₃ e₃ → Put l at (form_text line) k₃ e₃
unfolding form_text
form-put line at l h p q r =
    three-put refused (field_text line tab) (102 ∷ 111 ∷ 114 ∷ 109 ∷ 10 ∷ []) at l (omega (arith, form-long line)) p q r

-- ---- room

pub field-short : (n b j : ℕ) → n < 10 ^ suc j → length (field_text n b) ≤ suc j + 1
field-short n b j h = omega (arith, field-long n b, (decimal.promises).short n j h)

pub promises : Promises
promises =
    record {
      edge = λ plane pass x y class level a b c d e f.
          omega (
            arith,
            edge-long plane pass x y class level,
            field-short plane tab 0 a,
            field-short pass tab 0 b,
            field-short x tab 1 c,
            field-short y tab 1 d,
            field-short class tab 0 e,
            field-short level end 1 f,
          );
      total = λ n h. omega (arith, total-long n, field-short n end 4 h);
    }
