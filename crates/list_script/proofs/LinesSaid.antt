-- Reading gives back what is printed of a line, and what it reads as a line is printed so.
use mathlib.Core.Bool.{Bool, true, false, ◌&&◌, ◌||◌, cond}
use mathlib.Core.List.{List, [], ◌∷◌}
use mathlib.Core.Logic.{◌⊎◌, inl, inr, ⊎_elim, by_cases}
use mathlib.Core.Path.{◌≡◌, refl, sym, ap, subst, ◌∙◌}
use Prim.Native.Nat.{ℕ, ◌+◌, ◌≤◌, ◌<◌}
use native.Mathlib.Decide.{dec_lt}
use native.Mathlib.Omega.{arith}
use borrow.Author.Tests.{ne_eqb, eqb-true, eqb-false, leb-true}
use lib.Dec.{eqb, leb}
use lib.ListN.{length, take, drop, get_or-eq_default, length-take}
use lib.Seq.{get_or-drop, get_or-take}
use Rattle.loops.specs.Table.{Each}
use Rattle.loops.specs.Run.{All}
use Rattle.loops.proofs.Anys.{any_false, any-each}
use Rattle.loops.proofs.Bools.{both_true, or_off}
use Rattle.loops.proofs.Tables.{each_at}
use Rattle.standard.specs.Sizes.{Num_4x4_Blocks_Wide, Num_4x4_Blocks_High, Tx_Wide, Tx_High}
use Rattle.list_decimal.specs.Decimal.{decimal, is_digit, digits, numeral, number_of, no_number}
use Rattle.list_decimal.proofs.Numerals as numerals
use Rattle.list_fields.specs.Fields.{cut, place, field, parted, joined, without}
use Rattle.list_fields.specs.Word.{packed, Bytes}
use Rattle.list_fields.proofs.Cuts.{count, found, once, whole, plain}
use Rattle.list_fields.proofs.Words.{same}
use Rattle.list_script.specs.Names.{block_name, tx_name, block_in, tx_in, frame_word, level_word, block_word, intra_word, no_word}
use Rattle.list_script.specs.Script.{space, at, is_word, number_at, no_numbers, no_words, chroma_of, uvtx_of, frame_of, level_of, block_of, seven_of, line_of}
use Rattle.list_script.specs.Promises.{Numeral, Word, Chroma, none, given, named, Says, frame, level, block, printed, Sayable, luma, pair, Reads, Promises}
use Rattle.list_script.specs.Line.{Line, Form}
use Rattle.list_script.proofs.NamesFound.{bytes_of, block-coded, tx-coded, block-decoded, tx-decoded}
use Rattle.list_script.proofs.Lines.{is_none, is-given, frame-form, frame-line, level-other, level-form, level-line, block-form, block-empty}
use Rattle.list_script.proofs.Lines.{block-other, block-line, seven-frame, seven-block, seven-form, line-five, line-seven, line-form}

other : packed block_word ≡ packed frame_word → ⊥
unfolding packed
other e = omega arith

-- ---- numerals

plain-digits : (f : List ℕ) → digits f ≡ true → without space f ≡ true
plain-digits [] h = refl
plain-digits (b ∷ f) h =
    let d = both_true (is_digit b) (digits f) h in
    let l = leb-true 48 b (both_true (leb 48 b) (leb b 57) d.0).0 in
    simp (ne_eqb b 32 (λ e. omega arith), plain-digits f d.1)

numeral-plain : {f : List ℕ} {n : ℕ} → Numeral f n → without space f ≡ true
numeral-plain {f} r = plain-digits f (both_true (leb 1 (length f) && leb (length f) 9) (digits f) r.digits).1

numeral-is : {f : List ℕ} {n : ℕ} → Numeral f n → number_of f ≡ n
numeral-is {f} r = (numerals.promises).read f r.digits ∙ r.is

numeral-some : {f : List ℕ} {n : ℕ} → Numeral f n → eqb (number_of f) no_number ≡ false
numeral-some {f} r = ne_eqb (number_of f) no_number (λ e. omega (arith, (numerals.promises).small f r.digits))

is-numeral : (f : List ℕ) → eqb (number_of f) no_number ≡ false → Numeral f (number_of f)
is-numeral f h = go (numeral f) refl
  where
    go : (b : Bool) → numeral f ≡ b → Numeral f (number_of f)
    go true e = record { digits = e; is = sym ((numerals.promises).read f e) }
    go false e = absurd (eqb-false (number_of f) no_number h ((numerals.promises).none f e))

-- ---- bytes

bytes_take : (n : ℕ) (s : List ℕ) → Bytes s → Bytes (take n s)
bytes_take n s b i =
    by_cases (dec_lt i n)
    (λ l. rw (get_or-take n s i 0 l) (b i))
    (λ l. rw (get_or-eq_default (take n s) 0 {n = i} (omega (arith, length-take n s))) (omega arith))

bytes-at : (s : List ℕ) (k : ℕ) → Bytes s → Bytes (at s k)
unfolding field
bytes-at s k b = bytes_take (cut space (drop (place space s k) s)) (drop (place space s k) s) (λ i. rw (get_or-drop (place space s k) s i 0) (b (place space s k + i)))

-- ---- printed, then read

numbers-some : (s : List ℕ) (n : ℕ) → Each n (λ k. eqb (number_at s (k + 1)) no_number ≡ false) → no_numbers s n ≡ false
unfolding no_numbers
numbers-some s n e = any_false n (λ k. eqb (number_at s (k + 1)) no_number) (each_at n (λ k. eqb (number_at s (k + 1)) no_number ≡ false) e)

got : (s : List ℕ) (k : ℕ) {f : List ℕ} {n : ℕ} → at s k ≡ f → Numeral f n → n ≡ number_at s k
got s k e r = sym (ap number_of e ∙ numeral-is r)

some : (s : List ℕ) (k : ℕ) {f : List ℕ} {n : ℕ} → at s k ≡ f → Numeral f n → eqb (number_at s k) no_number ≡ false
some s k e r = ap (λ (g : List ℕ). eqb (number_of g) no_number) e ∙ numeral-some r

word_some : (s : List ℕ) (k : ℕ) {f : List ℕ} → Bytes s → at s k ≡ f → Word f → eqb (packed (at s k)) (packed []) ≡ false
word_some s k b e w =
    ne_eqb (packed (at s k)) (packed [])
    (λ z. omega (arith, w.some, ap length (sym e ∙ same (at s k) [] (bytes-at s k b) (λ i. omega arith) (omega arith) z)))

chroma-is : (w : List ℕ) (c t : ℕ) → Bytes w → Chroma w c t
    → (c ≡ cond (eqb (packed w) (packed no_word)) 0 1) × (t ≡ cond (eqb (packed w) (packed no_word)) 0 (tx_in (packed w)))
chroma-is w c t b none = (is_none (packed no_word) 0 1 refl, is_none (packed no_word) 0 (tx_in (packed no_word)) refl)
chroma-is w c t b (given n r) =
    let d : packed w ≡ packed no_word → ⊥ = λ e. n (same w no_word b (bytes_of no_word (omega arith, tt)) (omega arith) e) in
    (is-given (packed w) 0 1 d, sym (tx-decoded w t b r) ∙ is-given (packed w) 0 (tx_in (packed w)) d)

back : (fs : List (List ℕ)) (l : Line) → Bytes (joined space fs) → Says fs l → line_of (joined space fs) ≡ l
back fs l b (frame {f₁} {f₂} {f₃} {f₄} {f₅} {f₆} n₁ n₂ n₃ n₄ n₅ n₆) =
    let F = f₁ ∷ f₂ ∷ f₃ ∷ f₄ ∷ f₅ ∷ f₆ ∷ [] in
    let p : All (λ g. without space g ≡ true) (frame_word ∷ F) =
    (refl, (numeral-plain n₁, (numeral-plain n₂, (numeral-plain n₃, (numeral-plain n₄, (numeral-plain n₅, (numeral-plain n₆, tt)))))))
    in
    let s = joined space (frame_word ∷ F) in
    let g = found space frame_word F p in
    let e₁ : at s 1 ≡ f₁ = g 1 (omega arith) in
    let e₂ : at s 2 ≡ f₂ = g 2 (omega arith) in
    let e₃ : at s 3 ≡ f₃ = g 3 (omega arith) in
    let e₄ : at s 4 ≡ f₄ = g 4 (omega arith) in
    let e₅ : at s 5 ≡ f₅ = g 5 (omega arith) in
    let e₆ : at s 6 ≡ f₆ = g 6 (omega arith) in
    let n = count space frame_word F p in
    let o = numbers-some s 6 (some s 6 e₆ n₆, (some s 5 e₅ n₅, (some s 4 e₄ n₄, (some s 3 e₃ n₃, (some s 2 e₂ n₂, (some s 1 e₁ n₁, tt)))))) in
    sym
    (line-seven s (place space s 5) (place space s 7) _ refl (λ e. let z = once space s 5 7 e n in omega arith) refl n
    (seven-frame s (packed (at s 0)) _ refl (ap packed (g 0 (omega arith)))
    (frame-line s _ _ _ _ _ _ o (got s 1 e₁ n₁) (got s 2 e₂ n₂) (got s 3 e₃ n₃) (got s 4 e₄ n₄) (got s 5 e₅ n₅) (got s 6 e₆ n₆))))
back fs l b (level {f₁} {f₂} {f₃} {f₄} n₁ n₂ n₃ n₄) =
    let F = f₁ ∷ f₂ ∷ f₃ ∷ f₄ ∷ [] in
    let p : All (λ g. without space g ≡ true) (level_word ∷ F) =
    (refl, (numeral-plain n₁, (numeral-plain n₂, (numeral-plain n₃, (numeral-plain n₄, tt)))))
    in
    let s = joined space (level_word ∷ F) in
    let g = found space level_word F p in
    let e₁ : at s 1 ≡ f₁ = g 1 (omega arith) in
    let e₂ : at s 2 ≡ f₂ = g 2 (omega arith) in
    let e₃ : at s 3 ≡ f₃ = g 3 (omega arith) in
    let e₄ : at s 4 ≡ f₄ = g 4 (omega arith) in
    let o = numbers-some s 4 (some s 4 e₄ n₄, (some s 3 e₃ n₃, (some s 2 e₂ n₂, (some s 1 e₁ n₁, tt)))) in
    sym
    (line-five s (place space s 5) _ refl (count space level_word F p)
    (level-line s (packed (at s 0)) _ _ _ _ refl (ap packed (g 0 (omega arith))) o (got s 1 e₁ n₁) (got s 2 e₂ n₂) (got s 3 e₃ n₃) (got s 4 e₄ n₄)))
back fs l b (block {f₁} {f₂} {f₃} {f₄} {f₅} {x} {y} {size} {tx} {chroma} {uvtx} n₁ n₂ w₃ m₃ w₄ m₄ w₅ m₅) =
    let F = f₁ ∷ f₂ ∷ f₃ ∷ f₄ ∷ f₅ ∷ intra_word ∷ [] in
    let p : All (λ g. without space g ≡ true) (block_word ∷ F) =
    (refl, (numeral-plain n₁, (numeral-plain n₂, (w₃.one, (w₄.one, (w₅.one, (refl, tt)))))))
    in
    let s = joined space (block_word ∷ F) in
    let g = found space block_word F p in
    let e₀ : at s 0 ≡ block_word = g 0 (omega arith) in
    let e₁ : at s 1 ≡ f₁ = g 1 (omega arith) in
    let e₂ : at s 2 ≡ f₂ = g 2 (omega arith) in
    let e₃ : at s 3 ≡ f₃ = g 3 (omega arith) in
    let e₄ : at s 4 ≡ f₄ = g 4 (omega arith) in
    let e₅ : at s 5 ≡ f₅ = g 5 (omega arith) in
    let e₆ : at s 6 ≡ intra_word = g 6 (omega arith) in
    let n = count space block_word F p in
    let o = numbers-some s 2 (some s 2 e₂ n₂, (some s 1 e₁ n₁, tt)) in
    let u : no_words s ≡ false = simp (word_some s 3 b e₃ w₃, word_some s 4 b e₄ w₄, word_some s 5 b e₅ w₅) in
    let c = chroma-is f₅ chroma uvtx (subst Bytes e₅ (bytes-at s 5 b)) m₅ in
    sym
    (line-seven s (place space s 5) (place space s 7) _ refl (λ e. let z = once space s 5 7 e n in omega arith) refl n
    (seven-block s (packed (at s 0)) _ refl (λ e. other (sym (ap packed e₀) ∙ e)) (ap packed e₀)
    (block-line s (packed (at s 6)) (packed f₃) (packed f₄) (packed f₅) x y size tx chroma uvtx o u refl (ap packed e₆)
    (ap packed (sym e₃)) (ap packed (sym e₄)) (ap packed (sym e₅)) (got s 1 e₁ n₁) (got s 2 e₂ n₂)
    (sym (block-decoded f₃ size (subst Bytes e₃ (bytes-at s 3 b)) m₃)) (sym (tx-decoded f₄ tx (subst Bytes e₄ (bytes-at s 4 b)) m₄)) c.0 c.1)))

-- ---- read, so printed

abbrev Said : List ℕ → Line → Type 0
Said s l = (l ≡ Form) ⊎ ((fs : List (List ℕ)) × Says fs l × (s ≡ joined space fs))

word-is : (s : List ℕ) (k : ℕ) (w : List ℕ) → Bytes s → All (λ b. b < 256) w → length w ≤ 7 → eqb (packed (at s k)) (packed w) ≡ true → at s k ≡ w
word-is s k w b c l e = same (at s k) w (bytes-at s k b) (bytes_of w c) l (eqb-true (packed (at s k)) (packed w) e)

numeral-at : (s : List ℕ) (n : ℕ) → no_numbers s n ≡ false → (k : ℕ) → k < n → Numeral (at s (k + 1)) (number_at s (k + 1))
unfolding no_numbers
numeral-at s n e k l = is-numeral (at s (k + 1)) (any-each n (λ k. eqb (number_at s (k + 1)) no_number) e k l)

said-level : (s : List ℕ) → Bytes s → place space s 5 ≡ length s + 1 → Said s (level_of s)
said-level s b h = go (is_word s 0 level_word) (no_numbers s 4) refl refl
  where
    go : (a c : Bool) → is_word s 0 level_word ≡ a → no_numbers s 4 ≡ c → Said s (level_of s)
    go false c e f = inl (sym (level-other s (packed (at s 0)) refl (eqb-false (packed (at s 0)) (packed level_word) e)))
    go true true e f = inl (sym (level-form s f))
    go true false e f =
        let m = numeral-at s 4 f in
        subst (λ (l : Line). Said s l)
        (level-line s (packed (at s 0)) _ _ _ _ refl (eqb-true (packed (at s 0)) (packed level_word) e) f refl refl refl refl)
        (inr (
          level_word ∷ at s 1 ∷ at s 2 ∷ at s 3 ∷ at s 4 ∷ [],
          level (m 0 (omega arith)) (m 1 (omega arith)) (m 2 (omega arith)) (m 3 (omega arith)),
          whole space 4 s h
              ∙ ap (λ (w : List ℕ). joined space (w ∷ at s 1 ∷ at s 2 ∷ at s 3 ∷ at s 4 ∷ []))
              (word-is s 0 level_word b (search arith) (omega arith) e),
        ))

said-frame : (s : List ℕ) → Bytes s → place space s 7 ≡ length s + 1 → is_word s 0 frame_word ≡ true → Said s (frame_of s)
said-frame s b h e = go (no_numbers s 6) refl
  where
    go : (c : Bool) → no_numbers s 6 ≡ c → Said s (frame_of s)
    go true f = inl (sym (frame-form s f))
    go false f =
        let m = numeral-at s 6 f in
        subst (λ (l : Line). Said s l) (frame-line s _ _ _ _ _ _ f refl refl refl refl refl refl)
        (inr (
          frame_word ∷ at s 1 ∷ at s 2 ∷ at s 3 ∷ at s 4 ∷ at s 5 ∷ at s 6 ∷ [],
          frame (m 0 (omega arith)) (m 1 (omega arith)) (m 2 (omega arith)) (m 3 (omega arith)) (m 4 (omega arith)) (m 5 (omega arith)),
          whole space 6 s h
              ∙ ap (λ (w : List ℕ). joined space (w ∷ at s 1 ∷ at s 2 ∷ at s 3 ∷ at s 4 ∷ at s 5 ∷ at s 6 ∷ []))
              (word-is s 0 frame_word b (search arith) (omega arith) e),
        ))

is_word_lem : (s : List ℕ) (k : ℕ) → eqb (packed (at s k)) (packed []) ≡ false → Word (at s k)
is_word_lem s k e = record { some = long (at s k) (eqb-false (packed (at s k)) (packed []) e); one = plain space s k }
  where
    long : (f : List ℕ) → (packed f ≡ packed [] → ⊥) → 1 ≤ length f
    long [] h = absurd (h refl)
    long (b ∷ f) h = omega arith

chroma-said : (w : List ℕ) → Bytes w → Chroma w (chroma_of w) (uvtx_of w)
chroma-said w b = go (eqb (packed w) (packed no_word)) refl
  where
    go : (c : Bool) → eqb (packed w) (packed no_word) ≡ c → Chroma w (chroma_of w) (uvtx_of w)
    go true e =
        let z = eqb-true (packed w) (packed no_word) e in
        subst (λ (c : ℕ). Chroma w c (uvtx_of w)) (is_none (packed w) 0 1 z)
        (subst (λ (t : ℕ). Chroma w 0 t) (is_none (packed w) 0 (tx_in (packed w)) z)
        (subst (λ (v : List ℕ). Chroma v 0 0) (sym (same w no_word b (bytes_of no_word (omega arith, tt)) (omega arith) z)) none))
    go false e =
        let z = eqb-false (packed w) (packed no_word) e in
        subst (λ (c : ℕ). Chroma w c (uvtx_of w)) (is-given (packed w) 0 1 z)
        (subst (λ (t : ℕ). Chroma w 1 t) (is-given (packed w) 0 (tx_in (packed w)) z) (given (λ y. z (ap packed y)) (tx-coded w b)))

said-block : (s : List ℕ) → Bytes s → place space s 7 ≡ length s + 1 → is_word s 0 block_word ≡ true → Said s (block_of s)
said-block s b h e = go (no_numbers s 2) (no_words s) (is_word s 6 intra_word) refl refl refl
  where
    go : (c d i : Bool) → no_numbers s 2 ≡ c → no_words s ≡ d → is_word s 6 intra_word ≡ i → Said s (block_of s)
    go true d i f g j = inl (sym (block-form s f))
    go false true i f g j = inl (sym (block-empty s f g))
    go false false false f g j =
        inl (sym (block-other s (packed (at s 6)) f g refl (eqb-false (packed (at s 6)) (packed intra_word) j)))
    go false false true f g j =
        let m = numeral-at s 2 f in
        let v = or_off (is_word s 3 [] || is_word s 4 []) (is_word s 5 []) g in
        let u = or_off (is_word s 3 []) (is_word s 4 []) v.0 in
        subst (λ (l : Line). Said s l)
        (block-line s (packed (at s 6)) (packed (at s 3)) (packed (at s 4)) (packed (at s 5)) (number_at s 1) (number_at s 2) (block_in (packed (at s 3)))
        (tx_in (packed (at s 4))) (chroma_of (at s 5)) (uvtx_of (at s 5)) f g refl (eqb-true (packed (at s 6)) (packed intra_word) j)
        refl refl refl refl refl refl refl refl refl)
        (inr (
          block_word ∷ at s 1 ∷ at s 2 ∷ at s 3 ∷ at s 4 ∷ at s 5 ∷ intra_word ∷ [],
          block (m 0 (omega arith)) (m 1 (omega arith)) (is_word_lem s 3 u.0) (block-coded (at s 3) (bytes-at s 3 b)) (is_word_lem s 4 u.1)
              (tx-coded (at s 4) (bytes-at s 4 b)) (is_word_lem s 5 v.1) (chroma-said (at s 5) (bytes-at s 5 b)),
          whole space 6 s h
              ∙ ap (λ (w : List ℕ). joined space (w ∷ at s 1 ∷ at s 2 ∷ at s 3 ∷ at s 4 ∷ at s 5 ∷ at s 6 ∷ []))
              (word-is s 0 block_word b (search arith) (omega arith) e)
              ∙ ap (λ (w : List ℕ). joined space (block_word ∷ at s 1 ∷ at s 2 ∷ at s 3 ∷ at s 4 ∷ at s 5 ∷ w ∷ []))
              (word-is s 6 intra_word b (search arith) (omega arith) j),
        ))

said-seven : (s : List ℕ) → Bytes s → place space s 7 ≡ length s + 1 → Said s (seven_of s)
said-seven s b h = go (is_word s 0 frame_word) (is_word s 0 block_word) refl refl
  where
    go : (c d : Bool) → is_word s 0 frame_word ≡ c → is_word s 0 block_word ≡ d → Said s (seven_of s)
    go true d e f =
        subst (λ (l : Line). Said s l) (seven-frame s (packed (at s 0)) (frame_of s) refl (eqb-true (packed (at s 0)) (packed frame_word) e) refl)
        (said-frame s b h e)
    go false true e f =
        subst (λ (l : Line). Said s l)
        (seven-block s (packed (at s 0)) (block_of s) refl (eqb-false (packed (at s 0)) (packed frame_word) e) (eqb-true (packed (at s 0)) (packed block_word) f) refl)
        (said-block s b h f)
    go false false e f =
        inl
        (sym
        (seven-form s (packed (at s 0)) refl (eqb-false (packed (at s 0)) (packed frame_word) e) (eqb-false (packed (at s 0)) (packed block_word) f)))

said : (s : List ℕ) → Bytes s → Said s (line_of s)
said s b = go (parted space s 5) (parted space s 7) refl refl
  where
    go : (c d : Bool) → parted space s 5 ≡ c → parted space s 7 ≡ d → Said s (line_of s)
    go true d e f =
        let z = eqb-true (place space s 5) (length s + 1) e in
        subst (λ (l : Line). Said s l) (line-five s (place space s 5) (level_of s) refl z refl) (said-level s b z)
    go false true e f =
        let y = eqb-false (place space s 5) (length s + 1) e in
        let z = eqb-true (place space s 7) (length s + 1) f in
        subst (λ (l : Line). Said s l) (line-seven s (place space s 5) (place space s 7) (seven_of s) refl y refl z refl) (said-seven s b z)
    go false false e f =
        inl
        (sym
        (line-form s (place space s 5) (place space s 7) refl (eqb-false (place space s 5) (length s + 1) e) refl
        (eqb-false (place space s 7) (length s + 1) f)))

-- ---- each line can be printed

spelt : (n : ℕ) → n < 1000000000 → Numeral (decimal n) n
spelt n h =
    let w = (numerals.promises).whole n h in
    record { digits = w; is = sym ((numerals.promises).read (decimal n) w) ∙ (numerals.promises).back n h }

block-word : (c : ℕ) → c < 22 → Word (block_name c)
unfolding decimal block_name Num_4x4_Blocks_Wide Num_4x4_Blocks_High
block-word = each_at 22 (λ c. Word (block_name c)) (search arith)

tx-word : (c : ℕ) → c < 19 → Word (tx_name c)
unfolding decimal tx_name Tx_Wide Tx_High
tx-word = each_at 19 (λ c. Word (tx_name c)) (search arith)

tx-longer : (c : ℕ) → c < 19 → 1 < length (tx_name c)
unfolding decimal tx_name Tx_Wide Tx_High
tx-longer = each_at 19 (λ c. 1 < length (tx_name c)) (search arith)

tx-other : (c : ℕ) → c < 19 → tx_name c ≡ no_word → ⊥
tx-other c h e = omega (arith, tx-longer c h, ap length e)

no-word : Word no_word
no-word = record { some = omega arith; one = refl }

prints : (l : Line) → Sayable l → Says (printed l) l
prints l (frame a b c d e f) = frame (spelt _ a) (spelt _ b) (spelt _ c) (spelt _ d) (spelt _ e) (spelt _ f)
prints l (level a b c d) = level (spelt _ a) (spelt _ b) (spelt _ c) (spelt _ d)
prints l (luma {size = size} {tx = tx} x y s t) =
    block (spelt _ x) (spelt _ y) (block-word size s) (named s refl) (tx-word tx t) (named t refl) no-word none
prints l (pair {size = size} {tx = tx} {uvtx = uvtx} x y s t u) =
    block (spelt _ x) (spelt _ y) (block-word size s) (named s refl) (tx-word tx t) (named t refl) (tx-word uvtx u)
    (given (tx-other uvtx u) (named u refl))

-- ---- the promises

never : (fs : List (List ℕ)) (l : Line) → Says fs l → l ≡ Form → ⊥
never fs l (frame n₁ n₂ n₃ n₄ n₅ n₆) e = let z : ◌≡◌ {A = ℕ} 0 1 = cc in omega arith
never fs l (level n₁ n₂ n₃ n₄) e = let z : ◌≡◌ {A = ℕ} 0 1 = cc in omega arith
never fs l (block n₁ n₂ w₃ m₃ w₄ m₄ w₅ m₅) e = let z : ◌≡◌ {A = ℕ} 0 1 = cc in omega arith

back_from : (s : List ℕ) (fs : List (List ℕ)) (l : Line) → Bytes s → Says fs l → s ≡ joined space fs → line_of s ≡ l
back_from s fs l b y e = ap line_of e ∙ back fs l (subst Bytes e b) y

reads : (s : List ℕ) → Bytes s → Reads s (line_of s)
reads s b =
    ⊎_elim (λ e. inr (e, λ fs m y z. never fs m y (sym (back_from s fs m b y z) ∙ e))) (λ p. inl p) (said s b)

is_read : (s : List ℕ) (l : Line) → Bytes s → Reads s l → line_of s ≡ l
is_read s l b =
    ⊎_elim (λ p. back_from s p.0 l b p.1 p.2)
    (λ p. ⊎_elim (λ q. absurd (p.1 q.0 (line_of s) q.1 q.2)) (λ q. q.0 ∙ sym p.0) (reads s b))

pub promises : Promises
promises = record { back = back; prints = prints; reads = reads; unique = λ s l m b p q. sym (is_read s l b p) ∙ is_read s m b q }
