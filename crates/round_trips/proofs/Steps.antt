-- Readers taken apart: what was said by one after another was said by each, of the bits that the one before left.
use mathlib.Core.List.{List, [], ◌∷◌}
use mathlib.Core.Option.{Option, some, none, some-injective, none-ne-some}
use mathlib.Core.Path.{◌≡◌, refl, ap}
use Rattle.standard.specs.Header.{Bit, Reader, next, ◌>>=◌, one_bit}

module _ {A : Type 0} {a b : A} {l m : List Bit} (e : ◌≡◌ {A = Option (A × List Bit)} (some (a, l)) (some (b, m))) where
  pub said : a ≡ b
  said = ap (λ (r : A × List Bit). r.0) (some-injective (a, l) (b, m) e)

  pub left : l ≡ m
  left = ap (λ (r : A × List Bit). r.1) (some-injective (a, l) (b, m) e)

module _ {A B : Type 0} (P : Reader A) (Q : A → Reader B) where
  pub goes_on : (bs mid : List Bit) (a : A) → P bs ≡ some (a, mid) → (P >>= Q) bs ≡ Q a mid
  unfolding ◌>>=◌
  goes_on bs mid a e = ap (λ (o : Option (A × List Bit)). next o Q) e

  -- a, what is left of it, and what was said then
  pub record Came (bs rest : List Bit) (b : B) : Type 0 where
    pub first : A
    pub mid : List Bit
    pub by_first : P bs ≡ some (first, mid)
    pub by-second : Q first mid ≡ some (b, rest)

  pub came : (bs rest : List Bit) (b : B) → (P >>= Q) bs ≡ some (b, rest) → Came bs rest b
  unfolding ◌>>=◌
  came bs rest b h = go (P bs) refl h
    where
      go : (o : Option (A × List Bit)) → P bs ≡ o → next o Q ≡ some (b, rest) → Came bs rest b
      go none e h = absurd (none-ne-some (b, rest) h)
      go (some r) e h = record { first = r.0; mid = r.1; by_first = e; by-second = h }

pub one-bit-said : (bs rest : List Bit) (b : Bit) → one_bit bs ≡ some (b, rest) → bs ≡ b ∷ rest
one-bit-said [] rest b h = absurd (none-ne-some (b, rest) h)
one-bit-said (x ∷ bs) rest b h = rw (said h, left h) refl
