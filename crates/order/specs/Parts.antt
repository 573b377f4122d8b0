-- The edge pieces of a pass divided among workers: a part is the list of pieces that one of them takes, one after another.
--     flat, part                  all parts one after another; part number a, from 0
--     Takes, Interleaving         the pieces of all parts in one list, each part's in its own order
--     Writes, MayWrite            the samples that a piece, and that a part, may write
--     Merged                      each part run on the samples as they were, and each sample taken from the part that may write it
use Rattle.std.specs.Prelude.{ℕ, ◌≡◌, length, get_or}
use Rattle.std.proofs.Math.Option.{some}
use mathlib.Core.List.{List, [], ◌∷◌, ◌++◌, Memᴰ}
use Rattle.loops.specs.Run.{run}
use Rattle.plane.specs.Line.{Pass, Piece, Box}
use Rattle.plane.specs.Plane.{Plane, class, act}

abbrev pub flat : {A : Type 0} → List (List A) → List A
flat [] = []
flat (q ∷ qs) = q ++ flat qs

-- none, past the last
abbrev pub part : {A : Type 0} → List (List A) → ℕ → List A
part qs a = get_or qs a []

-- p stands first in one of the parts, and taking it leaves the parts rs
pub data Takes {A : Type 0} (p : A) : List (List A) → List (List A) → Type 0 where
  here : {q : List A} {qs : List (List A)} → Takes p ((p ∷ q) ∷ qs) (q ∷ qs)
  there : {q : List A} {qs rs : List (List A)} → Takes p qs rs → Takes p (q ∷ qs) (q ∷ rs)

-- always the next piece of some part, until none is left
pub data Interleaving {A : Type 0} : List (List A) → List A → Type 0 where
  done : {qs : List (List A)} → flat qs ≡ [] → Interleaving qs []
  next : {p : A} {qs rs : List (List A)} {l : List A} → Takes p qs rs → Interleaving rs l → Interleaving qs (p ∷ l)

module _ (P : Plane) (d : Pass) where
  -- in its four lines, and at most 2, 2, 3, 6 samples a side for width 4, 6, 8, 16
  pub record Writes (p : Piece) (i : ℕ) : Type 0 where
    pub cls : ℕ
    pub is : class P d p ≡ some cls
    pub near : Box d P.stride (P.widths.writes cls) p i

  pub record MayWrite (q : List Piece) (i : ℕ) : Type 0 where
    pub piece : Piece
    pub its : Memᴰ piece q
    pub writes : Writes piece i

  pub record Merged (qs : List (List Piece)) (s t : List ℕ) : Type 0 where
    pub long : length t ≡ length s
    pub written : (a i : ℕ) → MayWrite (part qs a) i → get_or t i 0 ≡ get_or (run (act P d) (part qs a) s) i 0
    pub kept : (i : ℕ) → ((a : ℕ) → ¬ MayWrite (part qs a) i) → get_or t i 0 ≡ get_or s i 0
