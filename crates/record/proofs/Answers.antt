-- The promises of the two calls: an answer's number is the definition's, and its memory is the definition's or that before, by whether it is 0.
use mathlib.Core.List.{List}
use mathlib.Core.Path.{◌≡◌, refl, sym, ◌∙◌}
use Prim.Native.Nat.{ℕ}
use borrow.Author.Tests.{eq-eqb, ne_eqb}
use Rattle.loops.specs.Exactly.{Exactly}
use Rattle.block.specs.declared.Block.{Block}
use Rattle.block.specs.Block.{Lent, lent}
use Rattle.block.specs.Tests.{number}
use Rattle.block.proofs.Numbers.{exactly-4, exactly-5, exactly-6, exactly-7, exactly-0}
use Rattle.record.specs.Record.{RecordAnswer}
use Rattle.record.specs.Recorded.{Stored}
use Rattle.record.specs.Promises.{Promised, Promises}
use Rattle.record.proofs.Accepted as accepted

-- lent memory is its six parts
same : (m n : Lent) → m.levels ≡ n.levels → m.masks ≡ n.masks → m.above ≡ n.above → m.left ≡ n.left → m.above-uv ≡ n.above-uv → m.left-uv ≡ n.left-uv
    → m ≡ n
same m n e f g h i j = parts m.levels m.masks m.above m.left m.above-uv m.left-uv e f g h i j
  where
    parts : (ls ms a l u v : List ℕ) → ls ≡ n.levels → ms ≡ n.masks → a ≡ n.above → l ≡ n.left → u ≡ n.above-uv → v ≡ n.left-uv → lent ls ms a l u v ≡ n
    parts ls ms a l u v e f g h i j = rw (e, f, g, h, i, j) refl

module _ {b : Block} {level-stride r : ℕ} {values tm : List ℕ} {before after : Lent} (a : RecordAnswer b level-stride values tm r before after) where
  number_is : {k : ℕ} {P : Type 0} → Exactly (number b level-stride before ≡ k) P → Exactly (r ≡ k) P
  number_is e = record { only = λ p. e.only (sym a.code ∙ p); always = λ p. a.code ∙ e.always p }

  kept : ¬ (r ≡ 0) → after ≡ before
  kept n =
      let z = ne_eqb r 0 n in
      same after before (rw z at a.levels) (rw z at a.masks) (rw z at a.above) (rw z at a.left) (rw z at a.above-uv) (rw z at a.left-uv)

  done : r ≡ 0 → Stored b level-stride values tm before after
  done e =
      let ok = sym a.code ∙ e in
      let z = eq-eqb r 0 e in
      let p = same after (accepted.after b level-stride before ok values tm) (rw z at a.levels) (rw z at a.masks) (rw z at a.above) (rw z at a.left)
      (rw z at a.above-uv) (rw z at a.left-uv) in
      rw p (accepted.stored b level-stride before ok values tm)

  promised : Promised b level-stride values tm r before after
  promised =
      record {
        four = number_is (exactly-4 b level-stride before);
        five = number_is (exactly-5 b level-stride before);
        six = number_is (exactly-6 b level-stride before);
        seven = number_is (exactly-7 b level-stride before);
        zero = number_is (exactly-0 b level-stride before);
        refused = kept;
        accepted = done;
      }

pub promises : Promises
promises =
    record {
      unique = λ b level-stride values tm r q before m n f g.
          let e = f.code ∙ sym g.code in (
            e,
            same m n
                (f.levels ∙ rw e (sym g.levels))
                (f.masks ∙ rw e (sym g.masks))
                (f.above ∙ rw e (sym g.above))
                (f.left ∙ rw e (sym g.left))
                (f.above-uv ∙ rw e (sym g.above-uv))
                (f.left-uv ∙ rw e (sym g.left-uv)),
          );
      each = λ b level-stride values tm r before after a. promised a;
    }
