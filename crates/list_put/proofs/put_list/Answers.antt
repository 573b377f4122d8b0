-- The header, the edges and how many they are, one after another.
use mathlib.Core.Path.{refl}
use native.Mathlib.Omega.{arith}
use Rattle.list_text.specs.declared.Text.{Text}
use Rattle.list_put.specs.Written.{held_of}
use Rattle.list_put.proofs.Lengths.{Small, small}
use Rattle.list_put.proofs.Writes.{total-room, list_put}
use Rattle.list_put.proofs.put_list.Goals as goal
use Rattle.list_put.proofs.put_list.Goals.{After-put_planes-edges}

-- nothing of it is written
abbrev emptied : Text → Text
emptied t = record { bytes = t.bytes; len = 0; long = t.long }

is-small : (c : After-put_planes-edges)
    → Small
    (held_of c.args.frame.layout c.args.frame.w4.0 c.args.frame.h4.0
    c.args.levels.now c.args.masks.now)
is-small c = small _ _ _ _ _ c.requires (λ i. omega (arith, c.shared_slice_known-1.given i))

pub put_total-requires : goal.put_total-requires
put_total-requires c =
    total-room _ (is-small (goal.at.put_total-requires c).After-put_planes-edges) (emptied c.args.text.now) _ _ refl c.put_header.ensures c.put_planes-edges.ensures

pub returns : goal.returns
returns c =
    list_put _ (is-small (goal.at.returns c).After-put_planes-edges) (emptied c.args.text.now) _ _ refl c.put_header.ensures c.put_planes-edges.ensures c.put_total.new.self c.put_total.ensures
