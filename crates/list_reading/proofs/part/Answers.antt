-- What is read goes after the bytes held, and lines are taken off what is held then.
use Rattle.std.proofs.Common.{arith, ◌≤◌, ◌+◌, ◌-◌, length}
use Rattle.list_reading.proofs.Turns.{adds, read-some}
use Rattle.list_reading.proofs.part.Goals as goal

pub returns : goal.returns
returns g c =
    let n =
    read-some (λ n. (c.args.p.held - c.make_room-gone.result + n ≤ length c.make_room-gone.new.buf) × (n ≤ c.args.most)) _ _ c.unwrap_or-n.ensures
    c.read_more-got.ensures.read (omega (arith, c.requires.0.room, c.make_room-gone.auto.buf), omega arith)
    in
    adds _ _ _ _ _ c.requires.0 c.make_room-gone.new.buf _ c.make_room-gone.auto.buf c.make_room-gone.ensures _ _ _ c.read_more-got.auto.buf
    (c.read_more-got.ensures.before, n.0, n.1) _ _ c.take_lines-r.ensures
