-- `promised` meets its contract: the promises are proved in Pieces, Asked, Frames and Levels.
use Rattle.checks.specs.Call.{call_pass}
use Rattle.standard_planes.proofs.Pieces.{limits-are, no-level, piece_is}
use Rattle.standard_planes.specs.Piece.{limits_in}
use Rattle.standard_planes.proofs.PieceSamples.{asked}
use Rattle.standard_planes.proofs.Frames.{by-luma, by-u, by-v}
use Rattle.standard_planes.proofs.Levels.{intra, inter, level-is}
use Rattle.standard_planes.proofs.promised.Goals as goal

pub returns : goal.returns
returns c =
    record {
      no-level = no-level;
      piece = λ sharp a e z c m n d p cls s is o h ok. piece_is c (limits_in a) m n d p s sharp cls (limits-are sharp a e z) is o h ok;
      call = λ sharp a e z c m n g f p cls s r is long o.
          let k = asked c (limits_in a) m n g f p cls r is in
          piece_is c (limits_in a) m n (call_pass c) p s sharp cls (limits-are sharp a e z) is o k.0 (rw long k.1);
      luma-frame = λ sharp f g s a. by-luma f s a sharp g;
      u-frame = λ sharp f g s a. by-u f s a sharp g;
      v-frame = λ sharp f g s a. by-v f s a sharp g;
      level = level-is;
      intra = intra;
      inter = inter;
    }
