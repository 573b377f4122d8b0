-- Two headers of which the promises speak.
--   before              no frame before: the standard's defaults
--   header, place       the first bytes of the second frame of a file that aomenc 3.6.0 wrote, 176 by 144 samples, as an OBU; its parameters begin at bit 96
--   header_params       what ffmpeg prints of them
--   changed             bytes that hold other parameters from bit 3 on: one luma level is 0, and deltas of LAST, ALTREF and of mode 1 are sent
--   changed_params      these
use Rattle.std.specs.Prelude.{false, List, [], ◌∷◌, ℕ, pos, negsuc, replicate}
use Rattle.standard.specs.Header.{Given, given, default_refs, default_modes}
use Rattle.standard.specs.declared.Params.{Params}

abbrev pub before : Given
before = given 3 false false default_refs default_modes

abbrev pub header : List ℕ
header = 50 ∷ 132 ∷ 3 ∷ 50 ∷ 1 ∷ 224 ∷ 64 ∷ 0 ∷ 0 ∷ 29 ∷ 40 ∷ 0 ∷ 65 ∷ 2 ∷ 20 ∷ 20 ∷ 93 ∷ 101 ∷ []

abbrev pub place : ℕ
place = 96

abbrev pub header_params : Params
header_params = record {
  level = 16 ∷ 16 ∷ 8 ∷ 20 ∷ [];
  sharpness = 0;
  delta_enabled = 1;
  delta_update = 0;
  update_ref = replicate 8 0;
  update_mode = replicate 2 0;
  ref_delta = default_refs;
  mode_delta = default_modes;
}

abbrev pub changed : List ℕ
changed = 168 ∷ 0 ∷ 66 ∷ 151 ∷ 96 ∷ 2 ∷ 253 ∷ 247 ∷ []

abbrev pub changed_params : Params
changed_params = record {
  level = 16 ∷ 0 ∷ 8 ∷ 20 ∷ [];
  sharpness = 5;
  delta_enabled = 1;
  delta_update = 1;
  update_ref = 0 ∷ 1 ∷ 0 ∷ 0 ∷ 0 ∷ 0 ∷ 0 ∷ 1 ∷ [];
  update_mode = 0 ∷ 1 ∷ [];
  ref_delta = pos 1 ∷ negsuc 63 ∷ pos 0 ∷ pos 0 ∷ negsuc 0 ∷ pos 0 ∷ negsuc 0 ∷ pos 63 ∷ [];
  mode_delta = pos 0 ∷ negsuc 4 ∷ [];
}
