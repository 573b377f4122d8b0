-- What is wrong with a line of a script, in document 01's words: "Edge listing" and "Numbers returned". Lines are counted from 0.
--   At ls j l          line j of the lines ls is the fields of l, parted by one space each
--   InTurn l j         frame, level, blocks: l may be line j
--   FormFault ls j     line j has `form`
--   DepthFault, ShapeFault, LevelFault   what 3 and 4 refuse of a frame line, and 2 of a level line
--   Refuses f l n      what the number n refuses of the line l, where the frame line is f
--   Fault ls j n       the number n refuses line j
--   Sound ls j         line j has no fault
use Rattle.std.specs.Prelude.{List, [], ◌⊎◌, ◌≡◌, ℕ, ◌<◌, ◌≤◌, length, get_or}
use Rattle.units.specs.Layout.{Layout}
use Rattle.block.specs.Faults.{BlockFault}
use Rattle.record.specs.Record.{intra_of}
use Rattle.list_fields.specs.Fields.{joined}
use Rattle.list_script.specs.Line.{Line, Frame, Level, Block, Form}
use Rattle.list_script.specs.Script.{space}
use Rattle.list_script.specs.Promises.{Says}

pub record At (ls : List (List ℕ)) (j : ℕ) (l : Line) : Type 0 where
  pub fields : List (List ℕ)
  pub says : Says fields l
  pub is : get_or ls j [] ≡ joined space fields

abbrev pub InTurn : Line → ℕ → Type 0
InTurn (Frame width height layout depth superblock sharpness) j = j ≡ 0
InTurn (Level columns rows u v) j = j ≡ 1
InTurn (Block x y size tx chroma uvtx) j = 2 ≤ j
InTurn Form j = ⊥

pub data FormFault (ls : List (List ℕ)) (j : ℕ) : Type 0 where
  too_long : 65535 < length (get_or ls j []) → FormFault ls j
  no_line : ((l : Line) → ¬ At ls j l) → FormFault ls j
  out-of-turn : {l : Line} → At ls j l → ¬ InTurn l j → FormFault ls j

abbrev pub DepthFault : ℕ → Type 0
DepthFault depth = ¬ (((depth ≡ 8) ⊎ (depth ≡ 10)) ⊎ (depth ≡ 12))

pub data ShapeFault (width height layout superblock : ℕ) : Type 0 where
  layout-other : ¬ Layout layout → ShapeFault width height layout superblock
  width-outside : ¬ ((1 ≤ width) × (width ≤ 256)) → ShapeFault width height layout superblock
  height-outside : ¬ ((1 ≤ height) × (height ≤ 256)) → ShapeFault width height layout superblock
  superblock-other : ¬ ((superblock ≡ 64) ⊎ (superblock ≡ 128)) → ShapeFault width height layout superblock

pub data LevelFault (layout columns rows u v : ℕ) : Type 0 where
  columns-above : 63 < columns → LevelFault layout columns rows u v
  rows_above : 63 < rows → LevelFault layout columns rows u v
  u-above : 63 < u → LevelFault layout columns rows u v
  v_above : 63 < v → LevelFault layout columns rows u v
  u-at-400 : layout ≡ 400 → ¬ (u ≡ 0) → LevelFault layout columns rows u v
  v-at-400 : layout ≡ 400 → ¬ (v ≡ 0) → LevelFault layout columns rows u v

-- a block is that of `record_intra`, in the frame line's frame
pub data Refuses : Line → Line → ℕ → Type 0 where
  sharpness-above : {f : Line} {width height layout depth superblock sharpness : ℕ} → 7 < sharpness
      → Refuses f (Frame width height layout depth superblock sharpness) 1
  level : {width height layout depth superblock sharpness columns rows u v : ℕ} → LevelFault layout columns rows u v
      → Refuses (Frame width height layout depth superblock sharpness) (Level columns rows u v) 2
  depth-other : {f : Line} {width height layout depth superblock sharpness : ℕ} → DepthFault depth
      → Refuses f (Frame width height layout depth superblock sharpness) 3
  shape : {f : Line} {width height layout depth superblock sharpness : ℕ} → ShapeFault width height layout superblock
      → Refuses f (Frame width height layout depth superblock sharpness) 4
  pair-at-400 : {width height layout depth superblock sharpness x y size tx chroma uvtx : ℕ} → layout ≡ 400 → ¬ (chroma ≡ 0)
      → Refuses (Frame width height layout depth superblock sharpness) (Block x y size tx chroma uvtx) 4
  block : {width height layout depth superblock sharpness x y size tx chroma uvtx : ℕ}
      → BlockFault (intra_of width height layout x y size tx chroma uvtx)
      → Refuses (Frame width height layout depth superblock sharpness) (Block x y size tx chroma uvtx) 5

pub record Fault (ls : List (List ℕ)) (j n : ℕ) : Type 0 where
  pub first : Line
  pub first-is : At ls 0 first
  pub line : Line
  pub line-is : At ls j line
  pub refuses : Refuses first line n

abbrev pub Sound : List (List ℕ) → ℕ → Type 0
Sound ls j = (¬ FormFault ls j) × ((n : ℕ) → ¬ Fault ls j n)
