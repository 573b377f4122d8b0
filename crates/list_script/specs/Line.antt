-- What a line of a script says.
--   Line                    a line of one of the three kinds; Form is none
--   frame_line, level_line, block_line   of the fields read; a block without chroma has the flag 0 and the code 0
--   line_said r             of what reading answers
use Rattle.std.specs.Prelude.{cond, ℕ, Option, None, Some, is_some, unwrap_or}
use Rattle.list_script.specs.declared.FrameLine.{FrameLine}
use Rattle.list_script.specs.declared.LevelLine.{LevelLine}
use Rattle.list_script.specs.declared.BlockLine.{BlockLine}
use Rattle.list_script.specs.declared.ScriptLine.{ScriptLine}
use Rattle.list_script.specs.declared.ScriptLine.TheVariants.{Frame as FrameRead, Level as LevelRead, Block as BlockRead}

pub data Line : Type 0 where
  Frame : (width height layout depth superblock sharpness : ℕ) → Line
  Level : (columns rows u v : ℕ) → Line
  Block : (x y size tx chroma uvtx : ℕ) → Line
  Form : Line

abbrev pub frame_line : FrameLine → Line
frame_line f = Frame f.width f.height f.layout f.depth f.superblock f.sharpness

abbrev pub level_line : LevelLine → Line
level_line l = Level l.columns l.rows l.u l.v

abbrev pub chroma_flag : Option ℕ → ℕ
chroma_flag t = cond (is_some t) 1 0

abbrev pub chroma_code : Option ℕ → ℕ
chroma_code t = unwrap_or t 0

abbrev pub block_line : BlockLine → Line
block_line b = Block b.x b.y b.size b.tx (chroma_flag b.uvtx) (chroma_code b.uvtx)

abbrev pub line_said : Option ScriptLine → Line
line_said None = Form
line_said (Some (FrameRead f)) = frame_line f
line_said (Some (LevelRead l)) = level_line l
line_said (Some (BlockRead b)) = block_line b
