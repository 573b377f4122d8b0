-- The state of a script as numbers.
--   State            lines so far; 0 before the frame line, 1 before the level line, 2 after it; 0 until a line is refused; the frame
--   form             stands for the word `form` where a number stands, and is none
--   fault_number     of a fault
--   state_is s       of the state that the code keeps
use Rattle.std.specs.Prelude.{ℕ}
use Rattle.refusals.specs.Numbers.{number_of}
use Rattle.list_steps.specs.declared.Fault.{Fault}
use Rattle.list_steps.specs.declared.Fault.TheVariants.{Form, Refused}
use Rattle.list_steps.specs.declared.State.{State as StateKept}

pub record State : Type 0 where
  pub line : ℕ
  pub phase : ℕ
  pub number : ℕ
  pub width : ℕ
  pub height : ℕ
  pub layout : ℕ

abbrev pub state_of : ℕ → ℕ → ℕ → ℕ → ℕ → ℕ → State
state_of line phase number width height layout =
    record { line = line; phase = phase; number = number; width = width; height = height; layout = layout }

abbrev pub form : ℕ
form = 1000

abbrev pub fault_number : Fault → ℕ
fault_number Form = form
fault_number (Refused r) = number_of r

abbrev pub state_is : StateKept → State
state_is s = state_of s.line s.phase s.number s.width s.height s.layout
