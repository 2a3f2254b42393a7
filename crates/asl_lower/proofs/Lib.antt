-- code while it is emitted
pub mod Grows
pub mod Balance
pub mod Counts
pub mod Slices
pub mod Emits
pub mod Listed
pub mod Emitted
-- the numbers of names
pub mod Numbered
pub mod Numbering
pub mod Named
pub mod Mentioned
pub mod RightCalls
pub mod Ruled
-- marks of functions
pub mod Marks
pub mod Marking
-- the lowering is the computed one
pub mod LaidLengths
pub mod Laid
pub mod Sized
pub mod Limited
pub mod Passed
-- what stands at each pc
pub mod Stands
pub mod Bodies
pub mod Points
pub mod Owner
pub mod BodyFacts
pub mod Trees
-- sections, and which are open
pub mod Sections
pub mod SectionSteps
pub mod Opened
pub mod Depths
pub mod Inside
pub mod SectionFacts
-- what calls lead to, and what lies outside all sections
pub mod Reaching
pub mod JudgedCode
pub mod Judged
pub mod Lowest
-- what a Lowering tells
pub mod Layouts
pub mod Props
pub mod Told
