-- The texts that commands write of replies: a line for each step of a run, with the step's number, its thread and the
-- machine's reply (docs/INSTRUCTIONS.md). Numbers are in decimal digits.
use Rattle.std.specs.Prelude.{ℕ, List, [], ◌∷◌, ◌++◌, codes}
use Rattle.std.specs.Fmt.{decimal, signed_decimal}
use Rattle.asl_code.specs.declared.value.Value.{Value}
use Rattle.asl_code.specs.declared.value.Value.TheVariants.{Int, Null, Addr}
use Rattle.asl_code.specs.declared.value.Cell.{Cell}
use Rattle.asl_code.specs.declared.value.Effect.{Effect}
use Rattle.asl_code.specs.declared.value.Effect.TheVariants.{Read, Write}
use Rattle.asl_machine.specs.declared.fault.Fault.{Fault}
use Rattle.asl_machine.specs.declared.fault.Fault.TheVariants as fault
use Rattle.asl_machine.specs.declared.reply.Reply.{Reply}
use Rattle.asl_machine.specs.declared.reply.Reply.TheVariants as reply

-- an address, as `0.1`
abbrev pub address_text : ℕ → ℕ → List ℕ
address_text object offset = decimal object ++ codes "." ++ decimal offset

-- a value, as `int -2`, `null` or `addr 0.1`
abbrev pub value_text : Value → List ℕ
value_text (Int number) = codes "int " ++ signed_decimal number
value_text Null = codes "null"
value_text (Addr object offset) = codes "addr " ++ address_text object offset

-- an effect, as `read` or `write`
abbrev pub effect_text : Effect → List ℕ
effect_text Read = codes "read"
effect_text Write = codes "write"

-- an access, as `0.1 read`
abbrev pub access_text : Cell → Effect → List ℕ
access_text cell effect = address_text cell.object cell.offset ++ codes " " ++ effect_text effect

-- a fault's name, and of an access that was not covered the cell and the effect
abbrev pub fault_text : Fault → List ℕ
fault_text fault.BadType = codes "Type"
fault_text fault.Null = codes "Null"
fault_text fault.Bounds = codes "Bounds"
fault_text (fault.Unprotected cell effect) = codes "Unprotected " ++ access_text cell effect
fault_text fault.Full = codes "Full"
fault_text fault.Stack = codes "Stack"
fault_text fault.Open = codes "Open"
fault_text fault.Deep = codes "Deep"
fault_text fault.NoSection = codes "NoSection"

-- a reply, as `ran`, `out int 1`, `blocked`, `ended` or `fault Open`
abbrev pub reply_text : Reply → List ℕ
reply_text reply.Ran = codes "ran"
reply_text (reply.Out value) = codes "out " ++ value_text value
reply_text reply.Blocked = codes "blocked"
reply_text reply.Ended = codes "ended"
reply_text (reply.Fault f) = codes "fault " ++ fault_text f

-- the line of a step: its number, its thread, the reply
abbrev pub step_line : ℕ → ℕ → Reply → List ℕ
step_line number thread r = decimal number ++ codes " " ++ decimal thread ++ codes " " ++ reply_text r ++ 10 ∷ []
