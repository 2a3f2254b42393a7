-- What `check` says of a tree and a program, said of the two sides that they were read from.
use Rattle.std.proofs.Common.{ℕ, Bool, List, inr}
use Rattle.asl_code.specs.declared.image.Image.{Image}
use Rattle.asl_syntax.specs.Tree.{Item}
use Rattle.asl_syntax.specs.Parsed.{Parses}
use Rattle.asl_tool.specs.declared.command_fault.CommandFault.{CommandFault}
use Rattle.asl_tool.specs.declared.command_fault.CommandFault.TheVariants as fault
use Rattle.asl_tool.specs.Check.{IsRefusedPair, IsRefusedProgram}
use Rattle.asl_tool.specs.Program.{IsProgram}

pub pair_refused : (source program : List ℕ) (is : List Item) (image : Image) (k_limit : ℕ) (all : Bool) (f : CommandFault) → Parses source is → IsProgram program image → IsRefusedProgram is image k_limit all f → IsRefusedPair source program k_limit all f
pair_refused source program is image k_limit all (fault.Check cause) parsed read h = (record { tree = is; image = image; parsed = parsed; read = read; refused = h.0 }, h.1)
pair_refused source program is image k_limit all (fault.Missing first lines) parsed read h =
    (h.0, (h.1.0, record { tree = is; image = image; parsed = parsed; read = read; missing = h.1.1 }, h.1.2))
pair_refused source program is image k_limit all fault.OutOfMemory parsed read h =
    inr (h.0, (h.1.0, h.1.1, record { tree = is; image = image; parsed = parsed; read = read; missing = h.1.2 }))
pair_refused source program is image k_limit all (fault.Program cause) parsed read h = absurd h
pair_refused source program is image k_limit all (fault.Source cause) parsed read h = absurd h
pair_refused source program is image k_limit all (fault.Infer cause) parsed read h = absurd h
pair_refused source program is image k_limit all fault.NoProgram parsed read h = absurd h
pair_refused source program is image k_limit all (fault.Map cause) parsed read h = absurd h
pair_refused source program is image k_limit all (fault.File cause) parsed read h = absurd h
pair_refused source program is image k_limit all (fault.Journal cause) parsed read h = absurd h
pair_refused source program is image k_limit all (fault.Run cause) parsed read h = absurd h
