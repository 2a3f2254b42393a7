use Rattle.std.proofs.Common.{◌≡◌, ap, take, min, length, List, ℕ, ◌∙◌}
use Rattle.std.proofs.lemmas.List.{take_min}
use Rattle.std.proofs.Math.Nat.{min_comm}
use Rattle.asl_syntax.specs.declared.fault.SyntaxFault.TheVariants as syntax
use Rattle.asl_tool.specs.declared.command_fault.CommandFault.TheVariants as fault
use Rattle.asl_tool.proofs.commands.c_names.unknown.Goals as goal

pub returns : goal.returns
returns c =
    let least : c.min-told.result ≡ min 64 (length c.args.name.now) = c.min-told.ensures ∙ min_comm (length c.args.name.now) 64 in
    ap (λ (n : List ℕ). fault.Source (syntax.Unknown n)) (c.from_slice.ensures ∙ ap (λ (k : ℕ). take k c.args.name.now) least ∙ take_min 64 c.args.name.now)
