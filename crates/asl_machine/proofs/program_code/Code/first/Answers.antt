use Rattle.std.proofs.Common.{◌≡◌, ℕ, ◌<◌, List, length, get_or, ap, ◌∙◌, arith}
use Rattle.asl_code.specs.declared.image.Image.{Image}
use Rattle.asl_code.specs.Bodies.{first_of}
use Rattle.asl_machine.specs.Ready.{firsts_from}
use Rattle.asl_machine.proofs.Codes.{length-firsts, first_at}
use Rattle.asl_machine.proofs.program_code.Code.first.Goals as goal

pub index-requires : goal.index-requires
index-requires c =
    let places = ap {A = List ℕ} {B = ℕ} length c.self.invariant in
    let count = length-firsts 0 c.self.inside.program.now.functions in
    let view = ap (λ (i : Image). length i.functions) c.self.view_is in
    omega (arith, c.from.ensures, c.self.inside.firsts.ok.0, places, count, view, c.requires)

pub returns : goal.returns
returns c =
    let functions = c.self.inside.program.now.functions in
    let view = ap (λ (i : Image). length i.functions) c.self.view_is in
    let there : c.args.number < length functions = omega (arith, view, c.requires) in
    let last = first_at 0 functions c.args.number c.index.result.now there in
    let begins = c.index.ensures
    ∙ ap (λ (xs : List ℕ). get_or xs c.from.result c.index.result.now) c.self.invariant
    ∙ ap (λ (n : ℕ). get_or (firsts_from 0 functions) n c.index.result.now) c.from.ensures
    ∙ last in
    let start : c.index.result.now ≡ first_of functions c.args.number = omega (arith, begins) in
    rw (← c.self.view_is) start
