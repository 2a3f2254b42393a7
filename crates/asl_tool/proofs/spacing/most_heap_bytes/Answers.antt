use Rattle.std.proofs.Common.{◌≡◌, ◌≤◌, ◌*◌, ℕ, List, length, sym, subst, arith}
use Rattle.std.proofs.lemmas.Nat.{mul-le}
use Rattle.asl_code.specs.declared.image.Image.{Image}
use Rattle.asl_code.specs.Verified.{IsVerified}
use Rattle.asl_code.proofs.FitsLaws.{image_fits}
use Rattle.asl_tool.specs.Spacing.{heap_bytes}
use Rattle.asl_tool.proofs.HeapBytes.{heap_at_most}
use Rattle.asl_tool.proofs.spacing.most_heap_bytes.Goals as goal

few : (image : Image) (globals : List ℕ) → globals ≡ image.globals → IsVerified image → length globals ≤ 1024
few image globals are verified = subst (λ gs. length gs ≤ 1024) (sym are) (image_fits image verified).few_globals

product : (c : goal.After-most_made) → c.min.result * c.most_made.result ≤ 65536 * 2088
product c = mul-le c.min.result c.most_made.result 65536 2088 (let m = c.min.ensures in omega (arith, m)) c.most_made.ensures.few

pub overflow_mul-result : goal.overflow_mul-result
overflow_mul-result c = (let f = few c.args.program.now c.globals.result.now c.globals.ensures.globals c.globals.ensures.verified in omega (arith, f))

pub overflow_add-result-2 : goal.overflow_add-result-2
overflow_add-result-2 c = (let f = few c.args.program.now c.globals.result.now c.globals.ensures.globals c.globals.ensures.verified in let p = product c in omega (arith, f, p))

pub returns-clause-enough : goal.returns-clause-enough
returns-clause-enough c threads log s short leads =
    let most = heap_at_most c.args.program.now threads c.args.events log s short leads in
    subst (λ n. heap_bytes s.objects ≤ n) (cc) most

pub returns-clause-few : goal.returns-clause-few
returns-clause-few c = (let f = few c.args.program.now c.globals.result.now c.globals.ensures.globals c.globals.ensures.verified in let p = product c in omega (arith, f, p))
