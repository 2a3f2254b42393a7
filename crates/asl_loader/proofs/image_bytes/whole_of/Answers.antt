use Rattle.std.proofs.Common.{arith}
use Rattle.asl_code.specs.declared.image.Image.{Image}
use Rattle.asl_loader.specs.Bytes.{image_fields, IsImage}
use Rattle.asl_loader.specs.ImageFields.{image_at}
use Rattle.asl_loader.specs.declared.fault.LoadFault.{LoadFault}
use Rattle.asl_loader.proofs.Images.{image_reads}
use Rattle.asl_loader.proofs.Whole.{rest_within, left_within}
use Rattle.asl_loader.proofs.image_bytes.whole_of.Goals as goal

pub overflow_sub-result : goal.overflow_sub-result
overflow_sub-result c = rest_within Image LoadFault IsImage image_fields image_at image_reads c.args.bytes.now c.in-Ok.ensures.0 c.in-Ok.rest.now (λ i. omega (arith, c.type_inv.bytes i)) c.in-Ok.ensures.2

pub overflow_sub-bytes : goal.overflow_sub-bytes
overflow_sub-bytes c =
    let stopped = rw c.in-Err-Bad.field-0-is at c.in-Err-Bad.ensures in
    left_within Image LoadFault IsImage image_fields image_at image_reads c.args.bytes.now c.in-Err-Bad.left (λ i. omega (arith, c.type_inv.bytes i)) stopped
