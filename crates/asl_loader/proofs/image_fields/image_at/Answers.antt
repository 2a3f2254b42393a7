use Rattle.std.proofs.Common.{refl}
use Rattle.asl_loader.specs.ImageFields.{counted_at, image_at}
use Rattle.asl_loader.proofs.image_fields.image_at.Goals as goal

-- each part was read where the part before it ended
pub returns : goal.returns
unfolding image_at counted_at
returns c =
    let g = c.in_ok-globals.ensures in
    let f = c.in_ok-functions.ensures in
    let code = c.in_ok-code.ensures in
    let l = c.in_ok-lists.ensures in (
      record { version = c.in_ok-version.version; classes = c.in_ok-classes.classes; globals = g.0; functions = f.0; start = c.in_ok-start.start; code = code.0; lists = l.0 },
      c.image_of-image.ensures g.0 f.0 code.0 l.0 g.1 f.1 code.1 l.1,
      rw (c.in_ok-_letters.ensures, c.in_ok-version.ensures, c.in_ok-classes.ensures, c.in_ok-count.ensures, g.2, c.in_ok-count-2.ensures, f.2, c.in_ok-start.ensures, c.in_ok-count-3.ensures, code.2, c.in_ok-count-4.ensures, l.2) refl,
    )
