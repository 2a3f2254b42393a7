use Rattle.std.proofs.Common.{◌≡◌, length, refl, arith}
use Rattle.std.proofs.lemmas.Option.{slice_get_read}
use Rattle.asl_explain.specs.Told.{Table}
use Rattle.asl_explain.specs.Telling.{given}
use Rattle.asl_explain.proofs.Rowing.{rows_none, rows_row, rows_all}
use Rattle.asl_explain.proofs.Piecing.{tells_part}
use Rattle.asl_explain.proofs.text.Teller.push_lengths.Goals as goal

pub loop-length-init : goal.loop-length-init
loop-length-init c = rows_none _ _ _

pub loop-length-preserved : goal.loop-length-preserved
loop-length-preserved c =
    let g = given c.args.self.now in
    let at = slice_get_read g.by_length (length g.by_length) c.loop-length.length c.index-lists-length-in-loop-length.result refl c.loop-length-test.true c.index-lists-length-in-loop-length.is in
    rows_row g c.args.number c.loop-length.first c.loop-length.length _ _ _ _ at c.in_ok-push_lists.ensures c.loop-length.invariant

pub returns : goal.returns
returns c =
    let g = given c.args.self.now in
    let past = c.loop-length-test.false in
    let within = c.loop-length.auto.length-end in
    let end : c.loop-length.length ≡ length g.by_length = omega (arith, past, within) in
    let all = rows_all g c.args.number c.loop-length.first c.loop-length.length _ _ end c.loop-length.invariant in
    tells_part (Table g c.args.number) _ _ all.0 all.1 all.2
