use Rattle.std.proofs.Common.{refl, inl, inr, map, sym, subst}
use Rattle.std.specs.Prelude.{string_bytes}
use Rattle.asl.specs.CommandLine.{AreGiven, IsWordsFault}
use Rattle.asl.proofs.Lines.{are_texts}
use Rattle.asl.proofs.process.words_status.Goals as goal

pub returns-in-Ok-clause-ends : goal.returns-in-Ok-clause-ends
returns-in-Ok-clause-ends g c =
    let given = subst (λ words. AreGiven (g.L.CommandLine.known c.args.line.now) (map string_bytes words)) (sym c.as_slice.ensures.value) c.in-Ok.ensures.ok in
    inl (map string_bytes c.as_slice.result.now, given, are_texts c.as_slice.result.now, c.tool.ensures.status)

pub returns-in-Err-NotText-clause-ends : goal.returns-in-Err-NotText-clause-ends
returns-in-Err-NotText-clause-ends g c =
    let none = subst (IsWordsFault (g.L.CommandLine.known c.args.line.now)) c.in-Err-NotText.field-0-is c.in-Err-NotText.ensures.err in
    inr (refl, refl, inl (none, c.say_not_text.ensures.status, c.say_not_text.ensures.told))

pub returns-in-Err-OutOfMemory-clause-ends : goal.returns-in-Err-OutOfMemory-clause-ends
returns-in-Err-OutOfMemory-clause-ends g c = inr (refl, refl, inr (c.say_no_memory.ensures.status, c.say_no_memory.ensures.told))
