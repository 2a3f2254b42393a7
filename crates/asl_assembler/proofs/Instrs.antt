-- A line is read as what its words say, and as nothing else.
use Rattle.std.proofs.Common.{◌≡◌, ℕ, List, ◌∷◌, Some, ap}
use Rattle.std.specs.Option.{option_map}
use Rattle.asl_code.specs.declared.instr.Instr.{Instr}
use Rattle.asl_code.specs.declared.instr.Instr.TheVariants as instr
use Rattle.asl_assembler.specs.declared.keyword.Keyword.{Keyword}
use Rattle.asl_assembler.specs.declared.keyword.Keyword.TheVariants as keyword
use Rattle.asl_assembler.specs.Words.{AreWords, name_of}
use Rattle.asl_assembler.specs.Text.{instr_name, instr_tokens}
use Rattle.asl_assembler.specs.Reading.{no_word, one, two, three, instr_of, with_numbers_of}
use Rattle.asl_assembler.proofs.Options.{mapped}
use Rattle.asl_assembler.proofs.Readers.{byte, short, integer, register, global, AfterKeyword, reads_0, reads_1, reads_2, reads_3, is_read_0, is_read_1, is_read_2, is_read_3}

pub is_instr : (k : Keyword) (words : List (List ℕ)) (i : Instr) → instr_of k words ≡ Some i → AreWords (instr_tokens i) (name_of k ∷ words)
unfolding instr_of with_numbers_of
is_instr keyword.Int words i e = let m = mapped (λ x. instr.SetInt x.0 x.1) (two register.read integer.read words) i e in rw (← m.2) (is_read_2 register integer keyword.Int words m.0 m.1)
is_instr keyword.Null words i e = let m = mapped instr.SetNull (one register.read words) i e in rw (← m.2) (is_read_1 register keyword.Null words m.0 m.1)
is_instr keyword.Mov words i e = let m = mapped (λ x. instr.Move x.0 x.1) (two register.read register.read words) i e in rw (← m.2) (is_read_2 register register keyword.Mov words m.0 m.1)
is_instr keyword.Add words i e = let m = mapped (λ x. instr.Add x.0 x.1 x.2) (three register.read register.read register.read words) i e in rw (← m.2) (is_read_3 register register register keyword.Add words m.0 m.1)
is_instr keyword.Sub words i e = let m = mapped (λ x. instr.Subtract x.0 x.1 x.2) (three register.read register.read register.read words) i e in rw (← m.2) (is_read_3 register register register keyword.Sub words m.0 m.1)
is_instr keyword.Lt words i e = let m = mapped (λ x. instr.LessThan x.0 x.1 x.2) (three register.read register.read register.read words) i e in rw (← m.2) (is_read_3 register register register keyword.Lt words m.0 m.1)
is_instr keyword.Eq words i e = let m = mapped (λ x. instr.Equals x.0 x.1 x.2) (three register.read register.read register.read words) i e in rw (← m.2) (is_read_3 register register register keyword.Eq words m.0 m.1)
is_instr keyword.Glob words i e = let m = mapped (λ x. instr.GlobalAddress x.0 x.1) (two register.read global.read words) i e in rw (← m.2) (is_read_2 register global keyword.Glob words m.0 m.1)
is_instr keyword.Field words i e = let m = mapped (λ x. instr.FieldAddress x.0 x.1 x.2) (three register.read register.read byte.read words) i e in rw (← m.2) (is_read_3 register register byte keyword.Field words m.0 m.1)
is_instr keyword.Load words i e = let m = mapped (λ x. instr.Load x.0 x.1) (two register.read register.read words) i e in rw (← m.2) (is_read_2 register register keyword.Load words m.0 m.1)
is_instr keyword.Store words i e = let m = mapped (λ x. instr.Store x.0 x.1) (two register.read register.read words) i e in rw (← m.2) (is_read_2 register register keyword.Store words m.0 m.1)
is_instr keyword.New words i e = let m = mapped (λ x. instr.New x.0 x.1 x.2) (three register.read byte.read short.read words) i e in rw (← m.2) (is_read_3 register byte short keyword.New words m.0 m.1)
is_instr keyword.Jmp words i e = let m = mapped instr.Jump (one short.read words) i e in rw (← m.2) (is_read_1 short keyword.Jmp words m.0 m.1)
is_instr keyword.Jz words i e = let m = mapped (λ x. instr.JumpIfZero x.0 x.1) (two register.read short.read words) i e in rw (← m.2) (is_read_2 register short keyword.Jz words m.0 m.1)
is_instr keyword.Call words i e = let m = mapped (λ x. instr.Call x.0 x.1 x.2) (three register.read register.read short.read words) i e in rw (← m.2) (is_read_3 register register short keyword.Call words m.0 m.1)
is_instr keyword.Ret words i e = let m = mapped instr.Return (one register.read words) i e in rw (← m.2) (is_read_1 register keyword.Ret words m.0 m.1)
is_instr keyword.Out words i e = let m = mapped instr.Output (one register.read words) i e in rw (← m.2) (is_read_1 register keyword.Out words m.0 m.1)
is_instr keyword.Acq words i e = let m = mapped instr.Acquire (one short.read words) i e in rw (← m.2) (is_read_1 short keyword.Acq words m.0 m.1)
is_instr keyword.Rel words i e = let m = mapped (λ _. instr.Release) (no_word words) i e in rw (← m.2) (is_read_0 keyword.Rel words m.0 m.1)
is_instr _ words i e = absurd (cc)

pub instr_reads : (i : Instr) (words : List (List ℕ)) → AreWords (instr_tokens i) words → AfterKeyword (instr_name i) words (instr_of (instr_name i)) i
unfolding instr_of with_numbers_of
instr_reads (instr.SetInt a b) words h = let b = reads_2 register integer keyword.Int a b words h in record { rest = b.rest; split = b.split; found = ap (option_map (λ x. instr.SetInt x.0 x.1)) b.found }
instr_reads (instr.SetNull a) words h = let b = reads_1 register keyword.Null a words h in record { rest = b.rest; split = b.split; found = ap (option_map instr.SetNull) b.found }
instr_reads (instr.Move a b) words h = let b = reads_2 register register keyword.Mov a b words h in record { rest = b.rest; split = b.split; found = ap (option_map (λ x. instr.Move x.0 x.1)) b.found }
instr_reads (instr.Add a b c) words h = let b = reads_3 register register register keyword.Add a b c words h in record { rest = b.rest; split = b.split; found = ap (option_map (λ x. instr.Add x.0 x.1 x.2)) b.found }
instr_reads (instr.Subtract a b c) words h = let b = reads_3 register register register keyword.Sub a b c words h in record { rest = b.rest; split = b.split; found = ap (option_map (λ x. instr.Subtract x.0 x.1 x.2)) b.found }
instr_reads (instr.LessThan a b c) words h = let b = reads_3 register register register keyword.Lt a b c words h in record { rest = b.rest; split = b.split; found = ap (option_map (λ x. instr.LessThan x.0 x.1 x.2)) b.found }
instr_reads (instr.Equals a b c) words h = let b = reads_3 register register register keyword.Eq a b c words h in record { rest = b.rest; split = b.split; found = ap (option_map (λ x. instr.Equals x.0 x.1 x.2)) b.found }
instr_reads (instr.GlobalAddress a b) words h = let b = reads_2 register global keyword.Glob a b words h in record { rest = b.rest; split = b.split; found = ap (option_map (λ x. instr.GlobalAddress x.0 x.1)) b.found }
instr_reads (instr.FieldAddress a b c) words h = let b = reads_3 register register byte keyword.Field a b c words h in record { rest = b.rest; split = b.split; found = ap (option_map (λ x. instr.FieldAddress x.0 x.1 x.2)) b.found }
instr_reads (instr.Load a b) words h = let b = reads_2 register register keyword.Load a b words h in record { rest = b.rest; split = b.split; found = ap (option_map (λ x. instr.Load x.0 x.1)) b.found }
instr_reads (instr.Store a b) words h = let b = reads_2 register register keyword.Store a b words h in record { rest = b.rest; split = b.split; found = ap (option_map (λ x. instr.Store x.0 x.1)) b.found }
instr_reads (instr.New a b c) words h = let b = reads_3 register byte short keyword.New a b c words h in record { rest = b.rest; split = b.split; found = ap (option_map (λ x. instr.New x.0 x.1 x.2)) b.found }
instr_reads (instr.Jump a) words h = let b = reads_1 short keyword.Jmp a words h in record { rest = b.rest; split = b.split; found = ap (option_map instr.Jump) b.found }
instr_reads (instr.JumpIfZero a b) words h = let b = reads_2 register short keyword.Jz a b words h in record { rest = b.rest; split = b.split; found = ap (option_map (λ x. instr.JumpIfZero x.0 x.1)) b.found }
instr_reads (instr.Call a b c) words h = let b = reads_3 register register short keyword.Call a b c words h in record { rest = b.rest; split = b.split; found = ap (option_map (λ x. instr.Call x.0 x.1 x.2)) b.found }
instr_reads (instr.Return a) words h = let b = reads_1 register keyword.Ret a words h in record { rest = b.rest; split = b.split; found = ap (option_map instr.Return) b.found }
instr_reads (instr.Output a) words h = let b = reads_1 register keyword.Out a words h in record { rest = b.rest; split = b.split; found = ap (option_map instr.Output) b.found }
instr_reads (instr.Acquire a) words h = let b = reads_1 short keyword.Acq a words h in record { rest = b.rest; split = b.split; found = ap (option_map instr.Acquire) b.found }
instr_reads instr.Release words h = let b = reads_0 keyword.Rel words h in record { rest = b.rest; split = b.split; found = ap (option_map (λ _. instr.Release)) b.found }
