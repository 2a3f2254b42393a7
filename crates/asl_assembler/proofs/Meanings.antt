-- A line is read as what its words say, and as nothing else.
use Rattle.std.proofs.Common.{◌≡◌, ℕ, ◌+◌, ◌≤◌, true, List, [], ◌∷◌, ◌++◌, length, map, Option, Some, None, refl, sym, ap, ◌∙◌, ◌⊎◌, inl, inr, arith, append_assoc, append-nil, length-append}
use Rattle.std.specs.Prelude.{if◌then◌else◌, nat_lt, codes}
use Rattle.std.specs.Option.{option_map}
use Rattle.std.specs.Str.{bytes_eq}
use Rattle.std.proofs.lemmas.Slice.Eq.{bytes_eq-Decides}
use Rattle.std.proofs.lemmas.Bool.{cases_Bool, lt-ltb, ltb-true}
use Rattle.asl_code.specs.Versions.{IsVersion, is_version}
use Rattle.asl_code.proofs.Versions.{is_version-true, IsVersion-is_version}
use Rattle.asl_code.specs.declared.instr.Instr.{Instr}
use Rattle.asl_code.specs.declared.instr.Instr.TheVariants as instr
use Rattle.asl_code.specs.declared.lock.Lock.{Lock}
use Rattle.asl_code.specs.declared.lock.Lock.TheVariants as lock
use Rattle.asl_code.specs.declared.lock.Base.{Base}
use Rattle.asl_code.specs.declared.lock.Base.TheVariants as base
use Rattle.asl_code.specs.declared.path.Op.{Op}
use Rattle.asl_code.specs.declared.path.Op.TheVariants as op
use Rattle.asl_code.specs.declared.value.Effect.{Effect}
use Rattle.asl_code.specs.declared.value.Effect.TheVariants as effects
use Rattle.asl_assembler.specs.declared.keyword.Keyword.{Keyword}
use Rattle.asl_assembler.specs.declared.keyword.Keyword.TheVariants as keyword
use Rattle.asl_assembler.specs.declared.line.Line.{Line}
use Rattle.asl_assembler.specs.declared.line.Line.TheVariants as line
use Rattle.asl_assembler.specs.Words.{AreWords, IsWord, name_of}
use Rattle.asl_assembler.specs.Text.{IsLine, instr_name, op_token, base_token, effect_token, effect_name}
use Rattle.asl_assembler.specs.Reading.{◌>>=◌, by_op, no_word, one, two, instr_of, register_of, global_of, marked_of, effect_of, op_of, base_of, path_of, lock_with, expr_of, version_of, line_of, keyword_of, meaning_of}
use Rattle.asl_assembler.proofs.Options.{bound, guarded, mapped, chosen}
use Rattle.asl_assembler.proofs.Numbers.{marked_read, read_marked, not_marked}
use Rattle.asl_assembler.proofs.Keywords.{name_read, read_name, effect_read, read_effect}
use Rattle.asl_assembler.proofs.Readers.{byte, short, effect, AfterKeyword, reads_0, reads_1, reads_2, is_read_0, is_read_1, is_read_2}
use Rattle.asl_assembler.proofs.Instrs.{is_instr, instr_reads}

-- Operations of a path.
op_reads : (o : Op) (word : List ℕ) → IsWord (op_token o) word → op_of word ≡ Some o
unfolding op_of
op_reads op.Deref word h = rw h refl
op_reads (op.Off n) [] h = absurd h
op_reads (op.Off n) (c ∷ word) h = let read = marked_read 46 256 (46 ∷ word) n (refl, h.1) in rw h.0 (rw read refl)

is_op : (word : List ℕ) (o : Op) → op_of word ≡ Some o → IsWord (op_token o) word
unfolding op_of
is_op word o e =
    elim (cases_Bool (bytes_eq word (codes "*"))) [
      | inl h ↦ (let star : Some op.Deref ≡ Some o = rw h at e in
          let same : op.Deref ≡ o = cc in
          rw (← same) ((bytes_eq-Decides word (codes "*")).0 h))
      | inr h ↦ (let offset : option_map op.Off (marked_of 46 256 word) ≡ Some o = rw h at e in
          let m = mapped op.Off (marked_of 46 256 word) o offset in
          rw (← m.2) (read_marked 46 256 word m.0 m.1))
    ]

no_op : (e : Effect) → op_of (name_of (effect_name e)) ≡ None
unfolding op_of marked_of
no_op effects.Read = refl
no_op effects.Write = refl

-- Bases.
base_reads : (b : Base) (word : List ℕ) → IsWord (base_token b) word → base_of word ≡ Some b
unfolding base_of
base_reads (base.Reg n) word h = rw (marked_read 114 256 word n h) refl
base_reads (base.Global n) [] h = absurd h
base_reads (base.Global n) (c ∷ word) h =
    let none = not_marked 114 256 103 word refl in
    let read = marked_read 103 65536 (103 ∷ word) n (refl, h.1) in
    rw h.0 (rw (none, read) refl)

is_base : (word : List ℕ) (b : Base) → base_of word ≡ Some b → IsWord (base_token b) word
unfolding base_of
is_base word b e =
    elim (chosen (option_map base.Reg (register_of word)) (option_map base.Global (global_of word)) b e) [
      | inl h ↦ (let m = mapped base.Reg (register_of word) b h in rw (← m.2) (read_marked 114 256 word m.0 m.1))
      | inr h ↦ (let m = mapped base.Global (global_of word) b h.1 in rw (← m.2) (read_marked 103 65536 word m.0 m.1))
    ]

-- Paths, with the effect after them.
path_reads : (ops done : List Op) (e : Effect) (words : List (List ℕ)) → AreWords (map op_token ops ++ effect_token e ∷ []) words → length done + length ops ≤ 8 → path_of done words ≡ Some (done ++ ops, e)
path_reads [] done e [] h l = absurd h
path_reads [] done e (word ∷ []) h l =
    let none : op_of word ≡ None = rw h.0 (no_op e) in
    let read = effect_read e word h.0 in
    rw (none, read) (ap (λ p. Some (p, e)) (sym (append-nil done)))
path_reads [] done e (word ∷ other ∷ words) h l = absurd h.1
path_reads (o ∷ ops) done e [] h l = absurd h
path_reads (o ∷ ops) done e (word ∷ words) h l =
    let read = op_reads o word h.0 in
    let room : nat_lt (length done) 8 ≡ true = lt-ltb (length done) 8 (omega arith) in
    let fits : length (done ++ o ∷ []) + length ops ≤ 8 = rw length-append (omega arith) in
    let rest = path_reads ops (done ++ o ∷ []) e words h.1 fits in
    rw (read, room) (rest ∙ ap (λ p. Some (p, e)) (append_assoc done (o ∷ []) ops))

by_split : {A : Type 0} (o : Option Op) (some : Op → A) (none : A) (y : A) → by_op o some none ≡ y → ((x : Op) × (o ≡ Some x) × (some x ≡ y)) ⊎ ((o ≡ None) × (none ≡ y))
by_split None some none y e = inr (refl, e)
by_split (Some x) some none y e = inl (x, refl, e)

no_more : (words : List (List ℕ)) (x : Unit {0}) → no_word words ≡ Some x → words ≡ []
no_more [] x e = refl
no_more (word ∷ words) x e = absurd (cc)

pub record IsPath (done : List Op) (words : List (List ℕ)) (p : List Op × Effect) : Type 0 where
  pub ops : List Op
  pub whole : p.0 ≡ done ++ ops
  pub spelled : AreWords (map op_token ops ++ effect_token p.1 ∷ []) words
  pub short : length p.0 ≤ 8

is_path : (words : List (List ℕ)) (done : List Op) (p : List Op × Effect) → length done ≤ 8 → path_of done words ≡ Some p → IsPath done words p
is_path [] done p l e = absurd (cc)
is_path (word ∷ words) done p l e =
    elim (by_split (op_of word) (λ o. if nat_lt (length done) 8 then path_of (done ++ o ∷ []) words else None) (no_word words >>= λ _. effect_of word >>= λ e. Some (done, e)) (Some p) e) [
      | inl s ↦ (let g = guarded (nat_lt (length done) 8) (path_of (done ++ s.0 ∷ []) words) p s.2 in
          let room = ltb-true (length done) 8 g.0 in
          let fits : length (done ++ s.0 ∷ []) ≤ 8 = rw length-append (omega arith) in
          let rest = is_path words (done ++ s.0 ∷ []) p fits g.1 in
          record { ops = s.0 ∷ rest.ops; whole = rest.whole ∙ append_assoc done (s.0 ∷ []) rest.ops; spelled = (is_op word s.0 s.1, rest.spelled); short = rest.short })
      | inr s ↦ (let n = bound (no_word words) (λ _. effect_of word >>= λ e. Some (done, e)) p s.1 in
          let f = bound (effect_of word) (λ e. Some (done, e)) p n.2 in
          let whole : p.0 ≡ done ++ [] = cc (append-nil done) in
          let named : effect_of word ≡ Some p.1 = cc in
          let empty = no_more words n.0 n.1 in
          let fits : length p.0 ≤ 8 = rw (whole, append-nil) l in
          record { ops = []; whole = whole; spelled = rw empty (read_effect word p.1 named, tt); short = fits })
    ]

-- Lines.
instr_line : (i : Instr) (words : List (List ℕ)) → line_of (instr_name i) words ≡ option_map line.Instruction (instr_of (instr_name i) words)
unfolding line_of
instr_line (instr.SetInt a b) words = refl
instr_line (instr.SetNull a) words = refl
instr_line (instr.Move a b) words = refl
instr_line (instr.Add a b c) words = refl
instr_line (instr.Subtract a b c) words = refl
instr_line (instr.LessThan a b c) words = refl
instr_line (instr.Equals a b c) words = refl
instr_line (instr.GlobalAddress a b) words = refl
instr_line (instr.FieldAddress a b c) words = refl
instr_line (instr.Load a b) words = refl
instr_line (instr.Store a b) words = refl
instr_line (instr.New a b c) words = refl
instr_line (instr.Jump a) words = refl
instr_line (instr.JumpIfZero a b) words = refl
instr_line (instr.Call a b c) words = refl
instr_line (instr.Return a) words = refl
instr_line (instr.Output a) words = refl
instr_line (instr.Acquire a) words = refl
instr_line instr.Release words = refl

abbrev line_name : Line → Keyword
line_name (line.Version n) = keyword.Version
line_name (line.Classes n) = keyword.Classes
line_name (line.Global n) = keyword.Global
line_name (line.Entry n) = keyword.Entry
line_name (line.Function params regs) = keyword.Function
line_name (line.Instruction i) = instr_name i
line_name line.List = keyword.List
line_name (line.Lock (lock.Root e)) = keyword.Root
line_name (line.Lock (lock.Class n e)) = keyword.Class
line_name (line.Lock (lock.Expr x e)) = keyword.Expr

line_reads : (l : Line) (words : List (List ℕ)) → IsLine l words → AfterKeyword (line_name l) words (line_of (line_name l)) l
unfolding line_of expr_of
line_reads (line.Version n) words h =
    let b = reads_1 short keyword.Version n words h.spelled in
    record { rest = b.rest; split = b.split; found = ap (λ o. o >>= version_of) b.found ∙ ap (λ t. if t then Some (line.Version n) else None) (IsVersion-is_version n h.kept) }
line_reads (line.Classes n) words h = let b = reads_1 short keyword.Classes n words h.spelled in record { rest = b.rest; split = b.split; found = ap (option_map line.Classes) b.found }
line_reads (line.Global n) words h = let b = reads_1 short keyword.Global n words h.spelled in record { rest = b.rest; split = b.split; found = ap (option_map line.Global) b.found }
line_reads (line.Entry n) words h = let b = reads_1 short keyword.Entry n words h.spelled in record { rest = b.rest; split = b.split; found = ap (option_map line.Entry) b.found }
line_reads (line.Function params regs) words h = let b = reads_2 byte byte keyword.Function params regs words h.spelled in record { rest = b.rest; split = b.split; found = ap (option_map (λ x. line.Function x.0 x.1)) b.found }
line_reads (line.Instruction i) words h = let b = instr_reads i words h.spelled in record { rest = b.rest; split = b.split; found = instr_line i b.rest ∙ ap (option_map line.Instruction) b.found }
line_reads line.List words h = let b = reads_0 keyword.List words h.spelled in record { rest = b.rest; split = b.split; found = ap (option_map (λ _. line.List)) b.found }
line_reads (line.Lock (lock.Root e)) words h = let b = reads_1 effect keyword.Root e words h.spelled in record { rest = b.rest; split = b.split; found = ap (option_map (λ x. line.Lock (lock.Root x))) b.found }
line_reads (line.Lock (lock.Class n e)) words h = let b = reads_2 short effect keyword.Class n e words h.spelled in record { rest = b.rest; split = b.split; found = ap (option_map (λ x. line.Lock (lock.Class x.0 x.1))) b.found }
line_reads (line.Lock (lock.Expr x e)) [] h = absurd h.spelled
line_reads (line.Lock (lock.Expr x e)) (a ∷ []) h = absurd h.spelled.1
line_reads (line.Lock (lock.Expr x e)) (a ∷ word ∷ words) h =
    let first = base_reads x.base word h.spelled.1.0 in
    let kept : length x.path ≤ 8 = h.kept in
    let path = path_reads x.path [] e words h.spelled.1.1 (omega arith) in
    record { rest = word ∷ words; split = ap (λ w. w ∷ word ∷ words) h.spelled.0; found = rw (first, path) refl }

is_expr : (words : List (List ℕ)) (l : Lock) → expr_of words ≡ Some l → IsLine (line.Lock l) (name_of keyword.Expr ∷ words)
unfolding expr_of
is_expr [] l e = absurd (cc)
is_expr (word ∷ words) l e =
    let b = bound (base_of word) (λ b. lock_with b (path_of [] words)) l e in
    let p = bound (path_of [] words) (λ p. Some (lock.Expr (record { base = b.0; path = p.0 }) p.1)) l b.2 in
    let path = is_path words [] p.0 (omega arith) p.1 in
    let made : lock.Expr (record { base = b.0; path = p.0.0 }) p.0.1 ≡ l = cc in
    let spelled : AreWords (map op_token p.0.0 ++ effect_token p.0.1 ∷ []) words = rw path.whole path.spelled in
    rw (← made) (record { spelled = (refl, (is_base word b.0 b.1, spelled)); kept = path.short })

version_read : (n : ℕ) (l : Line) → version_of n ≡ Some l → IsVersion n × (line.Version n ≡ l)
version_read n l e =
    let g = guarded (is_version n) (Some (line.Version n)) l e in
    (is_version-true n g.0, cc)

is_line : (k : Keyword) (words : List (List ℕ)) (l : Line) → line_of k words ≡ Some l → IsLine l (name_of k ∷ words)
unfolding line_of
is_line keyword.Version words l e =
    let b = bound (one short.read words) version_of l e in
    let v = version_read b.0 l b.2 in
    rw (← v.1) (record { spelled = is_read_1 short keyword.Version words b.0 b.1; kept = v.0 })
is_line keyword.Classes words l e = let m = mapped line.Classes (one short.read words) l e in rw (← m.2) (record { spelled = is_read_1 short keyword.Classes words m.0 m.1; kept = tt })
is_line keyword.Global words l e = let m = mapped line.Global (one short.read words) l e in rw (← m.2) (record { spelled = is_read_1 short keyword.Global words m.0 m.1; kept = tt })
is_line keyword.Entry words l e = let m = mapped line.Entry (one short.read words) l e in rw (← m.2) (record { spelled = is_read_1 short keyword.Entry words m.0 m.1; kept = tt })
is_line keyword.Function words l e = let m = mapped (λ x. line.Function x.0 x.1) (two byte.read byte.read words) l e in rw (← m.2) (record { spelled = is_read_2 byte byte keyword.Function words m.0 m.1; kept = tt })
is_line keyword.List words l e = let m = mapped (λ _. line.List) (no_word words) l e in rw (← m.2) (record { spelled = is_read_0 keyword.List words m.0 m.1; kept = tt })
is_line keyword.Root words l e = let m = mapped (λ x. line.Lock (lock.Root x)) (one effect.read words) l e in rw (← m.2) (record { spelled = is_read_1 effect keyword.Root words m.0 m.1; kept = tt })
is_line keyword.Class words l e = let m = mapped (λ x. line.Lock (lock.Class x.0 x.1)) (two short.read effect.read words) l e in rw (← m.2) (record { spelled = is_read_2 short effect keyword.Class words m.0 m.1; kept = tt })
is_line keyword.Expr words l e = let m = mapped line.Lock (expr_of words) l e in rw (← m.2) (is_expr words m.0 m.1)
is_line k words l e = let m = mapped line.Instruction (instr_of k words) l e in rw (← m.2) (record { spelled = is_instr k words m.0 m.1; kept = tt })

pub meaning_reads : (l : Line) (words : List (List ℕ)) → IsLine l words → meaning_of words ≡ Some l
unfolding meaning_of
meaning_reads l words h =
    let b = line_reads l words h in
    rw b.split (rw (name_read (line_name l)) b.found)

pub is_meaning : (words : List (List ℕ)) (l : Line) → meaning_of words ≡ Some l → IsLine l words
unfolding meaning_of
is_meaning [] l e = absurd (cc)
is_meaning (word ∷ words) l e =
    let b = bound (keyword_of word) (λ k. line_of k words) l e in
    rw (read_name word b.0 b.1) (is_line b.0 words l b.2)
