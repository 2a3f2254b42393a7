-- The inferred image of a lowering is verified.
use Rattle.std.proofs.Common.{◌≡◌, Bool, ℕ, suc, ◌+◌, ◌<◌, ◌≤◌, false, List, Some, length, slice_get, get_or, refl, ap, ap₂, sym, ◌∙◌, subst, inl, inr, arith}
use Rattle.std.specs.Prelude.{All, unwrap_or, option_map}
use Rattle.std.proofs.lemmas.Option.{slice_get_within}
use Rattle.asl_code.specs.Versions.{most_locks}
use Rattle.asl_code.proofs.Versions.{locks_of_newest}
use Rattle.asl_code.specs.Bodies.{first_of, total_len}
use Rattle.asl_code.specs.Fits.{LiesIn, FitsFunction, HasBase, HasLock, FitsBase, FitsLock, FitsInstr, FitsImage}
use Rattle.asl_code.specs.Verified.{is_end}
use Rattle.asl_code.specs.declared.image.Function as entry
use Rattle.asl_code.specs.declared.image.Image.{Image}
use Rattle.asl_code.specs.declared.instr.Instr.{Instr}
use Rattle.asl_code.specs.declared.instr.Instr.TheVariants as instr
use Rattle.asl_code.specs.declared.lock.Base.{Base}
use Rattle.asl_code.specs.declared.lock.Base.TheVariants.{Reg, Global}
use Rattle.asl_code.specs.declared.lock.Lock.{Lock}
use Rattle.asl_code.specs.declared.lock.Lock.TheVariants as lock
use Rattle.asl_lower.specs.declared.section.Section.{Section}
use Rattle.asl_lower.specs.Lowered.{Lowered}
use Rattle.asl_lower.specs.OpenSections.{InBody, FlowsTo}
use Rattle.asl_lower.specs.Regions.{Inside}
use Rattle.asl_lower.specs.LegalLowering.{IsLegalLowering}
use Rattle.asl_lower.specs.Facts.{HasLayout}
use Rattle.asl_lower.specs.Limits.{FitsTable}
use Rattle.asl_lower.specs.Operands.{HasOperands}
use Rattle.asl_points_to.specs.Classes.{Classed, AreClasses, to}
use Rattle.asl_points_to.proofs.CountedClasses.{member_below}
use Rattle.asl_lock_expr.specs.Links.{IsOne}
use Rattle.asl_backward_flow.specs.Needed.{Needed}
use Rattle.asl_soundness.specs.Coded.{classed}
use Rattle.asl_emitter.specs.Inferred.{IsInferred}
use Rattle.asl_emitter.specs.BuiltImage.{HasSites}
use Rattle.asl_emitter.proofs.There.{IsLockIn, IsBaseIn}
use Rattle.asl_emitter.proofs.Needing.{needed_in}
use Rattle.asl_emitter.proofs.Reducing.{one_at}
use Rattle.asl_emitter.proofs.Fits.{fitted_short, fitted_all}
use Rattle.asl_emitter.proofs.ClassBounds.{get_front, get_after, get_mapped, length_mapped, get_below, all_at, as_class_in}

module _ (l : Lowered) (c : Classed) (stores : ℕ → ℕ → Bool) (k_limit : ℕ) (image : Image) (kept : IsLegalLowering l) (are : AreClasses l c) (few : c.count ≤ 1024) (m : IsInferred l c stores k_limit image) where
  lay : HasLayout l
  lay = kept.layout

  code_length : length image.code ≡ length l.code
  code_length = ap (length {A = Instr}) m.code ∙ length_mapped (classed c) l.code

  globals_length : length image.globals ≡ l.globals
  globals_length = ap (length {A = ℕ}) m.globals ∙ are.least.legal.globals

  -- the section of a list
  section_at : (n : ℕ) (locks : List Lock) → slice_get image.lists n ≡ Some locks → (s : Section) × (slice_get l.sections n ≡ Some s)
  section_at n locks at = let lt = slice_get_within image.lists n locks at in let same = m.count in get_below l.sections n (omega (arith, lt, same))

  list_short : (n : ℕ) (locks : List Lock) → slice_get image.lists n ≡ Some locks → length locks ≤ 256
  list_short n locks at =
      let s = section_at n locks at in
      fitted_short c s.0.function 256 (Needed l c stores k_limit (Inside n) (suc s.0.acquire)) locks (omega arith) (m.lists n s.0 locks s.1 at)

  list_in : (n : ℕ) (s : Section) (locks : List Lock) (fn : entry.Function) → slice_get l.sections n ≡ Some s → slice_get image.lists n ≡ Some locks → slice_get l.functions s.function ≡ Some fn → (a : Lock) → IsOne locks a → IsLockIn c fn.regs a
  list_in n s locks fn there at function a o =
      fitted_all (IsLockIn c fn.regs) c s.function 256 (Needed l c stores k_limit (Inside n) (suc s.acquire)) locks (λ b h. needed_in l c stores k_limit kept are n (suc s.acquire) s fn b there function h)
      (λ b d h k. as_class_in l c are s.function fn.regs b d h k) (λ e. tt) (m.lists n s locks there at) a o

  base_fits : (fn : entry.Function) (b : Base) → IsBaseIn c fn.regs b → FitsBase image fn b
  base_fits fn (Reg r) h = h
  base_fits fn (Global g) h = let same = ap (length {A = ℕ}) m.globals in omega (arith, h, same)

  lock_fits : (fn : entry.Function) (a : Lock) → IsLockIn c fn.regs a → FitsLock image fn a
  lock_fits fn (lock.Root e) h = tt
  lock_fits fn (lock.Class x e) h = let same = m.classes in omega (arith, h, same)
  lock_fits fn (lock.Expr d e) h = base_fits fn d.base h

  lock_there : (fn : entry.Function) (a : Lock) → FitsLock image fn a → HasLock image a
  lock_there fn (lock.Root e) h = tt
  lock_there fn (lock.Class x e) h = h
  lock_there fn (lock.Expr d e) h = base_there d.base h
    where
      base_there : (b : Base) → FitsBase image fn b → HasBase image b
      base_there (Reg r) k = tt
      base_there (Global g) k = k

  -- the function of a section
  section_function : (n : ℕ) (s : Section) → slice_get l.sections n ≡ Some s → (fn : entry.Function) × (slice_get l.functions s.function ≡ Some fn)
  section_function n s there =
      let k = lay.sections.there n (slice_get_within l.sections n s there) in
      let same : k.section ≡ s = (let u : Some k.section ≡ Some s = sym k.in_table ∙ there in cc) in
      (k.first_inside.function, ap (λ (x : Section). slice_get l.functions x.function) (sym same) ∙ k.first_inside.in_table)

  list_fits : (n : ℕ) (locks : List Lock) → slice_get image.lists n ≡ Some locks → All (HasLock image) locks
  list_fits n locks at k d lt =
      let s = section_at n locks at in
      let fn = section_function n s.0 s.1 in
      lock_there fn.0 (get_or locks k d) (lock_fits fn.0 (get_or locks k d) (list_in n s.0 locks fn.0 s.1 at fn.1 (get_or locks k d) (one_at locks k d lt)))

  -- places in bodies
  abbrev in_body : (n pc : ℕ) (f : entry.Function) → LiesIn image n pc f → InBody l n pc
  in_body n pc f lies = record {
    function = f;
    in_table = ap (λ fs. slice_get fs n) (sym m.functions) ∙ lies.function;
    start = subst (λ fs. first_of fs n ≤ pc) m.functions lies.low;
    before_end = subst (λ fs. pc < first_of fs n + f.len) m.functions lies.high;
  }

  lies_in : (n pc : ℕ) (f : entry.Function) → slice_get image.functions n ≡ Some f → InBody l n pc → LiesIn image n pc f
  lies_in n pc f at body =
      let same : body.function ≡ f = (let u : Some body.function ≡ Some f = sym body.in_table ∙ ap (λ fs. slice_get fs n) (sym m.functions) ∙ at in cc) in
      record {
        function = at;
        low = subst (λ fs. first_of fs n ≤ pc) (sym m.functions) body.start;
        high = subst (λ fs. pc < first_of fs n + f.len) (sym m.functions) (subst (λ (g : entry.Function). pc < first_of l.functions n + g.len) same body.before_end);
      }

  new_class : (site : ℕ) → site < l.sites → unwrap_or (slice_get c.sites site) 0 < image.classes
  new_class site lt =
      let sites = are.least.legal.sites in
      let x = get_below c.sites site (omega (arith, lt, sites)) in
      let below = member_below l c are (length c.globals + site) x.0 (get_after c.globals c.sites site x.0 x.1) in
      let same = m.classes in
      let is : unwrap_or (slice_get c.sites site) 0 ≡ x.0 = ap (λ o. unwrap_or o 0) x.1 in
      omega (arith, below, same, is)

  acquire_fits : (n pc section : ℕ) (f : entry.Function) → LiesIn image n pc f → slice_get l.code pc ≡ Some (instr.Acquire section) → section < length l.sections → (locks : List Lock) × (slice_get image.lists section ≡ Some locks) × All (FitsLock image f) locks
  acquire_fits n pc section f lies at lt =
      let k = lay.sections.there section lt in
      let count = m.count in
      let locks = get_below image.lists section (omega (arith, lt, count)) in
      let entered = lay.sections.entered pc section at in
      let acquire : k.section.acquire ≡ pc = (let u : Some k.section.acquire ≡ Some pc = sym (ap (option_map (λ (s : Section). s.acquire)) k.in_table) ∙ entered in cc) in
      let here : InBody l k.section.function pc = subst (InBody l k.section.function) acquire k.first_inside in
      let same : k.section.function ≡ n = lay.parted.one_body pc k.section.function n here (in_body n pc f lies) in
      let function : slice_get l.functions k.section.function ≡ Some f = ap (slice_get l.functions) same ∙ ap (λ fs. slice_get fs n) (sym m.functions) ∙ lies.function in
      (locks.0, locks.1, λ j d small. lock_fits f (get_or locks.0 j d) (list_in section k.section locks.0 f k.in_table locks.1 function (get_or locks.0 j d) (one_at locks.0 j d small)))

  target_in : (n pc target : ℕ) (f : entry.Function) (i : Instr) → LiesIn image n pc f → slice_get l.code pc ≡ Some i → FlowsTo i pc target → LiesIn image n target f
  target_in n pc target f i lies at goes = lies_in n target f lies.function (lay.inside.body pc target n i (in_body n pc f lies) at goes)

  instr_fits : (n pc : ℕ) (f : entry.Function) → LiesIn image n pc f → (i : Instr) → slice_get l.code pc ≡ Some i → HasOperands l f.regs i → FitsInstr image n f (classed c i)
  instr_fits n pc f lies (instr.SetInt to value) at h = h
  instr_fits n pc f lies (instr.SetNull to) at h = h
  instr_fits n pc f lies (instr.Move to from) at h = h
  instr_fits n pc f lies (instr.Add to x y) at h = h
  instr_fits n pc f lies (instr.Subtract to x y) at h = h
  instr_fits n pc f lies (instr.LessThan to x y) at h = h
  instr_fits n pc f lies (instr.Equals to x y) at h = h
  instr_fits n pc f lies (instr.GlobalAddress to g) at h = let lt = h.1.0 in let same = globals_length in (h.0, (omega (arith, lt, same), tt))
  instr_fits n pc f lies (instr.FieldAddress to from offset) at h = h
  instr_fits n pc f lies (instr.Load to address) at h = h
  instr_fits n pc f lies (instr.Store address from) at h = h
  instr_fits n pc f lies (instr.New to cells site) at h = (h.0, (h.1.0, (new_class site h.1.1.0, tt)))
  instr_fits n pc f lies (instr.Jump target) at h = (target_in n pc target f (instr.Jump target) lies at refl, tt)
  instr_fits n pc f lies (instr.JumpIfZero test target) at h = (h.0, (target_in n pc target f (instr.JumpIfZero test target) lies at (inl refl), tt))
  instr_fits n pc f lies (instr.Call to first g) at h = (h.0, ((h.1.0.function, ap (λ fs. slice_get fs g) m.functions ∙ h.1.0.in_table, h.1.0.arguments), tt))
  instr_fits n pc f lies (instr.Return from) at h = h
  instr_fits n pc f lies (instr.Output from) at h = h
  instr_fits n pc f lies (instr.Acquire section) at h = (acquire_fits n pc section f lies at h.0, tt)
  instr_fits n pc f lies instr.Release at h = tt

  after : (i : Instr) (pc : ℕ) → is_end (classed c i) ≡ false → FlowsTo i pc (suc pc)
  after (instr.Jump target) pc e = cc
  after (instr.Return from) pc e = cc
  after (instr.JumpIfZero test target) pc e = inr refl
  after i pc e = refl

  goes_on : (n pc : ℕ) (f : entry.Function) (i : Instr) → LiesIn image n pc f → slice_get l.code pc ≡ Some i → is_end (classed c i) ≡ false → LiesIn image n (pc + 1) f
  goes_on n pc f i lies at e =
      let same : suc pc ≡ pc + 1 = omega arith in
      subst (λ q. LiesIn image n q f) same (target_in n pc (suc pc) f i lies at (after i pc e))

  main_there : (f : entry.Function) × (slice_get image.functions image.start ≡ Some f) × (f.params ≡ 1)
  main_there = (lay.main.function, ap₂ (λ fs k. slice_get fs k) m.functions m.start ∙ lay.main.in_table, lay.main.one_parameter)

  function_fits : (n : ℕ) (f : entry.Function) → slice_get image.functions n ≡ Some f → FitsFunction f
  function_fits n f at =
      let there : slice_get l.functions n ≡ Some f = ap (λ fs. slice_get fs n) (sym m.functions) ∙ at in
      let t = all_at FitsTable l.functions n f lay.limits.functions there in
      record { some = t.some_code; params = t.parameters; few_params = t.few_parameters; few_regs = all_at (λ (g : entry.Function). g.regs ≤ 64) l.functions n f kept.few_registers there }

  pub inferred_fits : FitsImage image
  inferred_fits = record {
    version = inr m.version;
    few_classes = (let same = m.classes in omega (arith, same, few));
    few_globals = (let same = globals_length in let small = lay.limits.few_globals in omega (arith, same, small));
    few_functions = subst (λ fs. length fs ≤ 256) (sym m.functions) lay.limits.few_functions;
    few_instrs = (let same = code_length in let small = kept.size in omega (arith, same, small));
    few_lists = (let same = m.count in let small = lay.limits.few_sections in omega (arith, same, small));
    global_fits = λ n class at. (let below = member_below l c are n class (get_front c.globals c.sites n class (ap (λ xs. slice_get xs n) (sym m.globals) ∙ at)) in let same = m.classes in omega (arith, below, same));
    few_locks = λ n locks at. (let short = list_short n locks at in let most = ap most_locks m.version ∙ locks_of_newest in omega (arith, short, most));
    list_fits = list_fits;
    entry = main_there;
    function_fits = function_fits;
    total = ap total_len m.functions ∙ lay.parted.total ∙ sym code_length;
    instr_fits = λ n pc f i lies at.
        (let own = get_mapped (classed c) l.code pc i (ap (λ is. slice_get is pc) (sym m.code) ∙ at) in
        let body = in_body n pc f lies in
        subst (FitsInstr image n f) own.2 (instr_fits n pc f lies own.0 own.1 (lay.operands pc n f own.0 body body.in_table own.1)));
    goes_on = λ n pc f i lies at e.
        (let own = get_mapped (classed c) l.code pc i (ap (λ is. slice_get is pc) (sym m.code) ∙ at) in
        goes_on n pc f own.0 lies own.1 (ap is_end own.2 ∙ e));
  }

-- the sites of the code have classes
pub has_sites : (l : Lowered) (c : Classed) → IsLegalLowering l → AreClasses l c → HasSites l.code c
has_sites l c kept are pc to cells site at =
    let lt = kept.layout.numbered.known_sites pc to cells site at in
    let same = are.least.legal.sites in
    omega (arith, lt, same)
