-- What needed locks name is there.
use Rattle.std.proofs.Common.{◌≡◌, ⊎_elim, ℕ, ◌+◌, ◌<◌, ◌≤◌, ◌&&◌, ◌++◌, Bool, true, false, cond, List, [], ◌∷◌, Option, Some, None, length, slice_get, refl, ap, sym, ◌∙◌, subst, inl, inr, arith, length-append}
use Rattle.std.specs.Prelude.{nat_le, nat_lt, option_and_then}
use Rattle.std.specs.List.{flat_map}
use Rattle.std.proofs.lemmas.Bool.{leb-true, ltb-true}
use Rattle.std.proofs.lemmas.Option.{slice_get_within}
use Rattle.asl_code.specs.declared.image.Function as entry
use Rattle.asl_code.specs.declared.instr.Instr.{Instr}
use Rattle.asl_code.specs.declared.instr.Instr.TheVariants as instr
use Rattle.asl_code.specs.declared.value.Effect.{Effect}
use Rattle.asl_code.specs.declared.value.Effect.TheVariants.{Read, Write}
use Rattle.asl_code.specs.declared.lock.Base.{Base}
use Rattle.asl_code.specs.declared.lock.Base.TheVariants.{Reg, Global}
use Rattle.asl_code.specs.declared.lock.Expr.{Expr}
use Rattle.asl_code.specs.declared.lock.Lock.{Lock}
use Rattle.asl_code.specs.declared.lock.Lock.TheVariants as lock
use Rattle.asl_code.specs.declared.path.Op.{Op}
use Rattle.asl_code.specs.declared.path.Op.TheVariants.{Deref, Off}
use Rattle.asl_lower.specs.declared.section.Section.{Section}
use Rattle.asl_lower.specs.Lowered.{Lowered}
use Rattle.asl_lower.specs.Operands.{HasOperands}
use Rattle.asl_lower.specs.OpenSections.{InBody}
use Rattle.asl_lower.specs.Regions.{Region, Body, Inside, IsIn, Between}
use Rattle.asl_lower.specs.LegalLowering.{IsLegalLowering}
use Rattle.asl_points_to.specs.Classes.{Classed, to, AreClasses}
use Rattle.asl_points_to.proofs.CountedClasses.{member_below, register_below, cell_below}
use Rattle.asl_lock_expr.specs.ClassOf.{base_class, step_class, path_class, class_of}
use Rattle.asl_lock_expr.specs.Links.{LinkContext, view, IsOne, on, class_lock, settled, settle, is_register, is_star, is_class, begins_with_star, hits, replaced, before, link, accesses, renamed, renamed_on, dereferenced, IsSettled}
use Rattle.asl_lock_expr.proofs.Ones.{one_either}
use Rattle.asl_lock_expr.proofs.Leaves.{settled_well, linked_well, prefix_is, no_root, no_class_lock, front_class}
use Rattle.asl_backward_flow.specs.Needed.{Needed, Accessed, Linked, Entered, Before}
use Rattle.asl_backward_flow.specs.Based.{HasBase, IsLockOf}
use Rattle.asl_backward_flow.proofs.Leasts.{needed_inside}
use Rattle.asl_backward_flow.proofs.Sets.{some_same, at_front}

accessed_well : (v : LinkContext) (i : Instr) (n : Lock) → IsOne (accesses v i) n → IsSettled v n
accessed_well v (instr.Load a b) n o = settled_well v (on (Reg b) [] Read) n o
accessed_well v (instr.Store a b) n o = settled_well v (on (Reg a) [] Write) n o
accessed_well v i n o = absurd o

-- a region lies in one function
one_function : (l : Lowered) (r : Region) (f g pc q : ℕ) → IsIn l r f pc → IsIn l r g q → f ≡ g
one_function l (Body h) f g pc q a b = a.0 ∙ sym b.0
one_function l (Inside n) f g pc q a b = between_one a b
  where
    between_one : Between l n f pc → Between l n g q → f ≡ g
    between_one x y = sym x.function ∙ ap (λ o. function_at o) (sym x.in_table ∙ y.in_table) ∙ y.function
      where
        function_at : Option Section → ℕ
        function_at None = 0
        function_at (Some s) = s.function

-- and each of its points in that function's body
in_body : (l : Lowered) → IsLegalLowering l → (r : Region) (f pc : ℕ) → IsIn l r f pc → InBody l f pc
in_body l kept (Body g) f pc isin = subst (λ h. InBody l h pc) (sym isin.0) isin.2
in_body l kept (Inside n) f pc isin = between_body isin
  where
    between_body : Between l n f pc → InBody l f pc
    between_body b =
        let section = kept.layout.sections.there n (slice_get_within l.sections n b.is b.in_table) in
        let is : section.section ≡ b.is = some_same (sym section.in_table ∙ b.in_table) in
        let here : section.section.function ≡ f = ap (λ (s : Section). s.function) is ∙ b.function in
        let start = section.first_inside.start in
        let end = section.last_inside.before_end in
        let same : section.last_inside.function ≡ section.first_inside.function = some_same (sym section.last_inside.in_table ∙ section.first_inside.in_table) in
        let behind = subst (λ (s : Section). s.acquire < pc) (sym is) b.behind in
        let ahead = subst (λ (s : Section). pc < s.release) (sym is) b.ahead in
        let len = ap (λ (e : entry.Function). e.len) same in
        subst (λ h. InBody l h pc) here (record { function = section.first_inside.function; in_table = section.first_inside.in_table; start = omega (arith, start, behind); before_end = omega (arith, end, ahead, len) })

module _ (l : Lowered) (c : Classed) (stores : ℕ → ℕ → Bool) (k_limit : ℕ) (kept : IsLegalLowering l) (classes : AreClasses l c) where
  -- a class that is there, if one is
  abbrev Bounded : Option ℕ → Type 0
  Bounded o = (x : ℕ) → o ≡ Some x → x < c.count

  base_bounded : (f : ℕ) (b : Base) → Bounded (base_class c f b)
  base_bounded f (Reg register) x e = register_below l c classes f register x e
  base_bounded f (Global global) x e = member_below l c classes global x (at_front c.globals c.sites global x e)

  step_bounded : (op : Op) (o : Option ℕ) → Bounded o → Bounded (option_and_then (step_class c op) o)
  step_bounded op None below x e = absurd cc
  step_bounded Deref (Some k) below x e = cell_below l c classes k x e
  step_bounded (Off places) (Some k) below x e = below x e

  path_bounded : (ops : List Op) (o : Option ℕ) → Bounded o → Bounded (path_class c ops o)
  path_bounded [] o below = below
  path_bounded (op ∷ ops) o below = path_bounded ops (option_and_then (step_class c op) o) (step_bounded op o below)

  class_bounded : (f : ℕ) (e : Expr) → Bounded (class_of c f e)
  class_bounded f e = path_bounded e.path (base_class c f e.base) (base_bounded f e.base)

  abbrev seen : ℕ → LinkContext
  seen f = view c stores k_limit f

  -- a class that is there, or an expression whose base is
  abbrev Rough : ℕ → Lock → Type 0
  Rough f (lock.Root effect) = ⊥
  Rough f (lock.Class class effect) = class < c.count
  Rough f (lock.Expr e effect) = HasBase l f e.base

  abbrev AllRough : ℕ → List Lock → Type 0
  AllRough f locks = (m : Lock) → IsOne locks m → Rough f m

  none_rough : (f : ℕ) → AllRough f []
  none_rough f m o = absurd o

  one_rough : (f : ℕ) (n : Lock) → Rough f n → AllRough f (n ∷ [])
  one_rough f n rough m (inl is) = subst (Rough f) is rough
  one_rough f n rough m (inr o) = absurd o

  both_rough : (f : ℕ) (ms ns : List Lock) → AllRough f ms → AllRough f ns → AllRough f (ms ++ ns)
  both_rough f ms ns a b m o = ⊎_elim (λ x. a m x) (λ y. b m y) (one_either ms ns m o)

  either_rough : (f : ℕ) (b : Bool) (ms ns : List Lock) → AllRough f ms → AllRough f ns → AllRough f (cond b ms ns)
  either_rough f true ms ns x y = x
  either_rough f false ms ns x y = y

  class_rough : (f : ℕ) (effect : Effect) (o : Option ℕ) → Bounded o → AllRough f (class_lock effect o)
  class_rough f effect None below = none_rough f
  class_rough f effect (Some x) below = one_rough f (lock.Class x effect) (below x refl)

  settled_rough : (f : ℕ) (e : Expr) (effect : Effect) (o : Option ℕ) → Bounded o → HasBase l f e.base → AllRough f (settled (seen f) e effect o)
  settled_rough f e effect None below base = none_rough f
  settled_rough f e effect (Some x) below base = one_rough f _ (by (nat_le (length e.path) k_limit))
    where
      by : (b : Bool) → Rough f (cond b (lock.Expr e effect) (lock.Class x effect))
      by true = base
      by false = below x refl

  settle_rough : (f : ℕ) (m : Lock) → Rough f m → AllRough f (settle (seen f) m)
  settle_rough f (lock.Root effect) rough = absurd rough
  settle_rough f (lock.Class x effect) rough = one_rough f (lock.Class x effect) rough
  settle_rough f (lock.Expr e effect) rough = settled_rough f e effect (class_of c f e) (class_bounded f e) rough

  all_settle_rough : (f : ℕ) (ms : List Lock) → AllRough f ms → AllRough f (flat_map (settle (seen f)) ms)
  all_settle_rough f [] all = none_rough f
  all_settle_rough f (m ∷ ms) all = both_rough f (settle (seen f) m) (flat_map (settle (seen f)) ms) (settle_rough f m (all m (inl refl))) (all_settle_rough f ms (λ n o. all n (inr o)))

  replaced_rough : (f a : ℕ) (e : Expr) (effect : Effect) (locks : List Lock) → HasBase l f e.base → AllRough f locks → AllRough f (replaced a e effect locks)
  replaced_rough f a e effect locks base all = either_rough f (is_register a e.base) locks (lock.Expr e effect ∷ []) all (one_rough f (lock.Expr e effect) base)

  hits_rough : (f b : ℕ) → HasBase l f (Reg b) → (hit : Option ℕ) (effect : Effect) (class : Option ℕ) (ops : List Op) → AllRough f (hits c hit b effect class ops)
  hits_rough f b base hit effect class [] = none_rough f
  hits_rough f b base hit effect class (op ∷ ops) =
      both_rough f (cond (is_star op && is_class class hit) (on (Reg b) ops effect ∷ []) []) (hits c hit b effect (option_and_then (step_class c op) class) ops)
      (either_rough f (is_star op && is_class class hit) (on (Reg b) ops effect ∷ []) [] (one_rough f (on (Reg b) ops effect) base) (none_rough f))
      (hits_rough f b base hit effect (option_and_then (step_class c op) class) ops)

  module _ (f : ℕ) (fn : entry.Function) (there : slice_get l.functions f ≡ Some fn) where
    register : (n : ℕ) → n < fn.regs → HasBase l f (Reg n)
    register n lt = (fn, there, lt)

    before_rough : (i : Instr) (e : Expr) (effect : Effect) → HasOperands l fn.regs i → HasBase l f e.base → AllRough f (before (seen f) i e effect)
    before_rough (instr.Move a b) e effect ops base = replaced_rough f a e effect _ base (one_rough f (on (Reg b) e.path effect) (register b ops.1.0))
    before_rough (instr.GlobalAddress a g) e effect ops base = replaced_rough f a e effect _ base (one_rough f (on (Global g) e.path effect) ops.1.0)
    before_rough (instr.FieldAddress a b d) e effect ops base = replaced_rough f a e effect _ base (one_rough f (on (Reg b) (Off d ∷ e.path) effect) (register b ops.1.0))
    before_rough (instr.Load a b) e effect ops base = replaced_rough f a e effect _ base (one_rough f (on (Reg b) (Deref ∷ e.path) effect) (register b ops.1.0))
    before_rough (instr.SetInt a n) e effect ops base = replaced_rough f a e effect [] base (none_rough f)
    before_rough (instr.SetNull a) e effect ops base = replaced_rough f a e effect [] base (none_rough f)
    before_rough (instr.Add a x y) e effect ops base = replaced_rough f a e effect [] base (none_rough f)
    before_rough (instr.Subtract a x y) e effect ops base = replaced_rough f a e effect [] base (none_rough f)
    before_rough (instr.LessThan a x y) e effect ops base = replaced_rough f a e effect [] base (none_rough f)
    before_rough (instr.Equals a x y) e effect ops base = replaced_rough f a e effect [] base (none_rough f)
    before_rough (instr.New a n s) e effect ops base = replaced_rough f a e effect [] base (none_rough f)
    before_rough (instr.Store a b) e effect ops base =
        both_rough f (cond (is_register a e.base && begins_with_star e.path) [] (lock.Expr e effect ∷ [])) (hits c (to c f a) b effect (base_class c f e.base) e.path)
        (either_rough f (is_register a e.base && begins_with_star e.path) [] (lock.Expr e effect ∷ []) (none_rough f) (one_rough f (lock.Expr e effect) base))
        (hits_rough f b (register b ops.1.0) (to c f a) effect (base_class c f e.base) e.path)
    before_rough (instr.Call a b g) e effect ops base =
        either_rough f _ (class_lock effect (class_of c f e)) (lock.Expr e effect ∷ []) (class_rough f effect (class_of c f e) (class_bounded f e)) (one_rough f (lock.Expr e effect) base)
    before_rough i e effect ops base = one_rough f (lock.Expr e effect) base

    link_rough : (i : Instr) (m : Lock) → HasOperands l fn.regs i → Rough f m → AllRough f (link (seen f) i m)
    link_rough i (lock.Root effect) ops rough = absurd rough
    link_rough i (lock.Class x effect) ops rough = one_rough f (lock.Class x effect) rough
    link_rough i (lock.Expr e effect) ops rough = all_settle_rough f (before (seen f) i e effect) (before_rough i e effect ops rough)

    accesses_rough : (i : Instr) → HasOperands l fn.regs i → AllRough f (accesses (seen f) i)
    accesses_rough (instr.Load a b) ops = settle_rough f (on (Reg b) [] Read) (register b ops.1.0)
    accesses_rough (instr.Store a b) ops = settle_rough f (on (Reg a) [] Write) (register a ops.0)
    accesses_rough i ops = none_rough f

    renamed_on_rough : (g first params : ℕ) → first + params ≤ fn.regs → (b : Base) (path : List Op) (effect : Effect) → HasBase l g b → AllRough f (renamed_on first params b path effect)
    renamed_on_rough g first params within (Global n) path effect base = one_rough f (on (Global n) path effect) base
    renamed_on_rough g first params within (Reg n) path effect base = by (nat_lt n params) refl
      where
        by : (b : Bool) → nat_lt n params ≡ b → AllRough f (cond b (on (Reg (first + n)) path effect ∷ []) [])
        by true is = one_rough f (on (Reg (first + n)) path effect) (register (first + n) (let lt = ltb-true n params is in omega (arith, lt, within)))
        by false is = none_rough f

    renamed_rough : (g first params : ℕ) → first + params ≤ fn.regs → (m : Lock) → Rough g m → AllRough f (renamed first params m)
    renamed_rough g first params within (lock.Root effect) rough = absurd rough
    renamed_rough g first params within (lock.Class x effect) rough = one_rough f (lock.Class x effect) rough
    renamed_rough g first params within (lock.Expr e effect) rough = renamed_on_rough g first params within e.base e.path effect rough

  rough_of : (f : ℕ) (m : Lock) → IsLockOf l c k_limit f m → Rough f m
  rough_of f (lock.Root effect) is = is
  rough_of f (lock.Class x effect) is = is
  rough_of f (lock.Expr e effect) is = is.0

  -- what is settled besides
  lock_of : (f : ℕ) (m : Lock) → Rough f m → IsSettled (seen f) m → IsLockOf l c k_limit f m
  lock_of f (lock.Root effect) rough well = rough
  lock_of f (lock.Class x effect) rough well = rough
  lock_of f (lock.Expr e effect) rough well = (rough, leb-true (length e.path) k_limit well.0, (well.1.0, well.1.1, class_bounded f e well.1.0 well.1.1))

  prefix_of : (f : ℕ) (m n : Lock) → IsLockOf l c k_limit f m → IsOne (dereferenced m) n → IsLockOf l c k_limit f n
  prefix_of f (lock.Root effect) n is o = absurd o
  prefix_of f (lock.Class x effect) n is o = absurd o
  prefix_of f (lock.Expr e effect) (lock.Root other) is o = absurd (no_root e.base [] e.path other o)
  prefix_of f (lock.Expr e effect) (lock.Class x other) is o = absurd (no_class_lock e.base [] e.path x other o)
  prefix_of f (lock.Expr e effect) (lock.Expr k other) is o =
      let p = prefix_is e.base [] e.path k other o in
      let front : Expr = record { base = e.base; path = p.0 } in
      let class = front_class c p.0 (Deref ∷ p.1) (base_class c f e.base) is.2.0 (ap (λ ops. path_class c ops (base_class c f e.base)) (sym p.4) ∙ is.2.1) in
      let short : length p.0 ≤ k_limit = (let s = ap length p.4 ∙ length-append p.0 (Deref ∷ p.1) in let within = is.1 in omega (arith, s, within)) in
      subst (λ (y : Expr). IsLockOf l c k_limit f (lock.Expr y other)) (sym p.3) (is.0, short, (class.0, class.1, class_bounded f front class.0 class.1))

  abbrev Operands : ℕ → Instr → Type 0
  Operands f i = (fn : entry.Function) × (slice_get l.functions f ≡ Some fn) × HasOperands l fn.regs i

  operands_at : (r : Region) (f pc : ℕ) (i : Instr) → IsIn l r f pc → slice_get l.code pc ≡ Some i → Operands f i
  operands_at r f pc i isin at =
      let body = in_body l kept r f pc isin in
      (body.function, body.in_table, kept.layout.operands pc f body.function i body body.in_table at)

  entered_rough : (f g into first : ℕ) (callee : entry.Function) → Operands f (instr.Call into first g) → slice_get l.functions g ≡ Some callee → (m : Lock) → Rough g m → AllRough f (renamed first callee.params m)
  entered_rough f g into first callee ops there m rough =
      let has = ops.2.1.0 in
      let same : has.function ≡ callee = some_same (sym has.in_table ∙ there) in
      let within : first + callee.params ≤ ops.0.regs = subst (λ (e : entry.Function). first + e.params ≤ ops.0.regs) same has.arguments in
      renamed_rough f ops.0 ops.1 g first callee.params within m rough

  pub needed_of : (r : Region) (pc : ℕ) (n : Lock) → Needed l c stores k_limit r pc n → (f q : ℕ) → IsIn l r f q → IsLockOf l c k_limit f n
  needed_of _ _ _ (Accessed r f pc i n isin at o) g q in_g =
      let ops = operands_at r f pc i isin at in
      subst (λ h. IsLockOf l c k_limit h n) (one_function l r f g pc q isin in_g) (lock_of f n (accesses_rough f ops.0 ops.1 i ops.2 n o) (accessed_well (seen f) i n o))
  needed_of _ _ _ (Linked r f pc next i m n isin at goes k o) g q in_g =
      let ops = operands_at r f pc i isin at in
      let was = rough_of f m (needed_of r next m k f pc isin) in
      subst (λ h. IsLockOf l c k_limit h n) (one_function l r f g pc q isin in_g) (lock_of f n (link_rough f ops.0 ops.1 i m ops.2 was n o) (linked_well (seen f) i m n o))
  needed_of _ _ _ (Entered r f pc to first h callee m p n isin at there k o s) g q in_g =
      let inside = needed_inside l c stores k_limit (Body h) _ m k in
      let was = rough_of h m (subst (λ x. IsLockOf l c k_limit x m) inside.1.0 (needed_of (Body h) _ m k inside.0 _ inside.1)) in
      let passed = entered_rough f h to first callee (operands_at r f pc (instr.Call to first h) isin at) there m was p o in
      subst (λ x. IsLockOf l c k_limit x n) (one_function l r f g pc q isin in_g) (lock_of f n (settle_rough f p passed n s) (settled_well (seen f) p n s))
  needed_of _ _ _ (Before r pc m n k o) g q in_g = prefix_of g m n (needed_of r pc m k g q in_g) o
