-- An image whose lists cover what their own expressions read is guarded: who is granted the list of a section covers the
-- cells that its expressions read.
use Rattle.std.proofs.Common.{◌≡◌, ◌<◌, ℕ, suc, Bool, List, [], ◌∷◌, ◌++◌, Option, None, Some, length, get_or, slice_get, unwrap_or, refl, ap, ◌∙◌, subst, inl, inr, arith}
use Rattle.std.specs.Prelude.{All}
use Rattle.std.proofs.lemmas.Option.{slice_get_within}
use Rattle.asl_code.specs.declared.image.Image.{Image}
use Rattle.asl_code.specs.declared.instr.Instr.{Instr}
use Rattle.asl_code.specs.declared.instr.Instr.TheVariants as instr
use Rattle.asl_code.specs.declared.lock.Base.{Base}
use Rattle.asl_code.specs.declared.lock.Base.TheVariants.{Reg, Global}
use Rattle.asl_code.specs.declared.lock.Lock.{Lock}
use Rattle.asl_code.specs.declared.lock.Lock.TheVariants as lock
use Rattle.asl_code.specs.declared.path.Op.{Op}
use Rattle.asl_code.specs.declared.path.Op.TheVariants.{Deref, Off}
use Rattle.asl_code.specs.Fits.{HasBase, HasLock}
use Rattle.asl_lock_forest.specs.Holding.{Holding, grant}
use Rattle.asl_lower.specs.declared.section.Section.{Section}
use Rattle.asl_lower.specs.Lowered.{Lowered}
use Rattle.asl_lower.specs.OpenSections.{InBody}
use Rattle.asl_lower.proofs.Owner.{from_mapped}
use Rattle.asl_lower.proofs.Inside.{told as section_told}
use Rattle.asl_points_to.specs.Classes.{Classed}
use Rattle.asl_lock_expr.specs.Links.{IsOne, prefixes, dereferenced}
use Rattle.asl_lock_expr.proofs.Ones.{flat_from, flat_of}
use Rattle.asl_backward_flow.specs.Needed.{Needed}
use Rattle.asl_machine.specs.State.{Activity, State}
use Rattle.asl_machine.specs.Request.{request_of}
use Rattle.asl_machine.specs.Cover.{cover}
use Rattle.asl_machine.proofs.Following.{outside_here}
use Rattle.asl_machine.proofs.Invariant.{here_of}
use Rattle.asl_soundness.proofs.Analysed.{IsAnalysed}
use Rattle.asl_soundness.specs.Covering.{CoversLock}
use Rattle.asl_soundness.specs.Protected.{Protected, BaseThere, LockThere}
use Rattle.asl_soundness.proofs.Standing.{lowered_at}
use Rattle.asl_soundness.proofs.Entering.{granted_protects}
use Rattle.asl_soundness.proofs.Sections.{Ready, own_view, stands, layout, body}
use Rattle.asl_soundness.proofs.Soundness.{reached_good}
use Rattle.asl_atomicity.specs.Serial.{HasSerialRuns, IsAtEntry, IsGuarded, ListCovered}
use Rattle.asl_atomicity.specs.Renamed.{HasSerialRunsUpTo}
use Rattle.asl_atomicity.proofs.ByTable.{end_reached, runs_serial, runs_serial_up_to}
use Rattle.asl_emitter.proofs.Guarding.{is_acquire, reads_covered}
use Rattle.asl_check.specs.Checked.{reads_of, AreGuarded}

-- what a prefix begins on is there
prefix_there : (c : Classed) (base : Base) (done ops : List Op) (n : Lock) → BaseThere c base → IsOne (prefixes base done ops) n → LockThere c n
prefix_there c base done [] n there o = absurd o
prefix_there c base done (Off places ∷ ops) n there o = prefix_there c base (done ++ Off places ∷ []) ops n there o
prefix_there c base done (Deref ∷ ops) n there (inl e) = subst (LockThere c) e there
prefix_there c base done (Deref ∷ ops) n there (inr o) = prefix_there c base (done ++ Deref ∷ []) ops n there o

base_there : (c : Classed) (image : Image) → image.globals ≡ c.globals → (b : Base) → HasBase image b → BaseThere c b
base_there c image same (Reg r) h = tt
base_there c image same (Global g) h = subst (λ (gs : List ℕ). g < length gs) same h

read_there : (c : Classed) (image : Image) → image.globals ≡ c.globals → (m n : Lock) → HasLock image m → IsOne (dereferenced m) n → LockThere c n
read_there c image same (lock.Expr e effect) n has o = prefix_there c e.base [] e.path n (base_there c image same e.base has) o
read_there c image same (lock.Class class effect) n has o = absurd o
read_there c image same (lock.Root effect) n has o = absurd o

-- where one of a list stands
one_place : (xs : List Lock) (m : Lock) → IsOne xs m → (k : ℕ) × (k < length xs) × (get_or xs k m ≡ m)
one_place [] m o = absurd o
one_place (x ∷ xs) m (inl e) = (0, omega arith, e)
one_place (x ∷ xs) m (inr o) = let p = one_place xs m o in let lt = p.1 in (suc p.0, omega (arith, lt), p.2)

one_all : (P : Lock → Type 0) (xs : List Lock) → All P xs → (m : Lock) → IsOne xs m → P m
one_all P xs all m o = let p = one_place xs m o in subst P p.2 (all p.0 m p.1)

module _ (l : Lowered) (c : Classed) (stores : ℕ → ℕ → Bool) (k_limit : ℕ) (image : Image) (A : IsAnalysed l c stores k_limit (Needed l c stores k_limit) image) (G : AreGuarded l c image.lists (length l.sections)) where
  module _ (s : State) (t list : ℕ) (a : Activity) (q : Ready l c stores k_limit (Needed l c stores k_limit) image s t a) (entry : IsAtEntry image s t list a) (section : Section) (there : slice_get l.sections list ≡ Some section) (starts : section.acquire ≡ a.top.pc) (locks : List Lock) (listed : slice_get image.lists list ≡ Some locks) where
    abbrev Granted : Holding
    Granted = grant s.holding t (request_of s.objects a.top.regs locks)

    function_here : section.function ≡ a.top.function
    function_here =
        let lay = layout l c stores k_limit (Needed l c stores k_limit) image s t a q in
        lay.parted.one_body a.top.pc section.function a.top.function (subst (InBody l section.function) starts (section_told l lay list section there).first_inside) (body l c stores k_limit (Needed l c stores k_limit) image s t a q)

    read_protected : (n : Lock) → IsOne (reads_of locks) n → Protected (cover Granted []) t s.objects a.top.regs n
    read_protected n o =
        let over = G list (slice_get_within l.sections list section there) section locks there listed n o in
        let from = flat_from locks n o in
        let named = one_all (HasLock image) locks (A.made.fits.list_fits list locks listed) from.0 from.1 in
        granted_protects (own_view l c stores k_limit (Needed l c stores k_limit) image s t a q) s.holding [] t s.objects a.top.regs locks (outside_here image s t a q.here entry.depth)
        (stands l c stores k_limit (Needed l c stores k_limit) image s t a q) over.0 n over.1 (read_there c image A.made.globals from.0 n named from.2) (subst (λ f. CoversLock c f over.0 n) function_here over.2)

    list_covered : (ls : List Lock) → ((n : Lock) → IsOne ls n → IsOne locks n) → ListCovered Granted t s.objects a.top.regs ls
    list_covered [] within = tt
    list_covered (lock.Expr e effect ∷ ls) within = (
      reads_covered Granted t s.objects a.top.regs e.base [] e.path (λ n o. read_protected n (flat_of locks (lock.Expr e effect) n (within (lock.Expr e effect) (inl refl)) o)),
      list_covered ls (λ n o. within n (inr o)),
    )
    list_covered (lock.Class class effect ∷ ls) within = list_covered ls (λ n o. within n (inr o))
    list_covered (lock.Root effect ∷ ls) within = list_covered ls (λ n o. within n (inr o))

  pub is_guarded : (count : ℕ) → IsGuarded image count
  is_guarded count run s t list a led entry granted =
      let reached = end_reached image count run s A.made.fits led in
      let good = reached_good l c stores k_limit (Needed l c stores k_limit) image A count s reached in
      let here = here_of image s t a good.structured.sound entry.runs in
      let q : Ready l c stores k_limit (Needed l c stores k_limit) image s t a = record { program = A; structured = good.structured; here = here; has = good.has t a here.is } in
      let i = lowered_at l c image A.made a.top.pc (instr.Acquire list) entry.at in
      let at : slice_get l.code a.top.pc ≡ Some (instr.Acquire list) = i.1 ∙ ap (λ (j : Instr). Some j) (is_acquire c i.0 list i.2) in
      let lay = layout l c stores k_limit (Needed l c stores k_limit) image s t a q in
      let e = from_mapped (λ (z : Section). z.acquire) (slice_get l.sections list) a.top.pc (lay.sections.entered a.top.pc list at) in
      by_list s t list a q entry e.0 e.1 e.2 (slice_get image.lists list) refl
    where
      by_list : (s : State) (t list : ℕ) (a : Activity) (q : Ready l c stores k_limit (Needed l c stores k_limit) image s t a) → IsAtEntry image s t list a → (section : Section) → slice_get l.sections list ≡ Some section → section.acquire ≡ a.top.pc →
          (o : Option (List Lock)) → slice_get image.lists list ≡ o → ListCovered (grant s.holding t (request_of s.objects a.top.regs (unwrap_or o []))) t s.objects a.top.regs (unwrap_or o [])
      by_list s t list a q entry section there starts None e = tt
      by_list s t list a q entry section there starts (Some locks) e = list_covered s t list a q entry section there starts locks e locks (λ n o. o)

  -- so each of its runs has a serial one
  pub guarded_serial : (count : ℕ) → HasSerialRuns image count
  guarded_serial count = runs_serial image count A.made.fits (is_guarded count)

  -- the same up to the numbers of objects, where sections make some
  pub guarded_serial_up_to : (count : ℕ) → HasSerialRunsUpTo image count
  guarded_serial_up_to count = runs_serial_up_to image count A.made.fits (is_guarded count)
