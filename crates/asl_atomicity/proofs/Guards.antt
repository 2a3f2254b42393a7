-- Guarded entries: a step inside a section changes neither what another thread's entry asks for nor whether it is granted.
use Rattle.std.proofs.Common.{◌≡◌, ◌≢◌, ℕ, Bool, true, false, List, [], Some, Ok, Err, slice_get, length, unwrap_or, refl, ap, sym, ◌∙◌, subst, inl, inr, arith}
use Rattle.std.specs.Prelude.{option_and_then}
use Rattle.std.specs.Option.{option_map_or}
use Rattle.asl_code.specs.declared.image.Image.{Image}
use Rattle.asl_code.specs.declared.instr.Instr.TheVariants as instr
use Rattle.asl_code.specs.declared.value.Cell.{Cell}
use Rattle.asl_code.specs.declared.value.Effect.TheVariants.{Write}
use Rattle.asl_code.specs.declared.lock.Lock.{Lock}
use Rattle.asl_lock_forest.specs.Holding.{IsLawful, Covers, is_covered, grant, can_grant}
use Rattle.asl_lock_forest.proofs.Lawful.{lawful_grant}
use Rattle.asl_lock_forest.proofs.NinePairs.{nine_pairs}
use Rattle.asl_machine.specs.State.{Running, Activity, State, class_of, activity_of}
use Rattle.asl_machine.specs.Cover.{is_fresh, cover, Allows}
use Rattle.asl_machine.specs.Fresh.{IsFreshFor, AreApart}
use Rattle.asl_machine.proofs.Freshness.{or_split}
use Rattle.asl_machine.specs.Request.{request_of, locks_of}
use Rattle.asl_code.specs.declared.image.Function.{Function}
use Rattle.asl_code.specs.Fits.{FitsImage, LiesIn}
use Rattle.asl_machine.specs.StepFunction.{made_objects, Stepped, acquire_fate, reply_of, turn_by, left_at, step_at, step_of}
use Rattle.asl_lock_forest.proofs.Grantable.{CanGrant-tested, can_grant-tells}
use Rattle.asl_machine.proofs.RootedRequests.{request_is_rooted}
use Rattle.asl_machine.proofs.RequestEntries.{request_asks_modes}
use Rattle.asl_machine.proofs.Following.{outside_here}
use Rattle.asl_machine.proofs.Invariant.{here_of, instr_here}
use Rattle.asl_machine.proofs.StepLeaves.{no_depth}
use Rattle.asl_atomicity.specs.Serial.{heard, ListCovered}
use Rattle.asl_atomicity.proofs.Computed.{IsGuarded}
use Rattle.asl_atomicity.proofs.Swapping.{EntriesUnseen}
use Rattle.asl_atomicity.proofs.Uniform.{ObjectsEdit, Same, Stored, Made, put, Acquired, edit, uniform, place_at}
use Rattle.asl_atomicity.proofs.Unseen.{WroteBy, covered_kept}
use Rattle.asl_atomicity.proofs.Reaching.{is_reached, run_apart}
use Rattle.asl_atomicity.proofs.Renaming.{HasGlobals, has_globals}
use Rattle.asl_atomicity.proofs.Growing.{request_grown}
use Rattle.asl_atomicity.proofs.Entries.{request_same, still_free}
use Rattle.asl_atomicity.proofs.Swaps.{stepped, same_here, wrote_by}

-- an entry that counts is granted
granted : (image : Image) (s : State) (u : ℕ) (b : Activity) (list : ℕ) → slice_get s.threads u ≡ Some (Running b) → slice_get image.code b.top.pc ≡ Some (instr.Acquire list) → b.depth ≡ 0 →
    heard (step_of image s u).reply ≢ [] → can_grant s.holding u (request_of s.objects b.top.regs (locks_of image list)) ≡ true
granted image s u b list runs at depth counts = by_test (can_grant s.holding u (request_of s.objects b.top.regs (locks_of image list))) refl
  where
    by_test : (f : Bool) → can_grant s.holding u (request_of s.objects b.top.regs (locks_of image list)) ≡ f → f ≡ true
    by_test true e = refl
    by_test false e = absurd (counts (
        ap (λ z. heard (step_at image s u z).reply) runs
        ∙ ap (λ z. heard (turn_by u (left_at image (place_at u b s.objects s.holding) z)).reply) at
        ∙ ap (λ z. heard (reply_of (acquire_fate z (can_grant s.holding u (request_of s.objects b.top.regs (locks_of image list)))))) depth
        ∙ ap (λ z. heard (reply_of (acquire_fate 0 z))) e
        ))

-- thread t, which is at a, steps; thread u, which is at b, is before an entry
request_kept : (image : Image) (s : State) → AreApart image s → (t u : ℕ) (a b : Activity) → u ≢ t → slice_get s.threads t ≡ Some (Running a) → slice_get s.threads u ≡ Some (Running b) → (ls : List Lock) → HasGlobals (length image.globals) ls → (e : ObjectsEdit) →
    IsLawful (grant s.holding u (request_of s.objects b.top.regs ls)) → ListCovered (grant s.holding u (request_of s.objects b.top.regs ls)) u s.objects b.top.regs ls → WroteBy s.objects s.holding t a e →
    ((cells class : ℕ) → request_of (made_objects s.objects cells class) b.top.regs ls ≡ request_of s.objects b.top.regs ls) → request_of (put e s.objects) b.top.regs ls ≡ request_of s.objects b.top.regs ls
request_kept image s fr t u a b apart runs also ls known Same lawful covered wrote grown = refl
request_kept image s fr t u a b apart runs also ls known (Made cells class) lawful covered wrote grown = grown cells class
request_kept image s fr t u a b apart runs also ls known (Stored v (Err f)) lawful covered wrote grown = refl
request_kept image s fr t u a b apart runs also ls known (Stored v (Ok c0)) lawful covered wrote grown =
    let w = wrote v c0 refl in
    let h = s.holding in
    let r = request_of s.objects b.top.regs ls in
    let still : (c : Cell) (class : ℕ) → Covers h t c class Write → Covers (grant h u r) t c class Write = λ c class writes. covered_kept (Acquired 0 true r) u t h c class Write (λ k. apart (sym k)) ∙ writes in
    request_same s.objects c0 v w.there (grant h u r) u (IsFreshFor s t)
    (λ c class away of reads same.
    let at : class_of s.objects c.object ≡ Some w.class = ap (λ (z : Cell). class_of s.objects z.object) (sym same) ∙ w.of in
    let one : w.class ≡ class = (let k : Some w.class ≡ Some class = sym at ∙ of in cc) in
    let allowed : Allows (cover h a.fresh) t c class Write = subst (λ z. Allows (cover h a.fresh) t c z Write) one (subst (λ z. Allows (cover h a.fresh) t z w.class Write) same w.allowed) in
    elim (or_split (is_fresh a.fresh c.object) (is_covered h t c class Write) allowed) [
      | inl own ↦ away (ap (λ z. is_fresh (option_map_or (λ (d : Activity). d.fresh) z []) c.object) (ap (option_and_then activity_of) runs) ∙ own)
      | inr writes ↦ nine_pairs (grant h u r) lawful u t apart c class reads (still c class writes)
    ])
    (λ c class away of reads o i at f. elim (fr.cells t o i c f at) [
      | inl in_fresh ↦ away in_fresh
      | inr held_there ↦ nine_pairs (grant h u r) lawful u t apart c class reads (still c class (held_there.1 class of))
    ])
    w.class w.of (length image.globals) (λ g lt f. (let le = (fr.there t g f).0 in omega (arith, lt, le))) b.top.regs (λ o f. (fr.registers u t o b apart f (ap (option_and_then activity_of) also)).0) ls known covered

-- the globals that a list names are there, at its `acq`
pub globals_there : (image : Image) (n : ℕ) (f : Function) (pc list : ℕ) → LiesIn image n pc f → FitsImage image → slice_get image.code pc ≡ Some (instr.Acquire list) → HasGlobals (length image.globals) (locks_of image list)
globals_there image n f pc list lies fits at =
    let k = fits.instr_fits n pc f (instr.Acquire list) lies at in
    subst (HasGlobals (length image.globals)) (sym (ap (λ o. unwrap_or o []) k.0.1)) (has_globals image n f k.0.0 k.0.2)

pub entries_unseen : (image : Image) (count : ℕ) → IsGuarded image count → EntriesUnseen image count
entries_unseen image count guarded s u t stands apart counts inside =
    let sound = stands.0 in
    let a = inside.activity in
    let o = s.objects in
    let h = s.holding in
    let ha = here_of image s t a sound inside.runs in
    let fa = instr_here image o a ha.placed sound.fits in
    let p = uniform image t a fa.0 o h in
    let wp = wrote_by image t a fa.0 o h p ha.placed.points in
    let fr = run_apart image count s stands in
    let first = stepped image s t a fa.0 o h p inside.runs fa.1 (same_here image t a fa.0 o h) in
    let known : (b : Activity) (list : ℕ) → slice_get s.threads u ≡ Some (Running b) → slice_get image.code b.top.pc ≡ Some (instr.Acquire list) → HasGlobals (length image.globals) (locks_of image list) =
    λ b list runs at. (let hb = here_of image s u b sound runs in globals_there image b.top.function hb.placed.function b.top.pc list hb.placed.lies sound.fits at) in
    let grown : (b : Activity) (list : ℕ) → slice_get s.threads u ≡ Some (Running b) → slice_get image.code b.top.pc ≡ Some (instr.Acquire list) → (cells class : ℕ) →
    request_of (made_objects o cells class) b.top.regs (locks_of image list) ≡ request_of o b.top.regs (locks_of image list) =
    λ b list runs at cells class.
    request_grown image o cells class sound.formed.objects b.top.regs (here_of image s u b sound runs).placed.points (locks_of image list) (known b list runs at) in
    record {
      request = λ b list runs at depth.
          let r = request_of o b.top.regs (locks_of image list) in
          let is = granted image s u b list runs at depth counts in
          let can = can_grant-tells h u r is in
          let lawful = lawful_grant h u r sound.lawful (outside_here image s u b (here_of image s u b sound runs) depth) (request_asks_modes o b.top.regs (locks_of image list)) (request_is_rooted o b.top.regs (locks_of image list)) can in
          ap (λ (w : Stepped). request_of w.state.objects b.top.regs (locks_of image list)) first
          ∙ request_kept image s fr t u a b apart inside.runs runs (locks_of image list) (known b list runs at) p.on_objects lawful (guarded s u list b (is_reached image count s stands.1.0 sound.fits stands.1.1) (record { runs = runs; at = at; depth = depth }) is) wp (grown b list runs at);
      free = λ b list runs at depth.
          let r = request_of o b.top.regs (locks_of image list) in
          let is = granted image s u b list runs at depth counts in
          let can = can_grant-tells h u r is in
          ap (λ (w : Stepped). can_grant w.state.holding u r) first
          ∙ CanGrant-tested (edit p.on_holding t h) u r (still_free p.on_holding t u h r (λ d f q e. no_depth a.depth (p.enters d f q e) inside.inside) can)
          ∙ sym is;
    }
