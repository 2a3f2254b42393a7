-- A try with care that comes to a cell after another thread has written it: the cell is bound, by what is given back since, and the try has
-- looked at that; or the try has come to the cell by such a one. And a try with care of a list that can be granted comes to its end.
use Rattle.std.proofs.Common.{◌≡◌, ℕ, suc, ◌<◌, ◌⊎◌, true, List, Some, length, slice_get, refl, ap, sym, ◌∙◌, subst, inl, inr, arith}
use Rattle.std.specs.Prelude.{IsTrue}
use Rattle.asl_code.specs.declared.image.Image.{Image}
use Rattle.asl_code.specs.Fits.{FitsImage}
use Rattle.asl_code.specs.declared.value.Cell.{Cell}
use Rattle.asl_code.specs.declared.value.Effect.TheVariants.{Write}
use Rattle.asl_mode_lanes.specs.declared.mode.Mode.{Mode}
use Rattle.asl_mode_lanes.specs.declared.mode.Mode.TheVariants.{NL, IS, IX, S, SIX, X}
use Rattle.asl_mode_lanes.specs.Mode.{AtMost}
use Rattle.asl_lock_forest.specs.declared.node.Node.TheVariants.{Root, Class, Leaf}
use Rattle.asl_lock_forest.specs.Holding.{held}
use Rattle.asl_lock_forest.proofs.NinePairs.{Where, at_leaf, at_class, at_root, node_at, covered_at}
use Rattle.asl_machine.specs.State.{Activity, State}
use Rattle.asl_machine.specs.Cover.{is_fresh}
use Rattle.asl_machine.specs.Request.{locks_of}
use Rattle.asl_machine.specs.Run.{start_of}
use Rattle.asl_machine.proofs.Starts.{start_sound}
use Rattle.asl_atomicity.specs.Serial.{TakenStep, IsRun, IsAtEntry, IsGuarded}
use Rattle.asl_races.specs.Visits.{Visit, visit, visited}
use Rattle.asl_races.specs.Races.{PublishesObjects, Accesses}
use Rattle.asl_races.specs.Tries.{ComesTo, GrantsWithCare, TriesToRead, MeetsInTry, HappensBeforeWithTries, Happens, IsSeen, Between}
use Rattle.asl_races.proofs.Entering.{stands_at, granted_reads}
use Rattle.asl_races.proofs.Touching.{guards_led, touch_access}
use Rattle.asl_races.proofs.Visiting.{visited_away}
use Rattle.asl_races.proofs.Marks.{Mark, Knows, tell_knows}
use Rattle.asl_races.proofs.Telling.{IsBoundCell, Told}
use Rattle.asl_races.proofs.Runs.{Place, step_there, led_sound}
use Rattle.asl_races.proofs.Following.{Follows, knows_here}
use Rattle.asl_races.proofs.Ordering.{told_place}
use Rattle.asl_races.proofs.Publishing.{made_place}

-- ---- what can be granted

pub grants_with_care : (image : Image) (count : ℕ) → FitsImage image → IsGuarded image count → GrantsWithCare image count
grants_with_care image count fits guarded run s u list a is entry = (
  λ can. record {
    comes = λ n cell lt at held.
        granted_reads image s u held.other list a n cell held.class (led_sound image run (start_of image count) s (start_sound image count fits) is) (guards_led image count guarded s (run, is)) entry can at held.another held.of held.covers;
    free = can;
  },
  λ granted. granted.free,
)

-- ---- what a try has looked at

pub only_X : (m : Mode) → AtMost X m → m ≡ X
only_X NL e = cc
only_X IS e = cc
only_X IX e = cc
only_X S e = cc
only_X SIX e = cc
only_X X e = refl

pub looked : (cell : Cell) (class : ℕ) (w : Where) → (node_at cell class w ≡ Leaf cell class) ⊎ (node_at cell class w ≡ Class class) ⊎ (node_at cell class w ≡ Root)
looked cell class at_leaf = inl refl
looked cell class at_class = inr (inl refl)
looked cell class at_root = inr (inr refl)

its_own : (n : ℕ) → n < suc n
its_own n = omega arith

none_later : (m n place : ℕ) → m < suc n → n < place → m < place
none_later m n place p q = omega (arith, p, q)

-- a try at a place after the first, of a thread that does not know
module _ (image : Image) (run : List TakenStep) (first : ℕ) (Tells : State → List ℕ → List Mark → Type 0) (n : ℕ) (other : TakenStep) (q : Place image run (Follows image run first Tells) n other) (away : ¬ Knows q.holds.knowers other.thread)
    (list : ℕ) (a : Activity) (entry : IsAtEntry image other.before other.thread list a) where
  -- it reads a cell that is bound for writing
  bound_seen : (place : ℕ) (cell : Cell) → slice_get (visited other.before.objects a.top.regs (locks_of image list)) place ≡ Some (visit cell true) →
      ComesTo other.before.holding other.before.objects other.thread a.top.regs (locks_of image list) (suc place) → IsBoundCell other.before q.holds.knowers q.holds.marks cell Write → HappensBeforeWithTries image run first n
  bound_seen place cell at comes b = elim b.bound [
    | inl one ↦ absurd (comes place cell (its_own place) at (record { other = one.0; another = λ e. away (subst (Knows q.holds.knowers) e one.1); class = b.class; of = b.of; covers = one.2 }))
    | inr mark ↦
        let m = q.holds.facts.marked mark.0 mark.1 mark.2 in
        let w = covered_at mark.1.holding mark.1.thread cell b.class Write mark.3 in
        let node = node_at cell b.class w.0 in
        let tries : TriesToRead image other cell = record { list = list; activity = a; entry = entry; reads = record { place = place; is = at; comes = comes } } in
        let last : HappensBeforeWithTries image run m.place n =
        IsSeen m.place n m.step other node m.before m.at q.at m.gives_back
        (ap (λ h. held h m.step.thread node) m.holding ∙ ap (λ t. held mark.1.holding t node) m.thread ∙ only_X (held mark.1.holding mark.1.thread node) w.1)
        (record { cell = cell; tries = tries; class = b.class; of = b.of; is = looked cell b.class w.0 }) in
        elim m.after [ inl is ↦ subst (λ k. HappensBeforeWithTries image run k n) is last | inr before ↦ Between first m.place n (Happens first m.place before) last ]
  ]

  -- it comes to an object of which only those know that do
  told_seen : (place : ℕ) (one : Visit) → slice_get (visited other.before.objects a.top.regs (locks_of image list)) place ≡ Some one →
      ComesTo other.before.holding other.before.objects other.thread a.top.regs (locks_of image list) place → (told : List ℕ) → Told image other.before q.holds.knowers q.holds.marks told → IsTrue (is_fresh told one.cell.object) →
      HappensBeforeWithTries image run first n
  told_seen place one at comes told k f =
      visited_away other.before.objects (λ o. IsTrue (is_fresh told o)) (λ c. IsBoundCell other.before q.holds.knowers q.holds.marks c Write) (HappensBeforeWithTries image run first n) (λ o i c f at. k.cells o i c f at) (length image.globals) a.top.regs
      k.no_global (λ o i r f. (k.registers other.thread o a away f entry.runs).0 r i) (locks_of image list) (stands_at image other.before other.thread a list q.sound entry.runs entry.at).known place one at
      (λ m c lt is b. bound_seen m c is (λ l d less. comes l d (none_later l m place less lt)) b) f

-- of a try that comes after: its thread knows, or this is shown
by_knowing : (image : Image) (run : List TakenStep) (first : ℕ) (Tells : State → List ℕ → List Mark → Type 0) (n : ℕ) (other : TakenStep) (q : Place image run (Follows image run first Tells) n other) →
    (¬ Knows q.holds.knowers other.thread → HappensBeforeWithTries image run first n) → HappensBeforeWithTries image run first n
by_knowing image run first Tells n other q otherwise = elim (tell_knows q.holds.knowers other.thread) [
  | inl knows ↦ Happens first n (knows_here image run first n other.thread q.holds.knowers q.holds.marks q.holds.facts knows (step_there run n other q.at))
  | inr away ↦ otherwise away
]

module _ (image : Image) (count : ℕ) (fits : FitsImage image) (run : List TakenStep) (end : State) (is : IsRun image (start_of image count) run end) (i j : ℕ) (one other : TakenStep) (lt : i < j) (at : slice_get run i ≡ Some one) (there : slice_get run j ≡ Some other) where
  -- a try that reads a cell comes after each write of it
  pub tries_after : (cell : Cell) → Accesses image one cell Write → TriesToRead image other cell → HappensBeforeWithTries image run i j
  tries_after cell acc z =
      let q = told_place image (Accesses image) (λ s. Unit {0}) (λ s t r new good step. tt) (λ s u r new c effect sound good step k. touch_access image s u r new c effect step k) count fits tt run end i j one other cell Write is lt at there acc in
      by_knowing image run i _ j other q (λ away. elim q.holds.tells.1 [
        | inl b ↦ bound_seen image run i _ j other q away z.list z.activity z.entry z.reads.place cell z.reads.is z.reads.comes b
        | inr k ↦ told_seen image run i _ j other q away z.list z.activity z.entry z.reads.place (visit cell true) z.reads.is (λ l d less. z.reads.comes l d (sooner l z.reads.place less)) k.0 k.2 k.1
      ])
    where
      sooner : (l n : ℕ) → l < n → l < suc n
      sooner l n p = omega (arith, p)

pub published_tries : (image : Image) (count : ℕ) → FitsImage image → PublishesObjects image count (HappensBeforeWithTries image) (MeetsInTry image)
published_tries image count fits run end i j one other cell is lt at there made z =
    let q = made_place image count fits run end i j one other cell is lt at there made in
    by_knowing image run i _ j other q (λ away.
    told_seen image run i _ j other q away z.list z.activity z.entry z.meets.place z.meets.one z.meets.is z.meets.comes q.holds.tells.1 q.holds.tells.3
    (subst (λ o. IsTrue (is_fresh q.holds.tells.1 o)) (sym z.meets.of) q.holds.tells.2))
