-- The making of an object happens before each later step that meets it.
use Rattle.std.proofs.Common.{◌≡◌, ℕ, ◌<◌, List, [], ◌∷◌, Some, slice_get, refl, sym, subst}
use Rattle.std.specs.Prelude.{IsTrue}
use Rattle.asl_code.specs.declared.image.Image.{Image}
use Rattle.asl_code.specs.Fits.{FitsImage}
use Rattle.asl_code.specs.declared.value.Cell.{Cell}
use Rattle.asl_machine.specs.State.{State}
use Rattle.asl_machine.specs.Cover.{is_fresh}
use Rattle.asl_machine.specs.Run.{start_of}
use Rattle.asl_atomicity.specs.Serial.{TakenStep, IsRun, IsGuarded}
use Rattle.asl_races.specs.Races.{Makes, HasAddress, MeetsAtEntry, PublishesObjects, HappensBefore}
use Rattle.asl_races.proofs.Entering.{entering}
use Rattle.asl_races.proofs.Touching.{guards_led}
use Rattle.asl_races.proofs.Marks.{Mark}
use Rattle.asl_races.proofs.Knowing.{advance}
use Rattle.asl_races.proofs.Telling.{Told, made_told, told_next, told_enters}
use Rattle.asl_races.proofs.Runs.{IsLed, Place, place_of, place_after}
use Rattle.asl_races.proofs.Following.{Tellable, Follows, follows_kept, follows_first, follows_here}
use Rattle.asl_races.proofs.Ordering.{led_next}

-- a run leads to the state; only those who know have an address in the object
abbrev pub Publishes : Image → ℕ → ℕ → State → List ℕ → List Mark → Type 0
Publishes image count o s knowers marks = IsLed image count s × (told : List ℕ) × IsTrue (is_fresh told o) × Told image s knowers marks told

publishes_next : (image : Image) (count : ℕ) (run : List TakenStep) (first o : ℕ) → Tellable image run first (Publishes image count o)
publishes_next image count run first o s t r new knowers marks sound apart step are ad tells =
    let more = told_next image s t r new knowers marks sound apart step are ad tells.1 tells.3 in
    (led_next image count s t r new tells.0 step, more.0, more.1 o tells.2, more.2)

-- from the making of an object on this is kept
pub made_place : (image : Image) (count : ℕ) → FitsImage image → (run : List TakenStep) (end : State) (i j : ℕ) (one other : TakenStep) (cell : Cell) → IsRun image (start_of image count) run end → i < j →
    slice_get run i ≡ Some one → slice_get run j ≡ Some other → Makes image one cell → Place image run (Follows image run i (Publishes image count cell.object)) j other
made_place image count fits run end i j one other cell is lt at there made =
    let T = Publishes image count cell.object in
    let p = place_of image count fits run end is (λ n s. IsLed image count s) (λ n s t r new here sound apart step g. led_next image count s t r new g step) ([], refl) i one at in
    let k = made_told image one.before one.thread one.reply p.new cell p.sound p.apart p.step made in
    let tells : T p.new (one.thread ∷ []) [] = (led_next image count one.before one.thread one.reply p.new p.holds p.step, k.0, k.1, k.2) in
    place_after image run (λ n s. IsLed image count s) (Follows image run i T) (follows_kept image run i T (publishes_next image count run i cell.object)) i j lt one other p (follows_first image run i T one p.new at tells) there

-- before a step of a thread that has an address in it
pub published : (image : Image) (count : ℕ) → FitsImage image → PublishesObjects image count (HappensBefore image) HasAddress
published image count fits run end i j one other cell is lt at there made h =
    let T = Publishes image count cell.object in
    let q = made_place image count fits run end i j one other cell is lt at there made in
    let f = q.holds in
    follows_here image run i T j other q (λ away.
    let ad = advance image other.before other.thread other.reply q.new f.knowers f.marks q.sound q.step f.are in
    (f.tells.3.registers other.thread cell.object h.activity (λ e. away (ad.keeps other.thread e)) f.tells.2 h.runs).0 h.register h.offset h.names)

-- before a granted entry that comes to a cell of it
pub published_entries : (image : Image) (count : ℕ) → FitsImage image → IsGuarded image count → PublishesObjects image count (HappensBefore image) (MeetsAtEntry image)
published_entries image count fits guarded run end i j one other cell is lt at there made meets =
    let T = Publishes image count cell.object in
    let q = made_place image count fits run end i j one other cell is lt at there made in
    let f = q.holds in
    follows_here image run i T j other q (λ away.
    let ad = advance image other.before other.thread other.reply q.new f.knowers f.marks q.sound q.step f.are in
    let e = entering image other.before other.thread other.reply q.new meets.0 q.sound (guards_led image count guarded other.before f.tells.0) q.step meets.2 in
    told_enters image other.before other.thread other.reply q.new f.knowers f.marks q.sound q.apart q.step f.are ad f.tells.1 f.tells.3 meets.0 e away (subst (λ o. IsTrue (is_fresh f.tells.1 o)) (sym meets.1) f.tells.2))
