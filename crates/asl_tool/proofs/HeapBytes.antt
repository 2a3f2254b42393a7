-- How many bytes the objects of a run take, about, at most.
use Rattle.std.proofs.Common.{◌≡◌, ℕ, zero, suc, ◌+◌, ◌*◌, ◌≤◌, ◌<◌, ◌++◌, List, [], ◌∷◌, Some, None, length, map, slice_get, slice_set, refl, ap, sym, subst, ◌∙◌, arith}
use Rattle.std.proofs.Common.{◌⊎◌, inl, inr, min, drop, Option}
use Rattle.std.specs.Prelude.{IfSome, unwrap_or}
use Rattle.std.proofs.Math.Nat.{add-mul, le-max_left, le-max_right, max-eq_left, min-eq_left, min-eq_right, min-le_right, le-min, mul-le-mul_left, mul-le-mul_right, div-mul-le_self}
use Rattle.std.proofs.lemmas.Nat.{le-div}
use Rattle.std.proofs.lemmas.Bool.{cases_lt}
use Rattle.std.specs.Prelude.{◌/◌}
use Rattle.asl_journal.specs.declared.event.Event.{Event}
use Rattle.asl_journal.specs.Journal.{LeadsTo, schedule_of, replies_in}
use Rattle.asl_journal.specs.declared.fault.JournalFault.{JournalFault}
use Rattle.asl_journal.specs.declared.fault.JournalFault.TheVariants.{JournalFull, BadCount, BadThread, Differs, Magic, Version, Truncated, BadField, Trailing, OutOfMemory}
use Rattle.std.specs.Option.{option_map_or}
use Rattle.std.proofs.lemmas.List.{length-set, length-append, length-map, length-replicate}
use Rattle.asl_code.specs.declared.value.Value.{Value}
use Rattle.asl_code.specs.declared.value.Cell.{Cell}
use Rattle.asl_code.specs.declared.image.Image.{Image}
use Rattle.asl_code.specs.declared.instr.Instr.{Instr}
use Rattle.asl_code.specs.declared.instr.Instr.TheVariants as instr
use Rattle.asl_machine.specs.declared.reply.Reply.{Reply}
use Rattle.asl_machine.specs.State.{Object, State, size_of, with_cell, written, new_object}
use Rattle.asl_machine.specs.Step.{Step}
use Rattle.asl_machine.specs.Run.{RunsBy, global_object, start_of}
use Rattle.asl_machine.proofs.LineKinds.{Setting, Going, Storing, Making, Calling, Returning, Ending, Entering, Waiting, Leaving, Failing, StepKind, Over, Does, step_kind}
use Rattle.asl_tool.specs.Spacing.{heap_bytes, spacing_at}
use Rattle.asl_tool.specs.MadeBytes.{made_bytes, most_made}

-- one instruction makes no more than the most that one makes
pub made_most : (code : List Instr) (n : ℕ) (i : Instr) → slice_get code n ≡ Some i → made_bytes i ≤ most_made code
made_most [] n i e = cc
made_most (j ∷ js) zero i e = (let same : j ≡ i = cc in subst (λ x. made_bytes x ≤ most_made (j ∷ js)) same (le-max_left (made_bytes j) (most_made js)))
made_most (j ∷ js) (suc n) i e = (let below = made_most js n i e in let most = le-max_right (made_bytes j) (most_made js) in omega (arith, below, most))

bytes_set : (objects : List Object) (n : ℕ) (o p : Object) → slice_get objects n ≡ Some o → length p.cells ≡ length o.cells
    → heap_bytes (slice_set objects n p) ≡ heap_bytes objects
bytes_set [] n o p e same = cc
bytes_set (x ∷ xs) zero o p e same =
    let is : x ≡ o = cc in
    ap (λ c. 48 + c * 8 + heap_bytes xs) (same ∙ ap (λ (q : Object). length q.cells) (sym is))
bytes_set (x ∷ xs) (suc n) o p e same = ap (λ b. 48 + length x.cells * 8 + b) (bytes_set xs n o p e same)

-- a store changes no size
bytes_written : (objects : List Object) (c : Cell) (v : Value) → heap_bytes (written objects c v) ≡ heap_bytes objects
bytes_written objects c v =
    elim (slice_get objects c.object) as (λ o. slice_get objects c.object ≡ o →
    heap_bytes (option_map_or (λ (object : Object). slice_set objects c.object (with_cell object c.offset v)) o objects) ≡ heap_bytes objects) [
      | None ↦ λ e. refl
      | Some o ↦ λ e. bytes_set objects c.object o (with_cell o c.offset v) e (length-set o.cells c.offset v)
    ] refl

count_written : (objects : List Object) (c : Cell) (v : Value) → length (written objects c v) ≡ length objects
count_written objects c v =
    elim (slice_get objects c.object) as (λ o. length (option_map_or (λ (object : Object). slice_set objects c.object (with_cell object c.offset v)) o objects) ≡ length objects) [
      | None ↦ refl
      | Some o ↦ length-set objects c.object (with_cell o c.offset v)
    ]

bytes_more : (objects more : List Object) → heap_bytes (objects ++ more) ≡ heap_bytes objects + heap_bytes more
bytes_more [] more = omega arith
bytes_more (x ∷ xs) more = (let e = bytes_more xs more in omega (arith, e))

-- so many objects were made beside the globals, in no more steps
pub record AreMade (globals most steps : ℕ) (objects : List Object) : Type 0 where
  pub made : ℕ
  pub count : length objects ≡ globals + made
  pub few : made ≤ steps
  pub fit : made ≤ 65536
  pub bytes : heap_bytes objects ≤ globals * 56 + made * most

made_later : (g m n : ℕ) (old new : List Object) → new ≡ old → AreMade g m n old → AreMade g m (n + 1) new
made_later g m n old new same are = subst (AreMade g m (n + 1)) (sym same) (record {
  made = are.made;
  count = are.count;
  few = (let few = are.few in omega (arith, few));
  fit = are.fit;
  bytes = are.bytes;
})

-- a step makes one object, of no more bytes than one instruction makes, or none
pub made_step : (image : Image) (g n : ℕ) (s : State) (t : ℕ) (r : Reply) (new : State) → AreMade g (most_made image.code) n s.objects → Step image s t r new
    → AreMade g (most_made image.code) (n + 1) new.objects
made_step image g n s t r new are step = by_kind (step_kind image s t r new step)
  where
    same : (now : List Object) → now ≡ s.objects → AreMade g (most_made image.code) (n + 1) now
    same now is = made_later g (most_made image.code) n s.objects now is are

    stores : (now : List Object) (c : Cell) (v : Value) → now ≡ written s.objects c v → AreMade g (most_made image.code) (n + 1) now
    stores now c v is = subst (AreMade g (most_made image.code) (n + 1)) (sym is) (record {
      made = are.made;
      count = count_written s.objects c v ∙ are.count;
      few = (let few = are.few in omega (arith, few));
      fit = are.fit;
      bytes = subst (λ b. b ≤ g * 56 + are.made * most_made image.code) (sym (bytes_written s.objects c v)) are.bytes;
    })

    makes : (now : List Object) (cells class : ℕ) → length s.objects < 65536 → 48 + cells * 8 ≤ most_made image.code → now ≡ s.objects ++ new_object class cells ∷ []
        → AreMade g (most_made image.code) (n + 1) now
    makes now cells class room most is = subst (AreMade g (most_made image.code) (n + 1)) (sym is) (record {
      made = are.made + 1;
      count = length-append s.objects (new_object class cells ∷ []) ∙ ap (λ k. k + 1) are.count ∙ (let m = are.made in omega arith);
      few = (let few = are.few in omega (arith, few));
      fit = (let count = are.count in omega (arith, count, room));
      bytes =
          let one : heap_bytes (new_object class cells ∷ []) ≡ 48 + cells * 8 + 0 = ap (λ k. 48 + k * 8 + 0) (length-replicate cells _) in
          let more = bytes_more s.objects (new_object class cells ∷ []) in
          let before = are.bytes in
          let product : (are.made + 1) * most_made image.code ≡ are.made * most_made image.code + most_made image.code = add-mul are.made 1 (most_made image.code) ∙ (let one_more = most_made image.code in omega arith) in
          omega (arith, one, more, before, product, most);
    })

    by_kind : StepKind image s t r new → AreMade g (most_made image.code) (n + 1) new.objects
    by_kind (Over e) = same new.objects (ap (λ (u : State). u.objects) e)
    by_kind (Does a i is here (Setting to v from e)) = same new.objects (ap (λ (u : State). u.objects) e)
    by_kind (Does a i is here (Going depth target kept e)) = same new.objects (ap (λ (u : State). u.objects) e)
    by_kind (Does a i is here (Storing address from what ran e)) = stores new.objects e.cell e.value (ap (λ (u : State). u.objects) e.goes_on)
    by_kind (Does a i is here (Making to cells class what ran e)) =
        makes new.objects cells class e.room (made_most image.code a.top.pc (instr.New to cells class) (here ∙ ap Some what)) (ap (λ (u : State). u.objects) e.makes)
    by_kind (Does a i is here (Calling to first function e)) = same new.objects (ap (λ (u : State). u.objects) e.calls)
    by_kind (Does a i is here (Returning from e)) = same new.objects (ap (λ (u : State). u.objects) e.returns)
    by_kind (Does a i is here (Ending from e)) = same new.objects (ap (λ (u : State). u.objects) e.ends)
    by_kind (Does a i is here (Entering list what ran e)) = same new.objects (ap (λ (u : State). u.objects) e.goes_on)
    by_kind (Does a i is here (Waiting list e)) = same new.objects (ap (λ (u : State). u.objects) e.same)
    by_kind (Does a i is here (Leaving what ran e)) = same new.objects (ap (λ (u : State). u.objects) e.leaves)
    by_kind (Does a i is here (Failing f what e)) = same new.objects (ap (λ (u : State). u.objects) e)

pub made_run : (image : Image) (g : ℕ) (schedule : List ℕ) (s : State) (replies : List Reply) (end : State) (n : ℕ) → AreMade g (most_made image.code) n s.objects
    → RunsBy image s schedule replies end → AreMade g (most_made image.code) (n + length schedule) end.objects
made_run image g [] s [] end n are e = subst (λ k. AreMade g (most_made image.code) k end.objects) (let p : n ≡ n + 0 = omega arith in p) (subst (λ (u : State). AreMade g (most_made image.code) n u.objects) (sym e) are)
made_run image g [] s (r ∷ rs) end n are e = absurd e
made_run image g (t ∷ ts) s [] end n are e = absurd e
made_run image g (t ∷ ts) s (r ∷ rs) end n are e =
    subst (λ k. AreMade g (most_made image.code) k end.objects) (let p : n + 1 + length ts ≡ n + suc (length ts) = omega arith in p)
    (made_run image g ts e.0 rs end (n + 1) (made_step image g n s t r e.0 are e.1) e.2)

bytes_globals : (classes : List ℕ) → heap_bytes (map global_object classes) ≡ length classes * 56
bytes_globals [] = refl
bytes_globals (c ∷ cs) = (let e = bytes_globals cs in omega (arith, e))

-- the objects of a run of so many events take no more than this
pub heap_at_most : (image : Image) (threads n : ℕ) (events : List Event) (s : State) → length events ≤ n → LeadsTo image threads events s
    → heap_bytes s.objects ≤ length image.globals * 56 + min n 65536 * most_made image.code
heap_at_most image threads n events s below leads =
    let start : AreMade (length image.globals) (most_made image.code) 0 (map global_object image.globals) = record {
      made = 0;
      count = length-map image.globals global_object ∙ (let p : length image.globals ≡ length image.globals + 0 = omega arith in p);
      few = omega arith;
      fit = omega arith;
      bytes = (let e = bytes_globals image.globals in omega (arith, e));
    } in
    let end = made_run image (length image.globals) (schedule_of events) (start_of image threads) (replies_in events) s 0 start leads.runs in
    let few : end.made ≤ n = (let few = end.few in let count = length-map events (λ event. event.thread) in omega (arith, few, count, below)) in
    let product : end.made * most_made image.code ≤ min n 65536 * most_made image.code = mul-le-mul_right (most_made image.code) (le-min few end.fit) in
    let bytes = end.bytes in
    omega (arith, bytes, product)

-- where fewer bytes are taken, the least spacing stays the least
pub least_kept : (events few many : ℕ) → few ≤ many → spacing_at events many ≡ 1024 → spacing_at events few ≡ 1024
least_kept events few many below least =
    max-eq_left (
    let capped : min 4294967295 ((events * many) / 268435456) ≤ 1024 = (let l = le-max_right 1024 (min 4294967295 ((events * many) / 268435456)) in omega (arith, l, least)) in
    let most : (events * many) / 268435456 ≤ 1024 = uncapped ((events * many) / 268435456) capped in
    let parts : (events * few) / 268435456 ≤ (events * many) / 268435456 =
    le-div ((events * few) / 268435456) (events * many) 268435456 (omega arith)
    (let under = div-mul-le_self (events * few) 268435456 in let product = mul-le-mul_left events below in omega (arith, under, product)) in
    let fewer = min-le_right 4294967295 ((events * few) / 268435456) in
    omega (arith, fewer, parts, most)
    )
  where
    uncapped : (q : ℕ) → min 4294967295 q ≤ 1024 → q ≤ 1024
    uncapped q capped = elim (cases_lt 4294967295 q) [
      | inl high ↦ (let same = min-eq_left (let p : 4294967295 ≤ q = omega (arith, high) in p) in absurd (omega (arith, same, capped)))
      | inr low ↦ (let same = min-eq_right low in omega (arith, same, capped))
    ]

-- the bytes of the objects from one on are its own and those of the others
pub bytes_next : (objects : List Object) (i : ℕ) → i < length objects → heap_bytes (drop i objects) ≡ 48 + unwrap_or (size_of objects i) 0 * 8 + heap_bytes (drop (suc i) objects)
bytes_next [] i there = absurd (omega (arith, there))
bytes_next (x ∷ xs) zero there = refl
bytes_next (x ∷ xs) (suc i) there = bytes_next xs i (omega (arith, there))

pub few_cells : (size : Option ℕ) → IfSome size (λ cells. cells ≤ 255) → unwrap_or size 0 ≤ 255
few_cells None few = omega arith
few_cells (Some cells) few = few

-- a replay that is refused, of a journal only for memory, is of no journal, or memory was refused
pub refused_or_none : {A B : Type 0} (f : JournalFault) → (f ≡ OutOfMemory → A) → (B → f ≡ OutOfMemory) → A ⊎ (B → ⊥)
refused_or_none OutOfMemory refused only = inl (refused refl)
refused_or_none JournalFull refused only = inr (λ b. let no = only b in cc)
refused_or_none BadCount refused only = inr (λ b. let no = only b in cc)
refused_or_none BadThread refused only = inr (λ b. let no = only b in cc)
refused_or_none (Differs index) refused only = inr (λ b. let no = only b in cc)
refused_or_none Magic refused only = inr (λ b. let no = only b in cc)
refused_or_none Version refused only = inr (λ b. let no = only b in cc)
refused_or_none (Truncated place) refused only = inr (λ b. let no = only b in cc)
refused_or_none (BadField place) refused only = inr (λ b. let no = only b in cc)
refused_or_none (Trailing place) refused only = inr (λ b. let no = only b in cc)
