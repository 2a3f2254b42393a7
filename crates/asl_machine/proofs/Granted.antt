-- What the step of a thread that asks for something replies, and which nodes it asks for.
use Rattle.std.proofs.Common.{◌≡◌, ◌≢◌, ℕ, ◌==◌, cond, Bool, true, false, List, [], Option, None, Some, slice_get, refl, ap, sym, ◌∙◌, subst}
use Rattle.std.specs.Prelude.{All, option_and_then, unwrap_or, ◌↔◌}
use Rattle.std.proofs.lemmas.List.Elements.{All-nil}
use Rattle.std.proofs.lemmas.Option.{same_Some}
use Rattle.asl_code.specs.Fits.{FitsImage, HasLock}
use Rattle.asl_code.specs.declared.image.Image.{Image}
use Rattle.asl_code.specs.declared.instr.Instr.{Instr}
use Rattle.asl_code.specs.declared.instr.Instr.TheVariants as instr
use Rattle.asl_code.specs.declared.lock.Lock.{Lock}
use Rattle.asl_mode_lanes.specs.declared.mode.Mode.TheVariants.{NL}
use Rattle.asl_lock_forest.specs.declared.node.Node.{Node}
use Rattle.asl_lock_forest.specs.Holding.{Holding, Request, CanGrant, asked, can_grant}
use Rattle.asl_lock_forest.specs.Request.{IsRefusedRequest}
use Rattle.asl_lock_forest.proofs.Grantable.{can_grant-tells, CanGrant-tested, can_grant-refused, refused_cannot}
use Rattle.asl_machine.specs.declared.fate.Fate.TheVariants as fate
use Rattle.asl_machine.specs.declared.fault.Fault.TheVariants as fault
use Rattle.asl_machine.specs.declared.reply.Reply.{Reply}
use Rattle.asl_machine.specs.declared.reply.Reply.TheVariants as reply
use Rattle.asl_machine.specs.State.{Activity, Thread, Running, Done, Failed, State, activity_at, activity_of}
use Rattle.asl_machine.specs.Access.{AllPoint}
use Rattle.asl_machine.specs.Nodes.{IsNode}
use Rattle.asl_machine.specs.WellFormed.{SatisfiesInvariant}
use Rattle.asl_machine.proofs.Nodes.{request_there}
use Rattle.asl_machine.proofs.Unique.{step_only}
use Rattle.asl_machine.specs.Step.{Step}
use Rattle.asl_machine.specs.Request.{request_of, locks_of}
use Rattle.asl_machine.specs.Asked.{asked_by, asked_of, request_at}
use Rattle.asl_machine.specs.StepFunction.{left_at, turn_by, reply_of, step_at, step_of}

-- the reply to who asks: granted or blocked
abbrev pub answer : Bool → Reply
answer free = cond free reply.Ran reply.Blocked

free_reply : (free : Bool) → reply_of (cond free fate.Continues fate.Waits) ≡ answer free
free_reply true = refl
free_reply false = refl

outermost_reply : (outside deep : Bool) (h : Holding) (t : ℕ) (r request : Request) → cond outside (Some r) None ≡ Some request
    → reply_of (cond outside (cond (can_grant h t r) fate.Continues fate.Waits) (cond deep (fate.Fails fault.Deep) fate.Continues)) ≡ answer (can_grant h t request)
outermost_reply true deep h t r request e = free_reply (can_grant h t r) ∙ ap (λ x. answer (can_grant h t x)) (same_Some r request e)
outermost_reply false deep h t r request e = cc

module _ (image : Image) (s : State) (t : ℕ) (request : Request) where
  instr_reply : (a : Activity) (o : Option Instr) → option_and_then (asked_by image s.objects a) o ≡ Some request
      → (turn_by t (left_at image (record { thread = t; activity = a; objects = s.objects; holding = s.holding }) o)).reply ≡ answer (can_grant s.holding t request)
  instr_reply a None e = cc
  instr_reply a (Some (instr.Acquire list)) e =
      outermost_reply (a.depth == 0) (a.depth == 255) s.holding t (request_of s.objects a.top.regs (locks_of image list)) request e
  instr_reply a (Some i) e = cc

  thread_reply : (o : Option Thread) → option_and_then (asked_of image s.objects) (option_and_then activity_of o) ≡ Some request
      → (step_at image s t o).reply ≡ answer (can_grant s.holding t request)
  thread_reply None e = cc
  thread_reply (Some (Running a)) e = instr_reply a (slice_get image.code a.top.pc) e
  thread_reply (Some (Done v)) e = cc
  thread_reply (Some (Failed f)) e = cc

  -- the reply says whether the request can be granted
  pub asked_reply : request_at image s t ≡ Some request → (step_of image s t).reply ≡ answer (can_grant s.holding t request)
  asked_reply e = thread_reply (slice_get s.threads t) e

ran_free : (b : Bool) → answer b ≡ reply.Ran → b ≡ true
ran_free true e = refl
ran_free false e = cc

blocked_taken : (b : Bool) → answer b ≡ reply.Blocked → b ≡ false
blocked_taken true e = cc
blocked_taken false e = refl

not_granted : (b : Bool) → (b ≡ true → ⊥) → b ≡ false
not_granted true never = absurd (never refl)
not_granted false never = refl

pub granted_runs : (image : Image) (s new : State) (t : ℕ) (request : Request) (r : Reply) → request_at image s t ≡ Some request → Step image s t r new
    → (r ≡ reply.Ran) ↔ CanGrant s.holding t request
granted_runs image s new t request r e h =
    let told = (step_only image s t r new h).0 ∙ asked_reply image s t request e in (
      λ ran. can_grant-tells s.holding t request (ran_free (can_grant s.holding t request) (sym told ∙ ran)),
      λ can. told ∙ ap answer (CanGrant-tested s.holding t request can),
    )

pub refused_waits : (image : Image) (s new : State) (t : ℕ) (request : Request) (r : Reply) → request_at image s t ≡ Some request → Step image s t r new
    → (r ≡ reply.Blocked) ↔ IsRefusedRequest s.holding t request
refused_waits image s new t request r e h =
    let told = (step_only image s t r new h).0 ∙ asked_reply image s t request e in (
      λ blocked. can_grant-refused s.holding t request (blocked_taken (can_grant s.holding t request) (sym told ∙ blocked)),
      λ refused. told ∙ ap answer (not_granted (can_grant s.holding t request)
          (λ free. refused_cannot s.holding t request refused (can_grant-tells s.holding t request free))),
    )

-- ---- the nodes that are asked for

lists_fit : (image : Image) (list : ℕ) → FitsImage image → (o : Option (List Lock)) → slice_get image.lists list ≡ o → All (HasLock image) (unwrap_or o [])
lists_fit image list fits None e = All-nil (HasLock image)
lists_fit image list fits (Some locks) e = fits.list_fits list locks e

outside_request : (outside : Bool) (r request : Request) → cond outside (Some r) None ≡ Some request → r ≡ request
outside_request true r request e = same_Some r request e
outside_request false r request e = cc

module _ (image : Image) (s : State) (request : Request) (node : Node) (sound : SatisfiesInvariant image s) (ne : asked request node ≢ NL) where
  instr_nodes : (a : Activity) → AllPoint s.objects a.top.regs → (o : Option Instr) → option_and_then (asked_by image s.objects a) o ≡ Some request
      → IsNode image.classes s.objects node
  instr_nodes a points None e = cc
  instr_nodes a points (Some (instr.Acquire list)) e =
      let same = outside_request (a.depth == 0) (request_of s.objects a.top.regs (locks_of image list)) request e in
      request_there image s.objects a.top.regs (locks_of image list) sound.formed.objects points
      (lists_fit image list sound.fits (slice_get image.lists list) refl) node (subst (λ (r : Request). asked r node ≢ NL) (sym same) ne)
  instr_nodes a points (Some i) e = cc

  activity_nodes : (o : Option Activity) → ((a : Activity) → o ≡ Some a → AllPoint s.objects a.top.regs)
      → option_and_then (asked_of image s.objects) o ≡ Some request → IsNode image.classes s.objects node
  activity_nodes None points e = cc
  activity_nodes (Some a) points e = instr_nodes a (points a refl) (slice_get image.code a.top.pc) e

-- a node that a thread asks for is there
pub request_nodes : (image : Image) (s : State) (t : ℕ) (request : Request) (node : Node) → SatisfiesInvariant image s → request_at image s t ≡ Some request
    → asked request node ≢ NL → IsNode image.classes s.objects node
request_nodes image s t request node sound e ne =
    activity_nodes image s request node sound ne (activity_at s.threads t) (λ a at. (sound.formed.placed t a at).points) e
