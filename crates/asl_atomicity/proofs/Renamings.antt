-- The same numbers, other numbers of other numbers, and what has only the numbers that stay.
use Rattle.std.proofs.Common.{◌≡◌, ◌≢◌, ℕ, suc, ◌<◌, ◌≤◌, List, [], ◌∷◌, Option, Some, None, slice_get, refl, ap, ap₂, sym, ◌∙◌, subst, arith}
use Rattle.std.specs.Prelude.{map as each, option_map}
use Rattle.std.specs.FinMap as map
use Rattle.asl_code.specs.declared.value.Value.{Value}
use Rattle.asl_code.specs.declared.value.Value.TheVariants.{Int, Null, Addr}
use Rattle.asl_lock_forest.specs.declared.node.Node.{Node}
use Rattle.asl_lock_forest.specs.declared.node.Node.TheVariants.{Root, Class, Leaf}
use Rattle.asl_lock_forest.specs.Keys.{key}
use Rattle.asl_machine.specs.declared.fault.Fault.{Fault}
use Rattle.asl_machine.specs.declared.fault.Fault.TheVariants as fault
use Rattle.asl_machine.specs.declared.reply.Reply.{Reply}
use Rattle.asl_machine.specs.declared.reply.Reply.TheVariants as reply
use Rattle.asl_machine.specs.State.{Object, Frame, Activity, Thread, Running, Done, Failed, State}
use Rattle.asl_atomicity.specs.Serial.{heard}
use Rattle.asl_atomicity.specs.Renamed.{Renaming, value_by, node_by, fault_by, reply_by, object_by, frame_by, activity_by, thread_by, IsRenamed, Keeps}

-- ---- lists

pub each_same : {X : Type 0} (f : X → X) → ((x : X) → f x ≡ x) → (xs : List X) → each f xs ≡ xs
each_same f same [] = refl
each_same {X = X} f same (x ∷ xs) = ap₂ {C = List X} (λ y ys. y ∷ ys) (same x) (each_same f same xs)

pub each_stays : {X : Type 0} (f : X → X) (xs : List X) → ((k : ℕ) (x : X) → slice_get xs k ≡ Some x → f x ≡ x) → each f xs ≡ xs
each_stays f [] stays = refl
each_stays {X = X} f (x ∷ xs) stays = ap₂ {C = List X} (λ y ys. y ∷ ys) (stays 0 x refl) (each_stays f xs (λ k y e. stays (suc k) y e))

pub each_twice : {X : Type 0} (f g h : X → X) → ((x : X) → g (f x) ≡ h x) → (xs : List X) → each g (each f xs) ≡ each h xs
each_twice f g h same [] = refl
each_twice {X = X} f g h same (x ∷ xs) = ap₂ {C = List X} (λ y ys. y ∷ ys) (same x) (each_twice f g h same xs)

abbrev pub at_parts : ℕ → Frame → List Frame → List ℕ → Activity
at_parts depth top below fresh = record { depth = depth; top = top; below = below; fresh = fresh }

-- what a thread is at is the same where its parts are
pub same_parts : (depth : ℕ) {x y : Frame} {xs ys : List Frame} {fresh others : List ℕ} → x ≡ y → xs ≡ ys → fresh ≡ others →
    at_parts depth x xs fresh ≡ at_parts depth y ys others
same_parts depth p q r = λ i. record { depth = depth; top = p i; below = q i; fresh = r i }

-- ---- one renaming after the other

abbrev pub then_by : Renaming → Renaming → Renaming
then_by p q = record {
  new = λ n. q.new (p.new n);
  old = λ n. p.old (q.old n);
  onto = λ n. ap q.new (p.onto (q.old n)) ∙ q.onto n;
  into = λ n. ap p.old (q.into (p.new n)) ∙ p.into n;
}

module _ (f g : ℕ → ℕ) where
  value_twice : (v : Value) → value_by g (value_by f v) ≡ value_by (λ n. g (f n)) v
  value_twice (Int n) = refl
  value_twice Null = refl
  value_twice (Addr o i) = refl

  fault_twice : (w : Fault) → fault_by g (fault_by f w) ≡ fault_by (λ n. g (f n)) w
  fault_twice (fault.Unprotected c e) = refl
  fault_twice fault.BadType = refl
  fault_twice fault.Null = refl
  fault_twice fault.Bounds = refl
  fault_twice fault.Full = refl
  fault_twice fault.Stack = refl
  fault_twice fault.Open = refl
  fault_twice fault.Deep = refl
  fault_twice fault.NoSection = refl

  pub reply_twice : (r : Reply) → reply_by g (reply_by f r) ≡ reply_by (λ n. g (f n)) r
  reply_twice reply.Ran = refl
  reply_twice (reply.Out v) = ap reply.Out (value_twice v)
  reply_twice reply.Blocked = refl
  reply_twice reply.Ended = refl
  reply_twice (reply.Fault w) = ap reply.Fault (fault_twice w)

  node_twice : (n : Node) → node_by g (node_by f n) ≡ node_by (λ k. g (f k)) n
  node_twice Root = refl
  node_twice (Class c) = refl
  node_twice (Leaf x c) = refl

  object_twice : (o : Object) → object_by g (object_by f o) ≡ object_by (λ n. g (f n)) o
  object_twice o = ap (λ z. record { class = o.class; cells = z }) (each_twice (value_by f) (value_by g) (value_by (λ n. g (f n))) value_twice o.cells)

  frame_twice : (x : Frame) → frame_by g (frame_by f x) ≡ frame_by (λ n. g (f n)) x
  frame_twice x = ap (λ z. record { function = x.function; pc = x.pc; regs = z; result = x.result }) (each_twice (value_by f) (value_by g) (value_by (λ n. g (f n))) value_twice x.regs)

  activity_twice : (a : Activity) → activity_by g (activity_by f a) ≡ activity_by (λ n. g (f n)) a
  activity_twice a = same_parts a.depth (frame_twice a.top) (each_twice (frame_by f) (frame_by g) (frame_by (λ n. g (f n))) frame_twice a.below) (each_twice f g (λ n. g (f n)) (λ n. refl) a.fresh)

  thread_twice : (x : Thread) → thread_by g (thread_by f x) ≡ thread_by (λ n. g (f n)) x
  thread_twice (Running a) = ap Running (activity_twice a)
  thread_twice (Done v) = ap Done (value_twice v)
  thread_twice (Failed w) = ap Failed (fault_twice w)

  objects_twice : (o : Option Object) → option_map (object_by g) (option_map (object_by f) o) ≡ option_map (object_by (λ n. g (f n))) o
  objects_twice None = refl
  objects_twice (Some o) = ap Some (object_twice o)

  pub renamed_twice : (one two three : State) → IsRenamed f one two → IsRenamed g two three → IsRenamed (λ n. g (f n)) one three
  renamed_twice one two three k l = record {
    count = l.count ∙ k.count;
    objects = λ n. l.objects (f n) ∙ ap (option_map (object_by g)) (k.objects n) ∙ objects_twice (slice_get one.objects n);
    holding = λ t n. ap (λ z. map.get three.holding (key t z)) (sym (node_twice n)) ∙ l.holding t (node_by f n) ∙ k.holding t n;
    threads = l.threads ∙ ap (each (thread_by g)) k.threads ∙ each_twice (thread_by f) (thread_by g) (thread_by (λ n. g (f n))) thread_twice one.threads;
  }

  pub keeps_twice : (globals one two : ℕ) → one ≤ two → Keeps f globals one → Keeps g globals two → Keeps (λ n. g (f n)) globals two
  keeps_twice globals one two le k l = record {
    globals = λ n lt. ap g (k.globals n lt) ∙ l.globals n lt;
    later = λ n past. ap g (k.later n (le_le one two n le past)) ∙ l.later n past;
  }
    where
      le_le : (a b c : ℕ) → a ≤ b → b ≤ c → a ≤ c
      le_le a b c p q = omega (arith, p, q)

-- ---- what has only numbers that stay

abbrev pub ValueOf : ℕ → Value → Type 0
ValueOf count (Int n) = Unit {0}
ValueOf count Null = Unit {0}
ValueOf count (Addr o i) = o < count

abbrev pub FaultOf : ℕ → Fault → Type 0
FaultOf count (fault.Unprotected c e) = c.object < count
FaultOf count w = Unit {0}

abbrev pub ReplyOf : ℕ → Reply → Type 0
ReplyOf count (reply.Out v) = ValueOf count v
ReplyOf count (reply.Fault w) = FaultOf count w
ReplyOf count r = Unit {0}

module _ (f : ℕ → ℕ) (count : ℕ) (stays : (n : ℕ) → n < count → f n ≡ n) where
  pub value_stays : (v : Value) → ValueOf count v → value_by f v ≡ v
  value_stays (Int n) of = refl
  value_stays Null of = refl
  value_stays (Addr o i) of = ap (λ z. Addr z i) (stays o of)

  pub fault_stays : (w : Fault) → FaultOf count w → fault_by f w ≡ w
  fault_stays (fault.Unprotected c e) of = ap (λ z. fault.Unprotected (record { object = z; offset = c.offset }) e) (stays c.object of)
  fault_stays fault.BadType of = refl
  fault_stays fault.Null of = refl
  fault_stays fault.Bounds of = refl
  fault_stays fault.Full of = refl
  fault_stays fault.Stack of = refl
  fault_stays fault.Open of = refl
  fault_stays fault.Deep of = refl
  fault_stays fault.NoSection of = refl

  pub reply_stays : (r : Reply) → ReplyOf count r → reply_by f r ≡ r
  reply_stays reply.Ran of = refl
  reply_stays (reply.Out v) of = ap reply.Out (value_stays v of)
  reply_stays reply.Blocked of = refl
  reply_stays reply.Ended of = refl
  reply_stays (reply.Fault w) of = ap reply.Fault (fault_stays w of)

  pub values_stay : (vs : List Value) → ((r : ℕ) (v : Value) → slice_get vs r ≡ Some v → ValueOf count v) → each (value_by f) vs ≡ vs
  values_stay vs of = each_stays (value_by f) vs (λ r v e. value_stays v (of r v e))

-- all numbers stay
abbrev pub none_by : Renaming
none_by = record { new = λ n. n; old = λ n. n; onto = λ n. refl; into = λ n. refl }

same_value_by : (v : Value) → value_by (λ n. n) v ≡ v
same_value_by (Int n) = refl
same_value_by Null = refl
same_value_by (Addr o i) = refl

same_fault_by : (w : Fault) → fault_by (λ n. n) w ≡ w
same_fault_by (fault.Unprotected c e) = refl
same_fault_by fault.BadType = refl
same_fault_by fault.Null = refl
same_fault_by fault.Bounds = refl
same_fault_by fault.Full = refl
same_fault_by fault.Stack = refl
same_fault_by fault.Open = refl
same_fault_by fault.Deep = refl
same_fault_by fault.NoSection = refl

pub same_reply_by : (r : Reply) → reply_by (λ n. n) r ≡ r
same_reply_by reply.Ran = refl
same_reply_by (reply.Out v) = ap reply.Out (same_value_by v)
same_reply_by reply.Blocked = refl
same_reply_by reply.Ended = refl
same_reply_by (reply.Fault w) = ap reply.Fault (same_fault_by w)

same_node : (n : Node) → node_by (λ k. k) n ≡ n
same_node Root = refl
same_node (Class c) = refl
same_node (Leaf x c) = refl

same_frame : (x : Frame) → frame_by (λ n. n) x ≡ x
same_frame x = ap (λ z. record { function = x.function; pc = x.pc; regs = z; result = x.result }) (each_same (value_by (λ n. n)) same_value_by x.regs)

same_thread : (x : Thread) → thread_by (λ n. n) x ≡ x
same_thread (Running a) = ap Running (same_parts a.depth (same_frame a.top) (each_same (frame_by (λ n. n)) same_frame a.below) (each_same (λ n. n) (λ n. refl) a.fresh))
same_thread (Done v) = ap Done (same_value_by v)
same_thread (Failed w) = ap Failed (same_fault_by w)

same_object : (o : Option Object) → option_map (object_by (λ n. n)) o ≡ o
same_object None = refl
same_object (Some o) = ap (λ z. Some (record { class = o.class; cells = z })) (each_same (value_by (λ n. n)) same_value_by o.cells)

pub same_renamed : (one other : State) → one ≡ other → IsRenamed (λ n. n) one other
same_renamed one other e = subst (IsRenamed (λ n. n) one) e (record {
  count = refl;
  objects = λ n. sym (same_object (slice_get one.objects n));
  holding = λ t n. ap (λ z. map.get one.holding (key t z)) (same_node n);
  threads = sym (each_same (thread_by (λ n. n)) same_thread one.threads);
})

pub same_keeps : (globals count : ℕ) → Keeps (λ n. n) globals count
same_keeps globals count = record { globals = λ n lt. refl; later = λ n past. refl }

pub same_replies : (rs : List Reply) → each (reply_by (λ n. n)) rs ≡ rs
same_replies rs = each_same (reply_by (λ n. n)) same_reply_by rs

-- ---- what is heard

pub heard_by : (f : ℕ → ℕ) (r : Reply) → each (reply_by f) (heard r) ≡ heard (reply_by f r)
heard_by f reply.Ran = refl
heard_by f (reply.Out v) = refl
heard_by f reply.Blocked = refl
heard_by f reply.Ended = refl
heard_by f (reply.Fault w) = refl

pub heard_back : (f : ℕ → ℕ) (r : Reply) → heard r ≢ [] → heard (reply_by f r) ≢ []
heard_back f reply.Ran k e = k e
heard_back f (reply.Out v) k e = cc
heard_back f reply.Blocked k e = k e
heard_back f reply.Ended k e = k e
heard_back f (reply.Fault w) k e = cc

pub not_full_by : (f : ℕ → ℕ) (r : Reply) → reply_by f r ≡ reply.Fault fault.Full → r ≡ reply.Fault fault.Full
not_full_by f (reply.Fault fault.Full) e = refl
not_full_by f (reply.Fault (fault.Unprotected c k)) e = cc
not_full_by f (reply.Fault fault.BadType) e = e
not_full_by f (reply.Fault fault.Null) e = e
not_full_by f (reply.Fault fault.Bounds) e = e
not_full_by f (reply.Fault fault.Stack) e = e
not_full_by f (reply.Fault fault.Open) e = e
not_full_by f (reply.Fault fault.Deep) e = e
not_full_by f (reply.Fault fault.NoSection) e = e
not_full_by f reply.Ran e = e
not_full_by f (reply.Out v) e = cc
not_full_by f reply.Blocked e = e
not_full_by f reply.Ended e = e
