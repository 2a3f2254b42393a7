-- What is gathered of a list is its request in all registers and objects that are as shown; a cell of which nothing is told is read.
use Rattle.std.proofs.Common.{◌≡◌, ℕ, ◌+◌, ◌<◌, true, List, [], ◌∷◌, ◌++◌, length, drop, get_or, Option, None, Some, Result, Ok, Err, IsTrue, slice_get, suc, zero, refl, sym, ap, subst, ◌∙◌}
use Rattle.std.proofs.lemmas.List.{at_drop_more}
use Rattle.std.specs.Prelude.{option_map, is_some}
use Rattle.std.specs.Option.{option_map_or}
use Rattle.asl_code.specs.Locks.{effect_of}
use Rattle.asl_code.specs.declared.value.Value.{Value}
use Rattle.asl_code.specs.declared.value.Cell.{Cell}
use Rattle.asl_code.specs.declared.value.Effect.{Effect}
use Rattle.asl_code.specs.declared.value.Effect.TheVariants.{Read, Write}
use Rattle.asl_code.specs.declared.lock.Expr.{Expr}
use Rattle.asl_code.specs.declared.lock.Lock.{Lock}
use Rattle.asl_code.specs.declared.lock.Lock.TheVariants as lock
use Rattle.asl_expression.specs.Expression.{cell_of, cell_denoted}
use Rattle.asl_expression.specs.Expression as expression
use Rattle.asl_lock_forest.specs.declared.node.Node.{Node}
use Rattle.asl_lock_forest.specs.declared.node.Node.TheVariants.{Root, Class, Leaf}
use Rattle.asl_lock_forest.specs.Holding.{Request, asked}
use Rattle.asl_lock_forest.specs.Request.{asks_modes}
use Rattle.asl_lock_queue.specs.Order.{is_rising}
use Rattle.asl_machine.specs.State.{Object}
use Rattle.asl_machine.specs.Request.{heap_of, asks_of, all_asks, joined_all}
use Rattle.asl_machine.specs.Asking.{asks_at, leaf_of}
use Rattle.asl_machine.specs.Asking as machine
use Rattle.asl_machine.proofs.Asking.{asks_for, asks_for_node}
use Rattle.asl_machine.proofs.Joins.{joined_all-append}
use Rattle.asl_c_requests.specs.Placed.{placed_all}
use Rattle.asl_c_requests.specs.Shown.{IsShown, numbered}
use Rattle.asl_c_requests.specs.Requested.{all_numbered, IsRequest, IsRead, IsNeeded}
use Rattle.asl_c_requests.specs.Traced.{base_cell, leaf, leaf_on, node_of, added, gathered, traced}
use Rattle.asl_c_requests.specs.declared.shown.ShownCell.{ShownCell}
use Rattle.asl_c_requests.specs.declared.shown.ShownObject.{ShownObject}
use Rattle.asl_c_requests.specs.declared.shown.ShownValue.{ShownValue}
use Rattle.asl_c_requests.proofs.PlacedLaws.{rises-placed_all, modes-placed_all, same-placed_all}
use Rattle.asl_c_requests.proofs.ShownLaws.{there_holds, same_classes, same_base}
use Rattle.asl_c_requests.proofs.TracedLaws.{trace_is, trace_stops, Stops}

same_node_Ok : (x y : Option Node) → ◌≡◌ {A = Result (Option Node) Cell} (Ok x) (Ok y) → x ≡ y
same_node_Ok x y e = cc

same_words : (x y : Request) → ◌≡◌ {A = Result Request Cell} (Ok x) (Ok y) → x ≡ y
same_words x y e = cc

-- ---- numbers of objects

numbered-append : (objects : List ShownObject) (xs ys : Request) → all_numbered objects (xs ++ ys) ≡ all_numbered objects xs ++ all_numbered objects ys
numbered-append objects [] ys = refl
numbered-append objects (x ∷ xs) ys = ap (λ (r : Request). (numbered objects x.0, x.1) ∷ r) (numbered-append objects xs ys)

numbered_at : (objects : List ShownObject) (effect : Effect) (node : Node) → all_numbered objects (asks_at effect node) ≡ asks_at effect (numbered objects node)
numbered_at objects effect Root = refl
numbered_at objects effect (Class class) = refl
numbered_at objects effect (Leaf cell class) = refl

numbered_for : (objects : List ShownObject) (effect : Effect) (node : Option Node) → all_numbered objects (asks_for effect node) ≡ asks_for effect (option_map (numbered objects) node)
numbered_for objects effect None = refl
numbered_for objects effect (Some node) = numbered_at objects effect node

-- ---- a lock

module _ (registers : List ShownValue) (objects : List ShownObject) (cells : List ShownCell) (regs : List Value) (heap : List Object) (shown : IsShown registers objects cells regs heap) where
  -- the leaf of a cell, by its number
  leaf_is : (cell : Cell) → option_map (numbered objects) (leaf_of heap (Some cell)) ≡ leaf objects cell
  leaf_is cell =
      ap (λ c. option_map (numbered objects) (option_map (λ class. Leaf cell class) c)) (same_classes objects heap cell.object shown.shapes)
      ∙ by_object (slice_get objects cell.object) refl
    where
      by_object : (o : Option ShownObject) → slice_get objects cell.object ≡ o →
          option_map (numbered objects) (option_map (λ class. Leaf cell class) (option_map (λ (s : ShownObject). s.class) o))
          ≡ option_map (λ (s : ShownObject). Leaf (cell_of s.number cell.offset) s.class) o
      by_object None is = refl
      by_object (Some s) is = ap (λ n. Some (Leaf (cell_of n cell.offset) s.class)) (ap (λ (o : Option ShownObject). option_map_or (λ (t : ShownObject). t.number) o 0) is)

  -- the leaf of an expression
  expr_is : (e : Expr) (node : Option Node) → leaf_on objects (traced objects cells e.path (Ok (base_cell registers e.base))) ≡ Ok node →
      option_map (numbered objects) (leaf_of heap (cell_denoted (heap_of heap) regs e)) ≡ node
  expr_is e node h = by_end (traced objects cells e.path (Ok (base_cell registers e.base))) refl h
    where
      denoted : (end : Option Cell) → traced objects cells e.path (Ok (base_cell registers e.base)) ≡ Ok end → cell_denoted (heap_of heap) regs e ≡ end
      denoted end is =
          ap (λ c. expression.path_cell (heap_of heap) e.path c) (same_base registers regs e.base shown.holds)
          ∙ trace_is registers objects cells regs heap shown e.path (base_cell registers e.base) end is

      by_end : (r : Result (Option Cell) Cell) → traced objects cells e.path (Ok (base_cell registers e.base)) ≡ r → leaf_on objects r ≡ Ok node →
          option_map (numbered objects) (leaf_of heap (cell_denoted (heap_of heap) regs e)) ≡ node
      by_end (Err other) is k = cc
      by_end (Ok None) is k = ap (λ c. option_map (numbered objects) (leaf_of heap c)) (denoted None is) ∙ same_node_Ok None node k
      by_end (Ok (Some cell)) is k =
          ap (λ c. option_map (numbered objects) (leaf_of heap c)) (denoted (Some cell) is) ∙ leaf_is cell ∙ same_node_Ok (leaf objects cell) node k

  node_is : (l : Lock) (node : Option Node) → node_of registers objects cells l ≡ Ok node → option_map (numbered objects) (machine.node_of heap regs l) ≡ node
  node_is (lock.Root effect) node h = same_node_Ok (Some Root) node h
  node_is (lock.Class class effect) node h = same_node_Ok (Some (Class class)) node h
  node_is (lock.Expr e effect) node h = expr_is e node h

  -- the asks of a lock
  lock_asks : (l : Lock) (node : Option Node) → node_of registers objects cells l ≡ Ok node → all_numbered objects (asks_of heap regs l) ≡ asks_for (effect_of l) node
  lock_asks l node h =
      ap (all_numbered objects) (asks_for_node heap regs l)
      ∙ numbered_for objects (effect_of l) (machine.node_of heap regs l)
      ∙ ap (asks_for (effect_of l)) (node_is l node h)

  -- the asks of all locks, joined to a request
  asks_more : (l : Lock) (ls : List Lock) (request : Request) → joined_all request (all_numbered objects (all_asks heap regs (l ∷ ls)))
      ≡ joined_all (joined_all request (all_numbered objects (asks_of heap regs l))) (all_numbered objects (all_asks heap regs ls))
  asks_more l ls request =
      ap (joined_all request) (numbered-append objects (asks_of heap regs l) (all_asks heap regs ls))
      ∙ joined_all-append request (all_numbered objects (asks_of heap regs l)) (all_numbered objects (all_asks heap regs ls))

  asks_next : (l : Lock) (ls : List Lock) (request : Request) (node : Option Node) → node_of registers objects cells l ≡ Ok node →
      joined_all request (all_numbered objects (all_asks heap regs (l ∷ ls))) ≡ joined_all (joined_all request (asks_for (effect_of l) node)) (all_numbered objects (all_asks heap regs ls))
  asks_next l ls request node is =
      asks_more l ls request ∙ ap (λ (r : Request). joined_all (joined_all request r) (all_numbered objects (all_asks heap regs ls))) (lock_asks l node is)

-- ---- a list

gathered_stuck : (registers : List ShownValue) (objects : List ShownObject) (cells : List ShownCell) (locks : List Lock) (cell : Cell) →
    gathered registers objects cells locks (Err cell) ≡ Err cell
gathered_stuck registers objects cells [] cell = refl
gathered_stuck registers objects cells (l ∷ ls) cell = gathered_stuck registers objects cells ls cell

-- the locks from one of them on
pub gathered_step : (registers : List ShownValue) (objects : List ShownObject) (cells : List ShownCell) (locks : List Lock) (i : ℕ) (l : Lock) (words : Result Request Cell) → i < length locks →
    l ≡ get_or locks i l → gathered registers objects cells (drop i locks) words ≡ gathered registers objects cells (drop (i + 1) locks) (added (effect_of l) (node_of registers objects cells l) words)
gathered_step registers objects cells locks i l words lt is =
    at_drop_more (λ (ls : List Lock). gathered registers objects cells ls words) locks i l lt
    ∙ ap (λ (k : Lock). gathered registers objects cells (drop (i + 1) locks) (added (effect_of k) (node_of registers objects cells k) words)) (sym is)

pub gathered_fails : (registers : List ShownValue) (objects : List ShownObject) (cells : List ShownCell) (locks : List Lock) (i : ℕ) (l : Lock) (words : Request) (cell : Cell) → i < length locks →
    l ≡ get_or locks i l → node_of registers objects cells l ≡ Err cell → gathered registers objects cells (drop i locks) (Ok words) ≡ Err cell
gathered_fails registers objects cells locks i l words cell lt is e =
    gathered_step registers objects cells locks i l (Ok words) lt is
    ∙ ap (λ (n : Result (Option Node) Cell). gathered registers objects cells (drop (i + 1) locks) (added (effect_of l) n (Ok words))) e
    ∙ gathered_stuck registers objects cells (drop (i + 1) locks) cell

some_modes : (effect : Effect) (node : Node) → IsTrue (asks_modes (asks_at effect node))
some_modes Read Root = refl
some_modes Write Root = refl
some_modes Read (Class class) = refl
some_modes Write (Class class) = refl
some_modes Read (Leaf cell class) = refl
some_modes Write (Leaf cell class) = refl

module _ (registers : List ShownValue) (objects : List ShownObject) (cells : List ShownCell) where
  -- what is gathered rises, and asks no NL
  lawful : (locks : List Lock) (start words : Request) → gathered registers objects cells locks (Ok start) ≡ Ok words → is_rising start ≡ true → IsTrue (asks_modes start) →
      (is_rising words ≡ true) × IsTrue (asks_modes words)
  lawful [] start words e rises modes =
      let same = same_words start words e in (subst (λ (r : Request). is_rising r ≡ true) same rises, subst (λ (r : Request). IsTrue (asks_modes r)) same modes)
  lawful (l ∷ ls) start words e rises modes =
      elim (node_of registers objects cells l) as (λ r. gathered registers objects cells ls (added (effect_of l) r (Ok start)) ≡ Ok words → (is_rising words ≡ true) × IsTrue (asks_modes words)) [
        | Ok node ↦ elim node as (λ o. gathered registers objects cells ls (added (effect_of l) (Ok o) (Ok start)) ≡ Ok words → (is_rising words ≡ true) × IsTrue (asks_modes words)) [
          | None ↦ λ h. lawful ls start words h rises modes
          | Some n ↦ λ h.
              lawful ls (placed_all start (asks_at (effect_of l) n)) words h (rises-placed_all (asks_at (effect_of l) n) start rises)
              (modes-placed_all (asks_at (effect_of l) n) start (some_modes (effect_of l) n) modes)
        ]
        | Err cell ↦ λ h. let s = gathered_stuck registers objects cells ls cell in cc
      ] e

  -- and asks for what the locks ask, in all registers and objects that are as shown
  same_asks : (regs : List Value) (heap : List Object) → IsShown registers objects cells regs heap → (locks : List Lock) (start words request : Request) →
      gathered registers objects cells locks (Ok start) ≡ Ok words → is_rising start ≡ true → ((x : Node) → asked start x ≡ asked request x) → (x : Node) →
      asked words x ≡ asked (joined_all request (all_numbered objects (all_asks heap regs locks))) x
  same_asks regs heap shown [] start words request e rises same x = ap (λ (r : Request). asked r x) (sym (same_words start words e)) ∙ same x
  same_asks regs heap shown (l ∷ ls) start words request e rises same x =
      elim (node_of registers objects cells l) as (λ r. node_of registers objects cells l ≡ r → gathered registers objects cells ls (added (effect_of l) r (Ok start)) ≡ Ok words →
      asked words x ≡ asked (joined_all request (all_numbered objects (all_asks heap regs (l ∷ ls)))) x) [
        | Ok node ↦ elim node as (λ o. node_of registers objects cells l ≡ Ok o → gathered registers objects cells ls (added (effect_of l) (Ok o) (Ok start)) ≡ Ok words →
            asked words x ≡ asked (joined_all request (all_numbered objects (all_asks heap regs (l ∷ ls)))) x) [
              | None ↦ λ is h.
                  same_asks regs heap shown ls start words request h rises same x
                  ∙ ap (λ (r : Request). asked r x) (sym (asks_next registers objects cells regs heap shown l ls request None is))
              | Some n ↦ λ is h.
                  same_asks regs heap shown ls (placed_all start (asks_at (effect_of l) n)) words (joined_all request (asks_at (effect_of l) n)) h
                  (rises-placed_all (asks_at (effect_of l) n) start rises) (same-placed_all (asks_at (effect_of l) n) start request rises same) x
                  ∙ ap (λ (r : Request). asked r x) (sym (asks_next registers objects cells regs heap shown l ls request (Some n) is))
            ]
        | Err cell ↦ λ is h. let s = gathered_stuck registers objects cells ls cell in cc
      ] refl e

pub request_is : (registers : List ShownValue) (objects : List ShownObject) (cells : List ShownCell) (locks : List Lock) (words : Request) →
    gathered registers objects cells locks (Ok []) ≡ Ok words → IsRequest registers objects cells locks words
request_is registers objects cells locks words e = let laws = lawful registers objects cells locks [] words e refl refl in record {
  rises = laws.0;
  modes = laws.1;
  asks = λ regs heap shown x. same_asks registers objects cells regs heap shown locks [] words [] e refl (λ y. refl) x;
}

-- ---- a cell of which nothing is told

next_read : (heap : List Object) (regs : List Value) (l : Lock) (ls : List Lock) (cell : Cell) → IsRead heap regs ls cell → IsRead heap regs (l ∷ ls) cell
next_read heap regs l ls cell r = record {
  number = suc r.number;
  expr = r.expr;
  effect = r.effect;
  before = r.before;
  after = r.after;
  listed = r.listed;
  path = r.path;
  comes = r.comes;
  there = r.there;
}

module _ (registers : List ShownValue) (objects : List ShownObject) (cells : List ShownCell) where
  stops : (l : Lock) (cell : Cell) → node_of registers objects cells l ≡ Err cell →
      (e : Expr) × (effect : Effect) × (l ≡ lock.Expr e effect) × (Stops objects cells e.path (base_cell registers e.base) cell)
  stops (lock.Root effect) cell h = cc
  stops (lock.Class class effect) cell h = cc
  stops (lock.Expr e effect) cell h = (e, effect, refl, by_end (traced objects cells e.path (Ok (base_cell registers e.base))) refl h)
    where
      by_end : (r : Result (Option Cell) Cell) → traced objects cells e.path (Ok (base_cell registers e.base)) ≡ r → leaf_on objects r ≡ Err cell →
          Stops objects cells e.path (base_cell registers e.base) cell
      by_end (Err other) is k = trace_stops objects cells e.path (base_cell registers e.base) cell (let s : other ≡ cell = cc in subst (λ c. traced objects cells e.path (Ok (base_cell registers e.base)) ≡ Err c) s is)
      by_end (Ok None) is k = cc
      by_end (Ok (Some at)) is k = cc

  first_needed : (l : Lock) (ls : List Lock) (cell : Cell) → node_of registers objects cells l ≡ Err cell → IsNeeded registers objects cells (l ∷ ls) cell
  first_needed l ls cell h = let s = stops l cell h in record {
    untold = s.3.untold;
    read = λ regs heap shown.
        let v = there_holds objects heap cell shown.shapes s.3.there in record {
          number = zero;
          expr = s.0;
          effect = s.1;
          before = s.3.before;
          after = s.3.after;
          listed = ap Some s.2;
          path = s.3.split;
          comes = ap (λ c. expression.path_cell (heap_of heap) s.3.before c) (same_base registers regs s.0.base shown.holds) ∙ s.3.comes registers regs heap shown;
          there = ap is_some v.1;
        };
  }

  later : (l : Lock) (ls : List Lock) (cell : Cell) → IsNeeded registers objects cells ls cell → IsNeeded registers objects cells (l ∷ ls) cell
  later l ls cell n = record { untold = n.untold; read = λ regs heap shown. next_read heap regs l ls cell (n.read regs heap shown) }

  pub cell_is_needed : (locks : List Lock) (cell : Cell) (start : Request) → gathered registers objects cells locks (Ok start) ≡ Err cell → IsNeeded registers objects cells locks cell
  cell_is_needed [] cell start e = cc
  cell_is_needed (l ∷ ls) cell start e =
      elim (node_of registers objects cells l) as (λ r. node_of registers objects cells l ≡ r → gathered registers objects cells ls (added (effect_of l) r (Ok start)) ≡ Err cell →
      IsNeeded registers objects cells (l ∷ ls) cell) [
        | Ok node ↦ elim node as (λ o. node_of registers objects cells l ≡ Ok o → gathered registers objects cells ls (added (effect_of l) (Ok o) (Ok start)) ≡ Err cell →
            IsNeeded registers objects cells (l ∷ ls) cell) [
              | None ↦ λ is h. later l ls cell (cell_is_needed ls cell start h)
              | Some n ↦ λ is h. later l ls cell (cell_is_needed ls cell (placed_all start (asks_at (effect_of l) n)) h)
            ]
        | Err other ↦ λ is h.
            let s = gathered_stuck registers objects cells ls other in
            let same : other ≡ cell = cc in
            first_needed l ls cell (subst (λ c. node_of registers objects cells l ≡ Err c) same is)
      ] refl e
