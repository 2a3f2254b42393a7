-- What follows at the calls of a function, at whose entry locks are needed.
use Rattle.std.proofs.Common.{◌≡◌, ℕ, Result, Ok, Err, OnOk, IfErr, Some, slice_get, ap, sym, subst, ◌∙◌}
use Rattle.asl_code.specs.declared.lock.Lock.{Lock}
use Rattle.asl_backward_flow.specs.declared.found.AddFault.{AddFault}
use Rattle.asl_backward_flow.specs.declared.region.Region.{Region}
use Rattle.asl_backward_flow.specs.declared.region.Region.TheVariants as variant
use Rattle.asl_backward_flow.specs.declared.span.Span.{Span}
use Rattle.asl_backward_flow.specs.Found.{Table}
use Rattle.asl_backward_flow.specs.Follows.{Read, IsReady, IsAtCall, AtCallOf, IsEntryOf, Added, Stopped}
use Rattle.asl_backward_flow.proofs.Sets.{some_same}
use Rattle.asl_backward_flow.proofs.Adding.{added_as, added_none, stopped_as}

abbrev pub function_of : Region → ℕ
function_of (variant.Body g) = g
function_of (variant.Section s) = s

pub not_both : (n g : ℕ) → variant.Section n ≡ variant.Body g → ⊥
not_both n g e = cc

module _ (r : Read) (part pc : ℕ) (Such : Lock → Type 0) (s : Span) (there : slice_get r.spans part ≡ Some s) where
  module _ (g : ℕ) (region : s.region ≡ variant.Body g) (first : pc ≡ s.first) where
    call_of : (p q : ℕ) (m : Lock) → IsEntryOf r part pc Such p q m → AtCallOf r g Such p q m
    call_of p q m h =
        let e = h.2 in
        let same : e.body ≡ s = some_same (sym e.there ∙ there) in
        let one : e.function ≡ g = ap function_of (sym e.region ∙ ap (λ (t : Span). t.region) same ∙ region) in
        (h.0, h.1, subst (λ k. IsAtCall r k h.0 p q m) one e.call)

    entry_of : (p q : ℕ) (m : Lock) → AtCallOf r g Such p q m → IsEntryOf r part pc Such p q m
    entry_of p q m h = (h.0, h.1, record { body = s; function = g; there = there; region = region; entry = first; call = h.2 })

    pub entry_ok : (a b : Table) (result : Result Unit AddFault) → OnOk result (Added r a b (AtCallOf r g Such)) → OnOk result (Added r a b (IsEntryOf r part pc Such))
    entry_ok a b (Ok u) x = added_as r a b _ _ entry_of call_of x
    entry_ok a b (Err e) x = tt

    pub entry_err : (a b : Table) (result : Result Unit AddFault) → IfErr result (Stopped a b (AtCallOf r g Such)) → IfErr result (Stopped a b (IsEntryOf r part pc Such))
    entry_err a b (Ok u) x = tt
    entry_err a b (Err e) x = stopped_as a b _ _ e entry_of x

  pub entry_none : (a : Table) → IsReady r a → ((g : ℕ) → s.region ≡ variant.Body g → pc ≡ s.first → ⊥) → Added r a a (IsEntryOf r part pc Such)
  entry_none a ready not = added_none r a _ ready (λ p q m h.
      let e = h.2 in
      let same : e.body ≡ s = some_same (sym e.there ∙ there) in
      not e.function (sym (ap (λ (t : Span). t.region) same) ∙ e.region) (e.entry ∙ ap (λ (t : Span). t.first) same))
