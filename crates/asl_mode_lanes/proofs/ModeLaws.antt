-- Laws of the six modes. Each is a test that computes over all modes.
use Rattle.std.proofs.Common.{◌≡◌, ◌≢◌, refl, subst, Bool, true, false, ◌&&◌, ◌||◌, not, ◌==◌, ap, sym, ◌∙◌, ◌⊎◌, inl, inr, bit_or, ◌↔◌}
use Rattle.std.proofs.lemmas.Bool.{eqb-true, not-true, and_parts}
use Rattle.asl_mode_lanes.specs.declared.mode.Mode.{Mode}
use Rattle.asl_mode_lanes.specs.declared.mode.Mode.TheVariants.{NL, IS, IX, S, SIX, X}
use Rattle.asl_mode_lanes.specs.Mode.{is_at_most, AtMost, is_compatible, AreCompatible, IsJoin, join_of, code_of, codes_clash}
use Rattle.asl_mode_lanes.specs.Row.{mode_of}
use Rattle.asl_mode_lanes.specs.Clash.{against, clashes}

-- a test holds of each mode
abbrev each : (Mode → Bool) → Bool
each p = p NL && (p IS && (p IX && (p S && (p SIX && p X))))

each-holds : (p : Mode → Bool) → each p ≡ true → (m : Mode) → p m ≡ true
each-holds p h =
    let h1 = (and_parts (p NL) _ h).1 in
    let h2 = (and_parts (p IS) _ h1).1 in
    let h3 = (and_parts (p IX) _ h2).1 in
    let h4 = (and_parts (p S) _ h3).1 in
    λ m. elim m as (λ v. p v ≡ true) [
      | NL ↦ (and_parts (p NL) _ h).0
      | IS ↦ (and_parts (p IS) _ h1).0
      | IX ↦ (and_parts (p IX) _ h2).0
      | S ↦ (and_parts (p S) _ h3).0
      | SIX ↦ (and_parts (p SIX) _ h4).0
      | X ↦ (and_parts (p SIX) _ h4).1
    ]

each_pair : (p : Mode → Mode → Bool) → each (λ a. each (p a)) ≡ true → (a b : Mode) → p a b ≡ true
each_pair p h a = each-holds (p a) (each-holds (λ x. each (p x)) h a)

each_triple : (p : Mode → Mode → Mode → Bool) → each (λ a. each (λ b. each (p a b))) ≡ true → (a b c : Mode) → p a b c ≡ true
each_triple p h a = each_pair (p a) (each-holds (λ x. each (λ b. each (p x b))) h a)

-- a test that follows from another
abbrev implies : Bool → Bool → Bool
implies a b = not a || b

implied : (a b : Bool) → implies a b ≡ true → a ≡ true → b ≡ true
implied true b h k = h
implied false b h k = cc

-- two tests that agree
abbrev both_or_none : Bool → Bool → Bool
both_or_none a b = (a && b) || (not a && not b)

same_test : (a b : Bool) → both_or_none a b ≡ true → a ≡ b
same_test true true h = refl
same_test true false h = cc
same_test false true h = cc
same_test false false h = refl

-- each mode is the mode of its code
pub mode_of-code_of : (m : Mode) → mode_of (code_of m) ≡ m
mode_of-code_of NL = refl
mode_of-code_of IS = refl
mode_of-code_of IX = refl
mode_of-code_of S = refl
mode_of-code_of SIX = refl
mode_of-code_of X = refl

-- modes with one code are one
pub code_of-injective : (a b : Mode) → code_of a ≡ code_of b → a ≡ b
code_of-injective a b e = sym (mode_of-code_of a) ∙ ap mode_of e ∙ mode_of-code_of b

same_code : (a b : Mode) → (code_of a == code_of b) ≡ true → a ≡ b
same_code a b h = code_of-injective a b (eqb-true _ _ h)

-- The order.

pub at_most_refl : (a : Mode) → AtMost a a
at_most_refl = each-holds (λ a. is_at_most a a) refl

pub at_most_trans : (a b c : Mode) → AtMost a b → AtMost b c → AtMost a c
at_most_trans a b c h k =
    implied _ _ (implied _ _ (each_triple (λ x y z. implies (is_at_most x y) (implies (is_at_most y z) (is_at_most x z))) refl a b c) h) k

pub at_most_antisym : (a b : Mode) → AtMost a b → AtMost b a → a ≡ b
at_most_antisym a b h k =
    same_code a b (implied _ _ (implied _ _ (each_pair (λ x y. implies (is_at_most x y) (implies (is_at_most y x) (code_of x == code_of y))) refl a b) h) k)

pub at_most-NL : (a : Mode) → AtMost a NL → a ≡ NL
at_most-NL a h = at_most_antisym a NL h refl

-- The joins.

pub join_left : (a b : Mode) → AtMost a (join_of a b)
join_left = each_pair (λ a b. is_at_most a (join_of a b)) refl

pub join_right : (a b : Mode) → AtMost b (join_of a b)
join_right = each_pair (λ a b. is_at_most b (join_of a b)) refl

pub join_least : (a b m : Mode) → AtMost a m → AtMost b m → AtMost (join_of a b) m
join_least a b m h k =
    implied _ _ (implied _ _ (each_triple (λ x y z. implies (is_at_most x z) (implies (is_at_most y z) (is_at_most (join_of x y) z))) refl a b m) h) k

pub join_of-IsJoin : (a b : Mode) → IsJoin a b (join_of a b)
join_of-IsJoin a b = record { left = join_left a b; right = join_right a b; least = join_least a b }

-- two modes have one join
pub IsJoin-unique : (a b j k : Mode) → IsJoin a b j → IsJoin a b k → j ≡ k
IsJoin-unique a b j k p q = at_most_antisym j k (p.least k q.left q.right) (q.least j p.left p.right)

pub join_comm : (a b : Mode) → join_of a b ≡ join_of b a
join_comm a b = same_code _ _ (each_pair (λ x y. code_of (join_of x y) == code_of (join_of y x)) refl a b)

pub join_assoc : (a b c : Mode) → join_of (join_of a b) c ≡ join_of a (join_of b c)
join_assoc a b c = same_code _ _ (each_triple (λ x y z. code_of (join_of (join_of x y) z) == code_of (join_of x (join_of y z))) refl a b c)

pub join_idem : (a : Mode) → join_of a a ≡ a
join_idem a = same_code _ _ (each-holds (λ x. code_of (join_of x x) == code_of x) refl a)

pub join_NL : (a : Mode) → join_of a NL ≡ a
join_NL a = same_code _ _ (each-holds (λ x. code_of (join_of x NL) == code_of x) refl a)

pub NL_join : (a : Mode) → join_of NL a ≡ a
NL_join a = refl

pub join_monotone : (a b c d : Mode) → AtMost a b → AtMost c d → AtMost (join_of a c) (join_of b d)
join_monotone a b c d h k =
    join_least a c (join_of b d) (at_most_trans a b _ h (join_left b d)) (at_most_trans c d _ k (join_right b d))

-- Compatibility.

pub compatible_sym : (a b : Mode) → AreCompatible a b → AreCompatible b a
compatible_sym a b h = implied _ _ (each_pair (λ x y. implies (is_compatible x y) (is_compatible y x)) refl a b) h

-- what goes with a mode goes with each lower one
pub compatible_below : (a b c : Mode) → AtMost a b → AreCompatible b c → AreCompatible a c
compatible_below a b c h k =
    implied _ _ (implied _ _ (each_triple (λ x y z. implies (is_at_most x y) (implies (is_compatible y z) (is_compatible x z))) refl a b c) h) k

-- on both sides
pub compatible_both_below : (a b c d : Mode) → AtMost a b → AtMost c d → AreCompatible b d → AreCompatible a c
compatible_both_below a b c d h k both =
    compatible_below a b c h (compatible_sym c b (compatible_below c d b k (compatible_sym b d both)))

pub compatible-NL : (a : Mode) → AreCompatible a NL
compatible-NL = each-holds (λ a. is_compatible a NL) refl

-- who reads all below a node never goes with who means to write there
pub reader_clashes : (a b : Mode) → AtMost S a → AtMost IX b → is_compatible a b ≡ false
reader_clashes a b h k =
    not-true _ (implied _ _ (implied _ _ (each_pair (λ x y. implies (is_at_most S x) (implies (is_at_most IX y) (not (is_compatible x y)))) refl a b) h) k)

-- who writes all below a node never goes with who means to read there
pub writer_clashes : (a b : Mode) → AtMost IS a → AtMost X b → is_compatible a b ≡ false
writer_clashes a b h k =
    not-true _ (implied _ _ (implied _ _ (each_pair (λ x y. implies (is_at_most IS x) (implies (is_at_most X y) (not (is_compatible x y)))) refl a b) h) k)

-- The modes at or above one: what is enough for it.

pub enough_IS : (m : Mode) → AtMost IS m ↔ (m ≢ NL)
enough_IS NL = (λ h. cc, λ other. absurd (other refl))
enough_IS IS = (λ h e. cc, λ _. refl)
enough_IS IX = (λ h e. cc, λ _. refl)
enough_IS S = (λ h e. cc, λ _. refl)
enough_IS SIX = (λ h e. cc, λ _. refl)
enough_IS X = (λ h e. cc, λ _. refl)

above_IX : (m : Mode) → AtMost IX m → (m ≡ IX) ⊎ ((m ≡ SIX) ⊎ (m ≡ X))
above_IX NL h = cc
above_IX IS h = cc
above_IX IX h = inl refl
above_IX S h = cc
above_IX SIX h = inr (inl refl)
above_IX X h = inr (inr refl)

above_S : (m : Mode) → AtMost S m → (m ≡ S) ⊎ ((m ≡ SIX) ⊎ (m ≡ X))
above_S NL h = cc
above_S IS h = cc
above_S IX h = cc
above_S S h = inl refl
above_S SIX h = inr (inl refl)
above_S X h = inr (inr refl)

above_X : (m : Mode) → AtMost X m → m ≡ X
above_X NL h = cc
above_X IS h = cc
above_X IX h = cc
above_X S h = cc
above_X SIX h = cc
above_X X h = refl

pub enough_IX : (m : Mode) → AtMost IX m ↔ ((m ≡ IX) ⊎ ((m ≡ SIX) ⊎ (m ≡ X)))
enough_IX m = (
  above_IX m,
  λ h. elim h [
    | inl e ↦ subst (AtMost IX) (sym e) refl
    | inr k ↦ elim k [ inl e ↦ subst (AtMost IX) (sym e) refl | inr e ↦ subst (AtMost IX) (sym e) refl ]
  ],
)

pub enough_S : (m : Mode) → AtMost S m ↔ ((m ≡ S) ⊎ ((m ≡ SIX) ⊎ (m ≡ X)))
enough_S m = (
  above_S m,
  λ h. elim h [
    | inl e ↦ subst (AtMost S) (sym e) refl
    | inr k ↦ elim k [ inl e ↦ subst (AtMost S) (sym e) refl | inr e ↦ subst (AtMost S) (sym e) refl ]
  ],
)

pub enough_X : (m : Mode) → AtMost X m ↔ (m ≡ X)
enough_X m = (above_X m, λ e. subst (AtMost X) (sym e) refl)

-- Codes.

-- the code of a join is the bitwise or of the codes
pub code_of-join_of : (a b : Mode) → code_of (join_of a b) ≡ bit_or (code_of a) (code_of b)
code_of-join_of a b = eqb-true _ _ (each_pair (λ x y. code_of (join_of x y) == bit_or (code_of x) (code_of y)) refl a b)

-- two modes go together exactly where their codes do not clash
pub is_compatible-codes_clash : (a b : Mode) → is_compatible a b ≡ not (codes_clash (code_of a) (code_of b))
is_compatible-codes_clash a b =
    same_test _ _ (each_pair (λ x y. both_or_none (is_compatible x y) (not (codes_clash (code_of x) (code_of y)))) refl a b)

-- a code has a bit against a mode exactly where its own mode does not go with it
pub clashes-is_compatible : (a want : Mode) → clashes (against want) (code_of a) ≡ not (is_compatible a want)
clashes-is_compatible a want = same_test _ _ (each_pair (λ x y. both_or_none (clashes (against y) (code_of x)) (not (is_compatible x y))) refl a want)
