-- Along a run, from a step on: who knows has taken a step that the first happens before, and so has who left a mark.
use Rattle.std.proofs.Common.{◌≡◌, ℕ, suc, ◌<◌, ◌⊎◌, List, [], ◌∷◌, Some, slice_get, refl, ap, sym, subst, inl, inr, arith, false, true}
use Rattle.asl_code.specs.declared.image.Image.{Image}
use Rattle.asl_mode_lanes.specs.Mode.{AreCompatible}
use Rattle.asl_lock_forest.specs.Holding.{held, asked}
use Rattle.asl_machine.specs.declared.reply.Reply.{Reply}
use Rattle.asl_machine.specs.State.{State}
use Rattle.asl_machine.specs.Fresh.{AreApart}
use Rattle.asl_machine.specs.WellFormed.{SatisfiesInvariant}
use Rattle.asl_machine.specs.Step.{Step}
use Rattle.asl_atomicity.specs.Serial.{TakenStep}
use Rattle.asl_races.specs.Races.{GivesBack, IsStepOf, HappensBefore, InOrder, Handed, Through, requested}
use Rattle.asl_races.proofs.Turns.{taken}
use Rattle.asl_races.proofs.Marks.{Mark, Knows, AreMarks, knows_either, tell_knows}
use Rattle.asl_races.proofs.Knowing.{ComesToKnow, Advance, advance}
use Rattle.asl_races.proofs.Runs.{step_there, IsKept, Place}

more_by_one : (n : ℕ) → n < suc n
more_by_one n = omega arith

still_less : (k n : ℕ) → k < n → k < suc n
still_less k n lt = omega (arith, lt)

less : (i k j : ℕ) → i < k → k < j → i < j
less i k j p q = omega (arith, p, q)

-- what happens before another step stands before it
pub stands_before : (image : Image) (run : List TakenStep) (i j : ℕ) → HappensBefore image run i j → i < j
stands_before image run _ _ (InOrder i j thread lt one other) = lt
stands_before image run _ _ (Handed i j h) = h.order
stands_before image run _ _ (Through i k j first second) = less i k j (stands_before image run i k first) (stands_before image run k j second)

module _ (image : Image) (all : List TakenStep) (first : ℕ) where
  -- the place is the first, or that happens before it
  abbrev pub IsAfter : ℕ → Type 0
  IsAfter k = (k ≡ first) ⊎ HappensBefore image all first k

  pub record IsAhead (n u : ℕ) : Type 0 where
    pub place : ℕ
    pub before : place < n
    pub own : IsStepOf u (λ step. Unit {0}) all place
    pub after : IsAfter place

  pub record IsLeft (n : ℕ) (mark : Mark) : Type 0 where
    pub place : ℕ
    pub step : TakenStep
    pub before : place < n
    pub at : slice_get all place ≡ Some step
    pub thread : step.thread ≡ mark.thread
    pub holding : step.before.holding ≡ mark.holding
    pub gives_back : GivesBack image step
    pub after : IsAfter place

  -- before the place who knows has taken such a step, and each mark was left by one
  pub record AreFacts (n : ℕ) (knowers : List ℕ) (marks : List Mark) : Type 0 where
    pub ahead : (u : ℕ) → Knows knowers u → IsAhead n u
    pub marked : (k : ℕ) (mark : Mark) → slice_get marks k ≡ Some mark → IsLeft n mark

  -- who knows steps after the first
  pub knows_here : (n u : ℕ) (knowers : List ℕ) (marks : List Mark) → AreFacts n knowers marks → Knows knowers u → IsStepOf u (λ step. Unit {0}) all n → HappensBefore image all first n
  knows_here n u knowers marks facts knows here =
      let a = facts.ahead u knows in
      let last : HappensBefore image all a.place n = InOrder a.place n u a.before a.own here in
      elim a.after [ inl is ↦ subst (λ k. HappensBefore image all k n) is last | inr before ↦ Through first a.place n before last ]

  -- and so does who comes to know
  comes_here : (n : ℕ) (s : State) (t : ℕ) (r : Reply) (knowers : List ℕ) (marks : List Mark) → AreFacts n knowers marks → slice_get all n ≡ Some (taken s t r) → ComesToKnow image s t r knowers marks → HappensBefore image all first n
  comes_here n s t r knowers marks facts at comes =
      let refused = comes.refused in
      let m = facts.marked refused.0 refused.1 refused.2 in
      let last : HappensBefore image all m.place n = Handed m.place n (record {
        one = m.step;
        other = taken s t r;
        order = m.before;
        first = m.at;
        second = at;
        gives_back = m.gives_back;
        granted = comes.granted;
        node = refused.3.0;
        apart = λ goes. refused.3.1 (subst (λ h. AreCompatible (held h refused.1.thread refused.3.0) (asked (requested image (taken s t r) comes.granted) refused.3.0)) m.holding
            (subst (λ w. AreCompatible (held m.step.before.holding w refused.3.0) (asked (requested image (taken s t r) comes.granted) refused.3.0)) m.thread goes));
      }) in
      elim m.after [ inl is ↦ subst (λ k. HappensBefore image all k n) is last | inr before ↦ Through first m.place n before last ]

  facts_next : (n : ℕ) (s : State) (t : ℕ) (r : Reply) (new : State) (knowers : List ℕ) (marks : List Mark) → AreFacts n knowers marks → slice_get all n ≡ Some (taken s t r) → (ad : Advance image s t r new knowers marks) →
      AreFacts (suc n) ad.more ad.left
  facts_next n s t r new knowers marks facts at ad = record {
    ahead = λ u knows. elim (ad.joins u knows) [
      | inl old ↦ (let a = facts.ahead u old in record { place = a.place; before = still_less a.place n a.before; own = a.own; after = a.after })
      | inr comes ↦ record {
        place = n;
        before = more_by_one n;
        own = subst (λ w. IsStepOf w (λ step. Unit {0}) all n) (sym comes.0) (step_there all n (taken s t r) at);
        after = inr (comes_here n s t r knowers marks facts at comes.1);
      }
    ];
    marked = λ k mark is. elim (ad.marked k mark is) [
      | inl old ↦ (let m = facts.marked old.0 mark old.1 in record { place = m.place; step = m.step; before = still_less m.place n m.before; at = m.at; thread = m.thread; holding = m.holding; gives_back = m.gives_back; after = m.after })
      | inr more ↦ record {
        place = n;
        step = taken s t r;
        before = more_by_one n;
        at = at;
        thread = sym (ap (λ (m : Mark). m.thread) more.0);
        holding = sym (ap (λ (m : Mark). m.holding) more.0);
        gives_back = more.2;
        after = inr (knows_here n t knowers marks facts more.1 (step_there all n (taken s t r) at));
      }
    ];
  }

  -- ---- those who know, and marks, with what is told by them of a state

  pub record Follows (Tells : State → List ℕ → List Mark → Type 0) (n : ℕ) (s : State) : Type 0 where
    pub knowers : List ℕ
    pub marks : List Mark
    pub are : AreMarks s knowers marks
    pub tells : Tells s knowers marks
    pub facts : AreFacts n knowers marks

  -- what a step keeps of what is told
  abbrev pub Tellable : (State → List ℕ → List Mark → Type 0) → Type 0
  Tellable Tells =
      (s : State) (t : ℕ) (r : Reply) (new : State) (knowers : List ℕ) (marks : List Mark) → SatisfiesInvariant image s → AreApart image s → Step image s t r new → AreMarks s knowers marks →
      (ad : Advance image s t r new knowers marks) → Tells s knowers marks → Tells new ad.more ad.left

  pub follows_kept : (Tells : State → List ℕ → List Mark → Type 0) → Tellable Tells → IsKept image all (Follows Tells)
  follows_kept Tells keeps n s t r new at sound apart step f =
      let ad = advance image s t r new f.knowers f.marks sound step f.are in
      record { knowers = ad.more; marks = ad.left; are = ad.are; tells = keeps s t r new f.knowers f.marks sound apart step f.are ad f.tells; facts = facts_next n s t r new f.knowers f.marks f.facts at ad }

  -- after the first step its thread alone knows
  pub follows_first : (Tells : State → List ℕ → List Mark → Type 0) (one : TakenStep) (new : State) → slice_get all first ≡ Some one → Tells new (one.thread ∷ []) [] → Follows Tells (suc first) new
  follows_first Tells one new at tells = record {
    knowers = one.thread ∷ [];
    marks = [];
    are = record { rooted = λ k mark is. absurd cc; goes = λ u k mark away is node. absurd cc };
    tells = tells;
    facts = record {
      ahead = λ u knows. elim (knows_either one.thread [] u knows) [
        | inl own ↦ record { place = first; before = more_by_one first; own = subst (λ w. IsStepOf w (λ step. Unit {0}) all first) (sym own) (step_there all first one at); after = inl refl }
        | inr none ↦ absurd (let e : false ≡ true = none in cc)
      ];
      marked = λ k mark is. absurd cc;
    };
  }

  -- a step comes after the first where its thread knows after it
  pub follows_here : (Tells : State → List ℕ → List Mark → Type 0) (n : ℕ) (one : TakenStep) (p : Place image all (Follows Tells) n one) →
      (¬ Knows (advance image one.before one.thread one.reply p.new p.holds.knowers p.holds.marks p.sound p.step p.holds.are).more one.thread → ⊥) → HappensBefore image all first n
  follows_here Tells n one p never =
      let f = p.holds in
      let ad = advance image one.before one.thread one.reply p.new f.knowers f.marks p.sound p.step f.are in
      elim (tell_knows ad.more one.thread) [
        | inl knows ↦ elim (ad.joins one.thread knows) [
          | inl old ↦ knows_here n one.thread f.knowers f.marks f.facts old (step_there all n one p.at)
          | inr comes ↦ comes_here n one.before one.thread one.reply f.knowers f.marks f.facts p.at comes.1
        ]
        | inr away ↦ absurd (never away)
      ]
